use Rattle.std.proofs.Common.{[], ◌∷◌, ◌++◌, ap, refl, Ok, Bool}
use Rattle.std.proofs.lemmas.Result.{err_from_is_err_and}
use Rattle.te_ports.specs.Shown.{shown_by}
use Rattle.te_model.specs.declared.certificate.Head.{Head}
use Rattle.block_reader.specs.Blocks.{lent_block}
use Rattle.command_files.proofs.Streaming.{after_more, after_on, after_stops, after_whole}
use Rattle.command_files.proofs.certificates.read_head.Goals as goal

pub rest-preserved : goal.rest-preserved
rest-preserved g c =
    let next = c.in_ok-next.ensures in
    let at = c.rest.invariant in (
      at.0 ++ lent_block c.next.new.self ∷ [],
      after_more _ _ _ _ c.rest.reader c.next.new.self _ at.0 at.1 (next.handed (ap Ok c.if-branch.true)) next.name (next.steady (λ e. cc))
          (record { added = next.added; later = next.later; content = next.content }),
    )

pub returns-clause-whole : goal.returns-clause-whole
returns-clause-whole g c =
    let seen = shown_by g.D.Depot.content g.D.Depot.gave g.D.Depot.faults in
    let at = c.rest.invariant in
    (at.0, after_whole _ _ (seen c.rest.depot) (seen c.next.new.depot) _ _ at.0 at.1 (c.in_ok-next.ensures.whole (ap Ok c.if-branch.false)))

pub returns-clause-reads : goal.returns-clause-reads
returns-clause-reads g c =
    let next = c.in_ok-next.ensures in
    let at = c.rest.invariant in
    after_on _ _ _ _ _ _ _ at.0 at.1 (next.steady (λ e. cc)) (record { added = next.added; later = next.later; content = next.content })

pub returns-in_err-next-clause-reads : goal.returns-in_err-next-clause-reads
returns-in_err-next-clause-reads g c =
    let p = err_from_is_err_and c.from_residual-in_err-next.result c.from_residual-in_err-next.ensures.1 in
    let seen = shown_by g.D.Depot.content g.D.Depot.gave g.D.Depot.faults in
    let next = c.in_err-next.ensures in
    let at = c.rest.invariant in
    let f = c.in_err-next.field-0.0 in
    rw (p.1, p.2)
    (after_stops {A = Bool} {B = Head} _ _ (seen c.rest.depot) (seen c.next.new.depot) c.rest.reader _ at.0 f at.1 (next.refused f refl) next.failed next.steady
    (record { added = next.added; later = next.later; content = next.content }))
