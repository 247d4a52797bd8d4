use Rattle.std.proofs.Common.{◌≡◌, Ok, Err, refl, subst, arith}
use Rattle.std.proofs.lemmas.Result.{err_from_is_err_and}
use Rattle.te_ports.specs.Record.{pass}
use Rattle.cert_text.specs.Fits.{FitsPair}
use Rattle.cert_text.specs.Reading.{narrow_number, read_many}
use Rattle.cert_text.specs.Grammar.{read_pair}
use Rattle.cert_text.proofs.Loop.{listed_more, listed_all}
use Rattle.block_reader.specs.Answers.{Gives}
use Rattle.block_reader.specs.declared.stream_fault.StreamFault.TheVariants.{Memory}
use Rattle.block_reader.proofs.Answering.{behind_begun, many_gives, many_stop, none_gives}
use Rattle.block_reader.proofs.PartLaws.{pair_part}
use Rattle.block_reader.proofs.Reading.{reads_then, reads_as, reads_err, reads_start, reads_short}
use Rattle.block_reader.proofs.opening.pairs.Goals as goal

pub loop-preserved : goal.loop-preserved
loop-preserved g c =
    let so_far = c.loop.invariant in (
      rw c.in_ok-push.ensures.items (listed_more (FitsPair c.args.limits.now) c.loop.items.items c.in_ok-item.item c.loop.counter so_far.0 c.in_ok-item.ensures.fits),
      c.in_ok-item.ensures.well,
      rw c.in_ok-push.ensures.items
          (λ before. many_gives _ _ _ _ _ _ (read_pair c.args.limits.now narrow_number) c.loop.counter c.loop.items.items c.in_ok-item.item (so_far.2 before) (c.in_ok-item.ensures.answers before)),
      reads_then _ _ _ _ tt (Ok tt) so_far.3 (reads_as _ _ _ c.in_ok-item.item tt c.in_ok-item.ensures.reads),
    )

pub returns-in_err-item-clause-answers : goal.returns-in_err-item-clause-answers
returns-in_err-item-clause-answers g c =
    let p = err_from_is_err_and c.from_residual-in_err-item.result c.from_residual-in_err-item.ensures.1 in
    rw (p.1, p.2) (λ before. many_stop _ _ _ _ _ (read_pair c.args.limits.now narrow_number) c.loop.counter c.args.count c.loop.items.items c.in_err-item.field-0.0 c.loop-test.true (c.loop.invariant.2 before) (c.in_err-item.ensures.answers before))

pub returns-in_err-item-clause-reads : goal.returns-in_err-item-clause-reads
returns-in_err-item-clause-reads g c =
    let p = err_from_is_err_and c.from_residual-in_err-item.result c.from_residual-in_err-item.ensures.1 in
    rw (p.1, p.2) (reads_then _ _ _ _ tt (Err c.in_err-item.field-0.0) c.loop.invariant.3 (reads_err _ _ _ c.in_err-item.field-0.0 c.in_err-item.ensures.reads))

pub returns-clause-fits : goal.returns-clause-fits
returns-clause-fits g c = rw c.new.ensures (listed_all (FitsPair c.args.limits.now) c.loop.items.items c.loop.counter c.args.count c.loop.invariant.0 (omega arith))

pub read_part-requires-clause-part : goal.read_part-requires-clause-part
read_part-requires-clause-part g c = pair_part c.args.limits.now c.requires.limits

pub loop-init : goal.loop-init
loop-init g c = (
  rw c.in_ok-items.ensures.items (record { count = refl; each = tt }),
  c.requires.well,
  rw c.in_ok-items.ensures.items (λ before. none_gives (pass c.args.name.now before (g.D.Depot.gave c.args.depot.now)) c.args.lines.now (read_pair c.args.limits.now narrow_number)),
  reads_start _ c.args.name.now,
)

pub returns-clause-answers : goal.returns-clause-answers
returns-clause-answers g c =
    let gave = g.D.Depot.gave in
    let name = c.args.name.now in
    let all : c.loop.counter ≡ c.args.count = omega (arith, c.loop-test.false) in
    rw c.new.ensures
    (λ before. subst (λ n. Gives (pass name before (gave c.args.depot.now)) (pass name before (gave c.loop.depot)) c.args.lines.now c.loop.lines (read_many n (read_pair c.args.limits.now narrow_number)) c.loop.items.items) all
    (c.loop.invariant.2 before))

pub returns-in_err-push-clause-reads : goal.returns-in_err-push-clause-reads
returns-in_err-push-clause-reads g c =
    let p = err_from_is_err_and c.from_residual-in_err-push.result c.from_residual-in_err-push.ensures.1 in
    rw (p.1, p.2)
    (reads_then _ _ _ _ tt (Err Memory) c.loop.invariant.3
    (reads_then _ _ _ _ c.in_ok-item.item (Err Memory) c.in_ok-item.ensures.reads (reads_short _ c.args.name.now Memory refl)))

pub returns-in_err-push-clause-answers : goal.returns-in_err-push-clause-answers
returns-in_err-push-clause-answers g c = λ before.
    let p = err_from_is_err_and c.from_residual-in_err-push.result c.from_residual-in_err-push.ensures.1 in
    rw (p.1, p.2) (λ passed b.
    let one = c.loop.invariant.2 before passed b in
    behind_begun _ c.read_part.new.lines _ ((c.in_ok-item.ensures.answers before _ one.1).1))
