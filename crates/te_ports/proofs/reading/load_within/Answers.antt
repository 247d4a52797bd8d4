use Rattle.std.proofs.Common.{◌≤◌, ◌∙◌, ap, refl, sym, subst, arith, length, length-append, length-take}
use Rattle.te_ports.specs.Record.{nothing, more}
use Rattle.te_ports.proofs.Giving.{adds_none, adds_then, begun_on, given_end, nothing_more, read_is, past_allowed, allowed_rises}
use Rattle.te_ports.proofs.reading.load_within.Goals as goal

pub chunks-init : goal.chunks-init
chunks-init g c = (
  refl,
  refl,
  adds_none _ _ _ refl,
  nothing _ _ refl c.new-bytes.ensures.items,
  c.allowed-allowed.ensures ∙ ap (g.L.Limit.allowed c.args.limit.now) c.deref.ensures.value,
  omega (arith, ap length c.new-bytes.ensures.items),
)

pub returns-then-count-eq0-clause-read : goal.returns-then-count-eq0-clause-read
returns-then-count-eq0-clause-read g c =
    let piece = c.in_ok-count.ensures.piece in
    given_end _ _ piece.0 _ _ _ _ c.chunks.invariant.3 piece.1 piece.2 (piece.3 ∙ c.if-count-eq0.true)

pub returns-then-count-eq0-clause-told : goal.returns-then-count-eq0-clause-told
returns-then-count-eq0-clause-told g c = λ told is.
    let piece = c.in_ok-count.ensures.piece in
    read_is (g.D.Depot.content c.args.depot.now) _ told _ is
    (adds_then _ _ _ _ _ c.chunks.invariant.0 c.chunks.invariant.2 c.in_ok-count.ensures.added)
    (given_end _ _ piece.0 _ _ _ _ c.chunks.invariant.3 piece.1 piece.2 (piece.3 ∙ c.if-count-eq0.true))

pub returns-then-count-eq0-clause-within : goal.returns-then-count-eq0-clause-within
returns-then-count-eq0-clause-within g c =
    let piece = c.in_ok-count.ensures.piece in
    let same = nothing_more c.chunks.bytes.items piece.0 c.append_piece.new.bytes.items piece.2 (piece.3 ∙ c.if-count-eq0.true) in
    subst (λ bytes. length bytes ≤ g.L.Limit.allowed c.args.limit.now bytes) (sym same) (omega (arith, c.chunks.invariant.4))

pub chunks-preserved : goal.chunks-preserved
chunks-preserved g c =
    let piece = c.in_ok-count.ensures.piece in
    let now = c.allowed-allowed-in-chunks.ensures ∙ ap (g.L.Limit.allowed c.args.limit.now) c.deref-in-chunks.ensures.value in
    let rises = allowed_rises (g.L.Limit.allowed c.args.limit.now) c.requires c.chunks.bytes.items piece.0 c.append_piece.new.bytes.items piece.2 in (
      c.in_ok-count.ensures.content ∙ c.chunks.invariant.0,
      c.in_ok-count.ensures.steady (λ e. cc e) ∙ c.chunks.invariant.1,
      adds_then _ _ _ _ _ c.chunks.invariant.0 c.chunks.invariant.2 c.in_ok-count.ensures.added,
      more _ _ _ _ piece.0 c.chunks.invariant.3 (omega (arith, piece.3, c.if-count-eq0.false)) piece.1 piece.2,
      now,
      omega (
        arith,
        rises,
        now,
        c.chunks.invariant.4,
        c.in_ok-count.ensures.few,
        length-take c.min-want.result c.chunks.chunk,
        ap length piece.2,
        length-append c.chunks.bytes.items piece.0,
        piece.3,
      ),
    )

pub returns-clause-too_long : goal.returns-clause-too_long
returns-clause-too_long g c = λ _ told is.
    past_allowed (g.D.Depot.content c.args.depot.now) _ told _ c.requires is c.chunks.invariant.2
    (record { bytes = c.chunks.bytes.items; given = c.chunks.invariant.3; past = omega arith })

pub returns-in_err-count-clause-added : goal.returns-in_err-count-clause-added
returns-in_err-count-clause-added g c = adds_then _ _ _ _ _ c.chunks.invariant.0 c.chunks.invariant.2 c.in_err-count.ensures.added

pub returns-then-count-eq0-clause-added : goal.returns-then-count-eq0-clause-added
returns-then-count-eq0-clause-added g c = adds_then _ _ _ _ _ c.chunks.invariant.0 c.chunks.invariant.2 c.in_ok-count.ensures.added

pub returns-in_err-count-clause-begun : goal.returns-in_err-count-clause-begun
returns-in_err-count-clause-begun g c = begun_on _ _ _ _ _ c.chunks.invariant.3 c.in_err-count.ensures.at_most_once

pub returns-then-count-eq0-clause-begun : goal.returns-then-count-eq0-clause-begun
returns-then-count-eq0-clause-begun g c = begun_on _ _ _ _ _ c.chunks.invariant.3 c.in_ok-count.ensures.at_most_once
