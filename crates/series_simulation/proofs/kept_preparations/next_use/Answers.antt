use Rattle.std.proofs.Common.{◌≡◌, ◌∙◌, ◌<◌, [], Bool, List, true, length, get_or, ap, sym, arith}
use Rattle.std.specs.Bool.{beq}
use Rattle.std.specs.Cmp.Lexicographic.{pointwise}
use Rattle.std.proofs.lemmas.List.{get_or_read}
use Rattle.std.proofs.lemmas.List.Sums.{position_or_len_is}
use Rattle.series_simulation.proofs.kept_preparations.next_use.Goals as goal

pub returns-then-eq : goal.returns-then-eq
returns-then-eq c =
    let later = c.args.later.now in
    let place = c.loop-place.place in
    let failed = c.args.failed.now in
    let read : c.as_slice.result.now ≡ get_or later place [] =
    c.as_slice.ensures ∙ get_or_read later place c.index-later-place.result c.loop-place-test.true c.index-later-place.is [] in
    let same : pointwise beq (get_or later place []) failed ≡ true =
    ap (λ (marks : List Bool). pointwise beq marks failed) (sym read) ∙ sym c.eq.ensures ∙ c.if-eq.true in
    sym (position_or_len_is (λ marks. pointwise beq marks failed) later place [] (omega (arith, c.loop-place-test.true)) c.loop-place.invariant (λ inside. same))

pub returns : goal.returns
returns c =
    let later = c.args.later.now in
    let failed = c.args.failed.now in
    let place = c.loop-place.place in
    let every : place ≡ length later = omega (arith, c.loop-place-test.false, c.loop-place.auto.place-end) in
    sym (position_or_len_is (λ marks. pointwise beq marks failed) later (length later) [] (omega arith)
    (λ k below. c.loop-place.invariant k (omega (arith, below, every))) (λ inside. absurd (omega (arith, inside))))
