use Rattle.std.proofs.Common.{◌≡◌, ◌∙◌, true, false, Option, Some, None, length, refl, sym, ap}
use Rattle.std.specs.Option.{is_some}
use Rattle.te_model.specs.Counting.{or_else, unless}
use Rattle.te_model.specs.Inequalities.{failure_at, keeps_bounds, pays_weights}
use Rattle.ratio_checker.proofs.finding.block_failure.Goals as goal

-- an answer that is there is the first one
first_is : {A : Type 0} (found answer rest : Option A) → found ≡ answer → true ≡ is_some found → found ≡ or_else answer rest
first_is (Some x) answer rest same some = rw (sym same) refl
first_is None answer rest same some = absurd cc

-- and none leaves the rest
rest_is : {A : Type 0} (found answer rest : Option A) → found ≡ answer → false ≡ is_some found → or_else answer rest ≡ rest
rest_is (Some x) answer rest same none = absurd cc
rest_is None answer rest same none = rw (sym same) refl

pub returns-then-is_some : goal.returns-then-is_some
returns-then-is_some c = first_is c.potentials_failure-failure.result _ _ c.potentials_failure-failure.ensures c.if-is_some.ensures

pub returns-then-is_some-2 : goal.returns-then-is_some-2
returns-then-is_some-2 c =
    first_is c.args.shares _ _ c.requires.shares c.if-is_some-2.ensures
    ∙ sym (rest_is c.potentials_failure-failure.result _ _ c.potentials_failure-failure.ensures c.if-is_some.ensures)

pub returns : goal.returns
returns c =
    let head = c.args.head.now in
    let block = c.args.block.now in
    let keeps : keeps_bounds head.set (length head.routes) block ≡ true =
    ap (λ n. keeps_bounds head.set n block) (sym (ap length c.as_slice.ensures)) ∙ sym c.keeps_bounds.ensures ∙ c.if-not-keeps_bounds.false in
    let pays : pays_weights head.network block head.ratio ≡ true = sym c.pays_weights.ensures ∙ c.if-not-pays_weights.false in
    sym (rest_is c.potentials_failure-failure.result _ _ c.potentials_failure-failure.ensures c.if-is_some.ensures
    ∙ rest_is c.args.shares _ _ c.requires.shares c.if-is_some-2.ensures
    ∙ ap (λ b. or_else (unless b (failure_at 3 0)) (or_else (unless (pays_weights head.network block head.ratio) (failure_at 4 0)) None)) keeps
    ∙ ap (λ b. or_else (unless b (failure_at 4 0)) None) pays)
