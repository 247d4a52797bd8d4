use Rattle.std.proofs.Common.{◌≡◌, ◌∙◌, ◌<◌, ◌≤◌, ℕ, List, replicate, length, slice_index, sum, arith, ap, sym, subst}
use Rattle.std.proofs.lemmas.List.{get_or-replicate, length-replicate}
use Rattle.te_model.specs.declared.units.TheConstants.{SHARE_UNIT}
use Rattle.te_model.specs.Apportion.{apportion}
use Rattle.valiant_mix.proofs.EvenShares.{sum_of_ones}
use Rattle.valiant_mix.proofs.even.even_parts.Goals as goal

pub apportion-requires-clause-count : goal.apportion-requires-clause-count
apportion-requires-clause-count c =
    let are : c.deref.result.now ≡ replicate c.args.count 1 = c.deref.ensures.value ∙ c.in_ok-ones.ensures.items_if_clones_equal (λ y same. same) in
    omega (arith, ap (λ (l : List ℕ). length l) are, length-replicate {A = ℕ} c.args.count 1, c.requires.few)

pub apportion-requires-clause-each : goal.apportion-requires-clause-each
apportion-requires-clause-each c =
    let are : c.deref.result.now ≡ replicate c.args.count 1 = c.deref.ensures.value ∙ c.in_ok-ones.ensures.items_if_clones_equal (λ y same. same) in
    let ones = length-replicate {A = ℕ} c.args.count 1 in
    subst (λ (ws : List ℕ). (i : ℕ) → i < length ws → slice_index ws i ≤ 4294967296) (sym are)
    (λ i below. omega (arith, get_or-replicate {A = ℕ} c.args.count i 1 0 (omega (arith, below, ones))))

pub apportion-requires-clause-whole : goal.apportion-requires-clause-whole
apportion-requires-clause-whole c =
    let are : c.deref.result.now ≡ replicate c.args.count 1 = c.deref.ensures.value ∙ c.in_ok-ones.ensures.items_if_clones_equal (λ y same. same) in
    omega (arith, ap sum are, sum_of_ones c.args.count, c.requires.some)

pub returns : goal.returns
returns c =
    let are : c.deref.result.now ≡ replicate c.args.count 1 = c.deref.ensures.value ∙ c.in_ok-ones.ensures.items_if_clones_equal (λ y same. same) in
    c.in_ok-parts.ensures.parts ∙ ap (apportion SHARE_UNIT) are
