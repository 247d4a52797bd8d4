use Rattle.std.proofs.Common.{◌≡◌, ℕ, ◌≤◌, ◌^◌, List, [], ◌∷◌, ◌++◌, All, length, map, take, get_or, arith, ap, sym, ◌∙◌, subst}
use Rattle.std.proofs.lemmas.List.{length-append, length-map, map_more, take_all}
use Rattle.std.proofs.lemmas.List.Elements.{All-from_get_or, All-get_or, All-push}
use Rattle.centred_steps.specs.Weights.{AreWeightsUpTo}
use Rattle.rate_sweeps.specs.Lengths.{greatest_number, length_at_price}
use Rattle.rate_sweeps.proofs.usage.lengths_of.Goals as goal

pub length_of-requires-clause-price : goal.length_of-requires-clause-price
length_of-requires-clause-price c = All-get_or (λ (x : ℕ). x ≤ 2 ^ 62) c.args.prices.now c.loop-price.price-index 0 c.loop-price-test.true c.requires.small

-- a weight more
weights_more : (limit : ℕ) (weights more : List ℕ) (w : ℕ) → AreWeightsUpTo limit weights → (1 ≤ w) × (w ≤ limit) → more ≡ weights ++ w ∷ [] → AreWeightsUpTo limit more
weights_more limit weights more w are next pushed = record {
  some = λ h below. All-get_or (λ (x : ℕ). 1 ≤ x) more h 0 below
      (subst (All (λ (x : ℕ). 1 ≤ x)) (sym pushed) (All-push (λ (x : ℕ). 1 ≤ x) weights w (All-from_get_or (λ (x : ℕ). 1 ≤ x) weights 0 are.some) next.0));
  small = λ h below. All-get_or (λ (x : ℕ). x ≤ limit) more h 0 below
      (subst (All (λ (x : ℕ). x ≤ limit)) (sym pushed) (All-push (λ (x : ℕ). x ≤ limit) weights w (All-from_get_or (λ (x : ℕ). x ≤ limit) weights 0 are.small) next.1));
}

pub loop-price-init : goal.loop-price-init
loop-price-init c =
    let none = c.in_ok-lengths.ensures.items in
    let zero = ap (λ (l : List ℕ). length l) none in (
      zero,
      record { some = λ h below. absurd (omega (arith, below, zero)); small = λ h below. absurd (omega (arith, below, zero)) },
      none,
    )

pub loop-price-preserved : goal.loop-price-preserved
loop-price-preserved c =
    let prices = c.args.prices.now in
    let i = c.loop-price.price-index in
    let before = c.loop-price.lengths.items in
    let next = c.length_of.result in
    let at = length_at_price (greatest_number prices) in
    let pushed = c.in_ok-push.ensures.items in
    let made : next ≡ at (get_or prices i 0) =
    c.length_of.ensures.length ∙ ap (λ m. length_at_price m (get_or prices i 0)) c.greatest_number-most.ensures.greatest
    in (
      omega (arith, ap (λ (l : List ℕ). length l) pushed, length-append before (next ∷ []), c.loop-price.invariant.0),
      weights_more (2 ^ 27) before c.push.new.self.items next c.loop-price.invariant.1 c.length_of.ensures.limits pushed,
      pushed
          ∙ (ap (λ (l : List ℕ). l ++ next ∷ []) c.loop-price.invariant.2
          ∙ (ap (λ (x : ℕ). map at (take i prices) ++ x ∷ []) made ∙ sym (map_more at prices i 0 c.loop-price-test.true))),
    )

pub returns-clause-exact : goal.returns-clause-exact
returns-clause-exact c =
    let prices = c.args.prices.now in
    let all = take_all c.loop-price.price-index prices (omega (arith, c.loop-price-test.false)) in
    c.loop-price.invariant.2 ∙ ap (map (length_at_price (greatest_number prices))) all

pub returns-clause-count : goal.returns-clause-count
returns-clause-count c =
    let prices = c.args.prices.now in
    ap (λ (l : List ℕ). length l) (returns-clause-exact c) ∙ length-map prices (length_at_price (greatest_number prices))

pub returns-clause-lengths : goal.returns-clause-lengths
returns-clause-lengths c = c.loop-price.invariant.1
