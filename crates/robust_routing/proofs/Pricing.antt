-- The prices of the links for a pair that move one after another.
use Rattle.std.proofs.Common.{◌≡◌, ◌⊎◌, inl, inr, ℕ, ◌+◌, ◌*◌, ◌-◌, ◌^◌, ◌<◌, ◌≤◌, List, [], ◌∷◌, ◌++◌, length, set, get_or, min, arith, ap, refl, sym, ◌∙◌}
use Rattle.std.proofs.lemmas.Bool.{cases_lt}
use Rattle.std.proofs.lemmas.List.{get_or-set_same, get_or-set_other, length-set}
use Rattle.te_model.proofs.Choices.{pushed_count, pushed_each}
use Rattle.robust_routing.specs.declared.sweep.Sweep.{Sweep}
use Rattle.robust_routing.specs.declared.tables.Tables.{Tables}
use Rattle.robust_routing.specs.Prices.{AreByPrices, ArePricesMoved, greatest_quotient, next_price}
use Rattle.robust_routing.specs.Sweep.{nearness, price_after}
use Rattle.robust_routing.specs.Tables.{NumberTable, number_in, place_in, with_number}

pub by_prices_none : (s : Sweep) (t : Tables) (links p : ℕ) → AreByPrices s t links p 0 []
by_prices_none s t links p = record { count = refl; each = λ h below. absurd (omega arith) }

pub by_prices_more : (s : Sweep) (t : Tables) (links p n : ℕ) (lengths : List ℕ) (price : ℕ) → AreByPrices s t links p n lengths →
    price ≡ next_price s t n p (greatest_quotient t.quotients links p) → AreByPrices s t links p (n + 1) (lengths ++ (price + 1) ∷ [])
by_prices_more s t links p n lengths price are is = record {
  count = pushed_count lengths (price + 1) n are.count;
  each = pushed_each (λ h (l : ℕ). l ≡ next_price s t h p (greatest_quotient t.quotients links p) + 1) lengths (price + 1) 0 n are.count are.each (ap (λ k. k + 1) is);
}

pub prices_none : (s : Sweep) (links p : ℕ) (t : Tables) → ArePricesMoved s links p 0 t t
prices_none s links p t = record {
  shares = refl;
  quotients = refl;
  width = refl;
  count = refl;
  moved = λ h below inside. absurd (omega arith);
  others = λ k apart. refl;
}

-- the price of a link that has not moved follows from the tables before
pub same_price : (s : Sweep) (links p n greatest : ℕ) (old now : Tables) → ArePricesMoved s links p n old now →
    next_price s now n p greatest ≡ next_price s old n p greatest
same_price s links p n greatest old now are =
    let place : place_in now.prices p n ≡ place_in old.prices p n = ap (λ (w : ℕ). p * w + n) are.width in
    let price : number_in now.prices p n ≡ number_in old.prices p n =
    ap (λ k. get_or now.prices.numbers k 0) place ∙ are.others (place_in old.prices p n) (inr (omega arith))
    in
    let by : ℕ → NumberTable → NumberTable → ℕ =
    λ price quotients shares.
    price_after s price (nearness s greatest (number_in quotients n p)) (number_in quotients n p) (number_in shares n p)
    in
    ap (λ (k : ℕ). by k now.quotients now.shares) price
    ∙ (ap (λ (t : NumberTable). by (number_in old.prices p n) t now.shares) are.quotients
    ∙ ap (λ (t : NumberTable). by (number_in old.prices p n) old.quotients t) are.shares)

-- the price of one link more
pub prices_moved : (s : Sweep) (links p n : ℕ) (old now : Tables) (prices : NumberTable) (price : ℕ) → ArePricesMoved s links p n old now →
    price ≡ next_price s old n p (greatest_quotient old.quotients links p) → price < 2 ^ 28 → prices ≡ with_number now.prices p n price →
    ArePricesMoved s links p (n + 1) old (record now { prices = prices })
prices_moved s links p n old now prices price are is small written = record {
  shares = are.shares;
  quotients = are.quotients;
  width = width;
  count = count;
  moved = moved;
  others = others;
}
  where
    place : ℕ
    place = place_in old.prices p n

    at : place_in now.prices p n ≡ place
    at = ap (λ (w : ℕ). p * w + n) are.width

    numbers : prices.numbers ≡ set now.prices.numbers place price
    numbers =
        ap (λ (t : NumberTable). t.numbers) written
        ∙ (ap (λ (k : ℕ). set now.prices.numbers k (min price (2 ^ 32 - 1))) at
        ∙ ap (λ (x : ℕ). set now.prices.numbers place x) (omega (arith, small)))

    width : prices.width ≡ old.prices.width
    width = ap (λ (t : NumberTable). t.width) written ∙ are.width

    count : length prices.numbers ≡ length old.prices.numbers
    count = ap (λ (l : List ℕ). length l) numbers ∙ (length-set now.prices.numbers place price ∙ are.count)

    -- elsewhere the table stays
    stays : (k : ℕ) → (k ≡ place → ⊥) → get_or prices.numbers k 0 ≡ get_or now.prices.numbers k 0
    stays k ne = ap (λ (l : List ℕ). get_or l k 0) numbers ∙ get_or-set_other now.prices.numbers place k price 0 ne

    moved : (h : ℕ) → h < n + 1 → place_in old.prices p h < length old.prices.numbers →
        number_in prices p h ≡ next_price s old h p (greatest_quotient old.quotients links p)
    moved h below inside = elim (cases_lt h n) [
      | inl lt ↦
          ap (λ (w : ℕ). get_or prices.numbers (p * w + h) 0) width
          ∙ (stays (place_in old.prices p h) (λ e. absurd (omega (arith, e, lt)))
          ∙ (ap (λ (w : ℕ). get_or now.prices.numbers (p * w + h) 0) (sym are.width) ∙ are.moved h lt inside))
      | inr ge ↦
          let e : h ≡ n = omega (arith, below, ge) in
          let here : place_in old.prices p h ≡ place = ap (λ (k : ℕ). p * old.prices.width + k) e in
          ap (λ (w : ℕ). get_or prices.numbers (p * w + h) 0) width
          ∙ (ap (λ (k : ℕ). get_or prices.numbers k 0) here
          ∙ (ap (λ (l : List ℕ). get_or l place 0) numbers
          ∙ (get_or-set_same now.prices.numbers place price 0 (omega (arith, inside, here, are.count))
          ∙ (is ∙ ap (λ (k : ℕ). next_price s old k p (greatest_quotient old.quotients links p)) (sym e)))))
    ]

    others : (k : ℕ) → (k < place_in old.prices p 0) ⊎ (place_in old.prices p (n + 1) ≤ k) → get_or prices.numbers k 0 ≡ get_or old.prices.numbers k 0
    others k (inl before) = stays k (λ e. absurd (omega (arith, e, before))) ∙ are.others k (inl before)
    others k (inr after) = stays k (λ e. absurd (omega (arith, e, after))) ∙ are.others k (inr (omega (arith, after)))
