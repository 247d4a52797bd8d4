-- Lengths that are written one after another, and the greatest share by length so far.
use Rattle.std.proofs.Common.{◌≡◌, ℕ, ◌+◌, ◌*◌, ◌<◌, ◌≤◌, List, length, set, slice_index, arith, sym, subst, ◌∙◌, inl, inr}
use Rattle.std.proofs.lemmas.Bool.{cases_eq, cases_lt}
use Rattle.std.proofs.lemmas.List.{get_or-set_same, get_or-set_other}
use Rattle.best_blocks.proofs.Quotients.{IsBestSoFar, best_kept, best_taken}
use Rattle.kept_ways.specs.declared.ways.KeptWay.{KeptWay}
use Rattle.kept_ways.specs.KeptWays.{length_by, way_at, AreLengths}

-- the length of the next way
pub measured_more : (weights : List ℕ) (ways : List KeptWay) (lengths : List ℕ) (i x : ℕ) → i < length lengths → x ≡ length_by weights (way_at ways i).links →
    ((k : ℕ) → k < i → slice_index lengths k ≡ length_by weights (way_at ways k).links) →
    (k : ℕ) → k < i + 1 → slice_index (set lengths i x) k ≡ length_by weights (way_at ways k).links
measured_more weights ways lengths i x inside is so_far k below = elim (cases_eq k i) [
  | inl same ↦
      subst (λ j. slice_index (set lengths i x) j ≡ length_by weights (way_at ways j).links) (sym same) (get_or-set_same lengths i x 0 inside ∙ is)
  | inr other ↦ get_or-set_other lengths i k x 0 other ∙ so_far k (omega (arith, below, other))
]

-- the greater of the greatest quotient so far and the next one
pub quotient_more : (ways : List KeptWay) (lengths : List ℕ) (i p a b s x y : ℕ) → AreLengths ways lengths → i < length ways →
    IsBestSoFar i (λ k. (way_at ways k).share) (slice_index lengths) p a b → s ≡ (way_at ways i).share →
    (a * slice_index lengths i < s * b → (x ≡ s) × (y ≡ slice_index lengths i)) → (s * b ≤ a * slice_index lengths i → (x ≡ a) × (y ≡ b)) →
    (q : ℕ) × IsBestSoFar (i + 1) (λ k. (way_at ways k).share) (slice_index lengths) q x y
quotient_more ways lengths i p a b s x y are inside so_far is takes keeps =
    let shares : ℕ → ℕ = λ k. (way_at ways k).share in
    let far = slice_index lengths in
    elim (cases_lt (a * far i) (s * b)) [
      | inl more ↦
          let taken = best_taken i shares far p a b so_far (λ q below some. are.some q (omega (arith, below, inside)))
          (subst (λ t. a * far i < t * b) is more)
          in
          (i, subst (λ t. IsBestSoFar (i + 1) shares far i t y) (sym ((takes more).0 ∙ is)) (subst (λ t. IsBestSoFar (i + 1) shares far i (shares i) t) (sym (takes more).1) taken))
      | inr less ↦
          let kept = best_kept i shares far p a b so_far (subst (λ t. t * b ≤ a * far i) is less) in
          (p, subst (λ t. IsBestSoFar (i + 1) shares far p t y) (sym (keeps less).0) (subst (λ t. IsBestSoFar (i + 1) shares far p a t) (sym (keeps less).1) kept))
    ]
