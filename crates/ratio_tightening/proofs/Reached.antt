-- Two lists of blocks with the same links at the same places.
use Rattle.std.proofs.Common.{◌≡◌, ◌∙◌, ◌⊎◌, ℕ, suc, ◌<◌, Bool, true, false, List, [], ◌∷◌, length, ◌||◌, ◌==◌, ap, arith, inl, inr, refl}
use Rattle.std.specs.List.{list_any}
use Rattle.te_model.specs.declared.certificate.Block.{Block}
use Rattle.te_model.specs.Certificate.{block_of, empty_block}
use Rattle.te_model.specs.Validity.{block_at}

-- the same links
abbrev pub HaveSameLinks : List Block → List Block → Type 0
HaveSameLinks old new = (k : ℕ) → k < length old → (block_at new k).link ≡ (block_at old k).link

-- both blocks of a link stand at one place, or there is none
abbrev pub StandTogether : List Block → List Block → ℕ → Type 0
StandTogether old new e =
    ((k : ℕ) × (k < length old) × (block_of old e ≡ block_at old k) × (block_of new e ≡ block_at new k))
    ⊎ ((block_of old e ≡ empty_block e) × (block_of new e ≡ empty_block e))

pub both_at : (old new : List Block) → length new ≡ length old → HaveSameLinks old new → (e : ℕ) → StandTogether old new e
both_at [] [] count links e = inr (refl, refl)
both_at [] (y ∷ ys) count links e = absurd (omega (arith, count))
both_at (x ∷ xs) [] count links e = absurd (omega (arith, count))
both_at (x ∷ xs) (y ∷ ys) count links e =
    at (x.link == e) refl (links 0 (omega arith)) (both_at xs ys (omega (arith, count)) (λ k below. links (suc k) (omega (arith, below))) e)
  where
    at : (here : Bool) → (x.link == e) ≡ here → y.link ≡ x.link → StandTogether xs ys e → StandTogether (x ∷ xs) (y ∷ ys) e
    at true is same later =
        let also : (y.link == e) ≡ true = ap (λ l. l == e) same ∙ is in
        inl (0, omega arith, rw is refl, rw also refl)
    at false is same (inl (k, below, one, two)) =
        let also : (y.link == e) ≡ false = ap (λ l. l == e) same ∙ is in
        inl (suc k, omega (arith, below), rw is one, rw also two)
    at false is same (inr (one, two)) =
        let also : (y.link == e) ≡ false = ap (λ l. l == e) same ∙ is in
        inr (rw is one, rw also two)

pub any_same : (old new : List Block) → length new ≡ length old → HaveSameLinks old new → (e : ℕ) →
    list_any (λ (b : Block). b.link == e) new ≡ list_any (λ (b : Block). b.link == e) old
any_same [] [] count links e = refl
any_same [] (y ∷ ys) count links e = absurd (omega (arith, count))
any_same (x ∷ xs) [] count links e = absurd (omega (arith, count))
any_same (x ∷ xs) (y ∷ ys) count links e =
    let rest = any_same xs ys (omega (arith, count)) (λ k below. links (suc k) (omega (arith, below))) e in
    ap (λ l. l == e || list_any (λ (b : Block). b.link == e) ys) (links 0 (omega arith)) ∙ ap (λ t. x.link == e || t) rest
