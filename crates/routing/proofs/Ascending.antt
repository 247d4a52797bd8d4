-- Paths that strictly ascend, place by place.
use Rattle.std.proofs.Common.{◌≡◌, ℕ, zero, suc, ◌<◌, true, List, [], ◌∷◌, length, arith, refl}
use Rattle.std.proofs.lemmas.Bool.{and_from, and_parts}
use Rattle.te_model.specs.declared.route.PathShare.{PathShare}
use Rattle.te_model.specs.Validity.{list_below, paths_ascend}
use Rattle.routing.specs.Merge.{links_at}

pub ascending_at : (xs : List PathShare) (k : ℕ) → paths_ascend xs ≡ true → suc k < length xs →
    list_below (links_at xs k) (links_at xs (suc k)) ≡ true
ascending_at [] k asc below = absurd (omega arith)
ascending_at (p ∷ []) k asc below = absurd (omega arith)
ascending_at (p ∷ q ∷ ps) zero asc below = (and_parts (list_below p.links q.links) (paths_ascend (q ∷ ps)) asc).0
ascending_at (p ∷ q ∷ ps) (suc k) asc below =
    ascending_at (q ∷ ps) k (and_parts (list_below p.links q.links) (paths_ascend (q ∷ ps)) asc).1 (omega arith)

pub ascending_from : (xs : List PathShare) → ((k : ℕ) → suc k < length xs → list_below (links_at xs k) (links_at xs (suc k)) ≡ true) →
    paths_ascend xs ≡ true
ascending_from [] all = refl
ascending_from (p ∷ []) all = refl
ascending_from (p ∷ q ∷ ps) all =
    and_from (list_below p.links q.links) (paths_ascend (q ∷ ps)) (all 0 (omega arith))
    (ascending_from (q ∷ ps) (λ k below. all (suc k) (omega arith)))
