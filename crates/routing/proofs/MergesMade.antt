-- Every list of weighted paths has a merge, and every list of paths an even mix.
use Rattle.std.proofs.Common.{◌⊎◌, inl, inr, ◌≡◌, ℕ, zero, suc, ◌+◌, ◌<◌, ◌≤◌, Bool, true, false, List, [], ◌∷◌, ◌++◌, length, get_or, arith, refl, sym, subst, append_assoc, append-nil, All}
use Rattle.std.specs.Prelude.{IsTrue, insert}
use Rattle.std.proofs.Math.ListN.{set}
use Rattle.std.proofs.lemmas.Bool.{cases_lt}
use Rattle.te_model.specs.declared.network.Network.{Network}
use Rattle.te_model.specs.declared.route.Pair.{Pair}
use Rattle.te_model.specs.declared.route.PathShare.{PathShare}
use Rattle.te_model.specs.Path.{is_path}
use Rattle.te_model.specs.PathRouting.{IsPathSplit}
use Rattle.te_model.specs.Validity.{list_below, paths_ascend}
use Rattle.te_model.proofs.ListOrder.{list_below-cases, list_below-irrefl}
use Rattle.routing.specs.Even.{of_weight_one, IsEvenMix}
use Rattle.routing.specs.Merge.{no_path, links_at, IsAdded, IsMerge}
use Rattle.routing.specs.Normal.{with_whole_weight}
use Rattle.routing.proofs.Adding.{IsPlace, added_new, added_to, merge_more}
use Rattle.routing.proofs.EvenSplits.{even_few, even_split}

-- the place of the links among the first n paths
place_from : (xs : List PathShare) (links : List ℕ) (n : ℕ) → n ≤ length xs → (n < length xs → list_below (links_at xs n) links ≡ false) →
    (i : ℕ) × IsPlace xs links i
place_from xs links zero within after = (0, record { within = within; before = λ k e. absurd (omega (arith, e)); after = after })
place_from xs links (suc n) within after =
    go (list_below (links_at xs n) links) refl (λ later. place_from xs links n (omega arith) (λ below. later))
  where
    go : (b : Bool) → list_below (links_at xs n) links ≡ b → (list_below (links_at xs n) links ≡ false → (i : ℕ) × IsPlace xs links i) →
        (i : ℕ) × IsPlace xs links i
    go true is on = (
      suc n,
      record {
        within = within;
        before = λ k e. let same : n ≡ k = omega (arith, e) in subst (λ i. list_below (links_at xs i) links ≡ true) same is;
        after = after;
      },
    )
    go false is on = on is

-- ascending paths and one part more
added_exists : (xs : List PathShare) (y : PathShare) → paths_ascend xs ≡ true → (new : List PathShare) × IsAdded xs y new
added_exists xs y asc =
    let (i, place) = place_from xs y.links (length xs) (omega arith) (λ below. absurd (omega (arith, below))) in
    elim (cases_lt i (length xs)) [
      | inl inside ↦ at_place i place inside (list_below-cases (links_at xs i) y.links)
      | inr outside ↦ (insert xs i y, added_new xs i y asc place (λ inside. absurd (omega (arith, inside, outside))))
    ]
  where
    at_place : (i : ℕ) → IsPlace xs y.links i → i < length xs →
        (links_at xs i ≡ y.links) ⊎ ((list_below (links_at xs i) y.links ≡ true) ⊎ (list_below y.links (links_at xs i) ≡ true)) →
        (new : List PathShare) × IsAdded xs y new
    at_place i place inside (inl at) =
        let t : PathShare = record { links = y.links; weight = (get_or xs i no_path).weight + y.weight } in
        (set xs i t, added_to xs i y t asc inside at refl refl)
    at_place i place inside (inr (inl before)) =
        (insert xs i y, added_new xs i y asc place (λ _ at. list_below-irrefl y.links (subst (λ l. list_below l y.links ≡ true) at before)))
    at_place i place inside (inr (inr after)) =
        (insert xs i y, added_new xs i y asc place (λ _ at. list_below-irrefl y.links (subst (λ l. list_below y.links l ≡ true) at after)))

pub merge_none : IsMerge [] []
merge_none = record {
  ascending = refl;
  kept = λ links has. has;
  only = λ links has. has;
  weights = λ test. refl;
  positive = λ all. all;
  few = omega arith;
}

-- the parts that follow are added one by one
merge_on : (done merged rest : List PathShare) → IsMerge done merged → (new : List PathShare) × IsMerge (done ++ rest) new
merge_on done merged [] so = (merged, subst (λ l. IsMerge l merged) (sym (append-nil done)) so)
merge_on done merged (y ∷ ys) so =
    let (next, add) = added_exists merged y so.ascending in
    let (new, is) = merge_on (done ++ y ∷ []) next ys (merge_more done merged next y so add) in
    (new, subst (λ l. IsMerge l new) (append_assoc done (y ∷ []) ys) is)

pub merge_exists : (parts : List PathShare) → (merged : List PathShare) × IsMerge parts merged
merge_exists parts = merge_on [] [] parts merge_none

pub even_mix_exists : (net : Network) (pair : Pair) (paths : List (List ℕ)) → 0 < length paths → length paths ≤ 4096 →
    All (λ p. IsTrue (is_path net pair.src pair.dst p)) paths →
    (merged : List PathShare) × IsEvenMix paths merged × IsPathSplit net (record { pair = pair; paths = merged }) × (length merged ≤ length paths)
even_mix_exists net pair paths some few sound =
    let (merged, so) = merge_exists (with_whole_weight (of_weight_one paths)) in
    (merged, so, even_split net pair paths merged some (omega arith) sound so, even_few paths merged so)
