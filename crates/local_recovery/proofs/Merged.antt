-- Merged parts are no more than the parts, and paths where these are.
use Rattle.std.proofs.Common.{◌≡◌, ℕ, zero, suc, ◌<◌, ◌≤◌, true, List, length, All, arith, refl, sym, ◌∙◌, inl, inr, subst}
use Rattle.std.proofs.lemmas.Bool.{cases_lt}
use Rattle.std.proofs.lemmas.List.Elements.{All-get_or, All-from_get_or}
use Rattle.te_model.specs.declared.network.Network.{Network}
use Rattle.te_model.specs.declared.route.PathShare.{PathShare}
use Rattle.te_model.specs.Path.{is_path}
use Rattle.te_model.specs.Validity.{list_below, paths_ascend}
use Rattle.te_model.proofs.ListOrder.{list_below-trans, list_below-irrefl}
use Rattle.routing.specs.Merge.{IsMerge, links_at, no_path}
use Rattle.routing.proofs.Ascending.{ascending_at}
use Rattle.local_recovery.proofs.BypassWalks.{IsPathOf}
use Rattle.local_recovery.proofs.Pigeons.{at_most_places}

ascending_between : (xs : List PathShare) (k l : ℕ) → paths_ascend xs ≡ true → k < l → l < length xs → list_below (links_at xs k) (links_at xs l) ≡ true
ascending_between xs k zero asc before below = absurd (omega arith)
ascending_between xs k (suc l) asc before below =
    elim (cases_lt k l) [
      | inl lt ↦
          list_below-trans (links_at xs k) (links_at xs l) (links_at xs (suc l)) (ascending_between xs k l asc lt (omega arith)) (ascending_at xs l asc below)
      | inr ge ↦
          let e : k ≡ l = omega arith in
          subst (λ (i : ℕ). list_below (links_at xs i) (links_at xs (suc l)) ≡ true) (sym e) (ascending_at xs l asc below)
    ]

-- no two of ascending paths have the same links
links_apart : (xs : List PathShare) (k l : ℕ) → paths_ascend xs ≡ true → k < length xs → l < length xs → links_at xs k ≡ links_at xs l → k ≡ l
links_apart xs k l asc k_below l_below same =
    elim (cases_lt k l) [
      | inl lt ↦
          absurd (list_below-irrefl (links_at xs l)
          (subst (λ ls. list_below ls (links_at xs l) ≡ true) same (ascending_between xs k l asc lt l_below)))
      | inr ge ↦
          elim (cases_lt l k) [
            | inl gt ↦
                absurd (list_below-irrefl (links_at xs l)
                (subst (λ ls. list_below (links_at xs l) ls ≡ true) same (ascending_between xs l k asc gt k_below)))
            | inr le ↦ omega arith
          ]
    ]

pub merged_few : (parts merged : List PathShare) → IsMerge parts merged → length merged ≤ length parts
merged_few parts merged is =
    at_most_places (length merged) (length parts) (λ k j. links_at parts j ≡ links_at merged k)
    (λ k below. is.only (links_at merged k) (k, below, refl))
    (λ k l j k_below l_below a b. links_apart merged k l is.ascending k_below l_below (sym a ∙ b))

pub merged_paths : (net : Network) (s t : ℕ) (parts merged : List PathShare) → IsMerge parts merged → All (IsPathOf net s t) parts → All (IsPathOf net s t) merged
merged_paths net s t parts merged is paths =
    All-from_get_or (IsPathOf net s t) merged no_path (λ i below.
    let found = is.only (links_at merged i) (i, below, refl) in
    subst (λ ls. is_path net s t ls ≡ true) found.2 (All-get_or (IsPathOf net s t) parts found.0 no_path found.1 paths))
