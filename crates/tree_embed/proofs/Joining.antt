-- Least paths between neighbours of a chain, one after the other.
use Rattle.std.proofs.Common.{◌≡◌, ℕ, zero, suc, ◌+◌, ◌-◌, ◌<◌, ◌≤◌, true, List, [], ◌∷◌, ◌++◌, Some, None, length, take, slice_index, arith, refl, ap, sym, ◌∙◌, subst}
use Rattle.std.proofs.lemmas.Bool.{eq-eqb}
use Rattle.std.proofs.lemmas.List.{append_assoc, append-nil}
use Rattle.te_model.specs.declared.network.Network.{Network}
use Rattle.te_model.specs.Path.{chains}
use Rattle.te_model.proofs.Chains.{chains-append, chains_of_path}
use Rattle.shortest_path.specs.Paths.{IsLeastPath}
use Rattle.tree_embed.specs.TreePaths.{AreJoined}

-- one node makes no walk
pub join_start : (net : Network) (lengths chain walk : List ℕ) → walk ≡ [] → AreJoined net lengths (take 1 chain) walk
join_start net lengths [] walk is = is
join_start net lengths (u ∷ chain) walk is = is

-- one neighbour more
join_more : (net : Network) (lengths chain : List ℕ) (k : ℕ) (walk path : List ℕ) → suc k < length chain → AreJoined net lengths (take (suc k) chain) walk →
    IsLeastPath net lengths (slice_index chain k) (slice_index chain (suc k)) (Some path) → AreJoined net lengths (take (suc (suc k)) chain) (walk ++ path)
join_more net lengths [] k walk path below is least = absurd (omega arith)
join_more net lengths (u ∷ []) k walk path below is least = absurd (omega arith)
join_more net lengths (u ∷ v ∷ chain) zero walk path below is least =
    (path, [], least, refl, ap (λ l. l ++ path) is ∙ sym (append-nil path))
join_more net lengths (u ∷ v ∷ chain) (suc k) walk path below (first, rest, one, more, is) least = (
  first,
  rest ++ path,
  one,
  join_more net lengths (v ∷ chain) k rest path (omega arith) more least,
  ap (λ l. l ++ path) is ∙ append_assoc first rest path,
)

-- where no least path leads on, there is no walk
join_none : (net : Network) (lengths chain : List ℕ) (k : ℕ) → suc k < length chain →
    IsLeastPath net lengths (slice_index chain k) (slice_index chain (suc k)) None → (walk : List ℕ) → AreJoined net lengths chain walk → ⊥
join_none net lengths [] k below none walk is = absurd (omega arith)
join_none net lengths (u ∷ []) k below none walk is = absurd (omega arith)
join_none net lengths (u ∷ v ∷ chain) zero below none walk (first, rest, one, more, is) = none first (chains_of_path net u v first one.0)
join_none net lengths (u ∷ v ∷ chain) (suc k) below none walk (first, rest, one, more, is) =
    join_none net lengths (v ∷ chain) k (omega arith) none rest more

-- the same by the place of the second of the two neighbours
pub join_step : (net : Network) (lengths chain : List ℕ) (i : ℕ) (walk path new : List ℕ) → 1 ≤ i → i < length chain →
    AreJoined net lengths (take i chain) walk → IsLeastPath net lengths (slice_index chain (i - 1)) (slice_index chain i) (Some path) → new ≡ walk ++ path →
    AreJoined net lengths (take (i + 1) chain) new
join_step net lengths chain i walk path new some below is least extended =
    let e : i ≡ suc (i - 1) = omega arith in
    let f : suc (suc (i - 1)) ≡ i + 1 = omega arith in
    let inside : suc (i - 1) < length chain = omega arith in
    subst (AreJoined net lengths (take (i + 1) chain)) (sym extended)
    (subst (λ k. AreJoined net lengths (take k chain) (walk ++ path)) f
    (join_more net lengths chain (i - 1) walk path inside (subst (λ k. AreJoined net lengths (take k chain) walk) e is)
    (subst (λ k. IsLeastPath net lengths (slice_index chain (i - 1)) (slice_index chain k) (Some path)) e least)))

pub join_stops : (net : Network) (lengths chain : List ℕ) (i : ℕ) → 1 ≤ i → i < length chain →
    IsLeastPath net lengths (slice_index chain (i - 1)) (slice_index chain i) None → (walk : List ℕ) → AreJoined net lengths chain walk → ⊥
join_stops net lengths chain i some below least =
    let e : i ≡ suc (i - 1) = omega arith in
    let inside : suc (i - 1) < length chain = omega arith in
    join_none net lengths chain (i - 1) inside (subst (λ k. IsLeastPath net lengths (slice_index chain (i - 1)) (slice_index chain k) None) e least)

-- the last node of a chain
abbrev pub last_of : ℕ → List ℕ → ℕ
last_of u [] = u
last_of u (v ∷ chain) = last_of v chain

-- the walk leads from the first node of the chain to the last
pub joined_chains : (net : Network) (lengths : List ℕ) (u : ℕ) (chain walk : List ℕ) → AreJoined net lengths (u ∷ chain) walk →
    chains net u (last_of u chain) walk ≡ true
joined_chains net lengths u [] walk is = subst (λ w. chains net u u w ≡ true) (sym is) (eq-eqb u u refl)
joined_chains net lengths u (v ∷ chain) walk (first, rest, one, more, is) =
    subst (λ w. chains net u (last_of v chain) w ≡ true) (sym is)
    (chains-append net u v (last_of v chain) first rest (chains_of_path net u v first one.0) (joined_chains net lengths v chain rest more))
