-- Whether declared pairs have paths is decided: each has one, or there is a first that has none. Links are allowed one after
-- another (after Warshall, 1962).
use Rattle.std.proofs.Common.{◌≡◌, ◌⊎◌, ℕ, zero, suc, ◌<◌, ◌≤◌, Bool, true, false, ◌==◌, List, [], ◌∷◌, ◌++◌, length, inl, inr, refl, sym, subst, arith}
use Rattle.std.proofs.lemmas.Bool.Decides.{nat_tests}
use Rattle.std.proofs.lemmas.Bool.{cases_lt}
use Rattle.te_model.specs.declared.network.Network.{Network}
use Rattle.te_model.specs.declared.route.Pair.{Pair}
use Rattle.te_model.specs.Network.{link_count, tail_of, head_of}
use Rattle.te_model.specs.Path.{chains}
use Rattle.te_model.proofs.Chains.{first_link, chain_from, chains-append}
use Rattle.shortest_path.specs.Paths.{HasPath}
use Rattle.scheme.specs.Reach.{AllReached, IsFirstWithout, IsReached}

abbrev pub Decided : Type 0 → Type 0
Decided P = P ⊎ ¬ P

-- the first k links lead from v to t: without the last of them, or by it once
abbrev Leads : Network → ℕ → ℕ → ℕ → Type 0
Leads net zero v t = v ≡ t
Leads net (suc k) v t = Leads net k v t ⊎ (Leads net k v (tail_of net k) × Leads net k (head_of net k) t)

same_node : (v t : ℕ) → Decided (v ≡ t)
same_node v t = go (v == t) refl
  where
    go : (b : Bool) → (v == t) ≡ b → Decided (v ≡ t)
    go true is = inl (grind (arith, nat_tests))
    go false is = inr (λ same. grind (arith, nat_tests))

both_decided : (P Q : Type 0) → Decided P → Decided Q → Decided (P × Q)
both_decided P Q (inl p) (inl q) = inl (p, q)
both_decided P Q (inr none) q = inr (λ x. none x.0)
both_decided P Q (inl p) (inr none) = inr (λ x. none x.1)

either_decided : (P Q : Type 0) → Decided P → Decided Q → Decided (P ⊎ Q)
either_decided P Q (inl p) q = inl (inl p)
either_decided P Q (inr none) (inl q) = inl (inr q)
either_decided P Q (inr none) (inr other) = inr (λ x. neither x)
  where
    neither : P ⊎ Q → ⊥
    neither (inl p) = none p
    neither (inr q) = other q

leads_decided : (net : Network) (k v t : ℕ) → Decided (Leads net k v t)
leads_decided net zero v t = same_node v t
leads_decided net (suc k) v t =
    either_decided (Leads net k v t) (Leads net k v (tail_of net k) × Leads net k (head_of net k) t) (leads_decided net k v t)
    (both_decided (Leads net k v (tail_of net k)) (Leads net k (head_of net k) t) (leads_decided net k v (tail_of net k)) (leads_decided net k (head_of net k) t))

leads_here : (net : Network) (k v : ℕ) → Leads net k v v
leads_here net zero v = refl
leads_here net (suc k) v = inl (leads_here net k v)

leads_on : (net : Network) (k v u t : ℕ) → Leads net k v u → Leads net k u t → Leads net k v t
leads_on net zero v u t x y = cc
leads_on net (suc k) v u t (inl x) (inl y) = inl (leads_on net k v u t x y)
leads_on net (suc k) v u t (inl x) (inr y) = inr (leads_on net k v u (tail_of net k) x y.0, y.1)
leads_on net (suc k) v u t (inr x) (inl y) = inr (x.0, leads_on net k (head_of net k) u t x.1 y)
leads_on net (suc k) v u t (inr x) (inr y) = inr (x.0, y.1)

leads_by : (net : Network) (k h : ℕ) → h < k → Leads net k (tail_of net h) (head_of net h)
leads_by net zero h below = absurd (omega arith)
leads_by net (suc k) h below = go (cases_lt h k) (leads_by net k h)
  where
    go : (h < k) ⊎ (k ≤ h) → (h < k → Leads net k (tail_of net h) (head_of net h)) → Leads net (suc k) (tail_of net h) (head_of net h)
    go (inl less) before = inl (before less)
    go (inr last) before =
        let same : h ≡ k = omega arith in
        let P : ℕ → Type 0 = λ n. Leads net (suc k) (tail_of net n) (head_of net n) in
        subst P (sym same) (inr (leads_here net k (tail_of net k), leads_here net k (head_of net k)))

-- links that chain lead there
chains_lead : (net : Network) (s t : ℕ) (links : List ℕ) → chains net s t links ≡ true → Leads net (link_count net) s t
chains_lead net s t [] is =
    let same : s ≡ t = grind (arith, nat_tests) in
    subst (Leads net (link_count net) s) same (leads_here net (link_count net) s)
chains_lead net s t (h ∷ links) is =
    let first = first_link net s t h links is in
    let P : ℕ → Type 0 = λ v. Leads net (link_count net) v (head_of net h) in
    leads_on net (link_count net) s (head_of net h) t (subst P first.from (leads_by net (link_count net) h first.inside)) (chains_lead net (head_of net h) t links first.rest)

-- where the first links lead, links chain
leads_chain : (net : Network) (k v t : ℕ) → k ≤ link_count net → Leads net k v t → (links : List ℕ) × (chains net v t links ≡ true)
leads_chain net zero v t few is = ([], grind (arith, nat_tests))
leads_chain net (suc k) v t few (inl x) = leads_chain net k v t (omega arith) x
leads_chain net (suc k) v t few (inr x) =
    let before = leads_chain net k v (tail_of net k) (omega arith) x.0 in
    let after = leads_chain net k (head_of net k) t (omega arith) x.1 in
    (before.0 ++ k ∷ after.0, chains-append net v (tail_of net k) t before.0 (k ∷ after.0) before.1 (chain_from net (tail_of net k) t k after.0 (omega arith) refl after.1))

-- a first link, and what leads on from it
abbrev Starts : Network → ℕ → ℕ → ℕ → Type 0
Starts net s t h = (tail_of net h ≡ s) × Leads net (link_count net) (head_of net h) t

-- some number below m has the property, or none has
some_below : (m : ℕ) (P : ℕ → Type 0) → ((h : ℕ) → Decided (P h)) → Decided ((h : ℕ) × (h < m) × P h)
some_below zero P each = inr (λ x. omega (arith, x.1))
some_below (suc m) P each = go (each m) (some_below m P each)
  where
    last : (x : (h : ℕ) × (h < suc m) × P h) → ¬ P m → ¬ ((h : ℕ) × (h < m) × P h) → (x.0 < m) ⊎ (m ≤ x.0) → ⊥
    last x here none (inl less) = none (x.0, less, x.2)
    last x here none (inr more) = let same : x.0 ≡ m = omega (arith, x.1) in here (subst P same x.2)

    go : Decided (P m) → Decided ((h : ℕ) × (h < m) × P h) → Decided ((h : ℕ) × (h < suc m) × P h)
    go (inl holds) rest = inl (m, omega arith, holds)
    go (inr here) (inl x) = inl (x.0, omega (arith, x.1), x.2)
    go (inr here) (inr none) = inr (λ x. last x here none (cases_lt x.0 m))

path_decided : (net : Network) (s t : ℕ) → Decided (HasPath net s t)
path_decided net s t =
    go (some_below (link_count net) (Starts net s t) (λ h. both_decided (tail_of net h ≡ s) (Leads net (link_count net) (head_of net h) t)
    (same_node (tail_of net h) s) (leads_decided net (link_count net) (head_of net h) t)))
  where
    none_starts : ¬ ((h : ℕ) × (h < link_count net) × Starts net s t h) → (links : List ℕ) → 0 < length links → chains net s t links ≡ true → ⊥
    none_starts none [] some is = omega arith
    none_starts none (h ∷ links) some is =
        let first = first_link net s t h links is in
        none (h, first.inside, (first.from, chains_lead net (head_of net h) t links first.rest))

    go : Decided ((h : ℕ) × (h < link_count net) × Starts net s t h) → Decided (HasPath net s t)
    go (inl x) =
        let after = leads_chain net (link_count net) (head_of net x.0) t (omega arith) x.2.1 in
        inl (x.0 ∷ after.0, omega arith, chain_from net s t x.0 after.0 x.1 x.2.0 after.1)
    go (inr none) = inr (λ x. none_starts none x.0 x.1 x.2)

-- each of the first n pairs has a path, or there is a first that has none
reached_before : (net : Network) (pairs : List Pair) (n : ℕ) → n ≤ length pairs →
    ((p : ℕ) → p < n → IsReached net pairs p) ⊎ ((p : ℕ) × IsFirstWithout net pairs p)
reached_before net pairs zero few = inl (λ p below. absurd (omega arith))
reached_before net pairs (suc n) few = go (reached_before net pairs n (omega arith)) (path_decided net _ _)
  where
    last : ((p : ℕ) → p < n → IsReached net pairs p) → IsReached net pairs n → (p : ℕ) → p < suc n → (p < n) ⊎ (n ≤ p) → IsReached net pairs p
    last before is p below (inl less) = before p less
    last before is p below (inr more) = let same : n ≡ p = omega arith in subst (IsReached net pairs) same is

    go : ((p : ℕ) → p < n → IsReached net pairs p) ⊎ ((p : ℕ) × IsFirstWithout net pairs p) → Decided (IsReached net pairs n) →
        ((p : ℕ) → p < suc n → IsReached net pairs p) ⊎ ((p : ℕ) × IsFirstWithout net pairs p)
    go (inr x) here = inr x
    go (inl before) (inl is) = inl (λ p below. last before is p below (cases_lt p n))
    go (inl before) (inr none) = inr (n, record { inside = omega arith; without = none; before = before })

pub reached_or_first : (net : Network) (pairs : List Pair) → AllReached net pairs ⊎ ((p : ℕ) × IsFirstWithout net pairs p)
reached_or_first net pairs = reached_before net pairs (length pairs) (omega arith)
