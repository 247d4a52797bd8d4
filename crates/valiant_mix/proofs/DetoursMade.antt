-- Detours over the first nodes, one after the other. Source and destination are middle nodes themselves.
use Rattle.std.proofs.Common.{◌≡◌, ◌⊎◌, ℕ, zero, suc, ◌+◌, ◌<◌, ◌≤◌, true, List, [], ◌∷◌, ◌++◌, Option, length, arith, refl, ap, sym, ◌∙◌, subst, inl, inr}
use Rattle.std.specs.Prelude.{All, IsTrue, MatchOption}
use Rattle.std.proofs.lemmas.Bool.{cases_lt}
use Rattle.std.proofs.lemmas.List.{length_push}
use Rattle.std.proofs.lemmas.List.Elements.{All-nil, All-push}
use Rattle.te_model.specs.declared.network.Network.{Network}
use Rattle.te_model.specs.declared.route.Path.{Path}
use Rattle.te_model.specs.Network.{is_well_formed, node_count}
use Rattle.te_model.specs.Path.{chains, is_path}
use Rattle.te_model.proofs.Chains.{chains-append}
use Rattle.shortest_path.specs.Paths.{HasPath}
use Rattle.routing.proofs.Cutting.{cut_is_path}
use Rattle.routing.proofs.CutsMade.{cut_exists}
use Rattle.valiant_mix.specs.Valiant.{AreDetours, IsDetour, IsLeg}
use Rattle.valiant_mix.proofs.LeastLegs.{leg_chains, leg_or_none}

-- two legs one after the other are a walk
pub legs_chain : (net : Network) (s t m : ℕ) (there on : List ℕ) → IsLeg net s m there → IsLeg net m t on → chains net s t (there ++ on) ≡ true
legs_chain net s t m there on first second = chains-append net s m t there on (leg_chains net s m there first) (leg_chains net m t on second)

-- there is a detour over m, or none
pub detour_or_none : (net : Network) → is_well_formed net ≡ true → (s t m : ℕ) → s < node_count net → t < node_count net → m < node_count net →
    ((path : List ℕ) × IsDetour net s t m path) ⊎ ((path : List ℕ) → IsDetour net s t m path → ⊥)
detour_or_none net formed s t m s_in t_in m_in = elim (leg_or_none net formed s m s_in m_in) [
  | inr none ↦ inr (λ path (there, on, first, second, cut). none there (leg_chains net s m there first))
  | inl found ↦ elim (leg_or_none net formed m t m_in t_in) [
    | inr none ↦ inr (λ path (there, on, first, second, cut). none on (leg_chains net m t on second))
    | inl next ↦
        let (path, cut) = cut_exists net s t (found.0 ++ next.0) (legs_chain net s t m found.0 next.0 found.1 next.1) in
        inl (path, (found.0, next.0, found.1, next.1, cut))
  ]
]

detour_is_path : (net : Network) (s t m : ℕ) (path : List ℕ) → IsDetour net s t m path → is_path net s t path ≡ true
detour_is_path net s t m path (there, on, first, second, cut) = cut_is_path net s t (there ++ on) path (legs_chain net s t m there on first second) cut

-- the detour over node m that was found, or none
abbrev pub IsFound : Network → ℕ → ℕ → ℕ → Option Path → Type 0
IsFound net s t m found = MatchOption found ((path : List ℕ) → IsDetour net s t m path → ⊥) (λ p. IsDetour net s t m p.links)

-- no detour leads over the next node
pub detours_same : (net : Network) (s t n : ℕ) (paths : List (List ℕ)) → AreDetours net s t n paths →
    ((path : List ℕ) → IsDetour net s t n path → ⊥) → AreDetours net s t (n + 1) paths
detours_same net s t n paths are none =
    let next : suc n ≡ n + 1 = omega arith in
    subst (λ k. AreDetours net s t k paths) next (inl (none, are))

-- one detour more
pub detours_more : (net : Network) (s t n : ℕ) (paths : List (List ℕ)) (path : List ℕ) → AreDetours net s t n paths → IsDetour net s t n path →
    AreDetours net s t (n + 1) (paths ++ path ∷ [])
detours_more net s t n paths path are is =
    let next : suc n ≡ n + 1 = omega arith in
    subst (λ k. AreDetours net s t k (paths ++ path ∷ [])) next (inr (paths, path, are, is, refl))

pub detours_exist : (net : Network) → is_well_formed net ≡ true → (s t : ℕ) → s < node_count net → t < node_count net → (n : ℕ) → n ≤ node_count net →
    (paths : List (List ℕ)) × AreDetours net s t n paths
detours_exist net formed s t s_in t_in zero few = ([], refl)
detours_exist net formed s t s_in t_in (suc n) few =
    let (paths, are) = detours_exist net formed s t s_in t_in n (omega (arith, few)) in
    elim (detour_or_none net formed s t n s_in t_in (omega (arith, few))) [
      | inr none ↦ (paths, inl (none, are))
      | inl found ↦ (paths ++ found.0 ∷ [], inr (paths, found.0, are, found.1, refl))
    ]

-- the detours over the first n nodes are paths, at most n, and some where there is one over any of these nodes
pub record HasDetours (net : Network) (s t n : ℕ) (paths : List (List ℕ)) : Type 0 where
  pub sound : All (λ p. IsTrue (is_path net s t p)) paths
  pub few : length paths ≤ n
  pub some : (m : ℕ) → m < n → (path : List ℕ) → IsDetour net s t m path → 0 < length paths

pub has_detours : (net : Network) (s t n : ℕ) (paths : List (List ℕ)) → AreDetours net s t n paths → HasDetours net s t n paths
has_detours net s t zero paths none = record {
  sound = subst (All (λ p. IsTrue (is_path net s t p))) (sym none) (All-nil (λ p. IsTrue (is_path net s t p)));
  few = let count = ap (λ (l : List (List ℕ)). length l) none in omega (arith, count);
  some = λ m below path is. absurd (omega (arith, below));
}
has_detours net s t (suc n) paths (inl (none, are)) =
    let far = has_detours net s t n paths are in
    record {
      sound = far.sound;
      few = let f = far.few in omega (arith, f);
      some = λ m below path is. elim (cases_lt m n) [
        | inl lt ↦ far.some m lt path is
        | inr ge ↦ let e : m ≡ n = omega (arith, ge, below) in absurd (none path (subst (λ k. IsDetour net s t k path) e is))
      ];
    }
has_detours net s t (suc n) paths (inr (earlier, path, are, is, same)) =
    let far = has_detours net s t n earlier are in
    let count : length paths ≡ length earlier + 1 = ap (λ (l : List (List ℕ)). length l) same ∙ length_push earlier path in
    record {
      sound = subst (All (λ p. IsTrue (is_path net s t p))) (sym same)
          (All-push (λ p. IsTrue (is_path net s t p)) earlier path far.sound (detour_is_path net s t n path is));
      few = let f = far.few in omega (arith, f, count);
      some = λ m below other so. omega (arith, count);
    }

-- the source is a middle node
pub by_the_source : (net : Network) → is_well_formed net ≡ true → (s t : ℕ) → s < node_count net → t < node_count net → HasPath net s t →
    (path : List ℕ) × IsDetour net s t s path
by_the_source net formed s t s_in t_in has = elim (leg_or_none net formed s t s_in t_in) [
  | inr none ↦ absurd (none has.0 has.2)
  | inl leg ↦
      let (path, cut) = cut_exists net s t leg.0 (leg_chains net s t leg.0 leg.1) in
      (path, ([], leg.0, inl (refl, refl), leg.1, cut))
]
