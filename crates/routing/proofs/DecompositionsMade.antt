-- Every acyclic flow between two nodes has a decomposition.
use Rattle.std.proofs.Common.{◌≡◌, ◌⊎◌, inl, inr, ℕ, zero, suc, ◌+◌, ◌-◌, ◌<◌, ◌≤◌, Bool, true, false, List, [], ◌∷◌, length, arith, refl, ap, subst, ◌==◌}
use Rattle.std.specs.Prelude.{if◌then◌else◌}
use Rattle.std.proofs.lemmas.Bool.{cases_eq, cases_lt, eq-eqb, eqb-true, false≢true, or_cases, or_left, or_right}
use Rattle.te_model.specs.declared.network.Network.{Network}
use Rattle.te_model.specs.declared.route.PathShare.{PathShare}
use Rattle.te_model.specs.declared.units.TheConstants.{SHARE_UNIT}
use Rattle.te_model.specs.Network.{is_well_formed, node_count, link_count, tail_of, head_of}
use Rattle.te_model.specs.Path.{has_number, amount_on}
use Rattle.te_model.specs.Flow.{IsFlow}
use Rattle.te_model.specs.Laws.{LinksJoinNodes}
use Rattle.te_model.proofs.Searches.{first_or_all}
use Rattle.te_model.proofs.WellFormed.{links_join}
use Rattle.routing.specs.Decomposition.{HasFlowOut, IsAcyclicFlow, IsDecomposition, IsLeastOn, IsLowestLink, IsLowestPath, IsNumbering, IsTakenOff}
use Rattle.routing.proofs.Decomposing.{decomposition_few, left_flow, no_amount, taken-le, taken-some}
use Rattle.routing.proofs.LowestPaths.{goes_on, has_out, source_out}

-- flow leaves the node by a link, or none does
leaves_or_not : (net : Network) (flow : ℕ → ℕ) (v h : ℕ) → ((tail_of net h ≡ v) × (0 < flow h)) ⊎ (tail_of net h ≡ v → flow h ≡ 0)
leaves_or_not net flow v h = elim (cases_eq (tail_of net h) v) [
  | inl leaves ↦ elim (cases_lt 0 (flow h)) [ inl some ↦ inl (leaves, some) | inr empty ↦ inr (λ _. omega (arith, empty)) ]
  | inr other ↦ inr (λ leaves. absurd (other leaves))
]

lowest_link_exists : (net : Network) (flow : ℕ → ℕ) (v : ℕ) → HasFlowOut net flow v → (h : ℕ) × IsLowestLink net flow v h
lowest_link_exists net flow v (h, inside, leaves, some) =
    elim (first_or_all (λ k. (tail_of net k ≡ v) × (0 < flow k)) (λ k. tail_of net k ≡ v → flow k ≡ 0) (link_count net) (λ k _. leaves_or_not net flow v k)) [
      | inl found ↦ (found.0, record { inside = found.1; leaves = found.2.0; some = found.2.1; lowest = found.3 })
      | inr none ↦ absurd (omega (arith, none h inside leaves, some))
    ]

-- the path from a node, by how far its number may rise
lowest_within : (net : Network) (flow number : ℕ → ℕ) (amount s t fuel v : ℕ) → LinksJoinNodes net → IsFlow net flow amount s t → IsNumbering net flow number →
    v < node_count net → node_count net ≤ number v + fuel → ((v ≡ t → ⊥) → HasFlowOut net flow v) → (path : List ℕ) × IsLowestPath net flow v t path
lowest_within net flow number amount s t zero v ends is numbers inside near onward = absurd (omega (arith, near, numbers.below v inside))
lowest_within net flow number amount s t (suc fuel) v ends is numbers inside near onward =
    go (λ u. lowest_within net flow number amount s t fuel u ends is numbers) (cases_eq v t)
  where
    go : ((u : ℕ) → u < node_count net → node_count net ≤ number u + fuel → ((u ≡ t → ⊥) → HasFlowOut net flow u) → (path : List ℕ) × IsLowestPath net flow u t path) →
        (v ≡ t) ⊎ (v ≡ t → ⊥) → (path : List ℕ) × IsLowestPath net flow v t path
    go later (inl e) = ([], e)
    go later (inr apart) =
        let (h, link) = lowest_link_exists net flow v (onward apart) in
        let rises = numbers.rises h link.inside link.some in
        let from = ap number link.leaves in
        let head_in = (ends h link.inside).1 in
        let (more, path) = later (head_of net h) head_in (omega (arith, near, rises, from))
        (goes_on net flow amount s t h is link.inside link.some head_in)
        in
        (h ∷ more, (apart, link, path))

lowest_path_exists : (net : Network) (flow : ℕ → ℕ) (amount s t : ℕ) → LinksJoinNodes net → s < node_count net → (s ≡ t → ⊥) → 0 < amount →
    IsAcyclicFlow net flow amount s t → (path : List ℕ) × IsLowestPath net flow s t path
lowest_path_exists net flow amount s t ends inside apart some is =
    lowest_within net flow is.acyclic.0 amount s t (node_count net) s ends is.balance is.acyclic.1 inside (omega arith)
    (λ _. has_out net flow s (omega (arith, some, source_out net flow amount s t is.balance inside apart)))

-- the least flow on a link
least_exists : (flow : ℕ → ℕ) (h : ℕ) (hs : List ℕ) → (weight : ℕ) × IsLeastOn flow (h ∷ hs) weight
least_exists flow h [] = (
  flow h,
  record {
    least = λ k used. elim (or_cases (h == k) false used) [
      | inl here ↦ let same = ap flow (eqb-true h k here) in omega (arith, same)
      | inr none ↦ absurd (false≢true none)
    ];
    reached = (h, or_left (h == h) false (eq-eqb h h refl), refl);
  },
)
least_exists flow h (j ∷ js) = go (least_exists flow j js)
  where
    go : ((weight : ℕ) × IsLeastOn flow (j ∷ js) weight) → (weight : ℕ) × IsLeastOn flow (h ∷ j ∷ js) weight
    go (weight, is) = elim (cases_lt (flow h) weight) [
      | inl lt ↦ (
        flow h,
        record {
          least = λ k used. elim (or_cases (h == k) (has_number (j ∷ js) k) used) [
            | inl here ↦ let same = ap flow (eqb-true h k here) in omega (arith, same)
            | inr later ↦ omega (arith, lt, is.least k later)
          ];
          reached = (h, or_left (h == h) (has_number (j ∷ js) h) (eq-eqb h h refl), refl);
        },
      )
      | inr ge ↦ (
        weight,
        record {
          least = λ k used. elim (or_cases (h == k) (has_number (j ∷ js) k) used) [
            | inl here ↦ let same = ap flow (eqb-true h k here) in omega (arith, same, ge)
            | inr later ↦ is.least k later
          ];
          reached = let (k, used, at) = is.reached in (k, or_right (h == k) (has_number (j ∷ js) k) used, at);
        },
      )
    ]

least_on_path : (net : Network) (flow : ℕ → ℕ) (s t : ℕ) (path : List ℕ) → IsLowestPath net flow s t path → (s ≡ t → ⊥) → (weight : ℕ) × IsLeastOn flow path weight
least_on_path net flow s t [] e apart = absurd (apart e)
least_on_path net flow s t (h ∷ hs) is apart = least_exists flow h hs

-- the path is taken off
taken_exists : (net : Network) (flow : ℕ → ℕ) (amount s t : ℕ) → LinksJoinNodes net → s < node_count net → (s ≡ t → ⊥) → 0 < amount →
    IsAcyclicFlow net flow amount s t → (p : PathShare) × (left : ℕ → ℕ) × IsTakenOff net s t flow p left
taken_exists net flow amount s t ends inside apart some is =
    let (path, lowest) = lowest_path_exists net flow amount s t ends inside apart some is in
    let (weight, least) = least_on_path net flow s t path lowest apart in
    let left : ℕ → ℕ = λ h. flow h - amount_on path weight h in
    let off : IsTakenOff net s t flow (record { links = path; weight = weight }) left = record {
      path = lowest;
      weight = least;
      rest = λ h _. at h path weight (has_number path h) (least.least h);
    }
    in
    (record { links = path; weight = weight }, left, off)
  where
    at : (h : ℕ) (path : List ℕ) (weight : ℕ) (b : Bool) → (b ≡ true → weight ≤ flow h) → flow h ≡ (flow h - (if b then weight else 0)) + (if b then weight else 0)
    at h path weight true fits = omega (arith, fits refl)
    at h path weight false fits = omega arith

-- path by path, by the amount that is left
decomposition_within : (net : Network) (s t fuel amount : ℕ) (flow : ℕ → ℕ) → LinksJoinNodes net → s < node_count net → t < node_count net → (s ≡ t → ⊥) →
    amount ≤ fuel → IsAcyclicFlow net flow amount s t → (paths : List PathShare) × IsDecomposition net s t flow paths
decomposition_within net s t zero amount flow ends s_in t_in apart fits is =
    let none : amount ≡ 0 = omega arith in
    ([], no_amount net flow s t ends s_in t_in (subst (λ a. IsAcyclicFlow net flow a s t) none is))
decomposition_within net s t (suc fuel) amount flow ends s_in t_in apart fits is =
    go (λ a left. decomposition_within net s t fuel a left ends s_in t_in apart) (cases_lt 0 amount)
  where
    go : ((a : ℕ) (left : ℕ → ℕ) → a ≤ fuel → IsAcyclicFlow net left a s t → (paths : List PathShare) × IsDecomposition net s t left paths) →
        (0 < amount) ⊎ (amount ≤ 0) → (paths : List PathShare) × IsDecomposition net s t flow paths
    go later (inl some) =
        let (p, left, off) = taken_exists net flow amount s t ends s_in apart some is in
        let le = taken-le net flow left amount s t p ends s_in t_in apart is off in
        let (ps, rest) = later (amount - p.weight) left (omega (arith, fits, le, taken-some net s t flow left p off)) (left_flow net flow left amount s t p le is off) in
        (p ∷ ps, (left, off, rest))
    go later (inr none) =
        let e : amount ≡ 0 = omega arith in
        ([], no_amount net flow s t ends s_in t_in (subst (λ a. IsAcyclicFlow net flow a s t) e is))

pub decomposition_exists : (net : Network) → is_well_formed net ≡ true → (flow : ℕ → ℕ) (s t : ℕ) → s < node_count net → t < node_count net → (s ≡ t → ⊥) →
    IsAcyclicFlow net flow SHARE_UNIT s t →
    (paths : List PathShare) × IsDecomposition net s t flow paths × (length paths ≤ link_count net)
decomposition_exists net formed flow s t s_in t_in apart is =
    let (paths, made) = decomposition_within net s t SHARE_UNIT SHARE_UNIT flow (links_join net formed) s_in t_in apart (omega arith) is in
    (paths, made, decomposition_few net s t flow paths made)
