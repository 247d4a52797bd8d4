-- Paths that go on by the lowest link with flow.
use Rattle.std.proofs.Common.{◌≡◌, inl, inr, ℕ, ◌<◌, ◌≤◌, Bool, true, false, not, List, [], ◌∷◌, ◌++◌, length, arith, refl, ap, sym, subst, ◌==◌, append_assoc}
use Rattle.std.specs.Prelude.{if◌then◌else◌, nat_lt, ◌&&◌}
use Rattle.std.proofs.lemmas.Bool.{and_from, eq-eqb, eqb-true, lt-ltb, false≢true, or_cases}
use Rattle.std.proofs.lemmas.List.{length-append}
use Rattle.te_model.specs.declared.network.Network.{Network}
use Rattle.te_model.specs.Network.{node_count, link_count, tail_of, head_of}
use Rattle.te_model.specs.Path.{has_number, is_distinct, chains, nodes_visited, is_path}
use Rattle.te_model.specs.Flow.{IsFlow, outflow, inflow, amount_at}
use Rattle.te_model.specs.Laws.{LinksJoinNodes}
use Rattle.te_model.proofs.Conditionals.{if_other, if_some, if_true}
use Rattle.te_model.proofs.Sums.{sum_below-some, sum_below-term}
use Rattle.routing.specs.Decomposition.{IsNumbering, IsAcyclicFlow, HasFlowOut, IsLowestLink, IsLowestPath}

pub has_out : (net : Network) (flow : ℕ → ℕ) (v : ℕ) → 0 < outflow net flow v → HasFlowOut net flow v
has_out net flow v some =
    let (h, inside, here) = sum_below-some (link_count net) (λ h. if tail_of net h == v then flow h else 0) some in
    let both = if_some (tail_of net h == v) (flow h) here in
    (h, inside, eqb-true (tail_of net h) v both.0, both.1)

some_in : (net : Network) (flow : ℕ → ℕ) (v h : ℕ) → h < link_count net → head_of net h ≡ v → flow h ≤ inflow net flow v
some_in net flow v h inside to =
    let term = sum_below-term (link_count net) h (λ h. if head_of net h == v then flow h else 0) inside in
    let at = if_true (head_of net h == v) (flow h) (eq-eqb (head_of net h) v to) in
    omega (arith, term, at)

-- the amount leaves the source
pub source_out : (net : Network) (flow : ℕ → ℕ) (amount s t : ℕ) → IsFlow net flow amount s t → s < node_count net → (s ≡ t → ⊥) →
    amount ≤ outflow net flow s
source_out net flow amount s t is inside apart =
    let here : amount_at s amount s ≡ amount = if_true (s == s) amount (eq-eqb s s refl) in
    let none : amount_at t amount s ≡ 0 = if_other t s amount (λ e. apart (sym e)) in
    omega (arith, is s inside, here, none)

-- what comes to a node goes on
pub goes_on : (net : Network) (flow : ℕ → ℕ) (amount s t h : ℕ) → IsFlow net flow amount s t → h < link_count net → 0 < flow h →
    head_of net h < node_count net → (head_of net h ≡ t → ⊥) → HasFlowOut net flow (head_of net h)
goes_on net flow amount s t h is inside some in' apart =
    let none : amount_at t amount (head_of net h) ≡ 0 = if_other t (head_of net h) amount (λ e. apart (sym e)) in
    has_out net flow (head_of net h) (omega (arith, is (head_of net h) in', none, some_in net flow (head_of net h) h inside refl))

-- a path as far as the node
pub record FollowedSoFar (net : Network) (flow : ℕ → ℕ) (s t node : ℕ) (path : List ℕ) : Type 0 where
  pub inside : node < node_count net
  pub onward : (node ≡ t → ⊥) → HasFlowOut net flow node
  pub extends : (more : List ℕ) → IsLowestPath net flow node t more → IsLowestPath net flow s t (path ++ more)
  pub short : (number : ℕ → ℕ) → IsNumbering net flow number → length path ≤ number node

pub followed_none : (net : Network) (flow : ℕ → ℕ) (amount s t : ℕ) → s < node_count net → (s ≡ t → ⊥) → 0 < amount → IsAcyclicFlow net flow amount s t →
    FollowedSoFar net flow s t s []
followed_none net flow amount s t inside apart some is = record {
  inside = inside;
  onward = λ _. has_out net flow s (omega (arith, source_out net flow amount s t is.balance inside apart));
  extends = λ more path. path;
  short = λ number is'. omega arith;
}

pub followed_more : (net : Network) (flow : ℕ → ℕ) (amount s t node h : ℕ) (path : List ℕ) → LinksJoinNodes net → IsAcyclicFlow net flow amount s t →
    FollowedSoFar net flow s t node path → (node ≡ t → ⊥) → IsLowestLink net flow node h →
    FollowedSoFar net flow s t (head_of net h) (path ++ h ∷ [])
followed_more net flow amount s t node h path ends is far apart link = record {
  inside = (ends h link.inside).1;
  onward = λ other. goes_on net flow amount s t h is.balance link.inside link.some (ends h link.inside).1 other;
  extends = λ more rest. subst (IsLowestPath net flow s t) (sym (append_assoc path (h ∷ []) more)) (far.extends (h ∷ more) (apart, link, rest));
  short = λ number numbers.
      let rises = numbers.rises h link.inside link.some in
      let from = ap number link.leaves in
      omega (arith, far.short number numbers, rises, from, length-append path (h ∷ []));
}

-- a path with flow chains
pub lowest_chains : (net : Network) (flow : ℕ → ℕ) (v t : ℕ) (path : List ℕ) → IsLowestPath net flow v t path → chains net v t path ≡ true
lowest_chains net flow v t [] e = eq-eqb v t e
lowest_chains net flow v t (h ∷ hs) (apart, link, rest) =
    and_from (nat_lt h (link_count net) && tail_of net h == v) (chains net (head_of net h) t hs)
    (and_from (nat_lt h (link_count net)) (tail_of net h == v) (lt-ltb h (link_count net) link.inside) (eq-eqb (tail_of net h) v link.leaves))
    (lowest_chains net flow (head_of net h) t hs rest)

-- each of its links has flow
pub lowest_flows : (net : Network) (flow : ℕ → ℕ) (v t h : ℕ) (path : List ℕ) → IsLowestPath net flow v t path → has_number path h ≡ true →
    (h < link_count net) × (0 < flow h)
lowest_flows net flow v t h [] e used = absurd (false≢true used)
lowest_flows net flow v t h (k ∷ hs) (apart, link, rest) used = elim (or_cases (k == h) (has_number hs h) used) [
  | inl here ↦ subst (λ k. (k < link_count net) × (0 < flow k)) (eqb-true k h here) (link.inside, link.some)
  | inr later ↦ lowest_flows net flow (head_of net k) t h hs rest later
]

-- its nodes are numbered upwards
rises_to : (net : Network) (flow number : ℕ → ℕ) (v t u : ℕ) (path : List ℕ) → IsNumbering net flow number → IsLowestPath net flow v t path →
    has_number (nodes_visited net v path) u ≡ true → number v ≤ number u
rises_to net flow number v t u [] numbers e used = elim (or_cases (v == u) false used) [
  | inl here ↦ let same = ap number (eqb-true v u here) in omega (arith, same)
  | inr none ↦ absurd (false≢true none)
]
rises_to net flow number v t u (h ∷ hs) numbers (apart, link, rest) used =
    elim (or_cases (v == u) (has_number (nodes_visited net (head_of net h) hs) u) used) [
      | inl here ↦ let same = ap number (eqb-true v u here) in omega (arith, same)
      | inr later ↦
          let rises = numbers.rises h link.inside link.some in
          let from = ap number link.leaves in
          omega (arith, rises, from, rises_to net flow number (head_of net h) t u hs numbers rest later)
    ]

pub lowest_rises : (net : Network) (flow number : ℕ → ℕ) (v t : ℕ) (path : List ℕ) → IsNumbering net flow number → IsLowestPath net flow v t path →
    number v ≤ number t
lowest_rises net flow number v t [] numbers e = let same = ap number e in omega (arith, same)
lowest_rises net flow number v t (h ∷ hs) numbers (apart, link, rest) =
    let rises = numbers.rises h link.inside link.some in
    let from = ap number link.leaves in
    omega (arith, rises, from, lowest_rises net flow number (head_of net h) t hs numbers rest)

pub lowest_rises_more : (net : Network) (flow number : ℕ → ℕ) (v t : ℕ) (path : List ℕ) → IsNumbering net flow number → IsLowestPath net flow v t path →
    (v ≡ t → ⊥) → number v < number t
lowest_rises_more net flow number v t [] numbers e apart = absurd (apart e)
lowest_rises_more net flow number v t (h ∷ hs) numbers (other, link, rest) apart =
    let rises = numbers.rises h link.inside link.some in
    let from = ap number link.leaves in
    omega (arith, rises, from, lowest_rises net flow number (head_of net h) t hs numbers rest)

-- so it visits no node twice
pub lowest_distinct : (net : Network) (flow number : ℕ → ℕ) (v t : ℕ) (path : List ℕ) → IsNumbering net flow number → IsLowestPath net flow v t path →
    is_distinct (nodes_visited net v path) ≡ true
lowest_distinct net flow number v t [] numbers e = refl
lowest_distinct net flow number v t (h ∷ hs) numbers (apart, link, rest) =
    and_from (not (has_number (nodes_visited net (head_of net h) hs) v)) (is_distinct (nodes_visited net (head_of net h) hs))
    (once (has_number (nodes_visited net (head_of net h) hs) v) refl)
    (lowest_distinct net flow number (head_of net h) t hs numbers rest)
  where
    once : (b : Bool) → has_number (nodes_visited net (head_of net h) hs) v ≡ b → not b ≡ true
    once true e =
        let rises = numbers.rises h link.inside link.some in
        let from = ap number link.leaves in
        absurd (omega (arith, rises, from, rises_to net flow number (head_of net h) t v hs numbers rest e))
    once false e = refl

pub lowest_is_path : (net : Network) (flow number : ℕ → ℕ) (s t : ℕ) (path : List ℕ) → IsNumbering net flow number → IsLowestPath net flow s t path →
    is_path net s t path ≡ true
lowest_is_path net flow number s t path numbers is =
    and_from (chains net s t path) (is_distinct (nodes_visited net s path)) (lowest_chains net flow s t path is) (lowest_distinct net flow number s t path numbers is)
