-- Least costs to one node, and the next links that they make.
use Rattle.std.proofs.Common.{◌≡◌, ℕ, ◌+◌, ◌<◌, ◌≤◌, true, false, ◌&&◌, List, [], ◌∷◌, Option, Some, None, arith, refl, ap, ◌∙◌, subst, slice_index, nat_lt, ◌==◌}
use Rattle.std.specs.Prelude.{if◌then◌else◌}
use Rattle.std.proofs.lemmas.Bool.{and_from, and_parts, eq-eqb, eqb-true, lt-ltb, ltb-true}
use Rattle.std.proofs.lemmas.List.{get_or-map}
use Rattle.te_model.specs.declared.network.Link.{Link}
use Rattle.te_model.specs.declared.network.Network.{Network}
use Rattle.te_model.specs.Network.{node_count, link_count, tail_of, head_of, cost_of, no_link}
use Rattle.te_model.specs.Path.{chains, is_distinct, nodes_visited}
use Rattle.te_model.specs.Laws.{LinksJoinNodes}
use Rattle.te_model.proofs.Conditionals.{if_true}
use Rattle.te_model.proofs.Sums.{sum_below-term}
use Rattle.shortest_path.specs.Costs.{costs_of}
use Rattle.shortest_path.specs.Graph.{distance_at}
use Rattle.shortest_path.specs.Least.{AreLeastSums, is_sum}
use Rattle.shortest_path.specs.Paths.{IsDistance, HasPath, sum_along}
use Rattle.shortest_path.specs.Links.{every_link}
use Rattle.shortest_path.proofs.LeastSums.{distance_of_sums}
use Rattle.shortest_path.proofs.Filling.{zero_at_start}
use Rattle.shortest_path.proofs.Tight.{is_sum_parts}
use Rattle.ecmp_split.specs.Equal.{AreCostsTo, is_next, is_next_of, next_count}

-- the least sums over all links
pub costs_of_sums : (net : Network) (t : ℕ) (sums : List (Option ℕ)) → AreLeastSums net (costs_of net) (every_link net) t sums → AreCostsTo net t sums
costs_of_sums net t sums are = record { count = are.count; each = λ v inside. distance_of_sums net (costs_of net) t sums are v }

-- no path leads from a node without a cost, and one from a node with a cost
pub no_cost_no_path : (net : Network) (s t : ℕ) (sums : List (Option ℕ)) → AreCostsTo net t sums → s < node_count net → distance_at sums s ≡ None →
    HasPath net s t → ⊥
no_cost_no_path net s t sums are inside none (links, some, chain) = subst (IsDistance net (costs_of net) s t) none (are.each s inside) links chain

pub cost_has_path : (net : Network) (s t x : ℕ) (sums : List (Option ℕ)) → AreCostsTo net t sums → s < node_count net → (s ≡ t → ⊥) →
    distance_at sums s ≡ Some x → HasPath net s t
cost_has_path net s t x sums are inside apart at =
    let is = subst (IsDistance net (costs_of net) s t) at (are.each s inside) in
    go is.0.0 (and_parts (chains net s t is.0.0) (is_distinct (nodes_visited net s is.0.0)) is.0.1).0
  where
    go : (links : List ℕ) → chains net s t links ≡ true → HasPath net s t
    go [] chain = absurd (apart (eqb-true s t chain))
    go (h ∷ hs) chain = (h ∷ hs, omega arith, chain)

-- the destination costs nothing
pub cost_at_end : (net : Network) (t : ℕ) (sums : List (Option ℕ)) → AreCostsTo net t sums → t < node_count net → distance_at sums t ≡ Some 0
cost_at_end net t sums are inside = zero_at_start net (costs_of net) t (distance_at sums t) (are.each t inside)

-- the cost falls along a next link by its cost
pub next_parts : (net : Network) (sums : List (Option ℕ)) (h : ℕ) → is_next net sums h ≡ true →
    (y : ℕ) × (distance_at sums (head_of net h) ≡ Some y) × (distance_at sums (tail_of net h) ≡ Some (cost_of net h + y))
next_parts net sums h is = is_sum_parts (distance_at sums (tail_of net h)) (distance_at sums (head_of net h)) (cost_of net h) is

cost_at : (net : Network) (h : ℕ) → h < link_count net → slice_index (costs_of net) h ≡ cost_of net h
cost_at net h inside = get_or-map (λ (l : Link). l.cost) net.links h no_link 0 inside

next_at : (net : Network) (sums : List (Option ℕ)) (v h x y : ℕ) → tail_of net h ≡ v → distance_at sums v ≡ Some x → distance_at sums (head_of net h) ≡ Some y →
    x ≡ cost_of net h + y → is_next_of net sums v h ≡ true
next_at net sums v h x y from at to sum =
    let tail : distance_at sums (tail_of net h) ≡ Some x = ap (distance_at sums) from ∙ at in
    let is : is_next net sums h ≡ is_sum (Some x) (Some y) (cost_of net h) =
    ap (λ o. is_sum o (distance_at sums (head_of net h)) (cost_of net h)) tail ∙ ap (λ o. is_sum (Some x) o (cost_of net h)) to
    in
    and_from (tail_of net h == v) (is_next net sums h) (eq-eqb (tail_of net h) v from) (is ∙ eq-eqb x (cost_of net h + y) sum)

-- a next link is counted at its tail
counted : (net : Network) (sums : List (Option ℕ)) (v h : ℕ) → h < link_count net → is_next_of net sums v h ≡ true → 0 < next_count net sums v
counted net sums v h inside next =
    omega (arith, sum_below-term (link_count net) h (λ k. if is_next_of net sums v k then 1 else 0) inside, if_true (is_next_of net sums v h) 1 next)

pub counted_at_tail : (net : Network) (sums : List (Option ℕ)) (h : ℕ) → h < link_count net → is_next net sums h ≡ true → 0 < next_count net sums (tail_of net h)
counted_at_tail net sums h inside next =
    counted net sums (tail_of net h) h inside (and_from (tail_of net h == tail_of net h) (is_next net sums h) (eq-eqb (tail_of net h) (tail_of net h) refl) next)

-- a node with a cost, other than the destination, has a next link
pub some_next : (net : Network) (t : ℕ) (sums : List (Option ℕ)) → AreCostsTo net t sums → LinksJoinNodes net →
    (v x : ℕ) → v < node_count net → (v ≡ t → ⊥) → distance_at sums v ≡ Some x → 0 < next_count net sums v
some_next net t sums are ends v x inside apart at =
    let is = subst (IsDistance net (costs_of net) v t) at (are.each v inside) in
    go is.0.0 (and_parts (chains net v t is.0.0) (is_distinct (nodes_visited net v is.0.0)) is.0.1).0 is.0.2 is.1
  where
    onward : (h : ℕ) (hs : List ℕ) (o : Option ℕ) → h < link_count net → tail_of net h ≡ v → chains net (head_of net h) t hs ≡ true →
        sum_along (costs_of net) (h ∷ hs) ≡ x → ((links : List ℕ) → chains net v t links ≡ true → x ≤ sum_along (costs_of net) links) →
        distance_at sums (head_of net h) ≡ o → IsDistance net (costs_of net) (head_of net h) t o → 0 < next_count net sums v
    onward h hs None below from chain sum least to is = absurd (is hs chain)
    onward h hs (Some y) below from chain sum least to is =
        let chain_q = (and_parts (chains net (head_of net h) t is.0.0) (is_distinct (nodes_visited net (head_of net h) is.0.0)) is.0.1).0 in
        let first : (nat_lt h (link_count net) && tail_of net h == v) ≡ true =
        and_from (nat_lt h (link_count net)) (tail_of net h == v) (lt-ltb h (link_count net) below) (eq-eqb (tail_of net h) v from)
        in
        let low = least (h ∷ is.0.0) (and_from (nat_lt h (link_count net) && tail_of net h == v) (chains net (head_of net h) t is.0.0) first chain_q) in
        let high = is.1 hs chain in
        counted net sums v h below (next_at net sums v h x y from at to (omega (arith, low, high, sum, is.0.2, cost_at net h below)))

    go : (links : List ℕ) → chains net v t links ≡ true → sum_along (costs_of net) links ≡ x →
        ((links : List ℕ) → chains net v t links ≡ true → x ≤ sum_along (costs_of net) links) → 0 < next_count net sums v
    go [] chain sum least = absurd (apart (eqb-true v t chain))
    go (h ∷ hs) chain sum least =
        let outer = and_parts (nat_lt h (link_count net) && tail_of net h == v) (chains net (head_of net h) t hs) chain in
        let inner = and_parts (nat_lt h (link_count net)) (tail_of net h == v) outer.0 in
        let below = ltb-true h (link_count net) inner.0 in
        onward h hs (distance_at sums (head_of net h)) below (eqb-true (tail_of net h) v inner.1) outer.1 sum least refl (are.each (head_of net h) (ends h below).1)

is_sum-none : (o : Option ℕ) (l : ℕ) → is_sum o None l ≡ false
is_sum-none None l = refl
is_sum-none (Some x) l = refl

-- no next link leaves or reaches a node without a cost
pub no_next_from : (net : Network) (sums : List (Option ℕ)) (h v : ℕ) → distance_at sums v ≡ None → tail_of net h ≡ v → is_next net sums h ≡ false
no_next_from net sums h v none from = ap (λ o. is_sum o (distance_at sums (head_of net h)) (cost_of net h)) (ap (distance_at sums) from ∙ none)

pub no_next_to : (net : Network) (sums : List (Option ℕ)) (h v : ℕ) → distance_at sums v ≡ None → head_of net h ≡ v → is_next net sums h ≡ false
no_next_to net sums h v none to =
    ap (λ o. is_sum (distance_at sums (tail_of net h)) o (cost_of net h)) (ap (distance_at sums) to ∙ none) ∙ is_sum-none (distance_at sums (tail_of net h)) (cost_of net h)
