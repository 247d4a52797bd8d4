-- In a drawn network some links lead from each node to each other one: along the ring. It has links, and it is well formed.
use Rattle.std.proofs.Common.{ℕ, zero, suc, ◌+◌, ◌-◌, ◌%◌, ◌<◌, ◌≤◌, ◌≡◌, ◌∙◌, sym, ap, subst, List, [], ◌∷◌, ◌++◌, length, get_or, take, true, arith}
use Rattle.std.specs.List.{flat_map, range_with_len}
use Rattle.std.proofs.Math.Nat.{mod-eq_of_lt, mod_self}
use Rattle.std.proofs.lemmas.Bool.{eq-eqb}
use Rattle.std.proofs.lemmas.List.{get_or_append_left, length-append}
use Rattle.std.proofs.lemmas.List.Concat.{get_or-flat_map}
use Rattle.std.proofs.lemmas.List.Folds.{length-flat_map-take}
use Rattle.std.proofs.lemmas.List.FromFn.{get_or-range_with_len, length-range_with_len}
use Rattle.te_model.specs.declared.network.Link.{Link}
use Rattle.te_model.specs.declared.network.Network.{Network}
use Rattle.te_model.specs.Network.{head_of, link_at, link_count, no_link, tail_of}
use Rattle.te_model.specs.Path.{chains}
use Rattle.te_model.proofs.Chains.{chain_from, chains-append}
use Rattle.shortest_path.specs.Paths.{HasPath}
use Rattle.random_network.specs.Drawn.{IsConnected, chords_of, network_of, ring_links, ring_of}
use Rattle.random_network.specs.Laws.{DrawnNetworksAreFormed}
use Rattle.random_network.proofs.Formed.{drawn_well_formed, nodes_are, ring_length}

-- a link from one node to another
record LinkBetween (net : Network) (i j : ℕ) : Type 0 where
  link : ℕ
  inside : link < link_count net
  from : tail_of net link ≡ i
  to : head_of net link ≡ j

-- the first of the links of node i in the ring
ring_link : (n seed i : ℕ) → i < n → LinkBetween (network_of n seed) i ((i + 1) % n)
ring_link n seed i low =
    let net = network_of n seed in
    let f = ring_links n seed in
    let nodes = range_with_len 0 n in
    let count = length-range_with_len 0 n in
    let here : get_or nodes i 0 ≡ i = get_or-range_with_len 0 n i 0 low ∙ omega arith in
    let before = length (flat_map f (take i nodes)) in
    let fits = length-flat_map-take f nodes i 0 (omega (arith, count)) in
    let inside : before + 0 < length (ring_of n seed) = omega (arith, fits) in
    let at : link_at net (before + 0) ≡ get_or (f i) 0 no_link =
    get_or_append_left (ring_of n seed) (chords_of n seed) no_link (before + 0) inside
    ∙ get_or-flat_map f nodes i 0 0 no_link (omega (arith, count)) (omega arith)
    ∙ ap (λ k. get_or (f k) 0 no_link) here in
    record {
      link = before + 0;
      inside = omega (arith, inside, length-append (ring_of n seed) (chords_of n seed));
      from = ap (λ (l : Link). l.tail) at;
      to = ap (λ (l : Link). l.head) at;
    }

-- from a node to one that stands k places on
up : (n seed s k : ℕ) → s + k < n → (links : List ℕ) × (chains (network_of n seed) s (s + k) links ≡ true)
up n seed s zero low = ([], eq-eqb s (s + 0) (omega arith))
up n seed s (suc k) low =
    let net = network_of n seed in
    let so_far = up n seed s k (omega arith) in
    let next = ring_link n seed (s + k) (omega arith) in
    let to : head_of net next.link ≡ s + suc k = next.to ∙ mod-eq_of_lt (omega arith) ∙ omega arith in (
      so_far.0 ++ next.link ∷ [],
      chains-append net s (s + k) (s + suc k) so_far.0 (next.link ∷ []) so_far.1
          (chain_from net (s + k) (s + suc k) next.link [] next.inside next.from (eq-eqb (head_of net next.link) (s + suc k) to)),
    )

-- from a node to the last one, from there to the first one, and on
around : (n seed s t : ℕ) → s < n → t < n → HasPath (network_of n seed) s t
around n seed s t s_low t_low =
    let net = network_of n seed in
    let k = n - 1 - s in
    let there = up n seed s k (omega arith) in
    let next = ring_link n seed (s + k) (omega arith) in
    let rest = up n seed 0 t (omega arith) in
    let to : head_of net next.link ≡ 0 = next.to ∙ ap (λ m. m % n) (let e : s + k + 1 ≡ n = omega arith in e) ∙ mod_self n in
    let on : chains net (head_of net next.link) t rest.0 ≡ true = subst (λ v. chains net v t rest.0 ≡ true) (sym to) (subst (λ u. chains net 0 u rest.0 ≡ true) (let e : 0 + t ≡ t = omega arith in e) rest.1) in (
      there.0 ++ next.link ∷ rest.0,
      omega (arith, length-append there.0 (next.link ∷ rest.0)),
      chains-append net s (s + k) t there.0 (next.link ∷ rest.0) there.1 (chain_from net (s + k) t next.link rest.0 next.inside next.from on),
    )

pub drawn_connected : (n seed : ℕ) → IsConnected (network_of n seed)
drawn_connected n seed pair among =
    let nodes = nodes_are n seed in
    let src = among.src_inside in
    let dst = among.dst_inside in
    around n seed pair.src pair.dst (omega (arith, nodes, src)) (omega (arith, nodes, dst))

pub drawn_links : (n seed : ℕ) → 1 ≤ n → 1 ≤ link_count (network_of n seed)
drawn_links n seed some = omega (arith, length-append (ring_of n seed) (chords_of n seed), ring_length n seed)

pub drawn_networks_are_formed : DrawnNetworksAreFormed
drawn_networks_are_formed n seed two few = (drawn_well_formed n seed two few, drawn_links n seed (omega arith), drawn_connected n seed)
