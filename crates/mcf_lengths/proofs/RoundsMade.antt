-- The rounds of multicommodity flow exist: each pair with a path has a least path by the lengths of each round.
use Rattle.std.proofs.Common.{◌≡◌, ℕ, zero, suc, ◌+◌, ◌*◌, ◌≤◌, true, List, [], ◌∷◌, ◌++◌, Option, Some, None, All, length, map, arith, ap, refl, sym, subst}
use Rattle.std.proofs.lemmas.List.{map_push}
use Rattle.std.proofs.lemmas.List.Elements.{All-get_or}
use Rattle.te_model.specs.declared.network.Network.{Network}
use Rattle.te_model.specs.declared.route.Pair.{Pair}
use Rattle.te_model.specs.declared.route.Path.{Path}
use Rattle.te_model.specs.Network.{is_well_formed, link_count}
use Rattle.shortest_path.specs.Paths.{HasPath, IsLeastPath}
use Rattle.shortest_path.proofs.Existence.{least_paths_exist}
use Rattle.scheme.specs.Reach.{AllReached, ArePairsOf, IsPairOf, no_pair, pair_at}
use Rattle.multiplicative_lengths.specs.Growth.{first_multipliers, grown_multipliers, lengths_of}
use Rattle.multiplicative_lengths.proofs.Rounds.{RoundsSoFar, rounds_more, rounds_none}
use Rattle.rate_sweeps.specs.Sweeps.{links_in}
use Rattle.mcf_lengths.specs.declared.round.FlowRound.{FlowRound}
use Rattle.mcf_lengths.specs.declared.round.TheConstants.{ROUNDS}
use Rattle.mcf_lengths.specs.Rounds.{AreLengths, AreFlowRounds, IsFlowRound, flow_divisor, flow_loads, no_flow_round}
use Rattle.mcf_lengths.proofs.LeastPaths.{PathsSoFar, paths_done, paths_more, paths_none}
use Rattle.mcf_lengths.proofs.Lengthening.{IsRoundOf, lengths_are, loads_kept, most_kept}

-- a pair with a path has a least one
least_of_pair : (net : Network) (lengths : List ℕ) (pair : Pair) → is_well_formed net ≡ true → AreLengths net lengths → IsPairOf net pair →
    HasPath net pair.src pair.dst → (path : List ℕ) × IsLeastPath net lengths pair.src pair.dst (Some path)
least_of_pair net lengths pair formed are ends has =
    let (p, least) = least_paths_exist net lengths formed are.count are.some pair.src pair.dst ends.src_inside ends.dst_inside in
    go p least
  where
    go : (p : Option (List ℕ)) → IsLeastPath net lengths pair.src pair.dst p → (path : List ℕ) × IsLeastPath net lengths pair.src pair.dst (Some path)
    go None none = absurd (none has.0 has.2)
    go (Some path) least = (path, least)

-- the least paths of the first p pairs
paths_to : (net : Network) (lengths : List ℕ) (pairs : List Pair) → is_well_formed net ≡ true → AreLengths net lengths → ArePairsOf net pairs →
    AllReached net pairs → (p : ℕ) → p ≤ length pairs → (paths : List Path) × PathsSoFar net lengths pairs p (map links_in paths)
paths_to net lengths pairs formed are ends reached zero within = ([], paths_none net lengths pairs)
paths_to net lengths pairs formed are ends reached (suc p) within =
    let (paths, far) = paths_to net lengths pairs formed are ends reached p (omega arith) in
    let (links, least) = least_of_pair net lengths (pair_at pairs p) formed are (All-get_or (IsPairOf net) pairs p no_pair within ends.each) (reached p within) in
    let path : Path = record { links = links } in
    let next : p + 1 ≡ suc p = omega arith in (
      paths ++ path ∷ [],
      subst (λ n. PathsSoFar net lengths pairs n (map links_in (paths ++ path ∷ []))) next
          (subst (PathsSoFar net lengths pairs (p + 1)) (sym (map_push links_in paths path)) (paths_more net lengths pairs p (map links_in paths) links far least)),
    )

-- the round of these multipliers
round_made : (net : Network) (pairs : List Pair) (multipliers : List ℕ) → is_well_formed net ≡ true → ArePairsOf net pairs → AllReached net pairs →
    length multipliers ≡ link_count net → All (λ m. 1 ≤ m) multipliers → (round : FlowRound) × IsFlowRound net pairs multipliers round
round_made net pairs multipliers formed ends reached count some =
    let lengths = lengths_of net multipliers in
    let (paths, far) = paths_to net lengths pairs formed (lengths_are net multipliers lengths formed count some refl) ends reached (length pairs) (omega arith) in
    (record { lengths = lengths; paths = paths }, record { lengths = refl; paths = paths_done net lengths pairs (length pairs) (map links_in paths) far refl })

-- the first j rounds, and the multipliers with which the next one begins
record RoundsTo (net : Network) (pairs : List Pair) (demand : List ℕ) (j : ℕ) : Type 0 where
  rounds : List FlowRound
  multipliers : List ℕ
  far : RoundsSoFar FlowRound no_flow_round (IsRoundOf net pairs) net (flow_loads net demand rounds) (flow_divisor net demand rounds) j multipliers rounds

rounds_to : (net : Network) (pairs : List Pair) (demand : List ℕ) → is_well_formed net ≡ true → ArePairsOf net pairs → AllReached net pairs →
    (j : ℕ) → RoundsTo net pairs demand j
rounds_to net pairs demand formed ends reached zero = record {
  rounds = [];
  multipliers = first_multipliers net;
  far = rounds_none FlowRound no_flow_round (IsRoundOf net pairs) net (flow_loads net demand []) (flow_divisor net demand []) (first_multipliers net) refl;
}
rounds_to net pairs demand formed ends reached (suc j) =
    let before = rounds_to net pairs demand formed ends reached j in
    let rounds = before.rounds in
    let multipliers = before.multipliers in
    let (round, is) = round_made net pairs multipliers formed ends reached before.far.grown.count before.far.grown.some in
    let loads = flow_loads net demand (rounds ++ round ∷ []) in
    let divisor = flow_divisor net demand (rounds ++ round ∷ []) in
    let next = grown_multipliers net (loads j) (divisor j) multipliers in
    let same : j + 1 ≡ suc j = omega arith in
    record {
      rounds = rounds ++ round ∷ [];
      multipliers = next;
      far = subst (λ n. RoundsSoFar FlowRound no_flow_round (IsRoundOf net pairs) net loads divisor n next (rounds ++ round ∷ [])) same
          (rounds_more FlowRound no_flow_round (IsRoundOf net pairs) net (flow_loads net demand rounds) loads (flow_divisor net demand rounds) divisor j multipliers next
          rounds round before.far (λ i below. loads_kept net demand rounds round i (omega (arith, before.far.count, below)))
          (λ i below. ap (λ x. 4 * x) (most_kept net demand rounds round (suc i) (omega (arith, before.far.count, below)))) is (omega arith) refl);
    }

pub rounds_exist : (net : Network) (pairs : List Pair) (demand : List ℕ) → is_well_formed net ≡ true → ArePairsOf net pairs → AllReached net pairs →
    (rounds : List FlowRound) × AreFlowRounds net pairs demand rounds
rounds_exist net pairs demand formed ends reached =
    let made = rounds_to net pairs demand formed ends reached ROUNDS in
    (made.rounds, record { count = made.far.count; each = made.far.each })
