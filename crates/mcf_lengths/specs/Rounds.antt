-- The rounds of multicommodity flow: each pair takes its least path by lengths that grow with the loads of the rounds before
-- (multiplicative weights; Garg and Könemann, 1998).
use Rattle.std.specs.Prelude.{◌≡◌, ℕ, zero, suc, ◌*◌, ◌<◌, ◌≤◌, ◌^◌, List, [], Some, All, length, map, max, slice_index, slice_index_or}
use Rattle.te_model.specs.declared.network.Network.{Network}
use Rattle.te_model.specs.declared.route.Pair.{Pair}
use Rattle.te_model.specs.declared.route.PairRoutes.{PairRoutes}
use Rattle.te_model.specs.declared.route.PathShare.{PathShare}
use Rattle.te_model.specs.Network.{link_count}
use Rattle.shortest_path.specs.Paths.{IsLeastPath}
use Rattle.scheme.specs.Fixed.{IsRoutingBy}
use Rattle.scheme.specs.Reach.{pair_at}
use Rattle.routing.specs.Even.{IsEvenMix}
use Rattle.multiplicative_lengths.specs.Growth.{greatest_usage, lengths_of, multipliers_after}
use Rattle.multiplicative_lengths.specs.Loads.{loads_of}
use Rattle.rate_sweeps.specs.Sweeps.{links_in}
use Rattle.mcf_lengths.specs.declared.round.FlowRound.{FlowRound}
use Rattle.mcf_lengths.specs.declared.round.TheConstants.{ROUNDS}

-- what stands for a round that is not there
abbrev pub no_flow_round : FlowRound
no_flow_round = record { lengths = []; paths = [] }

abbrev pub flow_round_at : List FlowRound → ℕ → FlowRound
flow_round_at rounds j = slice_index_or rounds j no_flow_round

-- the path of each pair in the round
abbrev pub paths_of_round : FlowRound → List (List ℕ)
paths_of_round round = map links_in round.paths

-- the path of pair p in each round
abbrev pub round_paths_of_pair : List FlowRound → ℕ → List (List ℕ)
round_paths_of_pair rounds p = map (λ r. slice_index_or (paths_of_round r) p []) rounds

-- the load of a link is the sum of the demands of the pairs whose path holds it
abbrev pub loads_in : Network → List ℕ → FlowRound → List ℕ
loads_in net demand round = loads_of net (slice_index demand) (paths_of_round round)

-- the greatest usage of a link in the rounds before round j, in millionths, and at least 1
abbrev pub most_before : Network → List ℕ → List FlowRound → ℕ → ℕ
most_before net demand rounds zero = 1
most_before net demand rounds (suc j) =
    max (most_before net demand rounds j) (greatest_usage net (loads_in net demand (flow_round_at rounds j)))

-- the loads of round j
abbrev pub flow_loads : Network → List ℕ → List FlowRound → ℕ → List ℕ
flow_loads net demand rounds j = loads_in net demand (flow_round_at rounds j)

-- four times the greatest usage up to round j
abbrev pub flow_divisor : Network → List ℕ → List FlowRound → ℕ → ℕ
flow_divisor net demand rounds j = 4 * most_before net demand rounds (suc j)

-- the multipliers of round j: the first ones, grown by the loads of each round before it over four times the greatest usage
-- up to that round
abbrev pub flow_multipliers : Network → List ℕ → List FlowRound → ℕ → List ℕ
flow_multipliers net demand rounds j = multipliers_after net (flow_loads net demand rounds) (flow_divisor net demand rounds) j

-- for each pair its least path by (sum of lengths, list of link numbers)
pub record AreLeastPaths (net : Network) (lengths : List ℕ) (pairs : List Pair) (paths : List (List ℕ)) : Type 0 where
  pub count : length paths ≡ length pairs
  pub each : (p : ℕ) → p < length pairs → IsLeastPath net lengths (pair_at pairs p).src (pair_at pairs p).dst (Some (slice_index_or paths p []))

-- the round of these multipliers
pub record IsFlowRound (net : Network) (pairs : List Pair) (multipliers : List ℕ) (round : FlowRound) : Type 0 where
  pub lengths : round.lengths ≡ lengths_of net multipliers
  pub paths : AreLeastPaths net round.lengths pairs (paths_of_round round)

pub record AreFlowRounds (net : Network) (pairs : List Pair) (demand : List ℕ) (rounds : List FlowRound) : Type 0 where
  pub count : length rounds ≡ ROUNDS
  pub each : (j : ℕ) → j < ROUNDS → IsFlowRound net pairs (flow_multipliers net demand rounds j) (flow_round_at rounds j)

-- the least path of the pair in each round
pub record AreRoundPaths (net : Network) (rounds : List FlowRound) (pair : Pair) (paths : List (List ℕ)) : Type 0 where
  pub count : length paths ≡ length rounds
  pub each : (j : ℕ) → j < length rounds → IsLeastPath net (flow_round_at rounds j).lengths pair.src pair.dst (Some (slice_index_or paths j []))

-- the demand of the pair goes in even parts over its paths of the rounds
abbrev pub IsRoundsSplit : List FlowRound → Network → Pair → List PathShare → Type 0
IsRoundsSplit rounds net pair shares = (paths : List (List ℕ)) × AreRoundPaths net rounds pair paths × IsEvenMix paths shares

-- the routing of the rounds for these demands
abbrev pub IsRoundsRouting : Network → List Pair → List ℕ → List PairRoutes → Type 0
IsRoundsRouting net pairs demand routes =
    (rounds : List FlowRound) × AreFlowRounds net pairs demand rounds × IsRoutingBy (IsRoundsSplit rounds) ROUNDS net pairs routes

-- the lengths of each round for these demands
abbrev pub AreRoundLengths : Network → List Pair → List ℕ → List (List ℕ) → Type 0
AreRoundLengths net pairs demand lengths =
    (rounds : List FlowRound) × AreFlowRounds net pairs demand rounds × (lengths ≡ map (λ r. r.lengths) rounds)

-- one length of 1 to 2^28 for each link
pub record AreLengths (net : Network) (lengths : List ℕ) : Type 0 where
  pub count : length lengths ≡ link_count net
  pub some : All (λ l. 1 ≤ l) lengths
  pub limit : All (λ l. l ≤ 2 ^ 28) lengths
