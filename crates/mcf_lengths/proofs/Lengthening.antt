-- The rounds, one after the other, and how their multipliers grow.
use Rattle.std.proofs.Common.{◌≡◌, ℕ, zero, suc, ◌+◌, ◌*◌, ◌<◌, ◌≤◌, ◌^◌, List, [], ◌∷◌, ◌++◌, All, length, map, max, arith, refl, ap, sym, ◌∙◌, subst, true}
use Rattle.std.proofs.lemmas.List.{get_or_append_left, get_or_push}
use Rattle.std.proofs.lemmas.List.Elements.{All-from_get_or, All-map}
use Rattle.te_model.specs.declared.network.Network.{Network}
use Rattle.te_model.specs.declared.route.Pair.{Pair}
use Rattle.te_model.specs.Network.{is_well_formed, link_count}
use Rattle.multiplicative_lengths.specs.Growth.{first_multipliers, greatest_usage, grown_multipliers, length_of, lengths_of}
use Rattle.multiplicative_lengths.proofs.EachLink.{count_each}
use Rattle.multiplicative_lengths.proofs.LengthLimits.{lengths_limit, lengths_some}
use Rattle.multiplicative_lengths.proofs.Rounds.{RoundsSoFar, multipliers_grown, rounds_more, rounds_none}
use Rattle.mcf_lengths.specs.declared.round.FlowRound.{FlowRound}
use Rattle.mcf_lengths.specs.declared.round.TheConstants.{ROUNDS}
use Rattle.mcf_lengths.specs.Rounds.{AreLeastPaths, AreLengths, AreFlowRounds, IsFlowRound, flow_divisor, flow_loads, flow_multipliers, flow_round_at, loads_in, most_before, no_flow_round, paths_of_round}

-- what the rounds so far give stays so
pub loads_kept : (net : Network) (demand : List ℕ) (rounds : List FlowRound) (round : FlowRound) (j : ℕ) → j < length rounds →
    flow_loads net demand rounds j ≡ flow_loads net demand (rounds ++ round ∷ []) j
loads_kept net demand rounds round j below =
    ap (λ (r : FlowRound). loads_in net demand r) (sym (get_or_append_left rounds (round ∷ []) no_flow_round j below))

pub most_kept : (net : Network) (demand : List ℕ) (rounds : List FlowRound) (round : FlowRound) (j : ℕ) → j ≤ length rounds →
    most_before net demand rounds j ≡ most_before net demand (rounds ++ round ∷ []) j
most_kept net demand rounds round zero within = refl
most_kept net demand rounds round (suc j) within =
    ap (λ x. max x (greatest_usage net (flow_loads net demand rounds j))) (most_kept net demand rounds round j (omega arith))
    ∙ ap (λ l. max (most_before net demand (rounds ++ round ∷ []) j) (greatest_usage net l)) (loads_kept net demand rounds round j (omega arith))

-- a round of these multipliers, whichever its number
abbrev pub IsRoundOf : Network → List Pair → ℕ → List ℕ → FlowRound → Type 0
IsRoundOf net pairs i multipliers round = IsFlowRound net pairs multipliers round

-- the first j rounds, and what the next one begins with
pub record FlowSoFar (net : Network) (pairs : List Pair) (demand : List ℕ) (j most : ℕ) (multipliers : List ℕ) (rounds : List FlowRound) : Type 0 where
  pub far : RoundsSoFar FlowRound no_flow_round (IsRoundOf net pairs) net (flow_loads net demand rounds) (flow_divisor net demand rounds) j multipliers rounds
  pub most_is : most ≡ most_before net demand rounds j
  pub small : most < 2 ^ 84

pub flow_none : (net : Network) (pairs : List Pair) (demand multipliers : List ℕ) → multipliers ≡ first_multipliers net →
    FlowSoFar net pairs demand 0 1 multipliers []
flow_none net pairs demand multipliers first = record {
  far = rounds_none FlowRound no_flow_round (IsRoundOf net pairs) net (flow_loads net demand []) (flow_divisor net demand []) multipliers first;
  most_is = refl;
  small = omega arith;
}

pub flow_more : (net : Network) (pairs : List Pair) (demand : List ℕ) (j most most' : ℕ) (multipliers next : List ℕ) (rounds : List FlowRound) (round : FlowRound) →
    FlowSoFar net pairs demand j most multipliers rounds → IsFlowRound net pairs multipliers round →
    most' ≡ max most (greatest_usage net (loads_in net demand round)) → most' < 2 ^ 84 →
    next ≡ grown_multipliers net (loads_in net demand round) (4 * most') multipliers →
    FlowSoFar net pairs demand (j + 1) most' next (rounds ++ round ∷ [])
flow_more net pairs demand j most most' multipliers next rounds round so is greatest fits grows = record {
  far = rounds_more FlowRound no_flow_round (IsRoundOf net pairs) net (flow_loads net demand rounds) (flow_loads net demand (rounds ++ round ∷ []))
      (flow_divisor net demand rounds) (flow_divisor net demand (rounds ++ round ∷ [])) j multipliers next rounds round so.far
      (λ i below. loads_kept net demand rounds round i (omega (arith, so.far.count, below)))
      (λ i below. ap (λ x. 4 * x) (most_kept net demand rounds round (suc i) (omega (arith, so.far.count, below)))) is (omega arith)
      (grows
      ∙ (ap (λ x. grown_multipliers net (loads_in net demand round) (4 * x) multipliers) most_after
      ∙ ap (λ l. grown_multipliers net l (flow_divisor net demand (rounds ++ round ∷ []) j) multipliers) (sym new)));
  most_is = subst (λ n. most' ≡ most_before net demand (rounds ++ round ∷ []) n) suc_is most_after;
  small = fits;
}
  where
    new : flow_loads net demand (rounds ++ round ∷ []) j ≡ loads_in net demand round
    new = ap (λ (r : FlowRound). loads_in net demand r) (get_or_push rounds round no_flow_round j so.far.count)

    suc_is : suc j ≡ j + 1
    suc_is = omega arith

    most_after : most' ≡ most_before net demand (rounds ++ round ∷ []) (suc j)
    most_after =
        greatest
        ∙ (ap (λ x. max x (greatest_usage net (loads_in net demand round))) (so.most_is ∙ most_kept net demand rounds round j (omega (arith, so.far.count)))
        ∙ ap (λ l. max (most_before net demand (rounds ++ round ∷ []) j) (greatest_usage net l)) (sym new))

pub flow_done : (net : Network) (pairs : List Pair) (demand : List ℕ) (j most : ℕ) (multipliers : List ℕ) (rounds : List FlowRound) →
    FlowSoFar net pairs demand j most multipliers rounds → j ≡ ROUNDS → AreFlowRounds net pairs demand rounds
flow_done net pairs demand j most multipliers rounds so done = record {
  count = so.far.count ∙ done;
  each = λ i below. so.far.each i (omega (arith, done, below));
}

-- the lengths of a round are within their limits
pub lengths_are : (net : Network) (multipliers lengths : List ℕ) → is_well_formed net ≡ true → length multipliers ≡ link_count net → All (λ m. 1 ≤ m) multipliers →
    lengths ≡ lengths_of net multipliers → AreLengths net lengths
lengths_are net multipliers lengths formed count some are = subst (AreLengths net) (sym are) (record {
  count = count_each net (length_of net multipliers);
  some = lengths_some net multipliers formed count some;
  limit = lengths_limit net multipliers;
})

pub round_lengths : (net : Network) (pairs : List Pair) (demand : List ℕ) (rounds : List FlowRound) → is_well_formed net ≡ true → AreFlowRounds net pairs demand rounds →
    All (λ r. AreLengths net r.lengths) rounds
round_lengths net pairs demand rounds formed are = All-from_get_or (λ (r : FlowRound). AreLengths net r.lengths) rounds no_flow_round (λ j below.
    let far = multipliers_grown net (flow_loads net demand rounds) (flow_divisor net demand rounds) j (λ i before. omega arith) in
    lengths_are net (flow_multipliers net demand rounds j) (flow_round_at rounds j).lengths formed far.count far.some (are.each j (omega (arith, below, are.count))).lengths)

-- each round has the least paths by its lengths
pub round_paths : (net : Network) (pairs : List Pair) (demand : List ℕ) (rounds : List FlowRound) → AreFlowRounds net pairs demand rounds →
    All (λ r. AreLeastPaths net r.lengths pairs (paths_of_round r)) rounds
round_paths net pairs demand rounds are = All-from_get_or (λ (r : FlowRound). AreLeastPaths net r.lengths pairs (paths_of_round r)) rounds no_flow_round (λ j below.
    (are.each j (omega (arith, below, are.count))).paths)

-- the lengths that are taken out of the rounds are within their limits
pub taken_lengths : (net : Network) (pairs : List Pair) (demand : List ℕ) (rounds : List FlowRound) (lengths : List (List ℕ)) → is_well_formed net ≡ true →
    AreFlowRounds net pairs demand rounds → lengths ≡ map (λ (r : FlowRound). r.lengths) rounds → All (AreLengths net) lengths
taken_lengths net pairs demand rounds lengths formed are taken =
    subst (All (AreLengths net)) (sym taken)
    (All-map (AreLengths net) (λ (r : FlowRound). r.lengths) rounds (round_lengths net pairs demand rounds formed are))
