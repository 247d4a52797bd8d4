-- The demand of each pair in even parts over its paths of the rounds.
use Rattle.std.proofs.Common.{◌≡◌, ℕ, ◌<◌, List, [], Some, All, length, map, get_or, arith, ap, sym, ◌∙◌, subst}
use Rattle.std.specs.Prelude.{IsTrue}
use Rattle.std.proofs.lemmas.List.{get_or-map, length-map}
use Rattle.std.proofs.lemmas.List.Elements.{All-from_get_or, All-get_or}
use Rattle.te_model.specs.declared.network.Network.{Network}
use Rattle.te_model.specs.declared.route.Pair.{Pair}
use Rattle.te_model.specs.declared.route.Path.{Path}
use Rattle.te_model.specs.declared.route.PathShare.{PathShare}
use Rattle.te_model.specs.Path.{is_path}
use Rattle.shortest_path.specs.Paths.{IsLeastPath}
use Rattle.scheme.specs.Fixed.{IsSplitBy}
use Rattle.scheme.specs.Reach.{pair_at}
use Rattle.routing.specs.Even.{IsEvenMix}
use Rattle.routing.proofs.EvenSplits.{even_few, even_split}
use Rattle.mcf_lengths.specs.declared.round.FlowRound.{FlowRound}
use Rattle.mcf_lengths.specs.declared.round.TheConstants.{ROUNDS}
use Rattle.rate_sweeps.specs.Sweeps.{links_in}
use Rattle.mcf_lengths.specs.Rounds.{AreLeastPaths, AreRoundPaths, IsRoundsSplit, no_flow_round, paths_of_round, round_paths_of_pair, flow_round_at}

-- a pair has as many paths as there are rounds
pub paths_count : (rounds : List FlowRound) (p : ℕ) (paths : List Path) → map links_in paths ≡ round_paths_of_pair rounds p → length paths ≡ length rounds
paths_count rounds p paths are =
    sym (length-map paths links_in) ∙ (ap (λ (l : List (List ℕ)). length l) are ∙ length-map rounds (λ (r : FlowRound). get_or (paths_of_round r) p []))

-- the paths of pair p are its least paths in the rounds
pub pair_paths : (net : Network) (pairs : List Pair) (rounds : List FlowRound) (p : ℕ) → All (λ r. AreLeastPaths net r.lengths pairs (paths_of_round r)) rounds → p < length pairs →
    AreRoundPaths net rounds (pair_at pairs p) (round_paths_of_pair rounds p)
pair_paths net pairs rounds p least inside = record {
  count = length-map rounds (λ (r : FlowRound). get_or (paths_of_round r) p []);
  each = λ j below.
      let at : get_or (round_paths_of_pair rounds p) j [] ≡ get_or (paths_of_round (flow_round_at rounds j)) p [] =
      get_or-map (λ (r : FlowRound). get_or (paths_of_round r) p []) rounds j no_flow_round [] below
      in
      let here = All-get_or (λ (r : FlowRound). AreLeastPaths net r.lengths pairs (paths_of_round r)) rounds j no_flow_round below least in
      subst (λ l. IsLeastPath net (flow_round_at rounds j).lengths (pair_at pairs p).src (pair_at pairs p).dst (Some l)) (sym at) (here.each p inside);
}

pub sound_paths : (net : Network) (rounds : List FlowRound) (pair : Pair) (paths : List (List ℕ)) → AreRoundPaths net rounds pair paths →
    All (λ p. IsTrue (is_path net pair.src pair.dst p)) paths
sound_paths net rounds pair paths are = All-from_get_or (λ (p : List ℕ). IsTrue (is_path net pair.src pair.dst p)) paths [] (λ j below.
    (are.each j (omega (arith, below, are.count))).0)

pub rounds_split : (net : Network) (pairs : List Pair) (rounds : List FlowRound) (p : ℕ) (merged : List PathShare) → length rounds ≡ ROUNDS →
    All (λ r. AreLeastPaths net r.lengths pairs (paths_of_round r)) rounds → p < length pairs → IsEvenMix (round_paths_of_pair rounds p) merged →
    IsSplitBy (IsRoundsSplit rounds) ROUNDS net (record { pair = pair_at pairs p; paths = merged })
rounds_split net pairs rounds p merged count least inside so =
    let paths = round_paths_of_pair rounds p in
    let are = pair_paths net pairs rounds p least inside in
    record {
      split = even_split net (pair_at pairs p) paths merged (omega (arith, are.count, count)) (omega (arith, are.count, count))
          (sound_paths net rounds (pair_at pairs p) paths are) so;
      few = omega (arith, even_few paths merged so, are.count, count);
      by_rule = (paths, are, so);
    }
