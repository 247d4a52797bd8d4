-- Traffic with predictions is within the limits, and predictions of no further pair leave what is sent as it is.
use Rattle.std.proofs.Common.{ℕ, zero, suc, ◌+◌, ◌^◌, ◌<◌, ◌≤◌, ◌≡◌, ◌∙◌, refl, sym, ap, subst, List, [], ◌∷◌, length, get_or, map, filter, All, AllPairs, Bool, true, false, ◌||◌, cond, Option, None, Some, arith, inl, inr}
use Rattle.std.specs.Prelude.{IfSome}
use Rattle.std.specs.List.{range_with_len}
use Rattle.std.proofs.lemmas.Bool.{cases_lt, false≢true}
use Rattle.std.proofs.lemmas.List.{get_or-map, length-map}
use Rattle.std.proofs.lemmas.List.FromFn.{fill_by_all, get_or-map-range_with_len, length-map-range_with_len}
use Rattle.te_model.specs.declared.demand.Matrix.{Matrix}
use Rattle.te_model.specs.declared.route.Pair.{Pair}
use Rattle.te_model.specs.Pairs.{no_pair, AreDemands, AscendPairs, IsPairAmong}
use Rattle.te_model.proofs.AscendingPairs.{Below, all_ascend}
use Rattle.te_model.proofs.Tests.{get_or_past}
use Rattle.traffic_matrix.specs.declared.series.Series.{Series}
use Rattle.traffic_matrix.specs.Laws.{SentStays, TrafficIsInRange}
use Rattle.traffic_matrix.specs.Limits.{IsSeries}
use Rattle.traffic_matrix.specs.Pairs.{all_pairs, same_pair}
use Rattle.traffic_matrix.specs.Text.{no_matrix}
use Rattle.traffic_matrix.specs.Traffic.{ArePredictionsFor, IsTraffic, demand_for, demands_in, has_pair, matrix_over, pairs_of_either, predicted_traffic, series_over, traffic_of}
use Rattle.traffic_matrix.proofs.PairDemands.{own-only}
use Rattle.traffic_matrix.proofs.PairLists.{Mem}
use Rattle.traffic_matrix.proofs.PairUnion.{either-among, either-ascend, node-pairs, own-of-all}

demand-small : (own : List Pair) (demand : List ℕ) (q : Pair) → All (λ d. d ≤ 2 ^ 32) demand → demand_for own demand q ≤ 2 ^ 32
demand-small [] demand q small = omega arith
demand-small (p ∷ ps) [] q small = omega arith
demand-small (p ∷ ps) (d ∷ ds) q small = go (same_pair p q) (demand-small ps ds q (λ k e low. small (suc k) e (omega arith)))
  where
    go : (b : Bool) → demand_for ps ds q ≤ 2 ^ 32 → cond b d (demand_for ps ds q) ≤ 2 ^ 32
    go true rest = small 0 0 (omega arith)
    go false rest = rest

-- the demands of each step are small, also of one that is not there
demands-small : (n : ℕ) (series : Series) (k : ℕ) → IsSeries n series → All (λ d. d ≤ 2 ^ 32) (demands_in series k)
demands-small n series k is = elim (cases_lt k (length series.steps)) [
  | inl low ↦ (is.matrices k no_matrix low).small
  | inr past ↦
      let none : demands_in series k ≡ [] = ap (λ (m : Matrix). m.demand) (get_or_past series.steps k no_matrix past) in
      subst (All (λ d. d ≤ 2 ^ 32)) (sym none) (λ j d low. absurd (omega arith))
]

matrix-limits : (n : ℕ) (pairs : List Pair) (series : Series) (k : ℕ) → IsSeries n series → AreDemands (length pairs) (matrix_over pairs series k).demand
matrix-limits n pairs series k is = record {
  count = simp length-map;
  small = λ j d low.
      let inside : j < length pairs = simp length-map at low in
      rw (get_or-map (demand_for series.pairs.list (demands_in series k)) pairs j no_pair d inside)
      (demand-small series.pairs.list (demands_in series k) (get_or pairs j no_pair) (demands-small n series k is));
}

-- a series over other pairs and steps
pub over-limits : (n : ℕ) (pairs : List Pair) (count : ℕ) (series : Series) → All (IsPairAmong n) pairs → AscendPairs pairs → count ≤ 1024 →
    IsSeries n series → IsSeries n (series_over pairs count series)
over-limits n pairs count series among ascend few is = record {
  pairs = among;
  ascending = ascend;
  few = omega (arith, length-map-range_with_len (matrix_over pairs series) 0 count, few);
  matrices = λ k d low.
      let inside : k < count = omega (arith, length-map-range_with_len (matrix_over pairs series) 0 count) in
      rw (get_or-map-range_with_len (matrix_over pairs series) 0 count k k d inside (omega arith)) (matrix-limits n pairs series k is);
}

pub predicted-limits : (n : ℕ) (sent predictions : Series) → IsSeries n sent → IsSeries n predictions → IsTraffic n (predicted_traffic n sent predictions)
predicted-limits n sent predictions is are =
    let pairs = pairs_of_either n sent.pairs.list predictions.pairs.list in
    let count = length sent.steps in
    let among = either-among n sent.pairs.list predictions.pairs.list is.pairs are.pairs in
    let ascend = either-ascend n sent.pairs.list predictions.pairs.list in
    record {
      sent = over-limits n pairs count sent among ascend is.few is;
      predicted = record {
        series = over-limits n pairs count predictions among ascend is.few are;
        pairs = refl;
        count = length-map-range_with_len (matrix_over pairs predictions) 0 count ∙ sym (length-map-range_with_len (matrix_over pairs sent) 0 count);
      };
    }

-- the traffic of matrices and of their predictions, if there are some
pub traffic_limits : (n : ℕ) (sent : Series) (predictions : Option Series) → IsSeries n sent → IfSome predictions (IsSeries n) → IsTraffic n (traffic_of n sent predictions)
traffic_limits n sent None is are = record { sent = is; predicted = tt }
traffic_limits n sent (Some predictions) is are = predicted-limits n sent predictions is are

-- it has the steps that are sent
pub steps_stay : (n : ℕ) (sent : Series) (predictions : Option Series) → length (traffic_of n sent predictions).sent.steps ≡ length sent.steps
steps_stay n sent None = refl
steps_stay n sent (Some predictions) =
    length-map-range_with_len (matrix_over (pairs_of_either n sent.pairs.list predictions.pairs.list) sent) 0 (length sent.steps)

pub traffic_is_in_range : TrafficIsInRange
traffic_is_in_range n sent predictions is are = (record { sent = is; predicted = tt }, predicted-limits n sent predictions is are)

-- lists that have the same pairs are those of either
same-either : (n : ℕ) (own others : List Pair) → ((q : Pair) → has_pair others q ≡ true → has_pair own q ≡ true) → (pairs : List Pair) →
    filter (λ q. has_pair own q || has_pair others q) pairs ≡ filter (has_pair own) pairs
same-either n own others says [] = refl
same-either n own others says (p ∷ ps) = go (has_pair own p) (has_pair others p) refl refl (same-either n own others says ps)
  where
    go : (a b : Bool) → has_pair own p ≡ a → has_pair others p ≡ b → filter (λ q. has_pair own q || has_pair others q) ps ≡ filter (has_pair own) ps →
        cond (a || b) (p ∷ filter (λ q. has_pair own q || has_pair others q) ps) (filter (λ q. has_pair own q || has_pair others q) ps)
        ≡ cond a (p ∷ filter (has_pair own) ps) (filter (has_pair own) ps)
    go true b e f rest = ap (λ (qs : List Pair). p ∷ qs) rest
    go false true e f rest = absurd (false≢true (sym e ∙ says p f))
    go false false e f rest = rest

pub sent_stays : SentStays
sent_stays n sent predictions is says =
    let own = sent.pairs.list in
    let others = predictions.pairs.list in
    let count = length sent.steps in
    let pairs : pairs_of_either n own others ≡ own =
    same-either n own others says (all_pairs n) ∙ own-of-all n own (node-pairs n own is.pairs) is.ascending
    in
    let steps : sent.steps ≡ map (matrix_over own sent) (range_with_len 0 count) =
    fill_by_all (matrix_over own sent) sent.steps count no_matrix refl (λ k low.
    ap (λ (ds : List ℕ). let m : Matrix = record { demand = ds } in m)
    (sym (own-only own (demands_in sent k) (all_ascend own is.ascending) (is.matrices k no_matrix low).count)))
    in
    rw pairs (ap (λ (ms : List Matrix). let s : Series = record { pairs = record { list = own }; steps = ms } in s) (sym steps))
