-- What a step gives for each pair and each link.
use Rattle.std.proofs.Common.{◌≡◌, ◌*◌, ℕ, ◌+◌, ◌-◌, ◌<◌, ◌≤◌, ◌^◌, Bool, List, [], ◌∷◌, length, map, sum, sum_by, slice_index, arith, refl, ap, sym, ◌∙◌, ◌==◌, All, subst}
use Rattle.std.specs.Prelude.{slice_index_or, if◌then◌else◌}
use Rattle.std.specs.List.{range_with_len}
use Rattle.std.proofs.lemmas.List.{get_or_default}
use Rattle.std.proofs.lemmas.List.FromFn.{fill_by_all, length-map-range_with_len, get_or-map-range_with_len}
use Rattle.std.proofs.lemmas.List.Elements.{All-from_get_or, All-head, All-tail}
use Rattle.std.proofs.lemmas.List.Sums.{sum_by-cons, sum-map}
use Rattle.te_model.specs.declared.limits.TheConstants.{FORMAT_2}
use Rattle.te_model.specs.declared.network.Network.{Network}
use Rattle.te_model.specs.declared.route.PairRoutes.{PairRoutes}
use Rattle.te_model.specs.Counting.{sum_below}
use Rattle.te_model.specs.Network.{link_count, capacity_of}
use Rattle.te_model.specs.Path.{routes_at, no_routes}
use Rattle.te_model.proofs.Choices.{made_same}
use Rattle.te_model.proofs.Sums.{sum_below-same, sum_below-le}
use Rattle.te_model.proofs.ApportionLaws.{sum_is_below, sum_small}
use Rattle.flow_sim.specs.declared.state.State.{State}
use Rattle.flow_sim.specs.declared.result.PairResult.{PairResult}
use Rattle.flow_sim.specs.declared.result.StepResult.{StepResult}
use Rattle.flow_sim.specs.Step.{Setting, over_pair, delivery, lost_failed, lost_full, link_traffic}
use Rattle.flow_sim.specs.State.{IsState}
use Rattle.flow_sim.specs.Tables.{amount_of_key, total_at}
use Rattle.flow_sim.specs.Traffic.{step_setting, flow_pairs, flow_paths, flow_starts, paths_of, lost_no_path, longest, CanSplit}
use Rattle.flow_sim.specs.Result.{IsConserved, IsSummed, pair_result_of, pair_result, pair_results, all_carried}
use Rattle.flow_sim.proofs.Conservation.{kept_so_far, left_is}
use Rattle.flow_sim.proofs.PairLaws.{pairs-length, starts-flows, demand_conserved}
use Rattle.flow_sim.proofs.TableLaws.{read_made}

-- the read of the routes of a pair
pub lost_read : (rates lent : List PairRoutes) (demand held : List ℕ) (p lost : ℕ) (routes : PairRoutes) → lent ≡ rates → held ≡ demand →
    p < length lent → routes ≡ slice_index_or lent p routes → lost ≡ (if length routes.paths == 0 then slice_index held p else 0) →
    lost ≡ lost_no_path rates demand p
lost_read rates lent demand held p lost routes same same_demand below read is =
    let found : routes ≡ routes_at rates p =
    read ∙ (get_or_default lent p routes no_routes below ∙ ap (λ rs. routes_at rs p) same) in
    is ∙ (ap (λ (r : PairRoutes). if length r.paths == 0 then slice_index held p else 0) found
    ∙ ap (λ ds. if length (paths_of rates p) == 0 then slice_index ds p else 0) same_demand)

pub pair_read : (rates : List PairRoutes) (demand delivered lost_full lost_failed : List ℕ) (p offered lost : ℕ) →
    offered ≡ slice_index demand p → lost ≡ lost_no_path rates demand p →
    (record {
      offered = offered;
      delivered = slice_index delivered p;
      lost_full = slice_index lost_full p;
      lost_failed = slice_index lost_failed p;
      lost_no_path = lost;
    }) ≡ pair_result_of rates demand (slice_index delivered) (slice_index lost_full) (slice_index lost_failed) p
pair_read rates demand delivered lost_full lost_failed p offered lost e f = rw (e, f) refl

-- an amount of each flow in a table, over the flows of a pair
over_pair_is : (net : Network) (failed : List Bool) (rates : List PairRoutes) (demand table : List ℕ) (amount : ℕ → ℕ) (p : ℕ) →
    let s = step_setting net failed rates demand in
    ((f : ℕ) → f < s.flows → slice_index table f ≡ amount f) → total_at (flow_pairs rates) table p ≡ over_pair s amount p
over_pair_is net failed rates demand table amount p each =
    ap (λ n. sum_below n (amount_of_key (flow_pairs rates) table p)) (pairs-length rates)
    ∙ sum_below-same (length (flow_paths rates)) (amount_of_key (flow_pairs rates) table p)
    (λ f. if slice_index (flow_pairs rates) f == p then amount f else 0)
    (λ f below. ap (λ x. if slice_index (flow_pairs rates) f == p then x else 0) (each f below))

result_same : (rates : List PairRoutes) (demand : List ℕ) (a b c x y z : ℕ → ℕ) (p : ℕ) → a p ≡ x p → b p ≡ y p → c p ≡ z p →
    pair_result_of rates demand a b c p ≡ pair_result_of rates demand x y z p
result_same rates demand a b c x y z p e f g = rw (e, f, g) refl

-- the tables at the end give the result of each pair
pub results_are : (net : Network) (failed : List Bool) (rates : List PairRoutes) (demand : List ℕ) (end' : State) →
    IsState (step_setting net failed rates demand) (longest (flow_paths rates)) end' →
    map (pair_result_of rates demand (total_at (flow_pairs rates) end'.units.items) (total_at (flow_pairs rates) end'.lost_full.items)
    (total_at (flow_pairs rates) end'.lost_failed.items)) (range_with_len 0 (length rates)) ≡ pair_results net failed rates demand
results_are net failed rates demand end' known =
    let s = step_setting net failed rates demand in
    made_same 0 (length rates) _ (pair_result net failed rates demand) (λ p below.
    result_same rates demand (total_at (flow_pairs rates) end'.units.items) (total_at (flow_pairs rates) end'.lost_full.items)
    (total_at (flow_pairs rates) end'.lost_failed.items) (over_pair s (delivery s)) (over_pair s (lost_full s)) (over_pair s (lost_failed s)) p
    (over_pair_is net failed rates demand end'.units.items (delivery s) p known.units_are)
    (over_pair_is net failed rates demand end'.lost_full.items (lost_full s) p known.full_is)
    (over_pair_is net failed rates demand end'.lost_failed.items (lost_failed s) p known.failed_is))

-- a table of amounts that are at most what the flows start with
table_fits : (s : Setting) (table starts : List ℕ) → length table ≡ s.flows → length starts ≡ s.flows →
    ((f : ℕ) → f < s.flows → slice_index table f ≤ slice_index starts f) → sum table ≤ sum starts
table_fits s table starts size begun each =
    omega (
      arith,
      sum_is_below table,
      sum_is_below starts,
      ap (λ n. sum_below n (slice_index table)) size,
      ap (λ n. sum_below n (slice_index starts)) begun,
      sum_below-le s.flows (slice_index table) (slice_index starts) each,
    )

-- the sums of the tables at the end fit where the sum of the starts does
pub ends_fit : (net : Network) (failed : List Bool) (rates : List PairRoutes) (demand : List ℕ) (r : ℕ) (state : State) →
    IsState (step_setting net failed rates demand) r state → sum (flow_starts rates demand) < 2 ^ 64 →
    (sum state.units.items < 2 ^ 64) × (sum state.lost_full.items < 2 ^ 64) × (sum state.lost_failed.items < 2 ^ 64)
ends_fit net failed rates demand r state known fits =
    let s = step_setting net failed rates demand in
    let starts = flow_starts rates demand in
    let begun = starts-flows rates demand in
    let bound = λ (f : ℕ) (below : f < s.flows). kept_so_far s f r in (
      omega (arith, table_fits s state.units.items starts known.flows begun (λ f below. omega (arith, bound f below, known.units_are f below)), fits),
      omega (arith, table_fits s state.lost_full.items starts known.full_flows begun (λ f below. omega (arith, bound f below, known.full_is f below)), fits),
      omega (arith, table_fits s state.lost_failed.items starts known.failed_flows begun (λ f below. omega (arith, bound f below, known.failed_is f below)), fits),
    )

-- what the links have left at the end gives what they served
pub carried_are : (net : Network) (failed : List Bool) (rates : List PairRoutes) (demand : List ℕ) (end' : State) →
    IsState (step_setting net failed rates demand) (longest (flow_paths rates)) end' →
    map (λ e. capacity_of net e - slice_index end'.left.items e) (range_with_len 0 (link_count net)) ≡ all_carried net failed rates demand
carried_are net failed rates demand end' known =
    let s = step_setting net failed rates demand in
    made_same 0 (link_count net) _ (link_traffic s) (λ e below. omega (arith, known.left_is e (omega arith), left_is s e s.rounds))

pub left_within : (net : Network) (failed : List Bool) (rates : List PairRoutes) (demand : List ℕ) (r : ℕ) (state : State) →
    IsState (step_setting net failed rates demand) r state → (e : ℕ) → e < length state.left.items →
    slice_index state.left.items e ≤ capacity_of net e
left_within net failed rates demand r state known e inside =
    let s = step_setting net failed rates demand in
    omega (arith, known.left_is e (omega (arith, known.links)), left_is s e r)

-- what is offered is the demand
pub offered_are : (net : Network) (failed : List Bool) (rates : List PairRoutes) (demand : List ℕ) → length demand ≡ length rates →
    map (λ p. p.offered) (pair_results net failed rates demand) ≡ demand
offered_are net failed rates demand same = go (length rates) same
  where
    go : (n : ℕ) → length demand ≡ n → map (λ (p : PairResult). p.offered) (map (pair_result net failed rates demand) (range_with_len 0 n)) ≡ demand
    go n e =
        map-map' (range_with_len 0 n)
        ∙ sym (fill_by_all (slice_index demand) demand n 0 e (λ k below. refl))
      where
        map-map' : (ks : List ℕ) →
            map (λ (p : PairResult). p.offered) (map (pair_result net failed rates demand) ks) ≡ map (slice_index demand) ks
        map-map' [] = refl
        map-map' (k ∷ ks) = ap (λ xs. slice_index demand k ∷ xs) (map-map' ks)

-- the results of all pairs are conserved
pub results_conserved : (net : Network) (failed : List Bool) (rates : List PairRoutes) (demand : List ℕ) →
    ((p : ℕ) → p < length rates → CanSplit (paths_of rates p)) → All IsConserved (pair_results net failed rates demand)
results_conserved net failed rates demand split =
    All-from_get_or IsConserved (pair_results net failed rates demand) (result 0) (λ p inside.
    let below : p < length rates = omega (arith, length-map-range_with_len result 0 (length rates)) in
    subst IsConserved (sym (get_or-map-range_with_len result 0 (length rates) p p (result 0) below (omega arith)))
    (demand_conserved net failed rates demand p (split p below) below))
  where
    result : ℕ → PairResult
    result = pair_result net failed rates demand

-- so are their sums
sums_conserved : (pairs : List PairResult) → All IsConserved pairs →
    sum_by (λ p. p.offered) pairs
    ≡ sum_by (λ p. p.delivered) pairs + sum_by (λ p. p.lost_full) pairs + sum_by (λ p. p.lost_failed) pairs + sum_by (λ p. p.lost_no_path) pairs
sums_conserved [] all = refl
sums_conserved (p ∷ ps) all =
    omega (
      arith,
      sum_by-cons (λ (x : PairResult). x.offered) p ps,
      sum_by-cons (λ (x : PairResult). x.delivered) p ps,
      sum_by-cons (λ (x : PairResult). x.lost_full) p ps,
      sum_by-cons (λ (x : PairResult). x.lost_failed) p ps,
      sum_by-cons (λ (x : PairResult). x.lost_no_path) p ps,
      All-head IsConserved p ps all,
      sums_conserved ps (All-tail IsConserved p ps all),
    )

pub total_conserved : (served : List ℕ) (pairs : List PairResult) (result : StepResult) → IsSummed served pairs result → All IsConserved pairs →
    result.offered ≡ result.delivered + result.lost_full + result.lost_failed + result.lost_no_path
total_conserved served pairs result summed all =
    omega (arith, sums_conserved pairs all, summed.offered, summed.delivered, summed.lost_full, summed.lost_failed, summed.lost_no_path)

-- the sums fit where the demands do
pub sums_fit : (pairs : List PairResult) → All IsConserved pairs → sum_by (λ p. p.offered) pairs < 2 ^ 64 →
    (sum_by (λ p. p.delivered) pairs < 2 ^ 64) × (sum_by (λ p. p.lost_full) pairs < 2 ^ 64)
    × (sum_by (λ p. p.lost_failed) pairs < 2 ^ 64) × (sum_by (λ p. p.lost_no_path) pairs < 2 ^ 64)
sums_fit pairs all fits = let e = sums_conserved pairs all in (omega arith, omega arith, omega arith, omega arith)

pub offered_fits : (pairs : List PairResult) (demand : List ℕ) → map (λ p. p.offered) pairs ≡ demand → length demand ≤ FORMAT_2.nodes * FORMAT_2.nodes →
    ((p : ℕ) → p < length demand → slice_index demand p ≤ 2 ^ 32) → sum_by (λ p. p.offered) pairs < 2 ^ 64
offered_fits pairs demand are few small =
    omega (arith, sum-map (λ (p : PairResult). p.offered) pairs, ap sum are, sum_small demand (2 ^ 32) small)

-- the totals of a table by pair, as the code lends them
pub totals_are : (rates lent : List PairRoutes) (keys held table held_table totals held_totals : List ℕ) → lent ≡ rates → held ≡ keys →
    keys ≡ flow_pairs rates → held_table ≡ table → held_totals ≡ totals →
    totals ≡ map (total_at held held_table) (range_with_len 0 (length lent)) →
    held_totals ≡ map (total_at (flow_pairs rates) table) (range_with_len 0 (length rates))
totals_are rates lent keys held table held_table totals held_totals same keyed pairs tabled totaled made =
    totaled ∙ (made ∙ (ap (λ rs. map (total_at held held_table) (range_with_len 0 (length rs))) same
    ∙ (ap (λ ks. map (total_at ks held_table) (range_with_len 0 (length rates))) (keyed ∙ pairs)
    ∙ ap (λ xs. map (total_at (flow_pairs rates) xs) (range_with_len 0 (length rates))) tabled)))

-- the results, by the totals
pub results_read : (rates : List PairRoutes) (demand a b c : List ℕ) (x y z : ℕ → ℕ) → a ≡ map x (range_with_len 0 (length rates)) →
    b ≡ map y (range_with_len 0 (length rates)) → c ≡ map z (range_with_len 0 (length rates)) →
    map (pair_result_of rates demand (slice_index a) (slice_index b) (slice_index c)) (range_with_len 0 (length rates))
    ≡ map (pair_result_of rates demand x y z) (range_with_len 0 (length rates))
results_read rates demand a b c x y z e f g =
    made_same 0 (length rates) (pair_result_of rates demand (slice_index a) (slice_index b) (slice_index c)) (pair_result_of rates demand x y z)
    (λ p below. result_same rates demand (slice_index a) (slice_index b) (slice_index c) x y z p
    (read_made x (length rates) p a e (omega arith)) (read_made y (length rates) p b f (omega arith)) (read_made z (length rates) p c g (omega arith)))
