-- How a step begins, and how many rounds it has.
use Rattle.std.proofs.Common.{◌≡◌, ℕ, zero, suc, ◌+◌, ◌*◌, ◌<◌, ◌≤◌, ◌^◌, Bool, List, [], ◌∷◌, ◌++◌, length, max, sum, slice_index, take, add-one, rules, arith, refl, ap, ◌∙◌}
use Rattle.std.specs.Ordering.{ord_max, nat_cmp}
use Rattle.std.specs.Prelude.{slice_index_or}
use Rattle.std.proofs.lemmas.List.{get_or-map, get_or_default, length-map, take_more}
use Rattle.std.proofs.lemmas.List.Sums.{sum_by-append}
use Rattle.std.proofs.lemmas.List.FromFn.{length-map-range_with_len}
use Rattle.te_model.specs.declared.limits.TheConstants.{FORMAT_2}
use Rattle.te_model.specs.declared.network.Network.{Network}
use Rattle.te_model.specs.declared.route.PathShare.{PathShare}
use Rattle.te_model.specs.declared.route.PairRoutes.{PairRoutes}
use Rattle.te_model.specs.Counting.{sum_below}
use Rattle.te_model.specs.Network.{no_link}
use Rattle.te_model.specs.Path.{routes_at, no_routes}
use Rattle.te_model.specs.Apportion.{apportion}
use Rattle.te_model.proofs.Sums.{sum_below-le}
use Rattle.te_model.proofs.ApportionLaws.{sum_below-const, apportion-sum}
use Rattle.flow_sim.specs.declared.state.State.{State}
use Rattle.flow_sim.specs.State.{IsState, IsStart}
use Rattle.flow_sim.specs.Traffic.{concat_below, paths_of, weights, flow_starts, starts_of, longest, step_setting, CanSplit}
use Rattle.flow_sim.proofs.PairLaws.{starts-flows}
use Rattle.flow_sim.proofs.TableLaws.{zero_read}

pub longest-append : (xs ys : List PathShare) → longest (xs ++ ys) ≡ max (longest xs) (longest ys)
longest-append [] ys = omega arith
longest-append (x ∷ xs) ys = omega (arith, longest-append xs ys)

pub sum-concat : (n : ℕ) (piece : ℕ → List ℕ) → sum (concat_below n piece) ≡ sum_below n (λ p. sum (piece p))
sum-concat zero piece = refl
sum-concat (suc n) piece = sum_by-append (λ y. y) (concat_below n piece) (piece n) ∙ ap (λ x. x + sum (piece n)) (sum-concat n piece)

-- the parts of a demand are at most the demand
pub part_sum : (d : ℕ) (paths : List PathShare) → CanSplit paths → sum (apportion d (weights paths)) ≤ d
part_sum d [] split = omega (arith, none)
  where
    none : sum (apportion d []) ≡ 0
    none = refl
part_sum d (s ∷ ss) split = omega (arith, apportion-sum d (weights (s ∷ ss)) (split.2 (omega arith)))

-- the units of all flows fit 64 bits
pub starts_fit : (rates : List PairRoutes) (demand : List ℕ) → length rates ≤ FORMAT_2.nodes * FORMAT_2.nodes → length demand ≡ length rates →
    ((p : ℕ) → p < length demand → slice_index demand p ≤ 2 ^ 32) → ((p : ℕ) → p < length rates → CanSplit (paths_of rates p)) →
    sum (flow_starts rates demand) < 2 ^ 64
starts_fit rates demand few same small split =
    let each = λ (p : ℕ) (below : p < length rates). part_le p below in
    omega (
      arith,
      sum-concat (length rates) (starts_of rates demand),
      sum_below-le (length rates) (λ p. sum (starts_of rates demand p)) (λ p. 2 ^ 32) each,
      sum_below-const (length rates) (2 ^ 32),
    )
  where
    part_le : (p : ℕ) → p < length rates → sum (starts_of rates demand p) ≤ 2 ^ 32
    part_le p below = omega (arith, part_sum (slice_index demand p) (paths_of rates p) (split p below), small p (omega arith))

-- the step stands as the definition says before its first round
pub state_begins : (net : Network) (failed : List Bool) (rates : List PairRoutes) (demand : List ℕ) (state : State) →
    IsStart net rates demand state → IsState (step_setting net failed rates demand) 0 state
state_begins net failed rates demand state start =
    let size : length state.units.items ≡ (step_setting net failed rates demand).flows = ap length start.units ∙ starts-flows rates demand in
    record {
      flows = size;
      full_flows = ap length start.full ∙ (length-map-range_with_len (λ i. 0) 0 (length state.units.items) ∙ size);
      failed_flows = ap length start.failed ∙ (length-map-range_with_len (λ i. 0) 0 (length state.units.items) ∙ size);
      links = ap length start.left ∙ length-map net.links (λ l. l.capacity);
      units_are = λ f below. ap (λ xs. slice_index xs f) start.units;
      full_is = λ f below. zero_read (length state.units.items) f state.lost_full.items start.full;
      failed_is = λ f below. zero_read (length state.units.items) f state.lost_failed.items start.failed;
      left_is = λ e inside. ap (λ xs. slice_index xs e) start.left ∙ get_or-map (λ l. l.capacity) net.links e no_link 0 inside;
    }

pub longest_more : (paths : List PathShare) (i most links result : ℕ) (path : PathShare) → i < length paths →
    path ≡ slice_index_or paths i path → links ≡ length path.links → most ≡ longest (take i paths) → result ≡ max most links →
    result ≡ longest (take (i + 1) paths)
longest_more paths i most links result path below is links_is most_is result_is =
    omega (
      arith,
      ap longest (take_more paths i path below),
      longest-append (take i paths) (slice_index_or paths i path ∷ []),
      ap (λ (s : PathShare). length s.links) is,
    )

pub longest_next : (rates lent : List PairRoutes) (p most links result : ℕ) (routes : PairRoutes) (paths : List PathShare) → lent ≡ rates →
    p < length lent → paths ≡ (slice_index_or lent p routes).paths → most ≡ longest (concat_below p (paths_of rates)) →
    links ≡ longest paths → result ≡ max most links → result ≡ longest (concat_below (p + 1) (paths_of rates))
longest_next rates lent p most links result routes paths same below paths_is most_is links_is result_is =
    let read : slice_index_or lent p routes ≡ routes_at rates p =
    get_or_default lent p routes no_routes below ∙ ap (λ rs. routes_at rs p) same in
    rw add-one (omega (
      arith,
      longest-append (concat_below p (paths_of rates)) (paths_of rates p),
      ap longest paths_is,
      ap (λ (r : PairRoutes). longest r.paths) read,
    ))
