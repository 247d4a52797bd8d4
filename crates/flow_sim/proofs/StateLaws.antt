-- A round of the code is a round of the definition.
use Rattle.std.proofs.Common.{◌≡◌, ℕ, suc, ◌+◌, ◌-◌, ◌<◌, ◌≤◌, ◌^◌, Bool, true, false, List, [], length, map, min, sum, slice_index, arith, refl, ap, sym, ◌∙◌, ◌==◌, add-one, subst, inl, inr}
use Rattle.std.specs.Prelude.{if◌then◌else◌, nat_lt, slice_index_or}
use Rattle.std.specs.List.{range_with_len}
use Rattle.std.proofs.lemmas.Bool.{cases_lt, eq-eqb}
use Rattle.std.proofs.lemmas.Bool.Decides.{nat_tests}
use Rattle.std.proofs.lemmas.List.{get_or_default, get_or_past}
use Rattle.te_model.specs.declared.network.Network.{Network}
use Rattle.te_model.specs.declared.route.PathShare.{PathShare}
use Rattle.te_model.specs.declared.route.PairRoutes.{PairRoutes}
use Rattle.te_model.specs.Counting.{sum_below}
use Rattle.te_model.specs.Network.{link_count}
use Rattle.te_model.proofs.Conditionals.{if_le-self}
use Rattle.te_model.proofs.Sums.{sum_below-le, sum_below-term, sum_below-zero}
use Rattle.te_model.proofs.ApportionLaws.{sum_made}
use Rattle.flow_sim.specs.declared.state.State.{State}
use Rattle.flow_sim.specs.Asking.{numbers_below, asking_flows, arriving_units}
use Rattle.flow_sim.specs.Fair.{fair, fair_shares}
use Rattle.flow_sim.specs.Queues.{queues_in, asks, AreQueues}
use Rattle.flow_sim.specs.Serving.{Flow, flow_at, flow_served, link_serves, served_by, HasShape, HasRoomFor, IsServingRound, AreApart}
use Rattle.flow_sim.specs.State.{IsState}
use Rattle.flow_sim.specs.Step.{Setting, arrivals, service_of, used_capacity, units, loss, before_round, lost_failed_before, lost_full_before}
use Rattle.routing.specs.Merge.{no_path}
use Rattle.flow_sim.specs.Traffic.{flow_paths, step_setting}
use Rattle.flow_sim.proofs.Conservation.{kept_so_far}
use Rattle.flow_sim.proofs.Level.{fair-sum}
use Rattle.flow_sim.proofs.OwnShares.{padded, passing_sum, own_sum, placed, passing_ascend, passing_place, serves_fairly}
use Rattle.flow_sim.proofs.QueueLaws.{numbers_below-same}
use Rattle.flow_sim.proofs.ServeLaws.{map-same}
use Rattle.flow_sim.proofs.TableLaws.{zero_read}

-- the queues of a round hold the flows that ask their links
pub record AreAsking (s : Setting) (r : ℕ) (queues : List (List ℕ)) : Type 0 where
  pub links : length queues ≡ s.links
  pub asking : (e : ℕ) → e < s.links → slice_index_or queues e [] ≡ asking_flows s r e

hop_asks : (path : PathShare) (r e links : ℕ) → e < links → asks path r e ≡ (slice_index_or path.links r links == e)
hop_asks path r e links inside =
    elim (cases_lt r (length path.links)) [
      | inl lt ↦
          let test : nat_lt r (length path.links) ≡ true = grind (arith, nat_tests) in
          rw test (ap (λ k. k == e) (get_or_default path.links r 0 links lt))
      | inr ge ↦
          let test : nat_lt r (length path.links) ≡ false = grind (arith, nat_tests) in
          let past : slice_index_or path.links r links ≡ links = get_or_past path.links r links ge in
          let other : (links == e) ≡ false = grind (arith, nat_tests) in
          rw (test, past) (sym other)
    ]

pub asking_are : (net : Network) (failed : List Bool) (rates : List PairRoutes) (demand : List ℕ) (r : ℕ) (rounds : List (List (List ℕ))) →
    AreQueues (flow_paths rates) (link_count net) rounds → r < length rounds →
    AreAsking (step_setting net failed rates demand) r (queues_in rounds r)
asking_are net failed rates demand r rounds so below = record {
  links = so.queues r below;
  asking = λ e inside.
      so.asking r e (omega (arith, so.queues r below))
      ∙ numbers_below-same (length (flow_paths rates)) (λ f. asks (slice_index_or (flow_paths rates) f no_path) r e)
      (λ f. (step_setting net failed rates demand).hop f r == e)
      (λ f f_below. hop_asks (slice_index_or (flow_paths rates) f no_path) r e (link_count net) inside);
}

-- a queue in which a flow stands is that of a link
queue_is : (s : Setting) (r : ℕ) (queues : List (List ℕ)) → AreAsking s r queues → (e i : ℕ) → i < length (slice_index_or queues e []) →
    (e < s.links) × (slice_index_or queues e [] ≡ asking_flows s r e) × (i < length (asking_flows s r e))
queue_is s r queues are e i inside =
    elim (cases_lt e s.links) [
      | inl lt ↦ let q = are.asking e lt in (lt, q, omega (arith, inside, ap length q))
      | inr ge ↦ absurd (omega (arith, inside, ap length (get_or_past queues e [] (omega (arith, ge, are.links)))))
    ]

pub apart_are : (s : Setting) (r : ℕ) (queues : List (List ℕ)) → AreAsking s r queues → AreApart s.flows queues
apart_are s r queues are = record {
  inside = λ e i inside.
      let q = queue_is s r queues are e i inside in
      let at = placed s.flows (λ f. s.hop f r == e) i q.2 in
      omega (arith, at.below, ap (λ xs. slice_index xs i) q.1);
  ascending = λ e i j first inside.
      let q = queue_is s r queues are e j inside in
      omega (
        arith,
        passing_ascend s.flows (λ f. s.hop f r == e) i j first q.2,
        ap (λ xs. slice_index xs i) q.1,
        ap (λ xs. slice_index xs j) q.1,
      );
  apart = λ d e i j i_inside j_inside same.
      let p = queue_is s r queues are d i i_inside in
      let q = queue_is s r queues are e j j_inside in
      let a = placed s.flows (λ f. s.hop f r == d) i p.2 in
      let b = placed s.flows (λ f. s.hop f r == e) j q.2 in
      let flow : slice_index (asking_flows s r d) i ≡ slice_index (asking_flows s r e) j =
      sym (ap (λ xs. slice_index xs i) p.1) ∙ (same ∙ ap (λ xs. slice_index xs j) q.1) in
      one_hop (s.hop (slice_index (asking_flows s r d) i) r) (s.hop (slice_index (asking_flows s r e) j) r) d e (ap (λ f. s.hop f r) flow) a.passes b.passes;
}
  where
    one_hop : (x y d e : ℕ) → x ≡ y → (x == d) ≡ true → (y == e) ≡ true → d ≡ e
    one_hop x y d e same p q = grind (arith, nat_tests)

-- what a link serves, as the definition says it
serves_are : (s : Setting) (r e : ℕ) (mark : Bool) (queue : List ℕ) (before : State) → IsState s r before → e < s.links → queue ≡ asking_flows s r e →
    mark ≡ s.has_failed e → served_by mark e queue before ≡ link_serves (s.has_failed e) ((before_round s r).left e) (arriving_units s r e)
serves_are s r e mark queue before known inside queue_is mark_is =
    let arriving : map (slice_index before.units.items) queue ≡ arriving_units s r e =
    ap (map (slice_index before.units.items)) queue_is
    ∙ map-same (asking_flows s r e) (slice_index before.units.items) (λ f. units s f r)
    (λ i i_inside. known.units_are (slice_index (asking_flows s r e) i) (placed s.flows (λ f. s.hop f r == e) i i_inside).below) in
    rw (mark_is, known.left_is e inside, arriving) refl

share_is : (s : Setting) (r e i : ℕ) → i < length (asking_flows s r e) →
    slice_index (link_serves (s.has_failed e) ((before_round s r).left e) (arriving_units s r e)) i
    ≡ service_of s (before_round s r) r e (slice_index (asking_flows s r e) i)
share_is s r e i inside = pick (s.has_failed e) ∙ sym (serves_fairly s r e i inside)
  where
    pick : (b : Bool) → slice_index (link_serves b ((before_round s r).left e) (arriving_units s r e)) i
        ≡ (if b then 0 else slice_index (fair_shares ((before_round s r).left e) (arriving_units s r e)) i)
    pick true = zero_read (length (arriving_units s r e)) i (map (λ i. 0) (range_with_len 0 (length (arriving_units s r e)))) refl
    pick false = refl

-- all that a link serves
sum_is : (s : Setting) (r e : ℕ) →
    sum (link_serves (s.has_failed e) ((before_round s r).left e) (arriving_units s r e)) ≡ used_capacity s (before_round s r) r e
sum_is s r e = pick (s.has_failed e)
  where
    pick : (b : Bool) → sum (link_serves b ((before_round s r).left e) (arriving_units s r e))
        ≡ sum_below s.flows (λ f. if b then 0 else fair ((before_round s r).left e) s.flows (arrivals s (before_round s r) r e) f)
    pick true =
        sum_made (λ i. 0) (length (arriving_units s r e))
        ∙ (sum_below-zero (length (arriving_units s r e)) (λ i. 0) (λ k below. refl) ∙ sym (sum_below-zero s.flows (λ f. 0) (λ k below. refl)))
    pick false =
        let left = (before_round s r).left e in
        let ys = arriving_units s r e in
        sum_made (fair left (length ys) (slice_index ys)) (length ys)
        ∙ (fair-sum left (length ys) (slice_index ys)
        ∙ (ap (min left) (own_sum s.flows (λ f. s.hop f r == e) (λ f. units s f r) (λ x. x) refl)
        ∙ sym (fair-sum left s.flows (arrivals s (before_round s r) r e))))

-- how a flow stands after round r
abbrev flow_after : Setting → ℕ → ℕ → Flow
flow_after s r f = record {
  units = units s f (suc r);
  lost_full = lost_full_before s f (suc r);
  lost_failed = lost_failed_before s f (suc r);
}

abbrev flow_before : Setting → ℕ → ℕ → Flow
flow_before s r f = record {
  units = units s f r;
  lost_full = lost_full_before s f r;
  lost_failed = lost_failed_before s f r;
}

flow_known : (s : Setting) (r f : ℕ) (state : State) → IsState s r state → f < s.flows → flow_at state f ≡ flow_before s r f
flow_known s r f state known below = rw (known.units_are f below, known.full_is f below, known.failed_is f below) refl

same_flow : (u v a b x y : ℕ) → u ≡ v → a ≡ b → x ≡ y →
    let one : Flow = record { units = u; lost_full = a; lost_failed = x } in
    let two : Flow = record { units = v; lost_full = b; lost_failed = y } in
    one ≡ two
same_flow u v a b x y e f g = rw (e, f, g) refl

-- a flow that its link serves
flow_passed : (s : Setting) (r f : ℕ) → s.hop f r < s.links →
    flow_served (s.has_failed (s.hop f r)) (flow_before s r f) (service_of s (before_round s r) r (s.hop f r) f) ≡ flow_after s r f
flow_passed s r f inside =
    let test : nat_lt (s.hop f r) s.links ≡ true = grind (arith, nat_tests) in
    let share : service_of s (before_round s r) r (s.hop f r) f ≡ units s f (suc r) =
    sym (ap (λ t. if t then service_of s (before_round s r) r (s.hop f r) f else (before_round s r).units f) test) in
    ap (flow_served (s.has_failed (s.hop f r)) (flow_before s r f)) share
    ∙ same_flow _ _ _ _ _ _ refl (full (s.has_failed (s.hop f r)) (lost_full_before s f r) (loss s f r)) (failed (s.has_failed (s.hop f r)) (lost_failed_before s f r) (loss s f r))
  where
    full : (b : Bool) (x y : ℕ) → (if b then x else x + y) ≡ x + (if b then 0 else y)
    full true x y = omega arith
    full false x y = refl

    failed : (b : Bool) (x y : ℕ) → (if b then x + y else x) ≡ x + (if b then y else 0)
    failed true x y = refl
    failed false x y = omega arith

-- a flow after its last hop
flow_ended : (s : Setting) (r f : ℕ) → s.links ≤ s.hop f r → flow_before s r f ≡ flow_after s r f
flow_ended s r f out =
    let test : nat_lt (s.hop f r) s.links ≡ false = grind (arith, nat_tests) in
    let stays : units s f (suc r) ≡ units s f r =
    ap (λ t. if t then service_of s (before_round s r) r (s.hop f r) f else (before_round s r).units f) test in
    let none : loss s f r ≡ 0 = omega (arith, stays) in
    same_flow _ _ _ _ _ _ (sym stays) (full (s.has_failed (s.hop f r)) (lost_full_before s f r) (loss s f r) none)
    (failed (s.has_failed (s.hop f r)) (lost_failed_before s f r) (loss s f r) none)
  where
    full : (b : Bool) (x y : ℕ) → y ≡ 0 → x ≡ x + (if b then 0 else y)
    full true x y e = omega arith
    full false x y e = omega arith

    failed : (b : Bool) (x y : ℕ) → y ≡ 0 → x ≡ x + (if b then y else 0)
    failed true x y e = omega arith
    failed false x y e = omega arith

flow_next : (s : Setting) (r f : ℕ) (failed : List Bool) (queues : List (List ℕ)) (before after : State) → IsState s r before →
    AreAsking s r queues → ((e : ℕ) → slice_index_or failed e false ≡ s.has_failed e) → IsServingRound failed queues before after → f < s.flows →
    flow_at after f ≡ flow_after s r f
flow_next s r f failed queues before after known are marks round below =
    let e = s.hop f r in
    elim (cases_lt e s.links) [
      | inl inside ↦
          let test = λ (k : ℕ). s.hop k r == e in
          let at = passing_place s.flows test f below (eq-eqb e e refl) in
          let i = length (numbers_below f test) in
          let queue = slice_index_or queues e [] in
          let mark = slice_index_or failed e false in
          let queue_e = are.asking e inside in
          let stands : slice_index queue i ≡ f = ap (λ xs. slice_index xs i) queue_e ∙ at.1 in
          let got = (round.served e (omega (arith, are.links))).served i (omega (arith, at.0, ap length queue_e)) in
          let share : slice_index (served_by mark e queue before) i ≡ service_of s (before_round s r) r e f =
          ap (λ xs. slice_index xs i) (serves_are s r e mark queue before known inside queue_e (marks e))
          ∙ (share_is s r e i at.0 ∙ ap (service_of s (before_round s r) r e) at.1) in
          ap (flow_at after) (sym stands)
          ∙ (got
          ∙ (ap (λ k. flow_served mark (flow_at before k) (slice_index (served_by mark e queue before) i)) stands
          ∙ (ap (λ b. flow_served b (flow_at before f) (slice_index (served_by mark e queue before) i)) (marks e)
          ∙ (ap (flow_served (s.has_failed e) (flow_at before f)) share
          ∙ (ap (λ w. flow_served (s.has_failed e) w (service_of s (before_round s r) r e f)) (flow_known s r f before known below)
          ∙ flow_passed s r f inside)))))
      | inr out ↦
          let absent = λ (d : ℕ) (d_inside : d < length queues) (i : ℕ) (i_inside : i < length (slice_index_or queues d [])) (is : slice_index (slice_index_or queues d []) i ≡ f).
          let q = queue_is s r queues are d i i_inside in
          let at = placed s.flows (λ k. s.hop k r == d) i q.2 in
          let flow : slice_index (asking_flows s r d) i ≡ f = sym (ap (λ xs. slice_index xs i) q.1) ∙ is in
          beyond (s.hop f r) d s.links (ap (λ k. s.hop k r == d) (sym flow) ∙ at.passes) q.0 out in
          round.others f absent ∙ (flow_known s r f before known below ∙ flow_ended s r f out)
    ]
  where
    beyond : (h d n : ℕ) → (h == d) ≡ true → d < n → n ≤ h → ⊥
    beyond h d n same below past = let e : h ≡ d = grind (arith, nat_tests) in omega arith

pub state_next : (s : Setting) (r : ℕ) (failed : List Bool) (queues : List (List ℕ)) (before after : State) → IsState s r before →
    AreAsking s r queues → ((e : ℕ) → slice_index_or failed e false ≡ s.has_failed e) → HasShape s.flows s.links after →
    IsServingRound failed queues before after → IsState s (r + 1) after
state_next s r failed queues before after known are marks shape round =
    let next = λ (f : ℕ) (below : f < s.flows). flow_next s r f failed queues before after known are marks round below in
    subst (λ (k : ℕ). IsState s k after) (sym (add-one r)) (record {
      flows = shape.units;
      full_flows = shape.lost_full;
      failed_flows = shape.lost_failed;
      links = shape.left;
      units_are = λ f below. ap (λ (w : Flow). w.units) (next f below);
      full_is = λ f below. ap (λ (w : Flow). w.lost_full) (next f below);
      failed_is = λ f below. ap (λ (w : Flow). w.lost_failed) (next f below);
      left_is = λ e inside.
          let queue = slice_index_or queues e [] in
          let mark = slice_index_or failed e false in
          let sums : sum (served_by mark e queue before) ≡ used_capacity s (before_round s r) r e =
          ap sum (serves_are s r e mark queue before known inside (are.asking e inside) (marks e)) ∙ sum_is s r e in
          (round.served e (omega (arith, are.links))).left
          ∙ (ap (λ x. x - sum (served_by mark e queue before)) (known.left_is e inside)
          ∙ ap (λ x. (before_round s r).left e - x) sums);
    })

-- what a flow has and has lost is no more than it started with
pub lost_fits : (s : Setting) (r : ℕ) (state : State) → IsState s r state → sum_below s.flows s.start < 2 ^ 64 →
    (f : ℕ) → f < s.flows → HasRoomFor state f
lost_fits s r state known small f below =
    let kept = kept_so_far s f r in
    let start = sum_below-term s.flows f s.start below in
    let a = known.units_are f below in
    let b = known.full_is f below in
    let d = known.failed_is f below in
    (omega arith, omega arith)

-- the units of the flows that ask a link fit 64 bits
pub asking_fits : (s : Setting) (r : ℕ) (queues : List (List ℕ)) (state : State) → IsState s r state → AreAsking s r queues →
    sum_below s.flows s.start < 2 ^ 64 → (e : ℕ) → sum (map (slice_index state.units.items) (slice_index_or queues e [])) < 2 ^ 64
asking_fits s r queues state known are small e =
    elim (cases_lt e s.links) [
      | inl inside ↦
          let test = λ (f : ℕ). s.hop f r == e in
          let u = slice_index state.units.items in
          omega (
            arith,
            ap (λ q. sum (map u q)) (are.asking e inside),
            passing_sum s.flows test u (λ x. x) refl,
            sum_below-le s.flows (λ f. padded test u f) s.start (λ f below.
                omega (arith, if_le-self (test f) (u f), known.units_are f below, kept_so_far s f r)),
            small,
          )
      | inr past ↦ omega (arith, ap (λ q. sum (map (slice_index state.units.items) q)) (get_or_past queues e [] (omega (arith, past, are.links))))
    ]
