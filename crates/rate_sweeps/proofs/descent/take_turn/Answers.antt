use Rattle.std.proofs.Common.{inl, inr, ◌≡◌, ◌⊎◌, ◌≤◌, List, length, map, arith, ap, sym, ◌∙◌, subst}
use Rattle.te_model.specs.declared.route.PairRoutes.{PairRoutes}
use Rattle.routing.specs.Routes.{AreDemands, HasFewPaths}
use Rattle.routing.specs.Utilisation.{parts}
use Rattle.routing.specs.declared.routes.Routing.{Routing}
use Rattle.rate_sweeps.specs.declared.descent.Descent.{Descent}
use Rattle.rate_sweeps.specs.Descents.{IsNextPace, IsTurnTo}
use Rattle.rate_sweeps.specs.Shifts.{UsesOnlyWays}
use Rattle.rate_sweeps.specs.Sweeps.{links_in}
use Rattle.routing.proofs.InOrder.{same_count}
use Rattle.rate_sweeps.proofs.Turning.{both_turned, made_routing, only_through, turned}
use Rattle.rate_sweeps.proofs.descent.take_turn.Goals as goal
use Rattle.rate_sweeps.proofs.descent.take_turn.Goals.{In_ok-routing, Joined-pace-old, then-most-least+in_ok-best, else-most-least, then-pace-old+in_ok-routing-2, else-pace-old}

-- the routing that was made has as many pairs as the start
count : (c : In_ok-routing) → length c.in_ok-routing.routing.routes ≡ length c.requires.descent.0
count c =
    let (start, few, demands, is) = c.requires.descent in
    same_count c.in_ok-routing.routing.routes start
    (made_routing c.args.net.now c.args.matrix.now.demand start c.in_ok-routing.routing.routes c.args.descent is c.in_ok-routing.ensures.routing).in_order

pub greatest_utilisation-requires-clause-pairs : goal.greatest_utilisation-requires-clause-pairs
greatest_utilisation-requires-clause-pairs c =
    omega (arith, count (goal.at.greatest_utilisation-requires-clause-pairs c).In_ok-routing, c.requires.descent.1)

pub greatest_utilisation-requires-clause-demands : goal.greatest_utilisation-requires-clause-demands
greatest_utilisation-requires-clause-demands c =
    let same = count (goal.at.greatest_utilisation-requires-clause-demands c).In_ok-routing in
    subst (λ n. AreDemands n c.args.matrix.now.demand) (sym same) c.requires.descent.2

-- the best routing is the one that was made, if that is better, or stays
best : (c : Joined-pace-old) →
    ((c.if-most-least.best.routes ≡ c.in_ok-routing.routing.routes) × (parts c.args.net.now c.in_ok-routing.routing.routes c.args.matrix.now.demand ≤ c.args.descent.least))
    ⊎ (c.if-most-least.best.routes ≡ c.args.descent.best.routes)
best c = elim c.if-most-least.branch [
  | then-most-least+in_ok-best w ↦
      inl (ap (λ (r : Routing). r.routes) w.best-is ∙ w.in_ok-best.ensures, omega (arith, w.if-most-least.true, c.in_ok-most.ensures))
  | else-most-least w ↦ inr (ap (λ (r : Routing). r.routes) w.best-is)
]

-- the next turn goes on from either
routing : (c : Joined-pace-old) → (c.if-pace-old.routing.routes ≡ c.in_ok-routing.routing.routes) ⊎ (c.if-pace-old.routing.routes ≡ c.if-most-least.best.routes)
routing c = elim c.if-pace-old.branch [
  | then-pace-old+in_ok-routing-2 w ↦ inr (ap (λ (r : Routing). r.routes) w.routing-is ∙ w.in_ok-routing-2.ensures)
  | else-pace-old w ↦ inl (ap (λ (r : Routing). r.routes) w.routing-is)
]

-- the descent after the turn
abbrev after : Joined-pace-old → Descent
after c = record { routing = c.if-pace-old.routing; best = c.if-most-least.best; least = c.if-most-least.least; pace = c.next_pace-pace.result }

pub returns-clause-descent : goal.returns-clause-descent
returns-clause-descent c = λ start is.
    let at = (goal.at.returns-clause-descent c).Joined-pace-old in
    let net = c.args.net.now in
    let demand = c.args.matrix.now.demand in
    let made = c.in_ok-routing.routing.routes in
    let of = made_routing net demand start made c.args.descent is c.in_ok-routing.ensures.routing in
    let least : c.if-most-least.least ≡ parts net c.if-most-least.best.routes demand =
    elim c.if-most-least.branch [
      | then-most-least+in_ok-best w ↦
          w.least-is ∙ (c.in_ok-most.ensures ∙ sym (ap (λ (r : Routing). parts net r.routes demand) w.best-is ∙ ap (λ (l : List PairRoutes). parts net l demand) w.in_ok-best.ensures))
      | else-most-least w ↦ w.least-is ∙ (is.least ∙ sym (ap (λ (r : Routing). parts net r.routes demand) w.best-is))
    ]
    in
    turned net demand start c.args.descent made (after at) is of.splits of.in_order (best at) (routing at) least c.next_pace-pace.ensures.pace

pub returns-clause-turn : goal.returns-clause-turn
returns-clause-turn c =
    let at = (goal.at.returns-clause-turn c).Joined-pace-old in
    let old = c.args.descent in
    let made = c.in_ok-routing.routing.routes in
    let offered = map links_in c.args.offered.now in
    let new = after at in
    let either : (new.best.routes ≡ made) ⊎ (new.best.routes ≡ old.best.routes) = elim (best at) [ inl better ↦ inl better.0 | inr same ↦ inr same ] in
    record {
      few = λ both. both_turned (HasFewPaths c.args.limit) old new made either (routing at) (c.in_ok-routing.ensures.few both.0) both.1;
      only = λ fixed both. both_turned (UsesOnlyWays fixed offered) old new made either (routing at)
          (only_through c.args.net.now fixed old.routing.routes made offered c.requires.descent.3.routing both.0 c.in_ok-routing.ensures.only) both.1;
    }

pub returns-clause-made : goal.returns-clause-made
returns-clause-made c =
    let at = (goal.at.returns-clause-made c).Joined-pace-old in
    let made = c.in_ok-routing.routing.routes in
    let most : c.in_ok-most.most ≡ parts c.args.net.now made c.args.matrix.now.demand = c.in_ok-most.ensures in
    let turn : IsTurnTo c.args.net.now c.args.matrix.now.demand made c.args.descent (after at) =
    record {
      pace = subst (λ m. IsNextPace c.args.descent.pace m c.next_pace-pace.result) most c.next_pace-pace.ensures.next;
      better = λ less. elim c.if-most-least.branch [
        | then-most-least+in_ok-best w ↦ ap (λ (r : Routing). r.routes) w.best-is ∙ w.in_ok-best.ensures
        | else-most-least w ↦ absurd (omega (arith, w.if-most-least.false, most, less))
      ];
      no_better = λ le. elim c.if-most-least.branch [
        | then-most-least+in_ok-best w ↦ absurd (omega (arith, w.if-most-least.true, most, le))
        | else-most-least w ↦ ap (λ (r : Routing). r.routes) w.best-is
      ];
      goes_on = λ le. elim c.if-pace-old.branch [
        | then-pace-old+in_ok-routing-2 w ↦ absurd (omega (arith, w.if-pace-old.true, le))
        | else-pace-old w ↦ ap (λ (r : Routing). r.routes) w.routing-is
      ];
      goes_back = λ less. elim c.if-pace-old.branch [
        | then-pace-old+in_ok-routing-2 w ↦ ap (λ (r : Routing). r.routes) w.routing-is ∙ w.in_ok-routing-2.ensures
        | else-pace-old w ↦ absurd (omega (arith, w.if-pace-old.false, less))
      ];
    }
    in
    (made, c.in_ok-routing.ensures.shifts, turn)

pub shift_dearest-requires-clause-routing : goal.shift_dearest-requires-clause-routing
shift_dearest-requires-clause-routing c = c.requires.descent.3.routing

pub shift_dearest-requires-clause-demands : goal.shift_dearest-requires-clause-demands
shift_dearest-requires-clause-demands c =
    subst (λ n. AreDemands n c.args.matrix.now.demand) (sym (same_count c.args.descent.routing.routes c.requires.descent.0 c.requires.descent.3.routing_pairs))
    c.requires.descent.2

pub shift_dearest-requires-clause-step_divisor : goal.shift_dearest-requires-clause-step_divisor
shift_dearest-requires-clause-step_divisor c = (c.requires.descent.3.pace.some, c.requires.descent.3.pace.step_divisor)
