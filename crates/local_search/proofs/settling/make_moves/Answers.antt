use Rattle.std.proofs.Common.{◌≡◌, ◌<◌, inl, List, length, Option, Some, None, arith, refl, sym, ◌∙◌, subst}
use Rattle.std.specs.Prelude.{IfNone, IfSome}
use Rattle.te_model.specs.declared.route.PairRoutes.{PairRoutes}
use Rattle.te_model.specs.Network.{link_count}
use Rattle.te_model.specs.Path.{routes_at}
use Rattle.te_model.proofs.WellFormed.{few_links}
use Rattle.routing.specs.Merge.{links_at}
use Rattle.routing.specs.Routes.{AreDemands}
use Rattle.routing.specs.Utilisation.{parts}
use Rattle.routing.proofs.InOrder.{same_count}
use Rattle.routing.proofs.Splits.{splits_of}
use Rattle.local_search.specs.declared.step.Move.{Move}
use Rattle.local_search.specs.Moves.{CanMove, ImprovesBy1024th, IsMoved}
use Rattle.local_search.proofs.Holders.{holders_stay}
use Rattle.local_search.proofs.MovedLoads.{loads_small}
use Rattle.local_search.proofs.Settled.{settled_more}
use Rattle.local_search.proofs.settling.make_moves.Goals as goal

-- the step that was found
can_of : (routes candidates : List PairRoutes) (o : Option Move) (step : Move) → o ≡ Some step →
    IfSome o (λ m. CanMove routes candidates m.pair m.from (links_at (routes_at candidates m.pair).paths m.target.candidate) m.target.size) →
    CanMove routes candidates step.pair step.from (links_at (routes_at candidates step.pair).paths step.target.candidate) step.target.size
can_of routes candidates o step is some =
    subst (λ (o : Option Move). IfSome o (λ m. CanMove routes candidates m.pair m.from (links_at (routes_at candidates m.pair).paths m.target.candidate)
    m.target.size)) is some

place_of : (candidates : List PairRoutes) (o : Option Move) (step : Move) → o ≡ Some step →
    IfSome o (λ m. m.target.candidate < length (routes_at candidates m.pair).paths) → step.target.candidate < length (routes_at candidates step.pair).paths
place_of candidates o step is some = subst (λ (o : Option Move). IfSome o (λ m. m.target.candidate < length (routes_at candidates m.pair).paths)) is some

pub moves-init : goal.moves-init
moves-init c = record {
  routing = c.requires.routing;
  pairs = refl;
  lower = omega arith;
  only = λ p links has. inl has;
  are_loads = c.requires.loads;
}

pub next_move-requires-clause-network : goal.next_move-requires-clause-network
next_move-requires-clause-network c = c.requires.network

pub next_move-requires-clause-loads : goal.next_move-requires-clause-loads
next_move-requires-clause-loads c = c.moves.invariant.are_loads

pub carry_move-requires-clause-pair : goal.carry_move-requires-clause-pair
carry_move-requires-clause-pair c = (can_of c.moves.routes c.args.candidates.now _ c.in-Some.step c.in-Some.is c.in_ok-step.ensures.some).pair

pub carry_move-requires-clause-from : goal.carry_move-requires-clause-from
carry_move-requires-clause-from c = (can_of c.moves.routes c.args.candidates.now _ c.in-Some.step c.in-Some.is c.in_ok-step.ensures.some).path

pub carry_move-requires-clause-to : goal.carry_move-requires-clause-to
carry_move-requires-clause-to c = place_of c.args.candidates.now _ c.in-Some.step c.in-Some.is c.in_ok-step.ensures.place

pub carry_move-requires-clause-links : goal.carry_move-requires-clause-links
carry_move-requires-clause-links c = omega (arith, few_links c.args.net.now c.requires.network, c.moves.invariant.are_loads.count)

pub take_move-requires-clause-pair : goal.take_move-requires-clause-pair
take_move-requires-clause-pair c = (can_of c.moves.routes c.args.candidates.now _ c.in-Some.step c.in-Some.is c.in_ok-step.ensures.some).pair

pub take_move-requires-clause-from : goal.take_move-requires-clause-from
take_move-requires-clause-from c = (can_of c.moves.routes c.args.candidates.now _ c.in-Some.step c.in-Some.is c.in_ok-step.ensures.some).path

pub take_move-requires-clause-to : goal.take_move-requires-clause-to
take_move-requires-clause-to c = place_of c.args.candidates.now _ c.in-Some.step c.in-Some.is c.in_ok-step.ensures.place

pub moves-smaller : goal.moves-smaller
moves-smaller c =
    let net = c.args.net.now in
    let demand = c.args.matrix.now.demand in
    let routes = c.moves.routes in
    let step = c.in-Some.step in
    let improves =
    subst (λ (o : Option Move). IfSome o (λ m. (moved : List PairRoutes) → IsMoved routes m.pair m.from
    (links_at (routes_at c.args.candidates.now m.pair).paths m.target.candidate) m.target.size moved →
    ImprovesBy1024th (parts net routes demand) (parts net moved demand))) c.in-Some.is c.in_ok-step.ensures.improves
    in
    (improves c.take_move.new.routes c.in_ok-take_move.ensures).0

pub returns-clause-settled : goal.returns-clause-settled
returns-clause-settled c = c.moves.invariant

pub next_move-requires-clause-splits : goal.next_move-requires-clause-splits
next_move-requires-clause-splits c = splits_of c.args.net.now c.moves.routes c.moves.invariant.routing

pub next_move-requires-clause-demands : goal.next_move-requires-clause-demands
next_move-requires-clause-demands c = subst (λ n. AreDemands n c.args.matrix.now.demand) (sym c.moves.auto.routes) c.requires.demands

pub next_move-requires-clause-pairs : goal.next_move-requires-clause-pairs
next_move-requires-clause-pairs c = same_count c.args.candidates.now c.args.routes.now c.requires.pairs ∙ sym c.moves.auto.routes

pub next_move-requires-clause-holders : goal.next_move-requires-clause-holders
next_move-requires-clause-holders c =
    let before = c.args.routes.now in
    let candidates = c.args.candidates.now in
    holders_stay (link_count c.args.net.now) before candidates c.moves.routes c.args.holders.now c.requires.holders c.moves.invariant.only
    c.moves.auto.routes (same_count candidates before c.requires.pairs)

pub carry_move-requires-clause-demands : goal.carry_move-requires-clause-demands
carry_move-requires-clause-demands c = subst (λ n. AreDemands n c.args.matrix.now.demand) (sym c.moves.auto.routes) c.requires.demands

pub carry_move-requires-clause-pairs : goal.carry_move-requires-clause-pairs
carry_move-requires-clause-pairs c = same_count c.args.candidates.now c.args.routes.now c.requires.pairs ∙ sym c.moves.auto.routes

pub carry_move-requires-clause-small : goal.carry_move-requires-clause-small
carry_move-requires-clause-small c =
    let count = c.moves.auto.routes in
    let so = c.moves.invariant in
    loads_small c.args.net.now c.args.matrix.now.demand c.moves.routes c.moves.loads (splits_of c.args.net.now c.moves.routes so.routing)
    (omega (arith, count, c.requires.few)) (subst (λ n. AreDemands n c.args.matrix.now.demand) (sym count) c.requires.demands) so.are_loads

pub take_move-requires-clause-splits : goal.take_move-requires-clause-splits
take_move-requires-clause-splits c = splits_of c.args.net.now c.moves.routes c.moves.invariant.routing

pub take_move-requires-clause-pairs : goal.take_move-requires-clause-pairs
take_move-requires-clause-pairs c = same_count c.args.candidates.now c.args.routes.now c.requires.pairs ∙ sym c.moves.auto.routes

pub moves-preserved : goal.moves-preserved
moves-preserved c =
    let net = c.args.net.now in
    let demand = c.args.matrix.now.demand in
    let before = c.args.routes.now in
    let candidates = c.args.candidates.now in
    let routes = c.moves.routes in
    let step = c.in-Some.step in
    let to = links_at (routes_at candidates step.pair).paths step.target.candidate in
    let new = c.take_move.new.routes in
    let can =
    subst (λ (o : Option Move). IfSome o (λ m. CanMove routes candidates m.pair m.from (links_at (routes_at candidates m.pair).paths m.target.candidate)
    m.target.size)) c.in-Some.is c.in_ok-step.ensures.some
    in
    let improves =
    subst (λ (o : Option Move). IfSome o (λ m. (moved : List PairRoutes) → IsMoved routes m.pair m.from
    (links_at (routes_at candidates m.pair).paths m.target.candidate) m.target.size moved → ImprovesBy1024th (parts net routes demand) (parts net moved demand)))
    c.in-Some.is c.in_ok-step.ensures.improves
    in
    settled_more net demand before candidates routes new c.moves.loads c.carry_move.new.loads step.pair step.from to step.target.size
    c.requires.others c.requires.pairs c.moves.invariant can c.in_ok-take_move.ensures (improves new c.in_ok-take_move.ensures).0
    c.carry_move.auto.loads c.carry_move.ensures

-- what holds where there is no value, of which there is none
of_none : {A Q : Type 0} (o : Option A) → ((x : A) → o ≡ Some x → ⊥) → IfNone o Q → Q
of_none None never holds = holds
of_none (Some x) never holds = absurd (never x refl)

pub returns-clause-stable : goal.returns-clause-stable
returns-clause-stable c = of_none c.in_ok-step.field-0 c.in_default.not-Some c.in_ok-step.ensures.none
