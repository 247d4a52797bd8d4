use Rattle.std.proofs.Common.{List, All, length, ap, sym, ◌∙◌, subst}
use Rattle.scheme.specs.Fixed.{IsRoutingBy}
use Rattle.mcf_lengths.specs.declared.round.FlowRound.{FlowRound}
use Rattle.mcf_lengths.specs.declared.round.TheConstants.{ROUNDS}
use Rattle.mcf_lengths.specs.Rounds.{AreLeastPaths, IsRoundsSplit, paths_of_round}
use Rattle.mcf_lengths.proofs.Lengthening.{round_paths, taken_lengths}
use Rattle.mcf_lengths.proofs.rounds.rounds_routing.Goals as goal

pub routing_over-requires-clause-count : goal.routing_over-requires-clause-count
routing_over-requires-clause-count c = ap (λ (l : List FlowRound). length l) c.deref.ensures.value ∙ c.in_ok-rounds.ensures.count

pub routing_over-requires-clause-paths : goal.routing_over-requires-clause-paths
routing_over-requires-clause-paths c =
    let net = c.args.net.now in
    let pairs = c.args.pairs.now.list in
    subst (All (λ (r : FlowRound). AreLeastPaths net r.lengths pairs (paths_of_round r))) (sym c.deref.ensures.value)
    (round_paths net pairs c.args.matrix.now.demand c.in_ok-rounds.rounds.items c.in_ok-rounds.ensures)

pub returns-clause-rounds : goal.returns-clause-rounds
returns-clause-rounds c = (
  c.in_ok-rounds.rounds.items,
  c.in_ok-rounds.ensures,
  subst (λ (l : List FlowRound). IsRoutingBy (IsRoundsSplit l) ROUNDS c.args.net.now c.args.pairs.now.list c.in_ok-routing.routing.routes) c.deref.ensures.value
      c.in_ok-routing.ensures,
)

pub returns-clause-lengths : goal.returns-clause-lengths
returns-clause-lengths c = (c.in_ok-rounds.rounds.items, c.in_ok-rounds.ensures, c.in_ok-lengths.ensures)

pub returns-clause-limits : goal.returns-clause-limits
returns-clause-limits c =
    taken_lengths c.args.net.now c.args.pairs.now.list c.args.matrix.now.demand c.in_ok-rounds.rounds.items c.in_ok-lengths.lengths.items c.requires.network
    c.in_ok-rounds.ensures c.in_ok-lengths.ensures
