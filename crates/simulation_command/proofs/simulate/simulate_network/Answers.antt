use Rattle.std.proofs.lemmas.List.Elements.{All-weaker}
use Rattle.std.proofs.lemmas.Result.{err_from_is_err_and}
use Rattle.std.proofs.Common.{◌≡◌, List, All, true, subst, sym}
use Rattle.te_model.specs.declared.network.Network.{Network}
use Rattle.te_model.specs.declared.route.Pair.{Pair}
use Rattle.te_model.specs.Network.{is_well_formed, node_count}
use Rattle.te_model.specs.Pairs.{IsNodePair, IsPairAmong}
use Rattle.ratio_checker.proofs.FormedHeads.{head_formed}
use Rattle.local_recovery.specs.Rates.{pairs_of}
use Rattle.traffic_matrix.specs.declared.series.Series.{Series}
use Rattle.certificate_simulation.proofs.HeadPairs.{head_pairs_among}
use Rattle.command_frame.specs.declared.answer.Fault.TheVariants.{Memory}
use Rattle.simulation_command.specs.RoutedMatrices.{routed_matrices}
use Rattle.simulation_command.specs.Simulate.{networked_reading, routed_reading}
use Rattle.command_frame.proofs.Following.{falls_short, goes_on, stops}
use Rattle.simulation_command.proofs.simulate.simulate_network.Goals as goal

pub value_in-requires : goal.value_in-requires
value_in-requires g c =
    let head = c.args.head in
    let valid = c.requires.head in (
      subst (λ (n : Network). is_well_formed n ≡ true) c.requires.network (head_formed head valid),
      rw (c.as_slice-2.ensures.value, c.in_ok-pairs.ensures, c.as_slice.ensures)
          (subst (λ (n : Network). All (IsNodePair (node_count n)) (pairs_of head.routes)) c.requires.network
          (All-weaker (IsPairAmong (node_count head.network)) (IsNodePair (node_count head.network))
          (λ p among. record { src = among.src_inside; dst = among.dst_inside }) (pairs_of head.routes) (head_pairs_among head valid))),
    )

pub returns-in_err-pairs : goal.returns-in_err-pairs
returns-in_err-pairs g c = λ blocks.
    let p = err_from_is_err_and c.from_residual.result c.from_residual.ensures.1 in
    rw (p.1, p.2) (falls_short (networked_reading (record { head = c.args.head; blocks = blocks }) c.args.plan c.args.network) _)

pub returns-in_err-series : goal.returns-in_err-series
returns-in_err-series g c = λ blocks.
    let p = err_from_is_err_and c.from_residual-in_err-series.result c.from_residual-in_err-series.ensures.1 in
    let head = c.args.head in
    rw (p.1, p.2)
    (stops Series (routed_matrices (pairs_of head.routes) c.args.network) c.args.plan.matrices
    (routed_reading (record { head = head; blocks = blocks }) c.args.plan c.args.network) _ _ c.in_err-series.field-0.0
    (rw (c.as_str.ensures, c.as_slice-2.ensures.value, c.in_ok-pairs.ensures, c.as_slice.ensures) at c.in_err-series.ensures.reads))

pub returns : goal.returns
returns g c = λ blocks.
    let head = c.args.head in
    goes_on Series (routed_matrices (pairs_of head.routes) c.args.network) c.args.plan.matrices
    (routed_reading (record { head = head; blocks = blocks }) c.args.plan c.args.network) c.in_ok-series.series _ _ _ c.simulate_inputs.result
    (rw (c.as_str.ensures, c.as_slice-2.ensures.value, c.in_ok-pairs.ensures, c.as_slice.ensures) at c.in_ok-series.ensures.reads) (c.simulate_inputs.ensures blocks)
