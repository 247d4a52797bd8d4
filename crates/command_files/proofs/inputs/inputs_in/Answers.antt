use Rattle.std.proofs.lemmas.Result.{err_from_is_err_and}
use Rattle.command_frame.specs.Reading.{answers}
use Rattle.command_files.specs.Outcome.{no_answer}
use Rattle.command_files.proofs.PlanReads.{plan_unread, topology_unread, matrices_unread, all_read}
use Rattle.command_files.proofs.inputs.inputs_in.Goals as goal

pub returns-in_err-named-clause-reads : goal.returns-in_err-named-clause-reads
returns-in_err-named-clause-reads g c =
    let p = err_from_is_err_and c.from_residual.result c.from_residual.ensures.1 in
    rw (p.1, p.2) (plan_unread c.args.step c.args.plan.now (λ plan network series. answers no_answer) _ _ c.in_err-named.field-0.0 c.in_err-named.ensures.reads)

pub returns-in_err-network-clause-reads : goal.returns-in_err-network-clause-reads
returns-in_err-network-clause-reads g c =
    let p = err_from_is_err_and c.from_residual-in_err-network.result c.from_residual-in_err-network.ensures.1 in
    rw (p.1, p.2)
    (topology_unread c.args.step c.args.plan.now (λ plan network series. answers no_answer) c.in_ok-named.named _ _ _ c.in_err-network.field-0.0
    c.in_ok-named.ensures.reads (rw c.as_str-topology.ensures at c.in_err-network.ensures.reads))

pub returns-in_err-series-clause-reads : goal.returns-in_err-series-clause-reads
returns-in_err-series-clause-reads g c =
    let p = err_from_is_err_and c.from_residual-in_err-series.result c.from_residual-in_err-series.ensures.1 in
    rw (p.1, p.2)
    (matrices_unread c.args.step c.args.plan.now (λ plan network series. answers no_answer) c.in_ok-named.named c.in_ok-network.network _ _ _ _ c.in_err-series.field-0.0
    c.in_ok-named.ensures.reads (rw c.as_str-topology.ensures at c.in_ok-network.ensures.reads)
    (rw c.as_str-matrices.ensures at c.in_err-series.ensures.reads))

pub returns-clause-reads : goal.returns-clause-reads
returns-clause-reads g c =
    all_read c.args.step c.args.plan.now c.in_ok-named.named c.in_ok-network.network c.in_ok-series.series _ _ _ _
    c.in_ok-named.ensures.reads (rw c.as_str-topology.ensures at c.in_ok-network.ensures.reads)
    (rw c.as_str-matrices.ensures at c.in_ok-series.ensures.reads)
