use Rattle.certificate_commands.proofs.Verdict.{network_found, other_network}
use Rattle.certificate_commands.proofs.check_network.judge_on.Goals as goal

pub returns-then-same : goal.returns-then-same
returns-then-same c = λ head blocks stands network is.
    network_found (record { head = head; blocks = blocks }) network _ (is.0 c.if-same.true) (c.judge.ensures head blocks stands)

pub returns-else-same : goal.returns-else-same
returns-else-same c = λ head blocks stands network is.
    other_network (record { head = head; blocks = blocks }) network c.args.same c.no_network.result is c.if-same.false c.no_network.ensures
