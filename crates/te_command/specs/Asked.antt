-- The command that was read from the words.
use Rattle.te_command.specs.declared.words.Command.{Command as Asked}
use Rattle.te_command.specs.declared.words.Command.TheVariants as asked
use Rattle.te_command.specs.Commands.{Command, attack, bound_hose, bound_links, break_down, challenge, check, check_hose, check_network, check_rates, check_witness, convert, protect, publish, reprice, run, generate, simulate, tighten, update}

abbrev pub command_meant : Asked → Command
command_meant (asked.Attack c) = attack c.certificate.now
command_meant (asked.Challenge c) = challenge c.certificate.now
command_meant (asked.Check c) = check c.certificate.now
command_meant (asked.CheckNetwork c) = check_network c.certificate.now c.topology.now
command_meant (asked.CheckWitness c) = check_witness c.certificate.now c.witness.now
command_meant (asked.Convert c) = convert c.certificate.now
command_meant (asked.Publish c) = publish c.plan.now
command_meant (asked.Run c) = run c.plan.now
command_meant (asked.Generate c) = generate c.nodes c.seed
command_meant (asked.Update c) = update c.before.now c.after.now c.matrices.now
command_meant (asked.Protect c) = protect c.certificate.now c.matrices.now c.failures
command_meant (asked.CheckRates c) = check_rates c.certificate.now c.matrices.now c.rates.now
command_meant (asked.BoundHose c) = bound_hose c.certificate.now c.bounds.now
command_meant (asked.CheckHose c) = check_hose c.certificate.now c.hose.now
command_meant (asked.Bounds c) = bound_links c.certificate.now
command_meant (asked.Reprice c) = reprice c.certificate.now c.topology.now
command_meant (asked.Tighten c) = tighten c.certificate.now
command_meant (asked.BreakDown c) = break_down c.breakdown c.plan.now c.step
command_meant (asked.Simulate c) = simulate c.certificate.now c.plan.now
