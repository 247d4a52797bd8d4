use Rattle.std.proofs.Common.{OnOk, subst}
use Rattle.worst_matrices.specs.Count.{AreMoreBy}
use Rattle.worst_matrices.proofs.worst.add_stage.Goals as goal

pub returns-clause-count : goal.returns-clause-count
returns-clause-count c =
    subst (λ n. OnOk c.add_mean.result (AreMoreBy 1 c.args.usage.now.set.now n c.args.found.now.items c.add_mean.new.found.items))
    c.in_ok-sums.ensures.count c.add_mean.ensures.count
