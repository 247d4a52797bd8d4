use Rattle.std.proofs.Common.{length, slice_index}
use Rattle.te_model.specs.Demand.{lower_of, upper_of}
use Rattle.best_blocks.proofs.AllowedUse.{balances_is}
use Rattle.best_blocks.proofs.balance.balances.Goals as goal

pub returns : goal.returns
returns c =
    let shares = c.args.shared.now.shares in
    let distances = c.args.distances.now in
    balances_is (lower_of c.args.set.now) (upper_of c.args.set.now) (length shares) (length distances) (slice_index shares) (slice_index distances) c.args.b
    c.used_by_shares.result c.args.allowed c.used_by_shares.ensures c.requires.numbers.count c.requires.allowed
