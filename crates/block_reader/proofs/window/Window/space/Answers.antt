use Rattle.std.proofs.Common.{◌≤◌, arith}
use Rattle.block_reader.proofs.Fetching.{open_within}
use Rattle.block_reader.proofs.window.Window.space.Goals as goal

pub returns-clause-some : goal.returns-clause-some
returns-clause-some c =
    let w = c.args.self.now in
    let within : w.fetched ≤ w.limit = open_within w c.requires.is_open in
    omega (arith, within)
