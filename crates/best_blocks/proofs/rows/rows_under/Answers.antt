use Rattle.shortest_path.proofs.Sound.{sound}
use Rattle.best_blocks.proofs.rows.rows_under.Goals as goal

pub new-requires : goal.new-requires
new-requires c = sound c.args.net.now c.requires.network
