use Rattle.command_files.proofs.Feeding.{fed_file, refuses}
use Rattle.command_files.proofs.certificates.feed_in.Goals as goal

pub returns-in-Ok : goal.returns-in-Ok
returns-in-Ok g c = fed_file g.F.BlockFeed.stands_for g.F.BlockFeed.given_head g.F.BlockFeed.least_link _ _ _ _ c.in-Ok.ensures.reads c.in-Ok.ensures.whole

pub returns-in-Err : goal.returns-in-Err
returns-in-Err g c = refuses _ _ _ c.in-Err.fault _ c.in-Err.ensures.reads c.answer_to.ensures
