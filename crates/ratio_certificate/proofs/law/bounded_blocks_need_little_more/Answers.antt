use Rattle.ratio_certificate.proofs.BoundedNeeds.{bounded_blocks_need_little_more}
use Rattle.ratio_certificate.proofs.law.bounded_blocks_need_little_more.Goals as goal

pub returns : goal.returns
returns c = bounded_blocks_need_little_more
