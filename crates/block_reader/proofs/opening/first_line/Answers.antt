use Rattle.block_reader.proofs.PartLaws.{format_part}
use Rattle.block_reader.proofs.opening.first_line.Goals as goal

pub read_part-requires-clause-part : goal.read_part-requires-clause-part
read_part-requires-clause-part g c = format_part
