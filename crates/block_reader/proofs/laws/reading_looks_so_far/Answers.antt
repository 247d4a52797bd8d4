use Rattle.block_reader.proofs.Sizes.{format_ahead, network_ahead, pair_count_ahead, pair_ahead, set_ahead, ratio_ahead, block_count_ahead, block_ahead, closing_ahead}
use Rattle.block_reader.proofs.laws.reading_looks_so_far.Goals as goal

pub returns-clause-format : goal.returns-clause-format
returns-clause-format c = format_ahead

pub returns-clause-network : goal.returns-clause-network
returns-clause-network c = network_ahead

pub returns-clause-pairs : goal.returns-clause-pairs
returns-clause-pairs c = pair_count_ahead

pub returns-clause-pair : goal.returns-clause-pair
returns-clause-pair c = pair_ahead

pub returns-clause-set : goal.returns-clause-set
returns-clause-set c = set_ahead

pub returns-clause-ratio : goal.returns-clause-ratio
returns-clause-ratio c = ratio_ahead

pub returns-clause-blocks : goal.returns-clause-blocks
returns-clause-blocks c = block_count_ahead

pub returns-clause-block : goal.returns-clause-block
returns-clause-block c = block_ahead

pub returns-clause-closing : goal.returns-clause-closing
returns-clause-closing c = closing_ahead
