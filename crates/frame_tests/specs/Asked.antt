-- The test command that was read from the words.
use Rattle.frame_tests.specs.declared.sizes.Command.{Command as Asked}
use Rattle.frame_tests.specs.declared.sizes.Command.TheVariants as asked
use Rattle.frame_tests.specs.Sizes.{SizeCommand, tally, same}

abbrev pub command_meant : Asked → SizeCommand
command_meant (asked.Tally file) = tally file.now
command_meant (asked.Same first second) = same first.now second.now
