use Rattle.std.proofs.Common.{◌≡◌}
use Rattle.block_reader.specs.Standing.{room_of}
use Rattle.certificate_tests.proofs.window_tests.pass_all.Given as goal

abbrev pub invariant-steps : goal.invariant-steps
invariant-steps g l = room_of l.window ≡ 5
