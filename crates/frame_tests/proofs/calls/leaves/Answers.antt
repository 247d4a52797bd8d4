use Rattle.frame_tests.proofs.Soundness.{sizes_sound}
use Rattle.frame_tests.proofs.calls.leaves.Goals as goal

pub run-left-requires : goal.run-left-requires
run-left-requires c = sizes_sound
