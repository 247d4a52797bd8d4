use Rattle.std.proofs.Common.{◌⊎◌, ℕ, List, inl, inr}
use Rattle.te_ports.specs.Ports.{Rose}
use Rattle.te_ports.specs.Record.{Read}
use Rattle.command_frame.specs.Files.{Passes, given_passes}
use Rattle.command_frame.specs.Reading.{ReadFailedAfter}
use Rattle.te_command.specs.Commands.{check_network, reading_of}
use Rattle.te_command.proofs.laws.failed_reads_are_of_named_files.Goals as goal

named : (certificate topology : List ℕ) (passes : Passes) (before : List Read) (Fails : List ℕ → Type 0) →
    ReadFailedAfter (reading_of (check_network certificate topology)) passes before Fails →
    Fails certificate ⊎ Fails topology
named certificate topology passes before Fails (inl first) = inl first.0
named certificate topology passes before Fails (inr (spelled, now, gives, inl second)) = inr second.0
named certificate topology passes before Fails (inr (spelled, now, gives, inr (network, then, makes, none))) = absurd none

pub returns : goal.returns
returns c = λ certificate topology made before now failed.
    named certificate topology (given_passes made.now) made.before (λ file. Rose (before file) (now file)) failed
