-- In which order a command reads its files.
use Rattle.std.specs.Prelude.{◌≡◌, ◌⊎◌, ℕ, List, length}
use Rattle.te_ports.specs.Record.{Read, pass, HasGiven, IsBegun}
use Rattle.command_frame.specs.Files.{given_passes}
use Rattle.command_frame.specs.Reading.{Reading, answers, reads, GivesIn}

-- what was read between two times is passes over the files in their order, and nothing else: each came to the end of its file and gave
-- the value with which the reading goes on, but for the last, which was begun
abbrev pub ReadsAlong : Reading → List Read → List Read → Type 0
ReadsAlong (answers a) before now = now ≡ before
ReadsAlong (reads A kind file next) before now =
    IsBegun (pass file before now)
    ⊎ ((value : A) × (then : List Read) × GivesIn kind (given_passes now) (pass file before then) value × ReadsAlong (next value) then now)

-- what is read next: the file of this name at this place
abbrev pub AsksNext : Reading → List Read → List Read → List ℕ → ℕ → Type 0
AsksNext (answers a) before now name at = ⊥
AsksNext (reads A kind file next) before now name at =
    ((bytes : List ℕ) × HasGiven (pass file before now) bytes × (name ≡ file) × (at ≡ length bytes))
    ⊎ ((value : A) × (then : List Read) × GivesIn kind (given_passes now) (pass file before then) value × AsksNext (next value) then now name at)
