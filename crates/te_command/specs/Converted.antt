-- A file and the one that `convert` makes of it, and what `check` says of the two.
use Rattle.std.specs.Prelude.{◌≡◌, ℕ, List, Option, Some}
use Rattle.te_model.specs.declared.demand.DemandSet.{DemandSet}
use Rattle.te_model.specs.Upgrade.{box_of}
use Rattle.command_frame.specs.Files.{told_files}
use Rattle.command_frame.specs.Reading.{Means}
use Rattle.command_files.specs.Check.{yes_line}
use Rattle.te_command.specs.Commands.{convert, reading_of}

-- both are told, the second as what `convert` answers of the first
pub record AreConverted (content : List ℕ → Option (List ℕ)) (file made : List ℕ) : Type 0 where
  pub text : List ℕ
  pub converted : Means (reading_of (convert file)) (told_files content) 0 text
  pub told_as : content made ≡ Some text

-- the lines of a yes to one ratio, of a demand set and of its box
pub record SayYesAlike (line boxed : List ℕ) : Type 0 where
  pub ratio : ℕ
  pub set : DemandSet
  pub line_is : line ≡ yes_line ratio set
  pub boxed_is : boxed ≡ yes_line ratio (box_of set)
