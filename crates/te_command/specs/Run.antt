-- What the program does with the words of the command line: what the frame says of the table of the program's commands.
use Rattle.std.specs.Prelude.{ℕ, List, Option}
use Rattle.command_frame.specs.Files.{Files, Span}
use Rattle.command_frame.specs.Table.{OfWords, OfToldWords}
use Rattle.command_frame.specs.Run.{Change, WritesMeant as WritesMeantBy, SaysMeant as SaysMeantBy, WritesProof as WritesProofBy, WritesPartMeant as WritesPartMeantBy, ReadsInOrder as ReadsInOrderBy, HasForm as HasFormOf}
use Rattle.te_command.specs.Commands.{Command, commands, MayAnswer}

-- a fact of the command of the words
abbrev pub OfCommand : List (List ℕ) → (Command → Type 0) → Type 0
OfCommand words P = OfWords commands words P

-- a fact of the command of the words, where its files are told
abbrev pub OfToldCommand : List (List ℕ) → (List ℕ → Option (List ℕ)) → (Command → Type 0) → Type 0
OfToldCommand words content P = OfToldWords commands words content P

-- by these files some text was written, or said, that the command of the words means at this status
abbrev pub WritesMeant : List (List ℕ) → Files → ℕ → Change → Type 0
WritesMeant words files status out = WritesMeantBy commands words files status out

abbrev pub SaysMeant : List (List ℕ) → Files → ℕ → Change → Type 0
SaysMeant words files status err = SaysMeantBy commands words files status err

-- a text was written that proves what the command of the words is for
abbrev pub WritesProof : List (List ℕ) → Files → Change → Type 0
WritesProof words files out = WritesProofBy commands words files out

-- a part of a text was written that the command of the words means at status 0 or 1
abbrev pub WritesPartMeant : List (List ℕ) → Files → Change → Type 0
WritesPartMeant words files out = WritesPartMeantBy commands words files out

-- the reads of a call are those of the command of the words, in their order, and there are none where the words are no form of one
abbrev pub ReadsInOrder : List (List ℕ) → Span → Type 0
ReadsInOrder words made = ReadsInOrderBy commands words made

-- the command may answer so
abbrev pub HasForm : Command → ℕ → Change → Change → Type 0
HasForm command result out err = HasFormOf (MayAnswer command) result out err
