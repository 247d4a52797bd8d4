-- A table of commands: the words that ask for each, and what each reads and answers.
use Rattle.std.specs.Prelude.{◌≡◌, ℕ, List, Option, Some}
use Rattle.command_frame.specs.Reading.{Reading, IsTold}
use Rattle.command_frame.specs.Sound.{AtEnd, AreRegular, IsSound, HasText, HasOneText}

-- what a command reads and answers, what it may answer whatever its files hold, where its answers have one text, and what is true of
-- its own numbers where words ask for it
pub record Entry : Type 1 where
  pub reading : Reading
  pub may_answer : ℕ → List ℕ → Type 0
  pub has_one_text : Type 0
  pub in_range : Type 0

-- the command of some words, and the entry of each command
pub record TableOf (Command : Type 0) : Type 1 where
  pub command_of : List (List ℕ) → Option Command
  pub entry_of : Command → Entry

abbrev pub reading_in : {Command : Type 0} → TableOf Command → Command → Reading
reading_in table command = (table.entry_of command).reading

-- a fact of the command of the words
abbrev pub OfWords : {Command : Type 0} → TableOf Command → List (List ℕ) → (Command → Type 0) → Type 0
OfWords {Command} table words P = (command : Command) → table.command_of words ≡ Some command → P command

-- a fact of the command of the words, where its files are told
abbrev pub OfToldWords : {Command : Type 0} → TableOf Command → List (List ℕ) → (List ℕ → Option (List ℕ)) → (Command → Type 0) → Type 0
OfToldWords table words content P = OfWords table words (λ command. IsTold (reading_in table command) content → P command)

-- its files are read in one way, and its answers are sound: they have one text where that is said, and some text
pub record IsSoundEntry (entry : Entry) : Type 0 where
  pub regular : AreRegular entry.reading
  pub sound : AtEnd entry.reading (IsSound entry.may_answer)
  pub one_text : entry.has_one_text → AtEnd entry.reading HasOneText
  pub some_text : entry.in_range → AtEnd entry.reading HasText

pub record IsSoundTable {Command : Type 0} (table : TableOf Command) : Type 0 where
  pub entries : (command : Command) → IsSoundEntry (table.entry_of command)
  pub in_range : (words : List (List ℕ)) → OfWords table words (λ command. (table.entry_of command).in_range)
