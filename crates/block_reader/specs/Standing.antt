-- What stands ready of a file, and where a window stands in what reads gave of it and in its content.
use Rattle.std.specs.Prelude.{◌≡◌, ℕ, suc, ◌+◌, ◌-◌, ◌<◌, ◌≤◌, List, ◌++◌, take, drop, length, vec_len}
use Rattle.te_ports.specs.Record.{Pass, HasGiven, IsRead}
use Rattle.block_reader.specs.declared.window.Window.{Window}
use Rattle.block_reader.specs.declared.window.State.{State}
use Rattle.block_reader.specs.declared.window.State.TheVariants.{Open, Ended, Failed, TooLong}

-- the bytes that stand ready
abbrev pub ready : Window → List ℕ
ready w = drop w.start (take w.end w.bytes.items)

-- how many bytes were fetched, passed ones too
abbrev pub fetched_of : Window → ℕ
fetched_of w = w.fetched

-- what became of the file
abbrev pub state_of : Window → State
state_of w = w.state

-- how many bytes the window holds at most
abbrev pub room_of : Window → ℕ
room_of w = vec_len w.bytes

-- how many bytes the file may have
abbrev pub limit_of : Window → ℕ
limit_of w = w.limit

-- how many bytes may still be fetched, and one more; nothing where the file is not open
abbrev pub reads_left_in : State → ℕ → ℕ
reads_left_in Open n = suc n
reads_left_in Ended n = 0
reads_left_in Failed n = 0
reads_left_in TooLong n = 0

abbrev pub reads_left : Window → ℕ
reads_left w = reads_left_in w.state (w.limit + 1 - w.fetched)

-- reads gave these bytes: all of the file where it ended, and one byte more than the limit where that is passed
abbrev pub IsGiven : Pass → List ℕ → ℕ → State → Type 0
IsGiven gave bytes limit Open = HasGiven gave bytes
IsGiven gave bytes limit Ended = IsRead gave bytes
IsGiven gave bytes limit Failed = HasGiven gave bytes
IsGiven gave bytes limit TooLong = HasGiven gave bytes × (length bytes ≡ limit + 1)

-- reads gave the bytes that were passed and those that stand ready, and the state is the one that they leave
pub record StandsAt (gave : Pass) (w : Window) (passed : List ℕ) : Type 0 where
  pub given : IsGiven gave (passed ++ ready w) (limit_of w) (state_of w)
  pub count : fetched_of w ≡ length (passed ++ ready w)

-- the content ends where reading ended, or is longer than the limit
abbrev pub IsStateOf : List ℕ → ℕ → ℕ → State → Type 0
IsStateOf content limit fetched Open = Unit {0}
IsStateOf content limit fetched Ended = length content ≤ fetched
IsStateOf content limit fetched Failed = Unit {0}
IsStateOf content limit fetched TooLong = limit < length content

-- the content begins with the bytes that were passed and those that stand ready, and the state is right
pub record StandsIn (content : List ℕ) (w : Window) (passed : List ℕ) : Type 0 where
  pub front : take (fetched_of w) content ≡ passed ++ ready w
  pub count : fetched_of w ≡ length (passed ++ ready w)
  pub ends : IsStateOf content (limit_of w) (fetched_of w) (state_of w)
