-- Calls of the system that are made again where a signal interrupted them.
use Rattle.std.specs.Prelude.{◌≡◌, ℕ, ◌+◌, ◌<◌, ◌≤◌, List, [], ◌∷◌, ◌++◌, length, Ok, Err, MatchResult}
use Rattle.std.specs.declared.result.Result.{Result}
use Rattle.te_ports.specs.declared.port.Failed.{Failed}
use Rattle.te_ports.specs.declared.system.SystemFault.{SystemFault}
use Rattle.te_ports.specs.declared.system.SystemFault.TheVariants.{Interrupted}
use Rattle.te_ports.specs.Calls.{SystemCall, writes, read_into}

-- how often a call is made at most
abbrev pub most_calls : ℕ
most_calls = 100

-- so many calls, one or more, took one state to another: all but the last were interrupted, and the last had this answer
pub data IsCalled {S : Type 0} (call : S → Result ℕ SystemFault → S → Type 0) : ℕ → S → Result ℕ SystemFault → S → Type 0 where
  once : (count : ℕ) (old new : S) (answer : Result ℕ SystemFault) → count ≡ 1 → call old answer new → IsCalled call count old answer new
  again : (count fewer : ℕ) (old between new : S) (last : Result ℕ SystemFault) → count ≡ fewer + 1 →
      IsCalled call fewer old (Err Interrupted) between → call between last new → IsCalled call count old last new

-- a call was made until it was not interrupted, and otherwise as often as a call is made at most
pub record IsTried {S : Type 0} (call : S → Result ℕ SystemFault → S → Type 0) (old : S) (answer : Result ℕ SystemFault) (new : S) : Type 0 where
  pub count : ℕ
  pub calls : IsCalled call count old answer new
  pub at_most : count ≤ most_calls
  pub gives_up : answer ≡ Err Interrupted → count ≡ most_calls

-- a write of these bytes, as a call: it is noted, and nothing else is
abbrev pub NotesWrite : {S : Type 0} → (S → List SystemCall) → List ℕ → S → Result ℕ SystemFault → S → Type 0
NotesWrite calls bytes old answer new = calls new ≡ calls old ++ writes bytes answer ∷ []

-- a read of the file of this name at this place, as a call that changes the disk and the buffer: it is noted, and nothing else is
abbrev pub NotesRead : {S : Type 0} → (S → List SystemCall) → List ℕ → ℕ → S × List ℕ → Result ℕ SystemFault → S × List ℕ → Type 0
NotesRead calls name at old answer new = calls new.0 ≡ calls old.0 ++ read_into name at answer new.1 ∷ []

-- a write takes what the system took, and fails exactly where the system did or took nothing of bytes that are there
abbrev pub IsWriteAnswer : List ℕ → Result ℕ SystemFault → Result ℕ Failed → Type 0
IsWriteAnswer bytes answer result = MatchResult result
    (λ n. (answer ≡ Ok n) × (0 < length bytes → 0 < n))
    (λ _. MatchResult answer (λ n. (n ≡ 0) × (0 < length bytes)) (λ _. Unit {0}))

-- a read gives what the system gave, and fails exactly where the system did
abbrev pub IsReadAnswer : Result ℕ SystemFault → Result ℕ Failed → Type 0
IsReadAnswer answer result = MatchResult result (λ n. answer ≡ Ok n) (λ _. MatchResult answer (λ _. ⊥) (λ _. Unit {0}))
