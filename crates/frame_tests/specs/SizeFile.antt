-- The files of the test commands: one gives how many bytes it has, and an empty one is refused by a rule.
use Rattle.std.specs.Prelude.{◌≡◌, ℕ, List, [], ◌∷◌, ◌++◌, codes, length, Result, Ok, Err, refl}
use Rattle.std.specs.Fmt.{decimal}
use Rattle.std.proofs.Common.{lit≤}
use Rattle.te_ports.specs.Limit.{IsLimit}
use Rattle.command_frame.specs.Reading.{Kind}

-- the words for a rule, whose letter is W
abbrev pub rule_words : ℕ → ℕ → List ℕ
rule_words number place = codes "rule W" ++ (decimal number ++ (codes " at " ++ decimal place))

abbrev pub size_of : List ℕ → Result ℕ (List ℕ)
size_of [] = Err (rule_words 1 0)
size_of (b ∷ bytes) = Ok (length (b ∷ bytes))

abbrev pub sizes : Kind ℕ
sizes = record { limit = λ _. 16; gives = λ bytes answer. size_of bytes ≡ answer }

pub size_limits : IsLimit (λ bytes. 16)
size_limits = record { small = λ bytes. lit≤ tt; rises = λ front rest. lit≤ tt; settled = λ front rest past. refl }
