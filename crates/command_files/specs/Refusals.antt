-- The words for the causes that files are refused for.
use Rattle.std.specs.Prelude.{ℕ, List, ◌++◌, codes, Option, Some, None}
use Rattle.std.specs.Fmt.{decimal}
use Rattle.te_model.specs.declared.certificate.RuleFault.{RuleFault}
use Rattle.command_files.specs.declared.reasons.FormatReason.{FormatReason}
use Rattle.command_files.specs.declared.reasons.FormatReason.TheVariants.{Shape, Rule}
use Rattle.command_files.specs.declared.reasons.MatrixReason.{MatrixReason}
use Rattle.command_files.specs.declared.reasons.MatrixReason.TheVariants.{Fault, NoStep}
use Rattle.command_files.specs.MatrixFile.{matrices_reason, no_step_reason}

-- the words for bytes that leave a format at a line, and for those that spell what breaks a rule, by the letter of the format's rules
abbrev pub shape_reason : ℕ → List ℕ
shape_reason line = codes "shape at line " ++ decimal line

abbrev pub rule_reason : List ℕ → RuleFault → List ℕ
rule_reason letter rule = codes "rule " ++ (letter ++ (decimal rule.number ++ (codes " at " ++ decimal rule.place)))

abbrev pub format_reason : FormatReason → List ℕ
format_reason (Shape line) = shape_reason line
format_reason (Rule letter rule) = rule_reason letter.now rule

-- the words for matrices that are refused
abbrev pub series_reason : MatrixReason → List ℕ
series_reason (Fault fault) = matrices_reason fault
series_reason (NoStep k) = no_step_reason k

-- words, and the row that they end in where there is one
abbrev pub at_row : List ℕ → Option ℕ → List ℕ
at_row words None = words
at_row words (Some row) = words ++ decimal row
