-- The file of a witness against smaller ratios.
use Rattle.std.specs.Prelude.{◌≡◌, ◌⊎◌, ℕ, List, codes, length, Result, Ok, Err}
use Rattle.te_model.specs.declared.certificate.Head.{Head}
use Rattle.te_model.specs.declared.certificate.RuleFault.{RuleFault}
use Rattle.number_tables.specs.Due.{LeavesSmallFiles}
use Rattle.ratio_witness.specs.declared.witness.Witness.{Witness}
use Rattle.ratio_witness.specs.Text.{witness_due, witness_first, witness_text, IsWitnessOf, IsWitnessRuleFault}
use Rattle.command_frame.specs.Reading.{Kind}
use Rattle.command_files.specs.Refusals.{shape_reason, rule_reason}

-- 1 GiB
abbrev pub witness_limit : ℕ
witness_limit = 1073741824

-- the bytes are the file of a witness of the head, or they leave these files at a line, or spell what breaks a rule
abbrev pub GivesWitness : Head → List ℕ → Result Witness (List ℕ) → Type 0
GivesWitness head bytes (Ok witness) = IsWitnessOf head witness × (bytes ≡ witness_text witness)
GivesWitness head bytes (Err words) =
    ((line : ℕ) × LeavesSmallFiles witness_first (witness_due (length head.routes)) bytes line × (words ≡ shape_reason line))
    ⊎ ((rule : RuleFault) × IsWitnessRuleFault head bytes rule × (words ≡ rule_reason (codes "U") rule))

abbrev pub witnesses : Head → Kind Witness
witnesses head = record { limit = λ bytes. witness_limit; gives = GivesWitness head }
