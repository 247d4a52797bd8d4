-- The texts of the two commands.
use Rattle.std.specs.Prelude.{◌≡◌, ℕ, List, [], ◌∷◌, ◌++◌, codes}
use Rattle.std.specs.Fmt.{decimal}
use Rattle.te_model.specs.declared.certificate.Head.{Head}
use Rattle.ratio_witness.specs.declared.verdict.WitnessVerdict.{WitnessVerdict}
use Rattle.ratio_witness.specs.declared.verdict.WitnessVerdict.TheVariants.{Yes, No}
use Rattle.ratio_witness.specs.declared.witness.Witness.{Witness}
use Rattle.ratio_witness.specs.Verdict.{verdict_fault, verdict_of}

-- the line of a yes: the bound in millionths
abbrev pub yes_line : ℕ → List ℕ
yes_line bound = codes "yes bound " ++ (decimal bound ++ 10 ∷ [])

-- the line of a no: the rule and the place of the first failure
abbrev pub no_line : ℕ → ℕ → List ℕ
no_line rule place = codes "no rule J" ++ (decimal rule ++ (codes " place " ++ (decimal place ++ 10 ∷ [])))

-- the status and the line of a verdict on a witness with this bound
abbrev pub verdict_status : WitnessVerdict → ℕ
verdict_status Yes = 0
verdict_status (No rule place) = 1

abbrev pub verdict_line : ℕ → WitnessVerdict → List ℕ
verdict_line bound Yes = yes_line bound
verdict_line bound (No rule place) = no_line rule place

-- the status and the text of the verdict on the witness
abbrev pub IsBoundVerdict : Head → Witness → ℕ → List ℕ → Type 0
IsBoundVerdict h w status text =
    (status ≡ verdict_status (verdict_of (verdict_fault h w))) × (text ≡ verdict_line w.bound (verdict_of (verdict_fault h w)))
