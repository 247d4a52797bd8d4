-- The verdict on a witness: J1, the matrix lies between the scaled bounds of the set, and J2, the bound is at most the
-- performance ratio.
use Rattle.std.specs.Prelude.{ℕ, ◌*◌, Bool, true, ◌&&◌, List, [], ◌∷◌, length, Option, Some, None, nat_le}
use Rattle.te_model.specs.declared.certificate.Head.{Head}
use Rattle.te_model.specs.declared.certificate.RuleFault.{RuleFault}
use Rattle.te_model.specs.declared.demand.DemandSet.{DemandSet}
use Rattle.te_model.specs.declared.demand.DemandSet.TheVariants.{All, Margin, Box}
use Rattle.te_model.specs.Counting.{first_some}
use Rattle.te_model.specs.Demand.{lower_of, upper_of}
use Rattle.te_model.specs.Validity.{Rule, faults_from}
use Rattle.ratio_witness.specs.declared.verdict.WitnessVerdict.{WitnessVerdict}
use Rattle.ratio_witness.specs.declared.verdict.WitnessVerdict.TheVariants.{Yes, No}
use Rattle.ratio_witness.specs.declared.witness.Witness.{Witness}
use Rattle.ratio_witness.specs.Rules.{demand_of}
use Rattle.ratio_witness.specs.Witness.{performance_ratio}

-- the demand of pair p lies between its bounds, times x / y
abbrev pub is_between : DemandSet → Witness → ℕ → Bool
is_between set w p = nat_le (w.x * lower_of set p) (w.y * demand_of w p) && nat_le (w.y * demand_of w p) (w.x * upper_of set p)

-- J1: where the set has bounds, the demand of pair p lies between them
abbrev pub is_in_set : DemandSet → Witness → ℕ → Bool
is_in_set All w p = true
is_in_set (Margin num den base) w p = is_between (Margin num den base) w p
is_in_set (Box lower upper) w p = is_between (Box lower upper) w p

-- how many times the rival's greatest utilisation that of the head's routing is, by the matrix of the witness
abbrev pub ratio_shown : Head → Witness → ℕ
ratio_shown h w = performance_ratio h.network h.routes (demand_of w) w.rival

-- J2
abbrev pub shows_bound : Head → Witness → Bool
shows_bound h w = nat_le w.bound (ratio_shown h w)

-- J1 and J2
abbrev pub verdict_rules : Head → Witness → List Rule
verdict_rules h w =
    record { places = length h.routes; holds = is_in_set h.set w }
    ∷ record { places = 1; holds = λ place. shows_bound h w }
    ∷ []

-- the failing one of the least number, at its least place
abbrev pub verdict_fault : Head → Witness → Option RuleFault
verdict_fault h w = first_some (faults_from 1 (verdict_rules h w))

-- what the verdict on a fault is
abbrev pub verdict_of : Option RuleFault → WitnessVerdict
verdict_of None = Yes
verdict_of (Some f) = No f.number f.place
