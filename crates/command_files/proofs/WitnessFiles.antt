-- The files of witnesses are read in one way.
use Rattle.std.proofs.Common.{◌≡◌, ◌⊎◌, ℕ, List, codes, Result, Ok, Err, inl, inr, refl, sym, ap, ◌∙◌}
use Rattle.te_model.specs.declared.certificate.Head.{Head}
use Rattle.te_model.specs.declared.certificate.RuleFault.{RuleFault}
use Rattle.ratio_witness.specs.declared.witness.Witness.{Witness}
use Rattle.ratio_witness.specs.Text.{IsWitnessRuleFault}
use Rattle.ratio_witness.proofs.OneReading.{SpellsOf, IsShapeFaultOf, one_spelling, one_shape_fault, one_rule_fault, spelled_or_shaped, spelled_or_ruled, ruled_or_shaped, some_reading}
use Rattle.command_frame.specs.Sound.{IsRegular}
use Rattle.command_files.specs.Limits.{witness_limits}
use Rattle.command_files.specs.Refusals.{shape_reason, rule_reason}
use Rattle.command_files.specs.WitnessFile.{witnesses, GivesWitness}

fault_once : (h : Head) (bytes x y : List ℕ) → GivesWitness h bytes (Err x) → GivesWitness h bytes (Err y) → x ≡ y
fault_once h bytes x y (inl p) (inl q) = p.2 ∙ ap shape_reason (one_shape_fault h bytes p.0 q.0 p.1 q.1) ∙ sym q.2
fault_once h bytes x y (inl p) (inr q) = absurd (ruled_or_shaped h bytes q.0 p.0 q.1 p.1)
fault_once h bytes x y (inr p) (inl q) = absurd (ruled_or_shaped h bytes p.0 q.0 p.1 q.1)
fault_once h bytes x y (inr p) (inr q) = p.2 ∙ ap (rule_reason (codes "U")) (one_rule_fault h bytes p.0 q.0 p.1 q.1) ∙ sym q.2

spelled_accepted : (h : Head) (bytes : List ℕ) (w : Witness) (x : List ℕ) → SpellsOf h bytes w → GivesWitness h bytes (Err x) → ⊥
spelled_accepted h bytes w x spells (inl p) = spelled_or_shaped h bytes w p.0 spells p.1
spelled_accepted h bytes w x spells (inr p) = spelled_or_ruled h bytes w p.0 spells p.1

witness_once : (h : Head) (bytes : List ℕ) (x y : Result Witness (List ℕ)) → GivesWitness h bytes x → GivesWitness h bytes y → x ≡ y
witness_once h bytes (Ok w) (Ok v) p q = ap Ok (one_spelling h bytes w v p q)
witness_once h bytes (Ok w) (Err y) p q = absurd (spelled_accepted h bytes w y p q)
witness_once h bytes (Err x) (Ok v) p q = absurd (spelled_accepted h bytes v x q p)
witness_once h bytes (Err x) (Err y) p q = ap Err (fault_once h bytes x y p q)

witness_some : (h : Head) (bytes : List ℕ) →
    ((w : Witness) × SpellsOf h bytes w) ⊎ (((k : ℕ) × IsShapeFaultOf h bytes k) ⊎ ((f : RuleFault) × IsWitnessRuleFault h bytes f)) →
    (x : Result Witness (List ℕ)) × GivesWitness h bytes x
witness_some h bytes (inl w) = (Ok w.0, w.1)
witness_some h bytes (inr (inl k)) = (Err (shape_reason k.0), inl (k.0, k.1, refl))
witness_some h bytes (inr (inr f)) = (Err (rule_reason (codes "U") f.0), inr (f.0, f.1, refl))

pub witnesses_regular : (h : Head) → IsRegular (witnesses h)
witnesses_regular h = record { limited = witness_limits; once = witness_once h; some = λ bytes. witness_some h bytes (some_reading h bytes) }
