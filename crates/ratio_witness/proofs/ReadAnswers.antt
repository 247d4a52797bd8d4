-- What the reader answers, from what the table and its lines are.
use Rattle.std.proofs.Common.{◌≡◌, ℕ, ◌-◌, ◌^◌, ◌≤◌, true, List, [], length, Some, None, Result, Ok, Err, refl, ap, sym, ◌∙◌, arith, subst, inl, inr}
use Rattle.std.specs.Prelude.{IfOk, MatchResult}
use Rattle.te_model.specs.declared.certificate.Head.{Head}
use Rattle.te_model.specs.declared.certificate.RuleFault.{RuleFault}
use Rattle.te_model.specs.Network.{link_count}
use Rattle.te_model.specs.Validity.{IsValidHead}
use Rattle.te_model.proofs.Valid.{valid_limits}
use Rattle.number_tables.specs.declared.fault.TableFault.{TableFault}
use Rattle.number_tables.specs.declared.fault.TableFault.TheVariants as tables
use Rattle.number_tables.specs.Due.{LeavesSmallFiles}
use Rattle.number_tables.proofs.FirstUndue.{one_small_fault}
use Rattle.ratio_witness.specs.declared.fault.WitnessFault.{WitnessFault}
use Rattle.ratio_witness.specs.declared.fault.WitnessFault.TheVariants as faults
use Rattle.ratio_witness.specs.declared.witness.Witness.{Witness}
use Rattle.ratio_witness.specs.Outcome.{IsDueOrMemory, fault_of}
use Rattle.ratio_witness.specs.Reading.{SpellsWitness}
use Rattle.ratio_witness.specs.Rules.{witness_fault, KeepsRules}
use Rattle.ratio_witness.specs.Text.{is_shaped_witness, keep_witness, witness_due, witness_first, witness_lines, witness_text, IsWitnessOf, IsWitnessRuleFault}
use Rattle.ratio_witness.proofs.Ending.{shaped_parts, witness_file}
use Rattle.te_model.proofs.ValidHeads.{valid_without_blocks}
use Rattle.ratio_witness.proofs.Narrowing.{witness_fault_kept, witness_whole}
use Rattle.ratio_witness.proofs.OneWitness.{one_witness}

-- the clauses of the reader, of its answer to these bytes
pub record ReadsWitness (h : Head) (bytes : List ℕ) (result : Result Witness WitnessFault) : Type 0 where
  pub spelled : IfOk result (λ w. IsWitnessOf h w × (bytes ≡ witness_text w))
  pub accepted : (w : Witness) → IsWitnessOf h w → bytes ≡ witness_text w → IsDueOrMemory result (Ok w)
  pub shape : (k : ℕ) → result ≡ Err (faults.Shape k) → LeavesSmallFiles witness_first (witness_due (length h.routes)) bytes k
  pub misshaped : (k : ℕ) → LeavesSmallFiles witness_first (witness_due (length h.routes)) bytes k → IsDueOrMemory result (Err (faults.Shape k))
  pub rule : (f : RuleFault) → result ≡ Err (faults.Rule f) → IsWitnessRuleFault h bytes f
  pub invalid : (f : RuleFault) → IsWitnessRuleFault h bytes f → IsDueOrMemory result (Err (faults.Rule f))

-- want of memory
pub memory_answers : (h : Head) (bytes : List ℕ) → ReadsWitness h bytes (Err faults.Memory)
memory_answers h bytes = record {
  spelled = tt;
  accepted = λ w is same. inr refl;
  shape = λ k e. cc;
  misshaped = λ k leaves. inr refl;
  rule = λ f e. cc;
  invalid = λ f is. inr refl;
}

-- a line at which the bytes leave the small files of witnesses
pub shape_answers : (h : Head) (bytes : List ℕ) (k : ℕ) → LeavesSmallFiles witness_first (witness_due (length h.routes)) bytes k → ReadsWitness h bytes (Err (faults.Shape k))
shape_answers h bytes k leaves =
    let n = length h.routes in
    let one = one_small_fault witness_first (witness_due n) bytes in
    let never : (w : Witness) → is_shaped_witness n w ≡ true → bytes ≡ witness_text w → ⊥ = λ w shaped same. one.1 (witness_lines w) (witness_file n w shaped) same k leaves in
    record {
      spelled = tt;
      accepted = λ w is same. absurd (never w is.shaped same);
      shape = λ j e. let same : k ≡ j = cc in subst (LeavesSmallFiles witness_first (witness_due n) bytes) same leaves;
      misshaped = λ j also. inl (ap (λ (i : ℕ). Err (faults.Shape i)) (one.0 k j leaves also));
      rule = λ f e. cc;
      invalid = λ f is. absurd (never is.spelled is.shaped is.file);
    }

-- lines of a witness whose rules hold
pub ruled_answers : (h : Head) (bytes : List ℕ) (w v : Witness) → link_count h.network ≤ 2 ^ 32 - 1 → v ≡ keep_witness w →
    is_shaped_witness (length h.routes) w ≡ true → bytes ≡ witness_text w → witness_fault h v ≡ None → ReadsWitness h bytes (Ok v)
ruled_answers h bytes w v few kept shaped same none =
    let n = length h.routes in
    let one = one_small_fault witness_first (witness_due n) bytes in
    let keeps : KeepsRules h w = sym (witness_fault_kept h w few) ∙ ap (witness_fault h) (sym kept) ∙ none in
    let whole : v ≡ w = kept ∙ witness_whole h w few (shaped_parts n w shaped).pairs keeps in
    let never : (k : ℕ) → LeavesSmallFiles witness_first (witness_due n) bytes k → ⊥ = λ k leaves. one.1 (witness_lines w) (witness_file n w shaped) same k leaves in
    let only : (u : Witness) → is_shaped_witness n u ≡ true → bytes ≡ witness_text u → w ≡ u = λ u also e. one_witness n w u shaped also (sym same ∙ e) in
    record {
      spelled = subst (λ (u : Witness). IsWitnessOf h u × (bytes ≡ witness_text u)) (sym whole) (record { shaped = shaped; rules = keeps }, same);
      accepted = λ u is e. inl (ap (λ (x : Witness). Ok x) (whole ∙ only u is.shaped e));
      shape = λ k e. cc;
      misshaped = λ k leaves. absurd (never k leaves);
      rule = λ f e. cc;
      invalid = λ f is. no_fault (sym keeps ∙ ap (witness_fault h) (only is.spelled is.shaped is.file) ∙ is.first);
    }
  where
    no_fault : {X : Type 0} {f : RuleFault} → None ≡ Some f → X
    no_fault e = cc

-- lines of a witness of which a rule fails
pub rule_answers : (h : Head) (bytes : List ℕ) (w v : Witness) (f : RuleFault) → link_count h.network ≤ 2 ^ 32 - 1 → v ≡ keep_witness w →
    is_shaped_witness (length h.routes) w ≡ true → bytes ≡ witness_text w → witness_fault h v ≡ Some f → ReadsWitness h bytes (Err (faults.Rule f))
rule_answers h bytes w v f few kept shaped same fault =
    let n = length h.routes in
    let one = one_small_fault witness_first (witness_due n) bytes in
    let first : witness_fault h w ≡ Some f = sym (witness_fault_kept h w few) ∙ ap (witness_fault h) (sym kept) ∙ fault in
    let never : (k : ℕ) → LeavesSmallFiles witness_first (witness_due n) bytes k → ⊥ = λ k leaves. one.1 (witness_lines w) (witness_file n w shaped) same k leaves in
    let only : (u : Witness) → is_shaped_witness n u ≡ true → bytes ≡ witness_text u → w ≡ u = λ u also e. one_witness n w u shaped also (sym same ∙ e) in
    record {
      spelled = tt;
      accepted = λ u is e. absurd (no_fault (sym is.rules ∙ ap (witness_fault h) (sym (only u is.shaped e)) ∙ first));
      shape = λ k e. cc;
      misshaped = λ k leaves. absurd (never k leaves);
      rule = λ g e. let same_fault : f ≡ g = cc in record { spelled = w; shaped = shaped; file = same; first = first ∙ ap Some same_fault };
      invalid = λ g is. inl (ap (λ (x : RuleFault). Err (faults.Rule x)) (same_some f g (sym first ∙ ap (witness_fault h) (only is.spelled is.shaped is.file) ∙ is.first)));
    }
  where
    no_fault : {f : RuleFault} → None ≡ Some f → ⊥
    no_fault e = cc

    same_some : (f g : RuleFault) → Some f ≡ Some g → f ≡ g
    same_some f g e = cc

-- a fault of what the bytes spell
pub fault_answers : (h : Head) (bytes : List ℕ) (fault : TableFault) → SpellsWitness (length h.routes) (Err fault) bytes → ReadsWitness h bytes (Err (fault_of fault))
fault_answers h bytes (tables.Shape k) leaves = shape_answers h bytes k leaves
fault_answers h bytes tables.Memory none = memory_answers h bytes

-- a witness that they spell, by its rules
pub witness_answers : (h : Head) (bytes : List ℕ) (v : Witness) (result : Result Witness WitnessFault) → link_count h.network ≤ 2 ^ 32 - 1 →
    SpellsWitness (length h.routes) (Ok v) bytes →
    MatchResult result (λ w. (w ≡ v) × (witness_fault h v ≡ None)) (λ e. (f : RuleFault) × (e ≡ faults.Rule f) × (witness_fault h v ≡ Some f)) →
    ReadsWitness h bytes result
witness_answers h bytes v (Ok u) few spells is =
    subst (λ (x : Witness). ReadsWitness h bytes (Ok x)) (sym is.0) (ruled_answers h bytes spells.0 v few spells.1 spells.2 spells.3 is.1)
witness_answers h bytes v (Err e) few spells is =
    subst (λ (x : WitnessFault). ReadsWitness h bytes (Err x)) (sym is.1) (rule_answers h bytes spells.0 v is.0 few spells.1 spells.2 spells.3 is.2)

-- a valid head has fewer links than a field of 32 bits has numbers
pub few_links : (h : Head) → IsValidHead h → link_count h.network ≤ 2 ^ 32 - 1
few_links h valid =
    let limits = valid_limits (record { head = h; blocks = [] }) (valid_without_blocks h valid) in
    let links = limits.links in
    omega (arith, links)
