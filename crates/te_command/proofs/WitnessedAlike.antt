-- What `check-witness` says of a file and of the one that `convert` makes of it, of the same witness.
use Rattle.std.proofs.Common.{◌≡◌, ℕ, List, [], length, Option, Some, None, Result, Ok, Err, inl, inr, refl, sym, ap, ◌∙◌}
use Rattle.te_ports.specs.Record.{Read as FileRead}
use Rattle.te_model.specs.declared.certificate.Certificate.{Certificate}
use Rattle.te_model.specs.declared.certificate.RuleFault.{RuleFault}
use Rattle.te_model.specs.declared.demand.DemandSet.{DemandSet}
use Rattle.te_model.specs.declared.demand.DemandSet.TheVariants.{All, Margin, Box}
use Rattle.te_model.specs.Counting.{or_else, unless}
use Rattle.te_model.specs.Upgrade.{box_of, upgraded_certificate}
use Rattle.te_model.specs.Validity.{fault_at, rule_fault}
use Rattle.te_model.proofs.Searches.{first_below-same}
use Rattle.te_model.proofs.Upgrading.{lower_same, upper_same}
use Rattle.ratio_witness.specs.declared.witness.Witness.{Witness}
use Rattle.ratio_witness.specs.Answers.{verdict_line, verdict_status}
use Rattle.ratio_witness.specs.Text.{IsWitnessOf, IsWitnessRuleFault}
use Rattle.ratio_witness.specs.Verdict.{is_between, is_in_set, shows_bound, verdict_fault, verdict_of}
use Rattle.command_frame.specs.Files.{told_files, told_passes}
use Rattle.command_frame.specs.Reading.{Means, MeansAfter}
use Rattle.certificate_commands.specs.CheckWitness.{witness_reading}
use Rattle.te_command.specs.Commands.{check_witness, convert, reading_of}
use Rattle.command_files.specs.WitnessFile.{GivesWitness}
use Rattle.te_command.proofs.Alike.{after_conversion}

-- ---- the verdict is that by the box of the set

between_kept : (set : DemandSet) (w : Witness) (p : ℕ) → is_between (box_of set) w p ≡ is_between set w p
between_kept set w p = rw (lower_same set p, upper_same set p) refl

in_set_kept : (set : DemandSet) (w : Witness) (p : ℕ) → is_in_set (box_of set) w p ≡ is_in_set set w p
in_set_kept All w p = refl
in_set_kept (Margin num den base) w p = between_kept (Margin num den base) w p
in_set_kept (Box lower upper) w p = refl

verdict_kept : (c : Certificate) (w : Witness) → verdict_fault (upgraded_certificate c).head w ≡ verdict_fault c.head w
verdict_kept c w =
    ap (λ (o : Option RuleFault). or_else o (or_else (rule_fault 2 1 (λ place. shows_bound c.head w)) None))
    (first_below-same (length c.head.routes) (λ k. unless (is_in_set (box_of c.head.set) w k) (fault_at 1 k)) (λ k. unless (is_in_set c.head.set w k) (fault_at 1 k))
    (λ k below. ap (λ b. unless b (fault_at 1 k)) (in_set_kept c.head.set w k)))

-- ---- and the witnesses are the same

witness_kept : (c : Certificate) (w : Witness) → IsWitnessOf c.head w → IsWitnessOf (upgraded_certificate c).head w
witness_kept c w is = record { shaped = is.shaped; rules = is.rules }

rule_kept : (c : Certificate) (bytes : List ℕ) (f : RuleFault) → IsWitnessRuleFault c.head bytes f → IsWitnessRuleFault (upgraded_certificate c).head bytes f
rule_kept c bytes f is = record { spelled = is.spelled; shaped = is.shaped; file = is.file; first = is.first }

gives_kept : (c : Certificate) (bytes : List ℕ) (x : Result Witness (List ℕ)) → GivesWitness c.head bytes x → GivesWitness (upgraded_certificate c).head bytes x
gives_kept c bytes (Ok w) is = (witness_kept c w is.0, is.1)
gives_kept c bytes (Err words) (inl at) = inl at
gives_kept c bytes (Err words) (inr at) = inr (at.0, rule_kept c bytes at.0 at.1, at.2)

after_head : (c : Certificate) (content : List ℕ → Option (List ℕ)) (witness : List ℕ) (before : List FileRead) (status : ℕ) (text : List ℕ) →
    MeansAfter (witness_reading witness c.head) (told_passes content) before status text →
    MeansAfter (witness_reading witness (upgraded_certificate c).head) (told_passes content) before status text
after_head c content witness before status text (inl (three, now, inl longer, ended)) = inl (three, now, inl longer, ended)
after_head c content witness before status text (inl (three, now, inr (bytes, words, told, few, gives, is), ended)) =
    inl (three, now, inr (bytes, words, told, few, gives_kept c bytes (Err words) gives, is), ended)
after_head c content witness before status text (inr (w, now, (bytes, told, few, gives), ((status_is, text_is), ended))) =
    let kept = sym (verdict_kept c w) in
    inr (
      w,
      now,
      (bytes, told, few, gives_kept c bytes (Ok w) gives),
      ((status_is ∙ ap (λ o. verdict_status (verdict_of o)) kept, text_is ∙ ap (λ o. verdict_line w.bound (verdict_of o)) kept), ended),
    )

pub witnessed_alike : (content : List ℕ → Option (List ℕ)) (file made witness made_text text : List ℕ) (status : ℕ) → content made ≡ Some made_text →
    Means (reading_of (convert file)) (told_files content) 0 made_text → Means (reading_of (check_witness file witness)) (told_files content) status text →
    Means (reading_of (check_witness made witness)) (told_files content) status text
witnessed_alike content file made witness made_text text status at converted means =
    after_conversion content file made made_text (λ spelled. witness_reading witness spelled.head) [] status text at converted
    (λ c now. after_head c content witness now status text) means
