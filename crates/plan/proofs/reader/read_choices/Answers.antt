use Rattle.std.proofs.Common.{◌≡◌, None, Ok, refl, sym, ap}
use Rattle.serde_json.specs.Data.{Data}
use Rattle.serde_json.specs.Find.{get}
use Rattle.serde_json.specs.View.{view}
use Rattle.plan.specs.declared.key.Key.TheVariants as key
use Rattle.plan.specs.declared.recovery.Recovery.TheVariants as recovery
use Rattle.plan.specs.declared.scheme_name.SchemeName.TheVariants as scheme
use Rattle.plan.specs.Words.{key_word}
use Rattle.plan.specs.Values.{schemes_of, recovery_of, publish_of, margin_of}
use Rattle.plan.specs.Plan.{optional, some_of, default_schemes, choices_of}
use Rattle.plan.proofs.PlanLemmas.{there, absent}
use Rattle.plan.proofs.reader.read_choices.Goals as goal
use Rattle.plan.proofs.reader.read_choices.Goals.{in-Some+in_ok-schemes-in-Some, in-None+in_ok-from_slice-in-None}
use Rattle.plan.proofs.reader.read_choices.Goals.{in-Some-get+in_ok-recovery-in-Some-get, in-None-get}
use Rattle.plan.proofs.reader.read_choices.Goals.{in-Some-get-2+in_ok-publish-in-Some-get-2, in-None-get-2}
use Rattle.plan.proofs.reader.read_choices.Goals.{in-Some-get-3+in_ok-read_margin-in-Some-get-3, in-None-get-3}

pub returns-clause-choices : goal.returns-clause-choices
unfolding choices_of
returns-clause-choices c =
    let d = view c.args.value.now in
    let margin_read = λ (v : Data). some_of (margin_of v) in
    let schemes : optional default_schemes schemes_of (get (key_word key.Schemes) d) ≡ Ok c.match-get.schemes =
    elim c.match-get.branch [
      | in-Some+in_ok-schemes-in-Some w ↦ rw w.schemes-is (there default_schemes schemes_of c.word.result.now _ d _ _ c.word.ensures w.in-Some.ensures w.in_ok-schemes-in-Some.ensures.schemes)
      | in-None+in_ok-from_slice-in-None w ↦ rw (w.schemes-is, w.new-schemes.ensures, w.in_ok-from_slice-in-None.ensures.items) (absent default_schemes schemes_of c.word.result.now _ d c.word.ensures w.in-None.ensures)
    ] in
    let recovers : optional recovery.Keep recovery_of (get (key_word key.Recovery) d) ≡ Ok c.match-get-2.recovery =
    elim c.match-get-2.branch [
      | in-Some-get+in_ok-recovery-in-Some-get w ↦ rw w.recovery-is (there recovery.Keep recovery_of c.word-2.result.now _ d _ _ c.word-2.ensures w.in-Some-get.ensures (sym w.in_ok-recovery-in-Some-get.ensures))
      | in-None-get w ↦ rw w.recovery-is (absent recovery.Keep recovery_of c.word-2.result.now _ d c.word-2.ensures w.in-None-get.ensures)
    ] in
    let published : optional scheme.Racke publish_of (get (key_word key.Publish) d) ≡ Ok c.match-get-3.publish =
    elim c.match-get-3.branch [
      | in-Some-get-2+in_ok-publish-in-Some-get-2 w ↦ rw w.publish-is (there scheme.Racke publish_of c.word-3.result.now _ d _ _ c.word-3.ensures w.in-Some-get-2.ensures (sym w.in_ok-publish-in-Some-get-2.ensures.publish))
      | in-None-get-2 w ↦ rw w.publish-is (absent scheme.Racke publish_of c.word-3.result.now _ d c.word-3.ensures w.in-None-get-2.ensures)
    ] in
    let margin : optional None margin_read (get (key_word key.Margin) d) ≡ Ok c.match-get-4.margin =
    elim c.match-get-4.branch [
      | in-Some-get-3+in_ok-read_margin-in-Some-get-3 w ↦ rw w.margin-is (there None margin_read c.word-4.result.now _ d _ _ c.word-4.ensures w.in-Some-get-3.ensures (ap some_of (sym w.in_ok-read_margin-in-Some-get-3.ensures.margin)))
      | in-None-get-3 w ↦ rw w.margin-is (absent None margin_read c.word-4.result.now _ d c.word-4.ensures w.in-None-get-3.ensures)
    ] in
    rw (schemes, recovers, published, margin) refl
