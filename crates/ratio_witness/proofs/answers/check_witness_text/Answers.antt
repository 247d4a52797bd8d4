use Rattle.std.proofs.Common.{◌≡◌, ◌∙◌, ℕ, Vec, Global, ap, refl, sym}
use Rattle.ratio_witness.specs.declared.verdict.WitnessVerdict.{WitnessVerdict}
use Rattle.ratio_witness.specs.declared.verdict.WitnessVerdict.TheVariants.{Yes, No}
use Rattle.ratio_witness.specs.Answers.{verdict_line, verdict_status}
use Rattle.ratio_witness.proofs.answers.check_witness_text.Goals as goal

yes_at_zero : (v : WitnessVerdict) → verdict_status v ≡ 0 → v ≡ Yes
yes_at_zero Yes e = refl
yes_at_zero (No rule place) e = cc

pub returns-clause-answer : goal.returns-clause-answer
returns-clause-answer c =
    let w = c.args.witness.now in
    let verdict = c.judge-verdict.ensures.verdict in (
      c.verdict_status.ensures ∙ ap verdict_status verdict,
      ap (λ (v : Vec ℕ Global). v.items) c.into_bytes.ensures.value ∙ c.in_ok-line.ensures ∙ ap (verdict_line w.bound) verdict,
    )

pub returns-clause-proves : goal.returns-clause-proves
returns-clause-proves c = λ zero_status.
    c.judge-verdict.ensures.ratio (yes_at_zero c.judge-verdict.result (sym c.verdict_status.ensures ∙ zero_status))
