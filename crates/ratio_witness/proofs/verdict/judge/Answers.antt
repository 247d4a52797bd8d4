use Rattle.std.proofs.Common.{◌≡◌, ◌↔◌, ◌∙◌, ◌<◌, ℕ, length, subst, sym}
use Rattle.std.specs.Prelude.{IsTrue}
use Rattle.ratio_witness.specs.declared.verdict.WitnessVerdict.{WitnessVerdict}
use Rattle.ratio_witness.specs.declared.verdict.WitnessVerdict.TheVariants.{Yes}
use Rattle.ratio_witness.specs.Verdict.{is_in_set, shows_bound}
use Rattle.ratio_witness.proofs.KeptRules.{can_judge}
use Rattle.ratio_witness.proofs.Verdicts.{yes_exactly, no_first, yes_shows}
use Rattle.ratio_witness.proofs.verdict.judge.Goals as goal

pub verdict-requires : goal.verdict-requires
verdict-requires c = can_judge c.args.head.now c.args.witness.now c.requires.head c.requires.rules

pub returns-clause-yes : goal.returns-clause-yes
returns-clause-yes c =
    let h = c.args.head.now in
    let w = c.args.witness.now in
    subst (λ (r : WitnessVerdict). (r ≡ Yes) ↔ (((p : ℕ) → p < length h.routes → IsTrue (is_in_set h.set w p)) × IsTrue (shows_bound h w)))
    (sym c.verdict.ensures) (yes_exactly h w)

pub returns-clause-no : goal.returns-clause-no
returns-clause-no c = λ rule place answer. no_first c.args.head.now c.args.witness.now rule place (sym c.verdict.ensures ∙ answer)

pub returns-clause-ratio : goal.returns-clause-ratio
returns-clause-ratio c = λ answer. yes_shows c.args.head.now c.args.witness.now c.requires.head c.requires.rules (sym c.verdict.ensures ∙ answer)
