use Rattle.std.proofs.Common.{◌≡◌, ◌<◌, ap, arith, length, List, ℕ}
use Rattle.std.proofs.lemmas.Result.{IfOk-weaker}
use Rattle.ratio_witness.specs.Text.{witness_text}
use Rattle.ratio_witness.proofs.WitnessSizes.{witness_texts_are_short}
use Rattle.witness_search.specs.Attack.{IsAttackFile}
use Rattle.witness_search.proofs.answer.attack_text.Goals as goal

pub returns-clause-file : goal.returns-clause-file
returns-clause-file g c =
    let h = c.args.head.now in
    let w = c.in_ok-witness.witness in
    let is_plan = g.S.Scheme.is_plan c.args.rival.now in
    let relates = g.S.Scheme.relates c.args.rival.now in
    let chosen = c.in_ok-witness.ensures.chosen in
    IfOk-weaker c.print.result (λ file. file.items ≡ witness_text w) (λ file. IsAttackFile is_plan relates h file.items)
    (λ file is. (w, record { of_head = c.in_ok-witness.ensures.witness; plan = chosen.0; planned = chosen.1; chosen = chosen.2 }, is)) c.print.ensures

pub returns-clause-short : goal.returns-clause-short
returns-clause-short g c =
    let w = c.in_ok-witness.witness in
    IfOk-weaker c.print.result (λ file. file.items ≡ witness_text w) (λ file. length file.items < 340000000)
    (λ file is.
    let short = witness_texts_are_short c.args.head.now w c.requires.head c.in_ok-witness.ensures.witness in
    let same = ap (λ (text : List ℕ). length text) is in
    omega (arith, short, same))
    c.print.ensures
