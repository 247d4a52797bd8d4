use Rattle.std.proofs.Common.{◌≡◌, ◌<◌, ap, arith, length, List, ℕ}
use Rattle.std.proofs.lemmas.Result.{IfOk-weaker}
use Rattle.ratio_witness.specs.Text.{witness_text}
use Rattle.ratio_witness.proofs.WitnessSizes.{witness_texts_are_short}
use Rattle.witness_search.specs.Challenge.{IsChallengeFile}
use Rattle.witness_search.proofs.Certificates.{certificate_head}
use Rattle.witness_search.proofs.answer.challenge_text.Goals as goal

pub returns-clause-file : goal.returns-clause-file
returns-clause-file g c =
    let w = c.in_ok-witness.witness in
    IfOk-weaker c.print.result (λ file. file.items ≡ witness_text w)
    (λ file. IsChallengeFile (g.S.Scheme.is_plan c.args.rival.now) (g.S.Scheme.relates c.args.rival.now) c.args.certificate.head file.items)
    (λ file is. (w, c.in_ok-witness.ensures, is)) c.print.ensures

pub returns-clause-short : goal.returns-clause-short
returns-clause-short g c =
    let w = c.in_ok-witness.witness in
    let valid = certificate_head c.args.certificate c.requires.certificate in
    IfOk-weaker c.print.result (λ file. file.items ≡ witness_text w) (λ file. length file.items < 340000000)
    (λ file is.
    let short = witness_texts_are_short c.args.certificate.head w valid c.in_ok-witness.ensures.raised.of_head in
    let same = ap (λ (text : List ℕ). length text) is in
    omega (arith, short, same))
    c.print.ensures
