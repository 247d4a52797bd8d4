use Rattle.std.proofs.Common.{ℕ, Ok, Err}
use Rattle.std.proofs.lemmas.Result.{err_from_is_err_and}
use Rattle.command_frame.specs.declared.answer.Fault.TheVariants.{Memory}
use Rattle.command_frame.specs.Reading.{answers, reads}
use Rattle.command_frame.proofs.Following.{goes_on, ends, falls_short, stops}
use Rattle.frame_tests.specs.SizeFile.{sizes}
use Rattle.frame_tests.specs.Sizes.{sameness_of}
use Rattle.frame_tests.proofs.sizes.answer_same.Goals as goal

pub returns-in_err-size : goal.returns-in_err-size
returns-in_err-size g c =
    let p = err_from_is_err_and c.from_residual.result c.from_residual.ensures.1 in
    let second = c.args.second.now in
    rw (p.1, p.2)
    (stops ℕ sizes c.args.first.now (λ size. reads ℕ sizes second (λ other. answers (sameness_of size other))) _ _ c.in_err-size.field-0.0 c.in_err-size.ensures.reads)

pub returns-in_err-other : goal.returns-in_err-other
returns-in_err-other g c =
    let p = err_from_is_err_and c.from_residual-in_err-other.result c.from_residual-in_err-other.ensures.1 in
    let second = c.args.second.now in
    let size = c.in_ok-size.size in
    rw (p.1, p.2)
    (goes_on ℕ sizes c.args.first.now (λ size. reads ℕ sizes second (λ other. answers (sameness_of size other))) size _ _ _ (Err c.in_err-other.field-0.0)
    c.in_ok-size.ensures.reads
    (stops ℕ sizes second (λ other. answers (sameness_of size other)) _ _ c.in_err-other.field-0.0 c.in_err-other.ensures.reads))

pub returns-in_err-same_line : goal.returns-in_err-same_line
returns-in_err-same_line g c =
    let p = err_from_is_err_and c.from_residual-in_err-same_line.result c.from_residual-in_err-same_line.ensures.1 in
    let second = c.args.second.now in
    let size = c.in_ok-size.size in
    let other = c.in_ok-other.other in
    rw (p.1, p.2)
    (goes_on ℕ sizes c.args.first.now (λ size. reads ℕ sizes second (λ other. answers (sameness_of size other))) size _ _ _ (Err Memory) c.in_ok-size.ensures.reads
    (goes_on ℕ sizes second (λ other. answers (sameness_of size other)) other _ _ _ (Err Memory) c.in_ok-other.ensures.reads
    (falls_short (answers (sameness_of size other)) _)))

pub returns : goal.returns
returns g c =
    let second = c.args.second.now in
    let size = c.in_ok-size.size in
    let other = c.in_ok-other.other in
    goes_on ℕ sizes c.args.first.now (λ size. reads ℕ sizes second (λ other. answers (sameness_of size other))) size _ _ _ (Ok c.in_ok-same_line.field-0)
    c.in_ok-size.ensures.reads
    (goes_on ℕ sizes second (λ other. answers (sameness_of size other)) other _ _ _ (Ok c.in_ok-same_line.field-0) c.in_ok-other.ensures.reads
    (ends (sameness_of size other) _ c.in_ok-same_line.field-0 c.in_ok-same_line.ensures))
