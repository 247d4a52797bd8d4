use Rattle.std.proofs.Common.{ℕ, Ok, Err}
use Rattle.std.proofs.lemmas.Result.{err_from_is_err_and}
use Rattle.command_frame.specs.declared.answer.Fault.TheVariants.{Memory}
use Rattle.command_frame.specs.Reading.{answers}
use Rattle.command_frame.proofs.Following.{goes_on, ends, falls_short, stops}
use Rattle.frame_tests.specs.SizeFile.{sizes}
use Rattle.frame_tests.specs.Sizes.{tally_of}
use Rattle.frame_tests.proofs.sizes.answer_tally.Goals as goal

pub returns-in_err-size : goal.returns-in_err-size
returns-in_err-size g c =
    let p = err_from_is_err_and c.from_residual.result c.from_residual.ensures.1 in
    rw (p.1, p.2) (stops ℕ sizes c.args.file.now (λ size. answers (tally_of size)) _ _ c.in_err-size.field-0.0 c.in_err-size.ensures.reads)

pub returns-in_err-size_line : goal.returns-in_err-size_line
returns-in_err-size_line g c =
    let p = err_from_is_err_and c.from_residual-in_err-size_line.result c.from_residual-in_err-size_line.ensures.1 in
    let size = c.in_ok-size.size in
    rw (p.1, p.2)
    (goes_on ℕ sizes c.args.file.now (λ size. answers (tally_of size)) size _ _ _ (Err Memory) c.in_ok-size.ensures.reads
    (falls_short (answers (tally_of size)) _))

pub returns : goal.returns
returns g c =
    let size = c.in_ok-size.size in
    goes_on ℕ sizes c.args.file.now (λ size. answers (tally_of size)) size _ _ _ (Ok c.in_ok-size_line.field-0) c.in_ok-size.ensures.reads
    (ends (tally_of size) _ c.in_ok-size_line.field-0 c.in_ok-size_line.ensures)
