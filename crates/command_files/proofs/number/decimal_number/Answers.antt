use Rattle.std.proofs.Common.{◌∙◌, sym, ap}
use Rattle.std.specs.Prelude.{bytes_eq}
use Rattle.command_files.proofs.Generating.{same_read, other_read, none_read}
use Rattle.command_files.proofs.number.decimal_number.Goals as goal

pub returns-in_err-number : goal.returns-in_err-number
returns-in_err-number c = c.from_residual.ensures ∙ none_read c.args.word.now _ c.parse.ensures.value.0 c.in_err-number.ensures.value

pub returns-then-eq : goal.returns-then-eq
returns-then-eq c =
    same_read c.args.word.now _ c.parse.ensures.value.0 _ c.in_ok-number.ensures.value
    (ap (λ text. bytes_eq text c.args.word.now) (sym c.format.ensures.text) ∙ sym c.eq.ensures ∙ c.if-eq.true)

pub returns-else-eq : goal.returns-else-eq
returns-else-eq c =
    other_read c.args.word.now _ c.parse.ensures.value.0 _ c.in_ok-number.ensures.value
    (ap (λ text. bytes_eq text c.args.word.now) (sym c.format.ensures.text) ∙ sym c.eq.ensures ∙ c.if-eq.false)
