use Rattle.std.proofs.Common.{◌≡◌, arith, subst, sym}
use Rattle.std.specs.Prelude.{IfOk}
use Rattle.ratio_certificate.specs.Form.{set_in}
use Rattle.ratio_certificate.proofs.form.set_in.Goals as goal

pub returns-then-format : goal.returns-then-format
returns-then-format c =
    let is : c.args.format ≡ 2 = omega arith in
    subst (λ f. IfOk c.box_of.result (λ s. s ≡ set_in f c.args.set)) (sym is) c.box_of.ensures
