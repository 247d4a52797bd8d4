use Rattle.std.proofs.Common.{◌<◌, arith}
use Rattle.std.proofs.lemmas.Grind.{common_steps}
use Rattle.cert_text.proofs.reader.with_digit.Goals as goal

pub returns : goal.returns
returns c =
    let some : 0 < c.args.value = omega arith in
    grind (arith, common_steps)
