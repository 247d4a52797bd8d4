use Rattle.std.proofs.Common.{◌∷◌, [], arith}
use Rattle.std.specs.Fmt.{decimal}
use Rattle.std.specs.List.{flat_map}
use Rattle.std.proofs.lemmas.Grind.{common_steps}
use Rattle.cert_text.specs.Pieces.{with_space, number_line}
use Rattle.cert_text.proofs.PrintLemmas.{number_line_is, put_three}
use Rattle.cert_text.proofs.printing.first_and_others.Goals as goal

pub returns : goal.returns
returns c =
    let whole = put_three c.args.out.now.items (decimal c.args.first) (flat_map with_space c.args.others.now) (10 ∷ []) (number_line (c.args.first ∷ c.args.others.now)) (number_line_is c.args.first c.args.others.now) in
    grind (arith, common_steps, whole)
