use Rattle.std.proofs.Common.{arith, refl}
use Rattle.std.specs.Prelude.{codes}
use Rattle.std.proofs.lemmas.Grind.{common_steps}
use Rattle.te_model.specs.declared.demand.DemandSet.TheVariants.{Box}
use Rattle.cert_text.specs.Pieces.{listing_text, set_text}
use Rattle.cert_text.proofs.PrintLemmas.{put_three}
use Rattle.cert_text.proofs.printing.set_lines.Goals as goal

pub returns-in_ok-listing-in-Box : goal.returns-in_ok-listing-in-Box
returns-in_ok-listing-in-Box c =
    let lower = c.in-Box.lower in
    let upper = c.in-Box.upper in
    let whole = put_three c.args.out.now.items (codes "set box\n") (listing_text (codes "lower") lower.demand) (listing_text (codes "upper") upper.demand) (set_text (Box lower upper)) refl in
    grind (arith, common_steps, whole)
