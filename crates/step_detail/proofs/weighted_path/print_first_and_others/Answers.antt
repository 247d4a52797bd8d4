use Rattle.std.proofs.Common.{ℕ, List, ◌≡◌, ◌++◌, ap, subst, ◌∙◌}
use Rattle.std.specs.Prelude.{OnOk}
use Rattle.std.specs.List.{flat_map}
use Rattle.cert_text.specs.Pieces.{with_space}
use Rattle.cert_text.proofs.PrintLemmas.{numbers_put}
use Rattle.step_detail.proofs.weighted_path.print_first_and_others.Goals as goal

pub returns : goal.returns
returns c =
    subst (λ (items : List ℕ). OnOk c.print_numbers_after.result (c.print_numbers_after.new.text.items ≡ items))
    (ap (λ (o : List ℕ). o ++ flat_map with_space c.args.others.now) c.in_ok-print_decimal.ensures ∙ numbers_put c.args.text.now.items c.args.first c.args.others.now)
    c.print_numbers_after.ensures
