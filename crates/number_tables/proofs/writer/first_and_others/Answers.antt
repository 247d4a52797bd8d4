use Rattle.std.proofs.Common.{ℕ, List, ◌≡◌, ◌++◌, ap, subst, ◌∙◌}
use Rattle.std.specs.Prelude.{OnOk}
use Rattle.std.specs.List.{flat_map}
use Rattle.cert_text.specs.Pieces.{with_space}
use Rattle.cert_text.proofs.PrintLemmas.{numbers_put}
use Rattle.number_tables.proofs.writer.first_and_others.Goals as goal

pub returns : goal.returns
returns c =
    subst (λ (items : List ℕ). OnOk c.spaced_all.result (c.spaced_all.new.out.items ≡ items))
    (ap (λ (o : List ℕ). o ++ flat_map with_space c.args.others.now) c.in_ok-number.ensures ∙ numbers_put c.args.out.now.items c.args.first c.args.others.now)
    c.spaced_all.ensures
