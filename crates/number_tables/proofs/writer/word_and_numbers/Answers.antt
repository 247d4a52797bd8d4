use Rattle.std.proofs.Common.{ℕ, List, ◌≡◌, ◌++◌, ap, subst, ◌∙◌}
use Rattle.std.specs.Prelude.{OnOk}
use Rattle.std.specs.List.{flat_map}
use Rattle.cert_text.specs.Pieces.{with_space}
use Rattle.number_tables.proofs.Printing.{words_put}
use Rattle.number_tables.proofs.writer.word_and_numbers.Goals as goal

pub returns : goal.returns
returns c =
    subst (λ (items : List ℕ). OnOk c.spaced_all.result (c.spaced_all.new.out.items ≡ items))
    (ap (λ (o : List ℕ). o ++ flat_map with_space c.args.list.now) c.in_ok-extend_from_slice.ensures.items ∙ words_put c.args.out.now.items c.args.word.now c.args.list.now)
    c.spaced_all.ensures
