use Rattle.std.proofs.Common.{◌≡◌, ℕ, List, [], ◌∷◌, ◌++◌, ap, subst, ◌∙◌}
use Rattle.std.specs.Prelude.{OnOk}
use Rattle.std.specs.Fmt.{decimal}
use Rattle.std.specs.List.{flat_map}
use Rattle.cert_text.specs.Pieces.{with_space, row_text}
use Rattle.cert_text.proofs.PrintLemmas.{row_is, put_three}
use Rattle.cert_text.proofs.printing.RowLines.put.Goals as goal

pub returns : goal.returns
returns c =
    let r = c.args.self.now in
    let old = c.args.out.now.items in
    let whole = put_three old (decimal r.source) (flat_map with_space r.potential) (10 ∷ []) (row_text r) (row_is r) in
    subst (λ (items : List ℕ). OnOk c.end_line.result (c.end_line.new.out.items ≡ items))
    (ap (λ (o : List ℕ). o ++ 10 ∷ []) (c.in_ok-spaced_all.ensures ∙ ap (λ (xs : List ℕ). c.number.new.out.items ++ flat_map with_space xs) c.as_slice.ensures ∙ ap (λ (o : List ℕ). o ++ flat_map with_space r.potential) c.in_ok-number.ensures) ∙ whole)
    c.end_line.ensures
