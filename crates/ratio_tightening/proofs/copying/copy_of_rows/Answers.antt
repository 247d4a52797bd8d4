use Rattle.std.proofs.Common.{◌≡◌, ℕ, ◌∙◌, ap, sym, ◌++◌, ◌∷◌, [], List, take}
use Rattle.std.proofs.lemmas.List.{take_more, take_all}
use Rattle.te_model.specs.declared.certificate.Row.{Row}
use Rattle.ratio_tightening.proofs.copying.copy_of_rows.Goals as goal

pub loop-row-preserved : goal.loop-row-preserved
loop-row-preserved c =
    let rows = c.args.rows.now in
    let i = c.loop-row.row-index in
    let row = c.row-item.result in
    let numbers : c.new.result ≡ row.potential = c.new.ensures ∙ (c.in_ok-potential.ensures.items ∙ c.as_slice.ensures) in
    c.in_ok-push.ensures.items
    ∙ (ap (λ (l : List ℕ). c.loop-row.copy.items ++ (record { source = row.source; potential = l }) ∷ []) numbers
    ∙ (ap (λ (l : List Row). l ++ row ∷ []) c.loop-row.invariant
    ∙ (ap (λ (r : Row). take i rows ++ r ∷ []) c.row-item.is
    ∙ sym (take_more rows i row c.loop-row-test.true))))

pub returns : goal.returns
returns c = c.loop-row.invariant ∙ take_all c.loop-row.row-index c.args.rows.now c.loop-row-test.false
