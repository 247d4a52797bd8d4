use Rattle.std.proofs.Common.{◌≡◌, ◌∙◌, ap, sym, rules, get_or}
use Rattle.std.proofs.lemmas.List.{get_or_default}
use Rattle.std.proofs.lemmas.List.Sorted.{answers_always}
use Rattle.te_model.specs.Certificate.{empty_row, row_of}
use Rattle.ratio_checker.proofs.SourceRows.{searched}
use Rattle.ratio_checker.proofs.rows.potentials_of.Goals as goal

pub returns-in-Ok : goal.returns-in-Ok
returns-in-Ok c =
    let rows = c.args.rows.now in
    let source = c.args.source in
    let k = c.in-Ok.place in
    let by_source = c.binary_search_by_key.ensures.position (λ r. r.source) (answers_always _ _ _ (λ f a r g called. search rules)) in
    let found = rw c.in-Ok.is at (searched rows c.requires source c.binary_search_by_key.result c.binary_search_by_key.ensures.bound by_source) in
    let inside = rw c.in-Ok.is at c.binary_search_by_key.ensures.bound in
    let here : get_or rows k c.index-rows-place.result ≡ row_of rows source =
    get_or_default rows k c.index-rows-place.result (empty_row 0) inside ∙ sym found in
    c.as_slice.ensures ∙ ap (λ r. r.potential) here

pub returns-in-Err : goal.returns-in-Err
returns-in-Err c =
    let by_source = c.binary_search_by_key.ensures.position (λ r. r.source) (answers_always _ _ _ (λ f a r g called. search rules)) in
    let none = rw c.in-Err.is at (searched c.args.rows.now c.requires c.args.source c.binary_search_by_key.result c.binary_search_by_key.ensures.bound by_source) in
    sym (ap (λ r. r.potential) none)
