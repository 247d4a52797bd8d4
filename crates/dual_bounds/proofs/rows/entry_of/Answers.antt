use Rattle.std.proofs.Common.{◌≡◌, Option, Some, None, List, ℕ, ap, sym, ◌∙◌, ◌==◌, rules, tests, slice_index}
use Rattle.std.specs.Prelude.{find, unwrap_or}
use Rattle.std.specs.Option.{option_map}
use Rattle.std.specs.Borrow.{Bor}
use Rattle.std.proofs.lemmas.Iterator.{YieldsList-from_slice}
use Rattle.std.proofs.lemmas.Iterator.Search.{find_from_yields_List}
use Rattle.te_model.specs.declared.certificate.Row.{Row}
use Rattle.te_model.specs.Certificate.{empty_row}
use Rattle.dual_bounds.proofs.rows.entry_of.Goals as goal
use Rattle.dual_bounds.proofs.rows.entry_of.Goals.{After-find}

-- what was found is the first row of the source
found : (c : After-find) → option_map (λ (x : Bor Row). x.now) c.find.result ≡ find (λ (r : Row). r.source == c.args.source) c.args.rows.now
found c =
    find_from_yields_List (λ r. r.source == c.args.source) _ _ _ c.find.ensures.ran (YieldsList-from_slice c.args.rows.now cc)
    (λ x b q k. search (rules, tests))

pub returns-in-Some : goal.returns-in-Some
returns-in-Some c =
    let source = c.args.source in
    let is : Some c.in-Some.row.now ≡ find (λ r. r.source == source) c.args.rows.now =
    sym (ap (option_map (λ (x : Bor Row). x.now)) c.in-Some.is) ∙ found (goal.at.returns-in-Some c).After-find
    in
    c.number_at.ensures
    ∙ ap (λ (xs : List ℕ). slice_index xs c.args.node) (c.as_slice.ensures ∙ ap (λ (o : Option Row). (unwrap_or o (empty_row source)).potential) is)

pub returns-in-None : goal.returns-in-None
returns-in-None c =
    let source = c.args.source in
    let is : None ≡ find (λ r. r.source == source) c.args.rows.now =
    sym (ap (option_map (λ (x : Bor Row). x.now)) c.in-None.is) ∙ found (goal.at.returns-in-None c).After-find
    in
    ap (λ (o : Option Row). slice_index (unwrap_or o (empty_row source)).potential c.args.node) is
