use Rattle.std.proofs.Common.{◌≡◌, ◌∙◌, ℕ, ◌<◌, ◌++◌, List, ap, arith, sym}
use Rattle.std.specs.Prelude.{flat_map}
use Rattle.std.specs.List.{range_with_len}
use Rattle.te_model.specs.Network.{link_count}
use Rattle.te_model.proofs.Lists.{pieces_more}
use Rattle.link_bounds.specs.Table.{header}
use Rattle.link_bounds.proofs.Rows.{shared_row, whole_table}
use Rattle.link_bounds.proofs.table.table_text.Goals as goal

pub loop-e-preserved : goal.loop-e-preserved
loop-e-preserved c =
    let head = c.args.head.now in
    let e = c.loop-e.e in
    let row = shared_row head c.args.needs.now in
    let inside : e < link_count head.network = omega (arith, c.loop-e-test.true, c.requires.count) in
    c.in_ok-print_shared.ensures head.routes (c.on.ensures head.routes (link_count head.network) c.requires.shares inside)
    ∙ ap (λ (text : List ℕ). text ++ row e) c.loop-e.invariant
    ∙ pieces_more header row e

pub returns : goal.returns
returns c = λ certificate same has.
    let head = c.args.head.now in
    let needs = c.args.needs.now in
    let e = c.loop-e.e in
    let all : e ≡ link_count head.network = omega (arith, c.loop-e-test.false, c.loop-e.auto.e-end, c.requires.count) in
    c.loop-e.invariant
    ∙ ap (λ h. header ++ flat_map (shared_row h needs) (range_with_len 0 e)) (sym same)
    ∙ whole_table certificate needs e (all ∙ ap (λ h. link_count h.network) (sym same)) has
