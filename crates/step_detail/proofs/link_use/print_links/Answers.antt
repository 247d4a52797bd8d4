use Rattle.std.proofs.Common.{◌≡◌, ℕ, List, ◌++◌, length, arith, ap, ◌∙◌}
use Rattle.std.specs.List.{flat_map, range_with_len}
use Rattle.std.proofs.lemmas.List.FromFn.{length-map-range_with_len}
use Rattle.te_model.specs.declared.network.Link.{Link}
use Rattle.te_model.specs.Network.{link_count}
use Rattle.flow_sim.specs.Asked.{all_asked_units, asked_units_on}
use Rattle.step_detail.specs.Links.{link_use_line}
use Rattle.te_model.proofs.Lists.{pieces_more}
use Rattle.step_detail.proofs.link_use.print_links.Goals as goal

pub print_link-requires-clause-link : goal.print_link-requires-clause-link
print_link-requires-clause-link c = omega (arith, c.loop-link-test.true, ap (λ (ls : List Link). length ls) c.as_slice-count.ensures)

pub print_link-requires-clause-asked : goal.print_link-requires-clause-asked
print_link-requires-clause-asked c =
    ap (λ (l : List ℕ). length l) (c.as_slice-units.ensures ∙ c.in_ok-asked.ensures)
    ∙ length-map-range_with_len (asked_units_on c.args.step.now.rates.routes c.args.matrix.now.demand) 0 (link_count c.args.net.now)

pub print_link-requires-clause-carried : goal.print_link-requires-clause-carried
print_link-requires-clause-carried c = ap (λ (l : List ℕ). length l) c.as_slice-carried.ensures ∙ c.requires.carried

pub loop-link-preserved : goal.loop-link-preserved
loop-link-preserved c =
    let net = c.args.net.now in
    let failed = c.args.failed.now in
    let word = c.args.word.now in
    let step = c.args.step.now in
    let e = c.loop-link.link in
    let asked = all_asked_units net step.rates.routes c.args.matrix.now.demand in
    let carried = step.row.result.carried in
    let line : link_use_line net failed c.as_slice-units.result.now c.as_slice-carried.result.now word e ≡ link_use_line net failed asked carried word e =
    ap (λ (l : List ℕ). link_use_line net failed l c.as_slice-carried.result.now word e) (c.as_slice-units.ensures ∙ c.in_ok-asked.ensures)
    ∙ ap (λ (l : List ℕ). link_use_line net failed asked l word e) c.as_slice-carried.ensures
    in
    c.in_ok-print_link.ensures
    ∙ (ap (λ (l : List ℕ). c.loop-link.text.items ++ l) line
    ∙ (ap (λ (t : List ℕ). t ++ link_use_line net failed asked carried word e) c.loop-link.invariant
    ∙ pieces_more c.args.text.now.items (link_use_line net failed asked carried word) e))

pub returns : goal.returns
returns c =
    let net = c.args.net.now in
    let step = c.args.step.now in
    let done : c.loop-link.link ≡ link_count net =
    omega (arith, c.loop-link-test.false, c.loop-link.auto.link-end, ap (λ (ls : List Link). length ls) c.as_slice-count.ensures)
    in
    c.loop-link.invariant
    ∙ ap (λ n. c.args.text.now.items
    ++ flat_map (link_use_line net c.args.failed.now (all_asked_units net step.rates.routes c.args.matrix.now.demand) step.row.result.carried c.args.word.now)
    (range_with_len 0 n)) done
