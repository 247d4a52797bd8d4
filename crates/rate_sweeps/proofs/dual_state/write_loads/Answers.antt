use Rattle.std.proofs.Common.{◌≡◌, ◌<◌, ℕ, List, [], length, map, get_or, arith, ap, sym, ◌∙◌, subst, All}
use Rattle.std.proofs.lemmas.List.{get_or_default, get_or-map, length-map}
use Rattle.std.proofs.lemmas.List.Elements.{All-get_or}
use Rattle.te_model.specs.declared.route.Path.{Path}
use Rattle.te_model.specs.Network.{link_count}
use Rattle.rate_sweeps.specs.Sweeps.{links_in}
use Rattle.rate_sweeps.proofs.SweepLoads.{all_pairs}
use Rattle.rate_sweeps.proofs.dual_state.write_loads.Goals as goal

pub add_on-requires-clause-links : goal.add_on-requires-clause-links
add_on-requires-clause-links c =
    let paths = c.args.paths.now in
    let p = c.loop-p.p in
    let none : Path = record { links = [] } in
    let count : link_count c.args.net.now ≡ length c.loop-p.loads = omega arith in
    let path : c.as_slice.result.now ≡ get_or (map links_in paths) p [] =
    c.as_slice.ensures
    ∙ (ap links_in (get_or_default paths p c.index-paths-p.result none c.loop-p-test.true) ∙ sym (get_or-map links_in paths p none [] c.loop-p-test.true))
    in
    let below : p < length (map links_in paths) = omega (arith, c.loop-p-test.true, length-map paths links_in) in
    subst (λ m. All (λ h. h < m) c.as_slice.result.now) count
    (subst (All (λ h. h < link_count c.args.net.now)) (sym path)
    (All-get_or (λ (links : List ℕ). All (λ h. h < link_count c.args.net.now) links) (map links_in paths) p [] below c.requires.paths))

pub returns-clause-loads : goal.returns-clause-loads
returns-clause-loads c =
    let paths = c.args.paths.now in
    all_pairs c.args.net.now c.args.matrix.now.demand (map links_in paths) c.loop-p.p c.loop-p.loads (omega (arith, c.loop-p.auto.loads, c.requires.count))
    (omega (arith, c.loop-p-test.false, c.loop-p.auto.p-end, length-map paths links_in))
    (λ e below. c.loop-p.invariant.1 e (omega (arith, below, c.loop-p.auto.loads)))
