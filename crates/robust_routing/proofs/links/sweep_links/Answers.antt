use Rattle.std.proofs.Common.{◌≡◌, ◌∙◌, ℕ, List, length, arith, ap, refl, sym, subst}
use Rattle.std.proofs.lemmas.List.Elements.{All-get_or, All-push}
use Rattle.te_model.proofs.Choices.{pushed_count}
use Rattle.te_model.proofs.Lists.{written_whole}
use Rattle.shortest_path.specs.declared.rows.Direction.TheVariants.{Forward}
use Rattle.shortest_path.specs.Rows.{IsSearchGraph}
use Rattle.robust_routing.specs.Rows.{AreRows}
use Rattle.robust_routing.specs.Weights.{AreLinkWeights}
use Rattle.robust_routing.proofs.links.sweep_links.Goals as goal

pub sweep_link-requires-clause-along : goal.sweep_link-requires-clause-along
sweep_link-requires-clause-along c =
    subst (IsSearchGraph c.args.round.now.net.now Forward) (sym c.loop-link.invariant.0) c.requires.along

pub sweep_link-requires-clause-weights : goal.sweep_link-requires-clause-weights
sweep_link-requires-clause-weights c =
    let net = c.args.round.now.net.now in
    let list = c.args.list.now in
    subst (AreLinkWeights net) (sym c.as_slice-weights.ensures)
    (subst (AreLinkWeights net) (sym c.index-list-link.is)
    (All-get_or (AreLinkWeights net) list c.loop-link.link c.index-list-link.result c.loop-link-test.true c.requires.list.each))

pub sweep_link-requires-clause-link : goal.sweep_link-requires-clause-link
sweep_link-requires-clause-link c = omega (arith, c.loop-link-test.true, c.requires.list.count)

pub sweep_link-requires-clause-rows : goal.sweep_link-requires-clause-rows
sweep_link-requires-clause-rows c = subst (AreRows c.args.round.now.net.now) (sym c.deref_mut.ensures.value) c.loop-link.invariant.1

pub loop-link-init : goal.loop-link-init
loop-link-init c =
    let none = ap (λ (l : List (List ℕ)). length l) c.in_ok-next.ensures.items in
    (refl, c.in_ok-rows.ensures, none, λ k d below. absurd (omega (arith, below, none)))

pub loop-link-preserved : goal.loop-link-preserved
loop-link-preserved c =
    let net = c.args.round.now.net.now in
    let rows = c.loop-link.rows in
    let new = c.sweep_link.new.rows in
    let kept : length new ≡ length rows.items = c.in_ok-after.ensures.rows.count ∙ sym c.loop-link.invariant.1.count in
    rw c.in_ok-push.ensures.items (
      c.sweep_link.ensures.same ∙ c.loop-link.invariant.0,
      rw (written_whole rows.len new rows.items kept rows.ok.0) c.in_ok-after.ensures.rows,
      pushed_count c.loop-link.next.items c.new.result c.loop-link.link c.loop-link.invariant.2,
      All-push (AreLinkWeights net) c.loop-link.next.items c.new.result c.loop-link.invariant.3
          (subst (AreLinkWeights net) (sym c.new.ensures) c.in_ok-after.ensures.weights),
    )

pub returns-clause-weights : goal.returns-clause-weights
returns-clause-weights c = record {
  count = omega (arith, c.loop-link.invariant.2, c.loop-link-test.false, c.loop-link.auto.link-end, c.requires.list.count);
  each = c.loop-link.invariant.3;
}
