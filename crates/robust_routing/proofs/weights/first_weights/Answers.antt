use Rattle.std.proofs.Common.{ℕ, List, length, arith, ap, sym, subst}
use Rattle.std.proofs.lemmas.List.Elements.{All-push}
use Rattle.te_model.specs.declared.network.Link.{Link}
use Rattle.te_model.proofs.Choices.{pushed_count}
use Rattle.robust_routing.specs.Weights.{AreLinkWeights}
use Rattle.robust_routing.proofs.weights.first_weights.Goals as goal

pub loop-link-init : goal.loop-link-init
loop-link-init c =
    let none = ap (λ (l : List (List ℕ)). length l) c.in_ok-list.ensures.items in
    (none, λ k d below. absurd (omega (arith, below, none)))

pub loop-link-preserved : goal.loop-link-preserved
loop-link-preserved c =
    let net = c.args.net.now in
    rw c.in_ok-push.ensures.items (
      pushed_count c.loop-link.list.items c.new.result c.loop-link.link c.loop-link.invariant.0,
      All-push (AreLinkWeights net) c.loop-link.list.items c.new.result c.loop-link.invariant.1 (subst (AreLinkWeights net) (sym c.new.ensures) c.in_ok-weights.ensures),
    )

pub returns : goal.returns
returns c = record {
  count = omega (arith, c.loop-link.invariant.0, c.loop-link-test.false, c.loop-link.auto.link-end, ap (λ (l : List Link). length l) c.as_slice-count.ensures);
  each = c.loop-link.invariant.1;
}
