use Rattle.std.proofs.Common.{◌≡◌, None, List, length, map, arith, ap, sym, subst, ◌∙◌}
use Rattle.std.proofs.lemmas.List.{length-map, map_push}
use Rattle.te_model.specs.declared.network.Link.{Link}
use Rattle.te_model.specs.Network.{link_count}
use Rattle.te_model.proofs.Choices.{pushed_count, pushed_each}
use Rattle.shortest_path.specs.Costs.{HasCosts}
use Rattle.shortest_path.specs.Least.{links_of}
use Rattle.local_recovery.specs.Recovery.{IsBypassPath, bypass_path_at}
use Rattle.local_recovery.proofs.bypass_path.bypass_paths.Goals as goal

pub loop-link-preserved : goal.loop-link-preserved
loop-link-preserved c =
    let net = c.args.net.now in
    let failed = c.args.failed.now in
    let list = c.loop-link.list.items in
    let path = c.in_ok-bypass_path.field-0 in
    let h = c.loop-link.link in
    let so_far = c.loop-link.invariant in
    let pushed = ap (map links_of) c.in_ok-push.ensures.items ∙ map_push links_of list path in
    record {
      count = ap length c.in_ok-push.ensures.items ∙ pushed_count list path h so_far.count;
      each = λ k below.
          subst (λ os. IsBypassPath net failed k (bypass_path_at os k)) (sym pushed)
          (pushed_each (IsBypassPath net failed) (map links_of list) (links_of path) None h (length-map list links_of ∙ so_far.count) so_far.each
          c.in_ok-bypass_path.ensures k below);
    }

pub bypass_path-requires-clause-costs : goal.bypass_path-requires-clause-costs
bypass_path-requires-clause-costs c = subst (HasCosts c.args.net.now) (sym c.deref.ensures.value) c.in_ok-costs.ensures

pub bypass_path-requires-clause-open_marks : goal.bypass_path-requires-clause-open_marks
bypass_path-requires-clause-open_marks c = c.deref-in-loop-link.ensures.value ∙ c.in_ok-open.ensures

pub bypass_path-requires-clause-link : goal.bypass_path-requires-clause-link
bypass_path-requires-clause-link c = omega (arith, c.loop-link-test.true, ap (λ (ls : List Link). length ls) c.as_slice-link-end.ensures)

pub returns : goal.returns
returns c =
    let all : c.loop-link.link ≡ link_count c.args.net.now =
    omega (arith, c.loop-link-test.false, c.loop-link.auto.link-end, ap (λ (ls : List Link). length ls) c.as_slice-link-end.ensures)
    in
    record {
      count = length-map c.loop-link.list.items links_of ∙ (c.loop-link.invariant.count ∙ all);
      each = λ h below. c.loop-link.invariant.each h (omega (arith, below, all));
    }
