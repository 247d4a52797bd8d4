use Rattle.std.proofs.Common.{◌≡◌, ap, length, arith}
use Rattle.serde_json.specs.View.{view}
use Rattle.plan.proofs.PlanLemmas.{no-margin}
use Rattle.plan.proofs.values.read_margin.Goals as goal

pub returns-in_default-as_slice-clause-margin : goal.returns-in_default-as_slice-clause-margin
returns-in_default-as_slice-clause-margin c =
    let e : length c.as_slice.result.now ≡ length c.in-Some.list.now.items = ap length c.as_slice.ensures.value in
    no-margin (view c.args.value.now) c.in-Some.list.now.items c.in-Some.ensures (omega arith)

pub returns-in_default-as_slice-2-clause-margin : goal.returns-in_default-as_slice-2-clause-margin
returns-in_default-as_slice-2-clause-margin c =
    let e : length c.as_slice.result.now ≡ length c.in-Some.list.now.items = ap length c.as_slice.ensures.value in
    no-margin (view c.args.value.now) c.in-Some.list.now.items c.in-Some.ensures (omega arith)
