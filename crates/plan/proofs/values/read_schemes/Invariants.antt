use Rattle.std.proofs.Common.{◌≡◌, [], drop, vec_len}
use Rattle.serde_json.specs.View.{items_view}
use Rattle.plan.specs.Values.{names_after}
use Rattle.plan.proofs.values.read_schemes.Given as goal

-- the values that are left go on from the schemes so far
abbrev pub invariant-loop-item : goal.invariant-loop-item
invariant-loop-item l = record {
  names : names_after [] (items_view l.list) ≡ names_after l.schemes.items (items_view (drop l.item-index l.list));
  count : vec_len l.schemes ≡ l.item-index;
}
