use Rattle.std.proofs.Common.{◌≡◌, drop}
use Rattle.serde_json.specs.View.{items_view}
use Rattle.plan.specs.Values.{are_texts}
use Rattle.plan.proofs.values.are_texts.Given as goal

-- the values that are left decide
abbrev pub invariant-loop-item : goal.invariant-loop-item
invariant-loop-item l = are_texts (items_view l.list) ≡ are_texts (items_view (drop l.item-index l.list))
