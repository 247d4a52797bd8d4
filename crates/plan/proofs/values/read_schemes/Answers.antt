use Rattle.std.proofs.Common.{◌≡◌, ◌∙◌, ◌⊎◌, ◌<◌, inl, inr, sym, length, true, arith, Some, None}
use Rattle.std.proofs.lemmas.Bool.Decides.{nat_tests}
use Rattle.serde_json.specs.View.{view, items_view}
use Rattle.plan.specs.Values.{are_texts}
use Rattle.plan.proofs.PlanLemmas.{wrong-count, right-count, next-named, next-unnamed, all-named}
use Rattle.plan.proofs.values.read_schemes.Goals as goal
use Rattle.plan.proofs.values.read_schemes.Goals.{then-is_empty-via-then-is_empty, then-is_empty-via-else-is_empty+then-list-gt16}

pub returns-then-is_empty-clause-refused : goal.returns-then-is_empty-clause-refused
returns-then-is_empty-clause-refused c = λ _.
    let list = c.in-Some.list.now.items in
    let texts : are_texts (items_view list) ≡ true = rw c.as_slice-list.ensures.value at (sym c.if-not-are_texts.ensures) in
    let e = c.as_slice-list.ensures.len in
    let empty = c.is_empty.ensures in
    let count : (length list ≡ 0) ⊎ (16 < length list) =
    rw (← c.as_slice-list.ensures.value)
    elim c.then-is_empty.branch [
      | then-is_empty-via-then-is_empty w ↦ let t = w.if-is_empty.true in inl (grind (arith, nat_tests))
      | then-is_empty-via-else-is_empty+then-list-gt16 w ↦ inr w.if-list-gt16.true
    ] in
    wrong-count (view c.args.value.now) list c.in-Some.ensures texts count

pub returns-in_default-named_scheme-clause-refused : goal.returns-in_default-named_scheme-clause-refused
returns-in_default-named_scheme-clause-refused c = λ _.
    let list = c.as_slice-list.result.now in
    let array = rw (← c.as_slice-list.ensures.value) at c.in-Some.ensures in
    let empty = c.if-is_empty.ensures in
    right-count (view c.args.value.now) list None array (sym c.if-not-are_texts.ensures) (grind (arith, nat_tests)) c.if-list-gt16.false
    (c.loop-item.invariant.names
    ∙ next-unnamed c.loop-item.schemes.items list c.loop-item.item-index c.item-item.result c.loop-item-test.true c.item-item.is (sym c.in_default-named_scheme.ensures))

pub returns-clause-schemes : goal.returns-clause-schemes
returns-clause-schemes c =
    let list = c.as_slice-list.result.now in
    let array = rw (← c.as_slice-list.ensures.value) at c.in-Some.ensures in
    let empty = c.if-is_empty.ensures in
    rw c.new.ensures
    (right-count (view c.args.value.now) list (Some c.loop-item.schemes.items) array (sym c.if-not-are_texts.ensures) (grind (arith, nat_tests)) c.if-list-gt16.false
    (c.loop-item.invariant.names ∙ all-named c.loop-item.schemes.items list c.loop-item.item-index c.loop-item-test.false))

pub loop-item-preserved : goal.loop-item-preserved
loop-item-preserved c =
    let so_far = c.loop-item.invariant in
    record {
      names = rw c.in_ok-push.ensures.items
          (so_far.names
          ∙ next-named c.loop-item.schemes.items c.as_slice-list.result.now c.loop-item.item-index c.item-item.result c.in-Some-named_scheme.scheme c.loop-item-test.true c.item-item.is (sym c.in-Some-named_scheme.ensures));
      count = let len = c.in_ok-push.ensures.len in omega arith;
    }
