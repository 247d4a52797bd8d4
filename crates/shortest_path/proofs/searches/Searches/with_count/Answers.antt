use Rattle.std.proofs.Common.{◌≡◌, All, List, true, arith, ap, refl, length, replicate, sym, subst, ◌∙◌}
use Rattle.te_model.specs.declared.name.Name.{Name}
use Rattle.te_model.specs.declared.network.Link.{Link}
use Rattle.shortest_path.specs.Passes.{IsRoom}
use Rattle.shortest_path.proofs.searches.Searches.with_count.Goals as goal

pub returns : goal.returns
returns c = record {
  direction = refl;
  rows = c.in_ok-rows.ensures;
  links = omega (arith, c.in_ok-every.ensures.len, c.in_ok-every.every.ok.0, ap (λ (ls : List Link). length ls) c.as_slice.ensures);
}

pub invariant_of-result : goal.invariant_of-result
invariant_of-result c =
    let every = c.in_ok-every.every in
    let orders = c.in_ok-orders.orders.items in
    let nodes = length c.as_slice-nodes.result.now in
    let same : nodes ≡ length c.in_ok-rows.rows.items = ap (λ (l : List Name). length l) c.as_slice-nodes.ensures ∙ sym c.in_ok-rows.ensures.count in (
      c.in_ok-every.ensures.items_if_clones_equal (λ y same. same) ∙ ap (λ n. replicate n true) (sym c.in_ok-every.ensures.len ∙ every.ok.0),
      omega (arith, c.in_ok-orders.ensures.count, c.requires.orders),
      subst (λ n. All (λ o. o ≡ n) orders) same c.in_ok-orders.ensures.nodes,
      subst (λ n. IsRoom n c.in_ok-room.room) same c.in_ok-room.ensures,
    )
