use Rattle.std.proofs.Common.{◌≡◌, ℕ, List, [], All, arith, sym, subst}
use Rattle.std.proofs.lemmas.List.Elements.{All-nil, All-push}
use Rattle.local_search.proofs.pairs.empty_table.Goals as goal

pub links-init : goal.links-init
links-init c = (
  c.in_ok-table.ensures.len,
  subst (All (λ (s : List ℕ). s ≡ [])) (sym {A = List (List ℕ)} c.in_ok-table.ensures.items) (All-nil (λ (s : List ℕ). s ≡ [])),
)

pub links-preserved : goal.links-preserved
links-preserved c = (
  omega (arith, c.in_ok-push.ensures.len, c.links.invariant.0),
  subst (All (λ (s : List ℕ). s ≡ [])) (sym {A = List (List ℕ)} c.in_ok-push.ensures.items)
      (All-push (λ (s : List ℕ). s ≡ []) c.links.table.items c.new-list.result.items c.links.invariant.1 c.new-list.ensures.items),
)

pub returns : goal.returns
returns c = (omega arith, c.links.invariant.1)
