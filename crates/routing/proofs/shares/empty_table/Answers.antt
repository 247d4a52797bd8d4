use Rattle.std.proofs.Common.{◌≡◌, [], List, arith, sym, subst, All}
use Rattle.std.proofs.lemmas.List.Elements.{All-push}
use Rattle.routing.specs.declared.shares.PairShare.{PairShare}
use Rattle.routing.proofs.shares.empty_table.Goals as goal

pub loop-preserved : goal.loop-preserved
loop-preserved c = (
  omega (arith, c.loop.invariant.0, c.in_ok-push.ensures.len),
  subst (All (λ (s : List PairShare). s ≡ [])) (sym c.in_ok-push.ensures.items)
      (All-push (λ (s : List PairShare). s ≡ []) c.loop.table.items c.new-list.result.items c.loop.invariant.1 c.new-list.ensures.items),
)
