use Rattle.std.proofs.Common.{◌≡◌, ◌∙◌, true, false, arith, ap, sym, subst, inl, inr}
use Rattle.std.proofs.lemmas.Bool.{cases_lt}
use Rattle.cover_search.specs.declared.reach.Reached.{Reached}
use Rattle.cover_search.specs.Ways.{IsClosedAt, unreached_count}
use Rattle.cover_search.proofs.reach.pass.Goals as goal
use Rattle.cover_search.proofs.reach.pass.Goals.{then-reach_over, else-reach_over}

pub loop-k-preserved : goal.loop-k-preserved
loop-k-preserved c = elim c.if-reach_over.branch [
  | then-reach_over w ↦
      let less = c.reach_over.ensures.found w.if-reach_over.true in
      let most = c.loop-k.invariant.most in
      record {
        reaching = c.reach_over.ensures.reaching;
        most = omega (arith, less, most);
        found = λ yes. omega (arith, less, most);
        none = λ no. absurd (clash (sym w.found-is ∙ no));
      }
  | else-reach_over w ↦
      let nothing = c.reach_over.ensures.none w.if-reach_over.false in
      let same = nothing.0 in
      let count = ap (unreached_count c.args.transport.now) same in
      let most = c.loop-k.invariant.most in
      record {
        reaching = c.reach_over.ensures.reaching;
        most = omega (arith, count, most);
        found = λ yes. let less = c.loop-k.invariant.found (sym w.found-is ∙ yes) in omega (arith, count, less);
        none = λ no k below. subst (λ (r : Reached). IsClosedAt c.args.shares.now c.args.transport.now r k) (sym same)
            (elim (cases_lt k c.loop-k.k) [
              | inl before ↦ c.loop-k.invariant.none (sym w.found-is ∙ no) k before
              | inr last ↦
                  let here : k ≡ c.loop-k.k = omega (arith, below, last) in
                  subst (λ j. IsClosedAt c.args.shares.now c.args.transport.now c.loop-k.reached j) (sym here) nothing.1
            ]);
      }
]
  where
    clash : true ≡ false → ⊥
    clash e = cc
