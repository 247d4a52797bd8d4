use Rattle.std.proofs.Common.{inl, inr, ◌≡◌, ◌<◌, ◌≤◌, length, arith, ap, sym, subst}
use Rattle.std.proofs.lemmas.Bool.{cases_lt}
use Rattle.k_paths.specs.Search.{bound_at}
use Rattle.k_paths.proofs.Bounds.{read_bound}
use Rattle.k_paths.proofs.search.least_bound.Goals as goal
use Rattle.k_paths.proofs.search.least_bound.Goals.{then-bounded-i, else-bounded-i}

pub loop-i-preserved : goal.loop-i-preserved
loop-i-preserved c =
    let cs = c.args.bounded.now in
    let i = c.loop-i.i in
    let best = c.loop-i.best in
    let below : i < length cs = omega arith in
    let here = read_bound cs i c.index-bounded-i.result below c.index-bounded-i.is in
    let there = read_bound cs best c.index-bounded-best.result c.loop-i.invariant.0 c.index-bounded-best.is in
    elim c.if-bounded-i.branch [
      | then-bounded-i w ↦ (
        subst (λ b. b < length cs) (sym w.best-is) below,
        λ k below_k. subst (λ b. bound_at cs b ≤ bound_at cs k) (sym w.best-is) (elim (cases_lt k i) [
          | inl lt ↦ omega (arith, c.loop-i.invariant.1 k lt, here, there, w.if-bounded-i.true)
          | inr ge ↦ let e : k ≡ i = omega arith in omega (arith, ap (bound_at cs) e)
        ]),
      )
      | else-bounded-i w ↦ (
        subst (λ b. b < length cs) (sym w.best-is) c.loop-i.invariant.0,
        λ k below_k. subst (λ b. bound_at cs b ≤ bound_at cs k) (sym w.best-is) (elim (cases_lt k i) [
          | inl lt ↦ c.loop-i.invariant.1 k lt
          | inr ge ↦ let e : k ≡ i = omega arith in omega (arith, ap (bound_at cs) e, here, there, w.if-bounded-i.false)
        ]),
      )
    ]
