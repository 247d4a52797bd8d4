use Rattle.std.proofs.Common.{length, arith, sym, ◌∙◌}
use Rattle.std.proofs.lemmas.Bool.{eqb-true}
use Rattle.k_paths.proofs.Bounds.{read_bound}
use Rattle.k_paths.proofs.search.due.Goals as goal

pub returns-then-is_empty : goal.returns-then-is_empty
returns-then-is_empty c = λ k below.
    absurd (omega (arith, below, eqb-true (length c.args.bounded.now) 0 (sym c.is_empty.ensures ∙ c.if-is_empty.true)))

pub returns-then-has_less : goal.returns-then-has_less
returns-then-has_less c = λ k below.
    let cs = c.args.bounded.now in
    let next = c.least_bound-next.result in
    let (j, inside, less) = c.has_less.ensures c.if-has_less.true in
    let read = read_bound cs next c.index-bounded-next.result c.least_bound-next.ensures.inside c.index-bounded-next.is in
    (j, inside, omega (arith, less, read, c.least_bound-next.ensures.least k below))
