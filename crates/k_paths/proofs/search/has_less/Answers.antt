use Rattle.std.proofs.Common.{◌<◌, List, All, length, arith, ap, sym, ◌∙◌, subst}
use Rattle.shortest_path.specs.Paths.{sum_along}
use Rattle.k_paths.proofs.Candidates.{links_read}
use Rattle.k_paths.proofs.search.has_less.Goals as goal

pub length_along-requires-clause-links : goal.length_along-requires-clause-links
length_along-requires-clause-links c =
    let cs = c.args.candidates.now in
    let i = c.loop-candidate.candidate-index in
    let links = c.as_slice.ensures ∙ links_read cs i c.candidate-item.result c.loop-candidate-test.true c.candidate-item.is in
    subst (λ l. All (λ h. h < length c.args.costs.now) l) (sym links) (c.requires.links i c.loop-candidate-test.true)

pub returns-then-length_along-bound : goal.returns-then-length_along-bound
returns-then-length_along-bound c = λ yes.
    let cs = c.args.candidates.now in
    let i = c.loop-candidate.candidate-index in
    let links = c.as_slice.ensures ∙ links_read cs i c.candidate-item.result c.loop-candidate-test.true c.candidate-item.is in
    let sum = c.length_along.ensures.sum ∙ ap (sum_along c.args.costs.now) links in
    (i, c.loop-candidate-test.true, omega (arith, c.if-length_along-bound.true, sum))
