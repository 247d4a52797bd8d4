use Rattle.std.proofs.Common.{◌<◌, List, ℕ, length, arith, ap, sym, subst, ◌∙◌}
use Rattle.std.specs.Prelude.{All}
use Rattle.shortest_path.specs.Paths.{sum_along}
use Rattle.dual_bounds.proofs.given_paths.length_of.Goals as goal

pub length_along-requires-clause-links : goal.length_along-requires-clause-links
length_along-requires-clause-links c =
    subst (λ (hs : List ℕ). All (λ h. h < length c.args.lengths.now) hs) (sym c.as_slice.ensures) c.requires.links.inside

pub overflow_cast-result : goal.overflow_cast-result
overflow_cast-result c =
    omega (arith, c.length_along.ensures.limit, ap (λ (hs : List ℕ). length hs) c.as_slice.ensures, c.requires.links.few)

pub returns : goal.returns
returns c = c.length_along.ensures.sum ∙ ap (sum_along c.args.lengths.now) c.as_slice.ensures
