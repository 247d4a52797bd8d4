use Rattle.std.proofs.Common.{◌*◌, ℕ, List, slice_index, set, arith, ap, subst}
use Rattle.ratio_certificate.specs.Changing.{HelpsNotIn}
use Rattle.ratio_certificate.proofs.Trying.{none_gives}
use Rattle.ratio_certificate.proofs.changes.Changes.try_double.Goals as goal

pub returns-then-weight-le-MAX_DOUBLED-clause-none : goal.returns-then-weight-le-MAX_DOUBLED-clause-none
returns-then-weight-le-MAX_DOUBLED-clause-none c =
    none_gives c.try_greater.result _ _
    (λ says small. subst (λ (ws : List ℕ). HelpsNotIn c.args.self.now
    (set c.args.self.now.metric.now.weights c.args.link (2 * slice_index ws c.args.link))) c.as_slice.ensures says)
    c.try_greater.ensures.none

pub try_greater-requires-clause-weight : goal.try_greater-requires-clause-weight
try_greater-requires-clause-weight c =
    let read = ap (λ (ws : List ℕ). slice_index ws c.args.link) c.as_slice.ensures in
    (omega (arith, read), omega arith)

pub returns-else-weight-le-MAX_DOUBLED-clause-none : goal.returns-else-weight-le-MAX_DOUBLED-clause-none
returns-else-weight-le-MAX_DOUBLED-clause-none c =
    let read = ap (λ (ws : List ℕ). slice_index ws c.args.link) c.as_slice.ensures in
    λ small. absurd (omega (arith, read, small))
