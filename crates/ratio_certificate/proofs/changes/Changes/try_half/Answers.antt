use Rattle.std.proofs.Common.{◌+◌, ◌/◌, ℕ, List, slice_index, set, arith, ap, subst}
use Rattle.ratio_certificate.specs.Changing.{HelpsNotIn}
use Rattle.ratio_certificate.proofs.Trying.{none_gives}
use Rattle.ratio_certificate.proofs.changes.Changes.try_half.Goals as goal

pub returns-then-weight-ge-MIN_HALVED-clause-none : goal.returns-then-weight-ge-MIN_HALVED-clause-none
returns-then-weight-ge-MIN_HALVED-clause-none c =
    none_gives c.try_smaller.result _ _
    (λ says two. subst (λ (ws : List ℕ). HelpsNotIn c.args.self.now
    (set c.args.self.now.metric.now.weights c.args.link ((slice_index ws c.args.link + 1) / 2))) c.as_slice.ensures says)
    c.try_smaller.ensures.none

pub try_smaller-requires-clause-weight : goal.try_smaller-requires-clause-weight
try_smaller-requires-clause-weight c =
    let read = ap (λ (ws : List ℕ). slice_index ws c.args.link) c.as_slice.ensures in
    (omega arith, omega (arith, read))

pub returns-else-weight-ge-MIN_HALVED-clause-none : goal.returns-else-weight-ge-MIN_HALVED-clause-none
returns-else-weight-ge-MIN_HALVED-clause-none c =
    let read = ap (λ (ws : List ℕ). slice_index ws c.args.link) c.as_slice.ensures in
    λ two. absurd (omega (arith, read, two))
