use Rattle.std.proofs.Common.{◌∙◌, ◌*◌, ◌≤◌, ℕ, List, All, arith, ap, subst, sym}
use Rattle.std.specs.Prelude.{sum_by}
use Rattle.te_model.specs.declared.route.PathShare.{PathShare}
use Rattle.te_model.specs.declared.units.TheConstants.{RATIO_UNIT, SHARE_UNIT}
use Rattle.te_model.specs.Network.{capacity_of}
use Rattle.te_model.specs.Path.{weight_on}
use Rattle.routing.proofs.Splits.{weight_on-le}
use Rattle.ratio_checker.specs.Checked.{IsSimplePath}
use Rattle.witness_search.proofs.limits.limit_of_route.Goals as goal

pub shares_by_link-shares-requires-clause-paths : goal.shares_by_link-shares-requires-clause-paths
shares_by_link-shares-requires-clause-paths c = subst (All IsSimplePath) (sym c.as_slice.ensures) c.requires.paths

pub shares_by_link-shares-requires-clause-weights : goal.shares_by_link-shares-requires-clause-weights
shares_by_link-shares-requires-clause-weights c = let same = ap (sum_by (λ s. s.weight)) c.as_slice.ensures in omega (arith, same, c.requires.whole)

pub greatest_over_capacity-requires-clause-count : goal.greatest_over_capacity-requires-clause-count
greatest_over_capacity-requires-clause-count c = let count = c.shares_by_link-shares.ensures.count in omega (arith, count, c.requires.links.few)

pub greatest_over_capacity-requires-clause-shares : goal.greatest_over_capacity-requires-clause-shares
greatest_over_capacity-requires-clause-shares c = λ e.
    let paths = c.args.route.now.paths in
    let share = c.shares_by_link-shares.ensures.shares e ∙ ap (λ (ps : List PathShare). weight_on ps e) c.as_slice.ensures in
    omega (arith, share, weight_on-le paths e, c.requires.whole)

pub returns : goal.returns
returns c =
    let net = c.args.net.now in
    let room = c.room_of-room.result in
    let limit = c.greatest_over_capacity.result in (
      room,
      c.room_of-room.ensures.one,
      λ e below.
          let share = c.shares_by_link-shares.ensures.shares e ∙ ap (λ (ps : List PathShare). weight_on ps e) c.as_slice.ensures in
          subst (λ (x : ℕ). RATIO_UNIT * (room * x) ≤ limit * (SHARE_UNIT * capacity_of net e)) share (c.greatest_over_capacity.ensures e below),
    )
