use Rattle.std.proofs.Common.{◌≡◌, ℕ, ◌*◌, ◌≤◌, List, length, inl, inr, arith, ap, subst, slice_index}
use Rattle.std.proofs.lemmas.Bool.{cases_lt}
use Rattle.std.proofs.Math.Nat.{mul-le-mul_right}
use Rattle.te_model.specs.declared.network.Link.{Link}
use Rattle.te_model.specs.declared.units.TheConstants.{RATIO_UNIT, SHARE_UNIT}
use Rattle.te_model.specs.Network.{capacity_of}
use Rattle.witness_search.proofs.limits.greatest_over_capacity.Goals as goal

-- what a number covers, a greater one does
raise : (x g more y : ℕ) → x ≤ g * y → g ≤ more → x ≤ more * y
raise x g more y le greater = let covered = mul-le-mul_right {m = g} {n = more} y greater in omega (arith, le, covered)

pub loop-h-preserved : goal.loop-h-preserved
loop-h-preserved c = λ e below.
    let net = c.args.net.now in
    let room = c.args.room in
    let shares = c.args.shares.now in
    let h = c.loop-h.h in
    elim (cases_lt e h) [
      | inl before ↦
          raise (RATIO_UNIT * (room * slice_index shares e)) c.loop-h.greatest c.greater-greatest.result (SHARE_UNIT * capacity_of net e) (c.loop-h.invariant e before) c.greater-greatest.ensures.first
      | inr after ↦
          let same : h ≡ e = omega (arith, below, after) in
          let here = raise (RATIO_UNIT * (room * slice_index shares h)) c.room_over_capacity.result c.greater-greatest.result (SHARE_UNIT * capacity_of net h)
          c.room_over_capacity.ensures c.greater-greatest.ensures.second in
          subst (λ (k : ℕ). RATIO_UNIT * (room * slice_index shares k) ≤ c.greater-greatest.result * (SHARE_UNIT * capacity_of net k)) same here
    ]

pub returns : goal.returns
returns c = λ e below.
    let count = ap (λ (ls : List Link). length ls) c.as_slice-count.ensures in
    c.loop-h.invariant e (omega (arith, below, count))
