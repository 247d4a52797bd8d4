use Rattle.std.proofs.Common.{◌≡◌, ◌≤◌, ◌^◌, ℕ, List, length, sum, get_or, arith, ap, sym, ◌∙◌, subst, Vec, Global}
use Rattle.std.proofs.lemmas.List.Elements.{All-get_or}
use Rattle.std.proofs.lemmas.List.FromFn.{length-map-range_with_len}
use Rattle.std.proofs.lemmas.Result.{IfOk-weaker}
use Rattle.te_model.specs.declared.route.Path.{Path}
use Rattle.te_model.specs.declared.route.PathShare.{PathShare}
use Rattle.te_model.specs.declared.units.TheConstants.{SHARE_UNIT}
use Rattle.te_model.specs.Apportion.{part}
use Rattle.te_model.specs.PathRouting.{IsPathSplit}
use Rattle.routing.specs.Merge.{IsMerge}
use Rattle.robust_routing.specs.Joint.{ArePathsWithin}
use Rattle.robust_routing.proofs.Splitting.{rates_sum, split_made}
use Rattle.robust_routing.proofs.split.split_of.Goals as goal

pub apportion-requires-clause-count : goal.apportion-requires-clause-count
apportion-requires-clause-count c =
    omega (
      arith,
      ap (λ (l : List ℕ). length l) c.deref.ensures.value,
      c.in_ok-weights.ensures.count,
      ap (λ (l : List Path). length l) c.paths-paths.ensures,
      c.requires.paths.few,
      c.requires.few,
    )

pub apportion-requires-clause-each : goal.apportion-requires-clause-each
apportion-requires-clause-each c = λ i below.
    let same = ap (λ (l : List ℕ). length l) c.deref.ensures.value in
    let small : get_or c.in_ok-weights.weights.items i 0 ≤ 2 ^ 30 =
    All-get_or (λ (r : ℕ). r ≤ 2 ^ 30) c.in_ok-weights.weights.items i 0 (omega (arith, below, same)) c.in_ok-weights.ensures.small
    in
    omega (arith, small, ap (λ (l : List ℕ). get_or l i 0) c.deref.ensures.value)

pub apportion-requires-clause-whole : goal.apportion-requires-clause-whole
apportion-requires-clause-whole c =
    let n = length c.paths-paths.result.now in
    let some : 1 ≤ n = omega (arith, ap (λ (l : List Path). length l) c.paths-paths.ensures, c.requires.paths.some) in
    subst (λ (l : List ℕ). 1 ≤ sum l) (sym c.deref.ensures.value) (rates_sum n c.in_ok-weights.weights.items c.in_ok-weights.ensures some)

pub shares_of-requires : goal.shares_of-requires
shares_of-requires c = record {
  count = ap (λ (l : List ℕ). length l) c.deref-2.ensures.value
      ∙ (ap (λ (l : List ℕ). length l) c.in_ok-parts.ensures.parts
      ∙ (length-map-range_with_len (part SHARE_UNIT c.deref.result.now) 0 (length c.deref.result.now)
      ∙ (ap (λ (l : List ℕ). length l) c.deref.ensures.value ∙ c.in_ok-weights.ensures.count)));
}

pub returns-clause-split : goal.returns-clause-split
returns-clause-split c =
    let net = c.args.net.now in
    let paths = c.paths-paths.result.now in
    let parts = c.deref-2.result.now in
    let shares = c.in_ok-shares.shares.items in
    let within : ArePathsWithin net c.args.limit c.args.pair paths = subst (ArePathsWithin net c.args.limit c.args.pair) (sym c.paths-paths.ensures) c.requires.paths in
    let count : length parts ≡ length paths = omega (
      arith,
      ap (λ (l : List ℕ). length l) c.deref-2.ensures.value,
      ap (λ (l : List ℕ). length l) c.in_ok-parts.ensures.parts,
      length-map-range_with_len (part SHARE_UNIT c.deref.result.now) 0 (length c.deref.result.now),
      ap (λ (l : List ℕ). length l) c.deref.ensures.value,
      c.in_ok-weights.ensures.count,
    )
    in
    let whole : sum parts ≡ SHARE_UNIT = ap (λ (l : List ℕ). sum l) c.deref-2.ensures.value ∙ c.in_ok-parts.ensures.sum in
    IfOk-weaker c.merge.result (λ (m : Vec PathShare Global). IsMerge shares m.items)
    (λ (m : Vec PathShare Global). IsPathSplit net (record { pair = c.args.pair; paths = m.items }))
    (λ m so. (split_made net c.args.pair c.args.limit paths parts shares m.items within count whole c.in_ok-shares.ensures so).0) c.merge.ensures

pub returns-clause-few : goal.returns-clause-few
returns-clause-few c =
    let net = c.args.net.now in
    let paths = c.paths-paths.result.now in
    let shares = c.in_ok-shares.shares.items in
    IfOk-weaker c.merge.result (λ (m : Vec PathShare Global). IsMerge shares m.items)
    (λ (m : Vec PathShare Global). length m.items ≤ c.args.limit)
    (λ m so. omega (arith, so.few, c.in_ok-shares.ensures.few, ap (λ (l : List Path). length l) c.paths-paths.ensures, c.requires.paths.few)) c.merge.ensures
