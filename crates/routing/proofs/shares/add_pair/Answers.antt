use Rattle.std.proofs.Common.{◌<◌, arith, ap, length, take, List, subst, ◌≡◌, ℕ}
use Rattle.std.proofs.lemmas.List.{get_or_read, take_all}
use Rattle.std.proofs.lemmas.List.Sums.{sum_by_more_le}
use Rattle.te_model.specs.declared.route.PathShare.{PathShare}
use Rattle.te_model.specs.Path.{weight_on, amount_on}
use Rattle.routing.specs.Merge.{no_path}
use Rattle.routing.proofs.Splits.{weight_on-le}
use Rattle.routing.proofs.Sharing.{own_addition, path_added}
use Rattle.routing.specs.Shares.{IsAddition}
use Rattle.routing.proofs.shares.add_pair.Goals as goal

pub add_path-requires-clause-room : goal.add_path-requires-clause-room
add_path-requires-clause-room c = λ e below.
    let paths = c.args.paths.now in
    let i = c.loop-path.path-index in
    let inside : e < length c.args.table.now = omega (arith, below, c.loop-path.auto.table) in
    let read = ap (λ (s : PathShare). s.weight) (get_or_read paths i c.path-item.result c.loop-path-test.true c.path-item.is no_path) in
    omega (
      arith,
      own_addition c.args.table.now c.loop-path.table c.args.pair (weight_on (take i paths)) e inside c.loop-path.invariant.sums,
      c.requires.none e inside,
      read,
      weight_on-le (take i paths) e,
      sum_by_more_le (λ (s : PathShare). s.weight) paths i no_path c.loop-path-test.true,
      c.requires.whole,
    )

pub loop-path-preserved : goal.loop-path-preserved
loop-path-preserved c =
    let paths = c.args.paths.now in
    let i = c.loop-path.path-index in
    let old = c.loop-path.table in
    let new = c.add_path.new.table in
    let item = get_or_read paths i c.path-item.result c.loop-path-test.true c.path-item.is no_path in
    let links : c.as_slice.result.now ≡ c.path-item.result.links = c.as_slice.ensures in
    record {
      order = c.in_ok-add_path.ensures.order;
      sums = path_added c.args.table.now old new c.args.pair paths i c.loop-path-test.true c.loop-path.invariant.sums
          (subst (λ (s : PathShare). IsAddition old new c.args.pair (amount_on s.links s.weight)) item
          (subst (λ (l : List ℕ). IsAddition old new c.args.pair (amount_on l c.path-item.result.weight)) links c.in_ok-add_path.ensures.sums));
    }

pub returns-clause-sums : goal.returns-clause-sums
returns-clause-sums c =
    subst (λ (ps : List PathShare). IsAddition c.args.table.now c.loop-path.table c.args.pair (weight_on ps))
    (take_all c.loop-path.path-index c.args.paths.now c.loop-path-test.false) c.loop-path.invariant.sums
