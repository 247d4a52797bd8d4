use Rattle.std.proofs.Common.{◌∙◌, arith, length, subst, sym}
use Rattle.std.proofs.lemmas.List.{length-set}
use Rattle.ratio_checker.specs.Shares.{HasPairsBelow}
use Rattle.ratio_checker.proofs.LinkPairLists.{added_all, added_more, added_none}
use Rattle.ratio_checker.proofs.share_table.add_pair.Goals as goal

pub loop-e-init : goal.loop-e-init
loop-e-init c = record {
  size = sym c.requires.size;
  added = λ routes has each. added_none routes (length c.args.shares.now) c.args.p c.args.table.now.items has;
}

pub index_mut-pairs-requires : goal.index_mut-pairs-requires
index_mut-pairs-requires c = omega (arith, c.loop-e-test.true, c.loop-e.invariant.size, c.loop-e.table.ok.0)

pub loop-e-preserved : goal.loop-e-preserved
loop-e-preserved c =
    let e = c.loop-e.e in
    let table = c.loop-e.table.items in
    let links = length c.args.shares.now in
    record {
      size = length-set table e c.add.new.self ∙ c.loop-e.invariant.size;
      added = λ routes has each.
          let so_far = c.loop-e.invariant.added routes has each in
          let lent = c.index_mut-pairs.result.now in
          let before : HasPairsBelow routes e c.args.p lent =
          subst (HasPairsBelow routes e c.args.p) (sym c.index_mut-pairs.ensures.value) (so_far.others e lent (omega arith) c.loop-e-test.true)
          in
          added_more routes links e c.args.p table c.add.new.self so_far (c.in_ok-add.ensures routes e before (each e c.loop-e-test.true)) c.loop-e-test.true;
    }

pub returns : goal.returns
returns c = λ routes has each.
    added_all routes (length c.args.shares.now) c.loop-e.e c.args.p c.loop-e.table.items (c.loop-e.invariant.added routes has each) (omega (arith, c.loop-e-test.false))
