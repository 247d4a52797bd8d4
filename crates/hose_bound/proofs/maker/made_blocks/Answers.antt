use Rattle.std.proofs.Common.{◌≡◌, ◌+◌, ◌<◌, List, length, arith, ap, sym, subst}
use Rattle.std.specs.Prelude.{All}
use Rattle.std.proofs.lemmas.List.Elements.{All-nil, All-push}
use Rattle.te_model.specs.declared.network.Link.{Link}
use Rattle.te_model.specs.Network.{link_count}
use Rattle.routing.specs.Shares.{AreSharesOn}
use Rattle.hose_bound.specs.declared.hose.HoseBlock.{HoseBlock}
use Rattle.hose_bound.specs.Covering.{AreMadeBlocks}
use Rattle.hose_bound.specs.Making.{IsAttained}
use Rattle.hose_bound.proofs.Made.{no_block_more, no_blocks, one_block_more}
use Rattle.hose_bound.proofs.MadeBlocks.{unused_where_none, used_where_listed}
use Rattle.hose_bound.proofs.Valid.{small_share}
use Rattle.hose_bound.proofs.maker.made_blocks.Goals as goal
use Rattle.hose_bound.proofs.maker.made_blocks.Goals.{then-list-gt0+in_ok-block+in_ok-push, else-list-gt0}

pub tight_cover-requires-clause-small : goal.tight_cover-requires-clause-small
tight_cover-requires-clause-small c = λ p below. small_share c.args.net.now c.args.routes.now c.requires.routing c.loop-e.e p below

pub tight_cover-requires-clause-shares : goal.tight_cover-requires-clause-shares
tight_cover-requires-clause-shares c =
    let inside : c.loop-e.e < link_count c.args.net.now = omega (arith, c.loop-e-test.true, ap (λ (ls : List Link). length ls) c.as_slice-e-end.ensures) in
    subst (AreSharesOn c.args.routes.now c.loop-e.e) (sym c.on-list.ensures) (c.requires.shares.each c.loop-e.e inside)

pub loop-e-init : goal.loop-e-init
loop-e-init c = record {
  made = rw c.new-blocks.ensures.items (no_blocks c.args.net.now c.args.routes.now c.args.hose.now);
  attained = rw c.new-blocks.ensures.items (All-nil (IsAttained c.args.net.now c.args.routes.now c.args.hose.now));
}

pub loop-e-preserved : goal.loop-e-preserved
loop-e-preserved c =
    let net = c.args.net.now in
    let routes = c.args.routes.now in
    let h = c.args.hose.now in
    let e = c.loop-e.e in
    let blocks = c.loop-e.blocks.items in
    let so_far = c.loop-e.invariant.made in
    let inside : e < link_count net = omega (arith, c.loop-e-test.true, ap (λ (ls : List Link). length ls) c.as_slice-e-end.ensures) in
    let listed = subst (AreSharesOn routes e) (sym c.on-list.ensures) (c.requires.shares.each e inside) in
    elim c.if-list-gt0.branch [
      | then-list-gt0+in_ok-block+in_ok-push w ↦
          record {
            made = rw w.blocks-is
                (subst (AreMadeBlocks net routes h (e + 1)) (sym w.in_ok-push.ensures.items)
                (one_block_more net routes h e blocks w.in_ok-block.block so_far w.in_ok-block.ensures.made.0 w.in_ok-block.ensures.made.1
                (used_where_listed routes e c.on-list.result.now listed (omega (arith, w.if-list-gt0.true)))));
            attained = rw w.blocks-is
                (subst (λ (bs : List HoseBlock). All (IsAttained net routes h) bs) (sym w.in_ok-push.ensures.items)
                (All-push (IsAttained net routes h) blocks w.in_ok-block.block c.loop-e.invariant.attained w.in_ok-block.ensures.attained));
          }
      | else-list-gt0 w ↦
          record {
            made = rw w.blocks-is (no_block_more net routes h e blocks so_far (unused_where_none routes e c.on-list.result.now listed (omega (arith, w.if-list-gt0.false))));
            attained = rw w.blocks-is c.loop-e.invariant.attained;
          }
    ]

pub returns-clause-made : goal.returns-clause-made
returns-clause-made c =
    let net = c.args.net.now in
    let all : c.loop-e.e ≡ link_count net =
    omega (arith, c.loop-e-test.false, c.loop-e.auto.e-end, ap (λ (ls : List Link). length ls) c.as_slice-e-end.ensures)
    in
    subst (λ m. AreMadeBlocks net c.args.routes.now c.args.hose.now m c.loop-e.blocks.items) all c.loop-e.invariant.made
