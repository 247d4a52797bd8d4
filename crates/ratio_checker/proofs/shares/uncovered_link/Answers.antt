use Rattle.std.proofs.Common.{◌≡◌, ◌∙◌, ap, sym, arith, true, false}
use Rattle.te_model.specs.Counting.{unless}
use Rattle.te_model.specs.Certificate.{block_of}
use Rattle.te_model.specs.Inequalities.{covers_share}
use Rattle.te_model.proofs.Searches.{first_below_found, first_below_more}
use Rattle.ratio_checker.proofs.shares.uncovered_link.Goals as goal

pub returns-then-not-covers_link : goal.returns-then-not-covers_link
returns-then-not-covers_link c =
    let routes = c.args.head.now.routes in
    let blocks = c.args.blocks.now in
    let p = c.args.p in
    let e = c.loop-e.e in
    let fails : covers_share routes (block_of blocks e) p ≡ false =
    ap (λ b. covers_share routes b p) (sym (c.loop-e.invariant.same e (omega arith))) ∙ (sym c.covers_link.ensures ∙ c.if-not-covers_link.true) in
    sym (first_below_found c.args.limit e (λ k. unless (covers_share routes (block_of blocks k) p) k) e c.loop-e-test.true c.loop-e.invariant.none
    (ap (λ b. unless b e) fails))

pub loop-e-preserved : goal.loop-e-preserved
loop-e-preserved c =
    let routes = c.args.head.now.routes in
    let blocks = c.args.blocks.now in
    let p = c.args.p in
    let e = c.loop-e.e in
    let covered : covers_share routes (block_of blocks e) p ≡ true =
    ap (λ b. covers_share routes b p) (sym (c.loop-e.invariant.same e (omega arith))) ∙ (sym c.covers_link.ensures ∙ c.if-not-covers_link.false) in
    record {
      none = first_below_more e (λ k. unless (covers_share routes (block_of blocks k) p) k) c.loop-e.invariant.none (ap (λ b. unless b e) covered);
      ascend = c.blocks_after-rest.ensures.ascend;
      same = λ k later. c.blocks_after-rest.ensures.same k (omega arith) ∙ c.loop-e.invariant.same k (omega arith);
      checked = c.blocks_after-rest.ensures.rest c.args.head.now c.loop-e.invariant.checked;
    }
