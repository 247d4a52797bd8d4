use Rattle.std.proofs.Common.{◌≡◌, ◌∙◌, ap, sym, arith, true, false}
use Rattle.te_model.specs.Counting.{unless}
use Rattle.te_model.proofs.Searches.{first_below_found, first_below_more}
use Rattle.hose_bound.specs.Verdict.{hose_block_of, covers_pair}
use Rattle.hose_bound.proofs.pairs.uncovered_link.Goals as goal

pub returns-then-not-covers_on_link : goal.returns-then-not-covers_on_link
returns-then-not-covers_on_link c =
    let routes = c.args.routes.now in
    let blocks = c.args.blocks.now in
    let p = c.args.p in
    let e = c.loop-e.e in
    let fails : covers_pair routes e (hose_block_of blocks e) p ≡ false =
    ap (λ b. covers_pair routes e b p) (sym (c.loop-e.invariant.same e (omega arith))) ∙ (sym c.covers_on_link.ensures ∙ c.if-not-covers_on_link.true) in
    sym (first_below_found c.args.limit e (λ k. unless (covers_pair routes k (hose_block_of blocks k) p) k) e c.loop-e-test.true c.loop-e.invariant.none
    (ap (λ b. unless b e) fails))

pub loop-e-preserved : goal.loop-e-preserved
loop-e-preserved c =
    let routes = c.args.routes.now in
    let blocks = c.args.blocks.now in
    let p = c.args.p in
    let e = c.loop-e.e in
    let covered : covers_pair routes e (hose_block_of blocks e) p ≡ true =
    ap (λ b. covers_pair routes e b p) (sym (c.loop-e.invariant.same e (omega arith))) ∙ (sym c.covers_on_link.ensures ∙ c.if-not-covers_on_link.false) in
    record {
      none = first_below_more e (λ k. unless (covers_pair routes k (hose_block_of blocks k) p) k) c.loop-e.invariant.none (ap (λ b. unless b e) covered);
      ascend = c.blocks_after-rest.ensures.ascend;
      same = λ k later. c.blocks_after-rest.ensures.same k (omega arith) ∙ c.loop-e.invariant.same k (omega arith);
      small = c.blocks_after-rest.ensures.rest c.loop-e.invariant.small;
    }
