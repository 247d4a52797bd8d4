use Rattle.std.proofs.Common.{refl, ap}
use Rattle.flow_sim.specs.declared.result.PairResult.{PairResult}
use Rattle.flow_sim.proofs.result.step_result.Goals as goal

pub sums_of-sums-requires : goal.sums_of-sums-requires
sums_of-sums-requires c = record {
  offered = c.requires.offered;
  delivered = c.requires.delivered;
  lost_full = c.requires.lost_full;
  lost_failed = c.requires.lost_failed;
  lost_no_path = c.requires.lost_no_path;
}

pub returns : goal.returns
returns c = record {
  carried = refl;
  per_pair = refl;
  offered = ap (λ (p : PairResult). p.offered) c.sums_of-sums.ensures;
  delivered = ap (λ (p : PairResult). p.delivered) c.sums_of-sums.ensures;
  lost_full = ap (λ (p : PairResult). p.lost_full) c.sums_of-sums.ensures;
  lost_failed = ap (λ (p : PairResult). p.lost_failed) c.sums_of-sums.ensures;
  lost_no_path = ap (λ (p : PairResult). p.lost_no_path) c.sums_of-sums.ensures;
}
