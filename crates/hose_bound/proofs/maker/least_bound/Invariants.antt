use Rattle.std.proofs.Common.{ℕ, ◌^◌, ◌<◌, ◌≤◌, take}
use Rattle.std.specs.Prelude.{All, IsTrue}
use Rattle.hose_bound.specs.Verdict.{pays_numbers}
use Rattle.hose_bound.proofs.maker.least_bound.Given as goal

abbrev pub invariant-loop-block : goal.invariant-loop-block
invariant-loop-block l = record {
  pays : All (λ b. IsTrue (pays_numbers l.net l.hose l.bound b.link b)) (take l.block-index l.blocks);
  least : (other : ℕ) → All (λ b. IsTrue (pays_numbers l.net l.hose other b.link b)) l.blocks → l.bound ≤ other;
  small : l.bound < 2 ^ 60;
}
