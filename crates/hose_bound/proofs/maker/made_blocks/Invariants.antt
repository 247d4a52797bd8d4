use Rattle.std.specs.Prelude.{All}
use Rattle.hose_bound.specs.Covering.{AreMadeBlocks}
use Rattle.hose_bound.specs.Making.{IsAttained}
use Rattle.hose_bound.proofs.maker.made_blocks.Given as goal

abbrev pub invariant-loop-e : goal.invariant-loop-e
invariant-loop-e l = record {
  made : AreMadeBlocks l.net l.routes l.hose l.e l.blocks.items;
  attained : All (IsAttained l.net l.routes l.hose) l.blocks.items;
}
