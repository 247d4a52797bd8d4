use Rattle.std.proofs.Common.{◌<◌, ◌≤◌, List, length, get_or}
use Rattle.te_model.specs.declared.certificate.Block.{Block}
use Rattle.te_model.specs.Certificate.{empty_block}
use Rattle.ratio_checker.specs.Feeds.{StandsFor, next_link}
use Rattle.certificate_tests.proofs.ratio_checker_tests.found.Given as goal

abbrev pub invariant-loop-block : goal.invariant-loop-block
invariant-loop-block l = record {
  stands : (done : List Block) × StandsFor l.feed l.fn.cert.head done;
  next : l.block-index < length l.fn.cert.blocks → next_link l.feed ≤ (get_or l.fn.cert.blocks l.block-index (empty_block 0)).link;
}
