use Rattle.std.proofs.Common.{◌≡◌, None}
use Rattle.te_model.specs.Counting.{first_below, unless}
use Rattle.te_model.specs.Certificate.{row_of}
use Rattle.te_model.specs.Inequalities.{covers_share, failure_at}
use Rattle.ratio_checker.specs.Shares.{IsPlaceOf}
use Rattle.ratio_checker.proofs.share_rows.shares_failure.Given as goal

abbrev pub invariant-loop-p : goal.invariant-loop-p
invariant-loop-p l = record {
  none : first_below l.p (λ p. unless (covers_share l.head.routes l.block p) (failure_at 2 p)) ≡ None;
  place : IsPlaceOf l.shares.pairs.items l.place l.p;
  row : l.potentials ≡ (row_of l.block.rows l.source).potential;
}
