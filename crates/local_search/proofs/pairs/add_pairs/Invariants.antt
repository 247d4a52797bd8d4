use Rattle.std.proofs.Common.{◌≡◌, ℕ, ◌<◌, ◌||◌, All, length}
use Rattle.te_model.specs.Path.{has_number}
use Rattle.local_search.specs.Pairs.{IsPairList, holds, pairs_on}
use Rattle.local_search.proofs.pairs.add_pairs.Given as goal

abbrev pub invariant-loop-p : goal.invariant-loop-p
invariant-loop-p l = record {
  order : All (IsPairList l.p) l.table;
  exact : (e q : ℕ) → e < length l.table → q < l.p → has_number (pairs_on l.table e) q ≡ (holds l.routes q e || holds l.others q e);
}
