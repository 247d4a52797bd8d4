use Rattle.std.proofs.Common.{◌≡◌, ℕ, take, slice_index, length}
use Rattle.te_model.specs.declared.limits.TheConstants.{FORMAT_2}
use Rattle.te_model.specs.Path.{weight_on}
use Rattle.ratio_checker.proofs.link_shares.shares_by_link.Given as goal

abbrev pub invariant-loop-path : goal.invariant-loop-path
invariant-loop-path l = record {
  count : length l.shares ≡ FORMAT_2.links;
  sums : (e : ℕ) → slice_index l.shares e ≡ weight_on (take l.path-index l.paths) e;
}
