-- How the demand of a pair is split over its paths.
use Rattle.std.specs.Prelude.{ℕ, Bool, ◌&&◌, List, nat_le, ◌==◌, sum_by}
use Rattle.std.specs.List.{list_all}
use Rattle.te_model.specs.declared.route.PathShare.{PathShare}
use Rattle.te_model.specs.declared.route.PairRoutes.{PairRoutes}
use Rattle.te_model.specs.declared.units.TheConstants.{SHARE_UNIT}
use Rattle.te_model.specs.Validity.{paths_ascend}

abbrev pub total_weight : List PathShare → ℕ
total_weight paths = sum_by (λ s. s.weight) paths

-- paths that strictly ascend by their lists of links, with weights of at least 1 that sum to the unit of shares
abbrev pub is_split : PairRoutes → Bool
is_split r = paths_ascend r.paths && list_all (λ s. nat_le 1 s.weight) r.paths && total_weight r.paths == SHARE_UNIT

abbrev pub are_splits : List PairRoutes → Bool
are_splits routes = list_all is_split routes
