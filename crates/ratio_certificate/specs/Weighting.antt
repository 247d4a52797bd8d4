-- Weights of a link, and what they need.
use Rattle.std.specs.Prelude.{◌≡◌, ℕ, ◌-◌, ◌+◌, ◌*◌, ◌^◌, ◌<◌, ◌≤◌, List, [], ◌∷◌, length, max, slice_index, sum_by}
use Rattle.te_model.specs.declared.network.Network.{Network}
use Rattle.te_model.specs.declared.route.PairRoutes.{PairRoutes}
use Rattle.te_model.specs.declared.demand.DemandSet.{DemandSet}
use Rattle.te_model.specs.Network.{link_count}
use Rattle.best_blocks.specs.Need.{need_by}
use Rattle.best_blocks.specs.Under.{IsScaleUnder}
use Rattle.ratio_certificate.specs.declared.weighting.Weighting.{Weighting}

-- a weight from 1 to 2^28 for each link
pub record AreWeights (net : Network) (weights : List ℕ) : Type 0 where
  pub count : length weights ≡ link_count net
  pub some : (h : ℕ) → h < link_count net → 1 ≤ slice_index weights h
  pub small : (h : ℕ) → h < link_count net → slice_index weights h ≤ 2 ^ 28

-- weights of a link with their best scale and their need
pub record IsWeighting (net : Network) (routes : List PairRoutes) (set : DemandSet) (w : Weighting) : Type 0 where
  pub weights_are : AreWeights net w.weights
  pub scale_is : IsScaleUnder net routes set w.link w.weights w.a w.b
  pub need_is : w.need ≡ need_by net w.link w.weights w.a w.b

-- the greatest of the numbers, or 0
abbrev pub greatest_of : List ℕ → ℕ
greatest_of [] = 0
greatest_of (x ∷ xs) = max x (greatest_of xs)

-- how far the greatest weight is below 2^20
abbrev pub gap_of : List ℕ → ℕ
gap_of weights = 2 ^ 20 - greatest_of weights

-- what falls with each step of the polish: the needs, and then the gaps
abbrev pub gap_of_weighting : Weighting → ℕ
gap_of_weighting w = w.need * 2 ^ 21 + gap_of w.weights

abbrev pub gap_in : List Weighting → ℕ
gap_in list = sum_by gap_of_weighting list

-- twice each of the weights
pub record AreDoubled (old new : List ℕ) : Type 0 where
  pub count : length new ≡ length old
  pub each : (h : ℕ) → h < length old → slice_index new h ≡ 2 * slice_index old h
