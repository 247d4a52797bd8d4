-- What weights of a link need, whichever best block is made of them.
use Rattle.std.specs.Prelude.{◌≡◌, ℕ, ◌<◌, List, length}
use Rattle.te_model.specs.declared.network.Network.{Network}
use Rattle.te_model.specs.declared.route.PairRoutes.{PairRoutes}
use Rattle.te_model.specs.declared.demand.DemandSet.{DemandSet}
use Rattle.te_model.specs.Path.{share}
use Rattle.best_blocks.specs.Best.{AreNeededDistances, IsBestScale}
use Rattle.best_blocks.specs.Need.{need_by}

-- the best scale of the weights on link e
pub record IsScaleUnder (net : Network) (routes : List PairRoutes) (set : DemandSet) (e : ℕ) (weights : List ℕ) (a b : ℕ) : Type 0 where
  pub shares : ℕ → ℕ
  pub distance : ℕ → ℕ
  pub shares_are : (p : ℕ) → p < length routes → shares p ≡ share routes p e
  pub distances_are : AreNeededDistances net weights routes set shares distance
  pub scale : IsBestScale set (length routes) shares distance a b

-- what the weights need on link e
pub record IsNeedUnder (net : Network) (routes : List PairRoutes) (set : DemandSet) (e : ℕ) (weights : List ℕ) (need : ℕ) : Type 0 where
  pub a : ℕ
  pub b : ℕ
  pub scale : IsScaleUnder net routes set e weights a b
  pub need_is : need ≡ need_by net e weights a b
