-- The steps of the polish, on weights that need not be blocks yet.
use Rattle.std.specs.Prelude.{◌≡◌, ℕ, ◌<◌, ◌≤◌, List, length, slice_index, slice_set}
use Rattle.te_model.specs.declared.network.Network.{Network}
use Rattle.te_model.specs.declared.route.PairRoutes.{PairRoutes}
use Rattle.te_model.specs.declared.demand.DemandSet.{DemandSet}
use Rattle.te_model.specs.Network.{link_count}
use Rattle.best_blocks.specs.declared.sharing.SharedLink.{SharedLink}
use Rattle.best_blocks.specs.Under.{IsNeedUnder}
use Rattle.ratio_certificate.specs.declared.weighting.Weighting.{Weighting}
use Rattle.ratio_certificate.specs.Polished.{ImprovesBy64th, IsFine, IsDoublingOrHalving, IsWorst}
use Rattle.ratio_certificate.specs.Places.{shared_at, weighting_at}
use Rattle.ratio_certificate.specs.Weighting.{gap_of_weighting, IsWeighting}

-- whatever the weights need on link e, it does not improve the need
abbrev pub HelpsNot : Network → List PairRoutes → DemandSet → ℕ → ℕ → List ℕ → Type 0
HelpsNot net routes set e need weights = (x : ℕ) → IsNeedUnder net routes set e weights x → ImprovesBy64th need x → ⊥

-- no step of the weight of link h improves the need
abbrev pub IsSettledAt : Network → List PairRoutes → DemandSet → ℕ → ℕ → List ℕ → ℕ → Type 0
IsSettledAt net routes set e need weights h =
    (weight : ℕ) → IsDoublingOrHalving (slice_index weights h) weight → HelpsNot net routes set e need (slice_set weights h weight)

-- other weights of link e that improve the need
pub record IsImprovement (net : Network) (routes : List PairRoutes) (set : DemandSet) (e need : ℕ) (w : Weighting) : Type 0 where
  pub link_is : w.link ≡ e
  pub weighting : IsWeighting net routes set w
  pub better : ImprovesBy64th need w.need

-- other weights of the same link that need no more, and are a step nearer to the end of the polish
pub record IsProgress (net : Network) (routes : List PairRoutes) (set : DemandSet) (old new : Weighting) : Type 0 where
  pub link_is : new.link ≡ old.link
  pub weighting : IsWeighting net routes set new
  pub no_more : new.need ≤ old.need
  pub nearer : gap_of_weighting new < gap_of_weighting old

-- the first of the greatest need is fine, and no step of one of its weights improves its need
pub record IsDone (net : Network) (routes : List PairRoutes) (set : DemandSet) (list : List Weighting) : Type 0 where
  pub fine : (k : ℕ) → IsWorst (length list) (λ j. (weighting_at list j).need) k → IsFine (weighting_at list k).weights (weighting_at list k).b
  pub settled : (k : ℕ) → IsWorst (length list) (λ j. (weighting_at list j).need) k → (h : ℕ) → h < link_count net →
      IsSettledAt net routes set (weighting_at list k).link (weighting_at list k).need (weighting_at list k).weights h

-- weights for each of the links, none of which needs more than the weights at the start
pub record AreWeightings (net : Network) (routes : List PairRoutes) (set : DemandSet) (links : List SharedLink) (start list : List Weighting) : Type 0 where
  pub count : length list ≡ length links
  pub links_are : (k : ℕ) → k < length links → (weighting_at list k).link ≡ (shared_at links k).link
  pub each : (k : ℕ) → k < length links → IsWeighting net routes set (weighting_at list k)
  pub no_more : (k : ℕ) → k < length links → (weighting_at list k).need ≤ (weighting_at start k).need
