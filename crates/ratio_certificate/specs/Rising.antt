-- How the weights of a round follow from those before.
use Rattle.std.specs.Prelude.{◌≡◌, ℕ, ◌+◌, ◌*◌, ◌/◌, ◌^◌, ◌<◌, ◌≤◌, All, IfSome, List, length, slice_index}
use Rattle.te_model.specs.declared.network.Network.{Network}
use Rattle.te_model.specs.declared.route.PairRoutes.{PairRoutes}
use Rattle.te_model.specs.declared.demand.DemandSet.{DemandSet}
use Rattle.te_model.specs.Network.{link_count}
use Rattle.shortest_path.specs.declared.rows.Direction.TheVariants.{Forward}
use Rattle.shortest_path.specs.Rows.{IsSearchGraph}
use Rattle.best_blocks.specs.declared.metric.Metric.{Metric}
use Rattle.best_blocks.specs.declared.sharing.SharedLink.{SharedLink}
use Rattle.best_blocks.specs.Metric.{IsMetric}
use Rattle.best_blocks.specs.Rows.{IsSameElsewhere}
use Rattle.best_blocks.specs.Under.{IsNeedUnder}
use Rattle.ratio_certificate.specs.declared.raising.NextRound.{NextRound}
use Rattle.ratio_certificate.specs.declared.rounds.Rounds.{Rounds}
use Rattle.ratio_certificate.specs.declared.weighting.Weighting.{Weighting}
use Rattle.ratio_certificate.specs.Rounds.{greatest_of_round, IsNextRound, IsWeightRound}
use Rattle.ratio_certificate.specs.Places.{shared_at, weighting_at}
use Rattle.ratio_certificate.specs.Weighting.{IsWeighting}

-- the only weights that the next round of link e may have: no smaller ones, and greater by a quarter at most
pub record IsRoundAfter (net : Network) (routes : List PairRoutes) (e : ℕ) (old : List ℕ) (next : NextRound) : Type 0 where
  pub count : length next.weights ≡ length old
  pub more : (h : ℕ) → h < length old →
      (slice_index old h ≤ slice_index next.weights h) × (slice_index next.weights h ≤ (5 * slice_index old h + 3) / 4)
  pub links : All (λ h. h < link_count net) next.path
  pub others : IsSameElsewhere (link_count net) next.path old next.weights
  pub only : (weights : List ℕ) → IsNextRound net routes e old weights → weights ≡ next.weights

-- the metric of the weights of round k, which lie from 2^20 to what they may have grown to, and which no other list may be
pub record IsRoundMetric (net : Network) (routes : List PairRoutes) (l : SharedLink) (k : ℕ) (m : Metric) : Type 0 where
  pub metric : IsMetric net routes l.marks m
  pub low : (h : ℕ) → h < link_count net → 2 ^ 20 ≤ slice_index m.weights h
  pub high : (h : ℕ) → h < link_count net → slice_index m.weights h ≤ greatest_of_round k
  pub only : (weights : List ℕ) → IsWeightRound net routes l.link k weights → weights ≡ m.weights

-- the need is at most that of each of the rounds from 0 to k
abbrev pub NeedsNoMore : Network → List PairRoutes → DemandSet → ℕ → ℕ → Weighting → Type 0
NeedsNoMore net routes set e k w =
    (j : ℕ) → j ≤ k → (weights : List ℕ) → IsWeightRound net routes e j weights → (need : ℕ) → IsNeedUnder net routes set e weights need → w.need ≤ need

-- the metric of round k, the best of the rounds from 0 to k, whose need is within the limit of ratios, and searches along links
pub record AreRoundsTo (k : ℕ) (net : Network) (routes : List PairRoutes) (set : DemandSet) (l : SharedLink) (rounds : Rounds) : Type 0 where
  pub metric : IsRoundMetric net routes l k rounds.metric
  pub link : rounds.best.link ≡ l.link
  pub weighting : IsWeighting net routes set rounds.best
  pub least : NeedsNoMore net routes set l.link k rounds.best
  pub small : rounds.best.need ≤ 1000000 * 2 ^ 42
  pub along : IfSome rounds.searches (IsSearchGraph net Forward)

-- weights for each of the first n links that need no more than any of its rounds, and no more than the limit of ratios
pub record AreWithinRounds (n : ℕ) (net : Network) (routes : List PairRoutes) (set : DemandSet) (links : List SharedLink) (list : List Weighting) : Type 0 where
  pub count : length list ≡ n
  pub links_are : (k : ℕ) → k < n → (weighting_at list k).link ≡ (shared_at links k).link
  pub each : (k : ℕ) → k < n → IsWeighting net routes set (weighting_at list k)
  pub least : (k : ℕ) → k < n → NeedsNoMore net routes set (weighting_at list k).link 15 (weighting_at list k)
  pub small : (k : ℕ) → k < n → (weighting_at list k).need ≤ 1000000 * 2 ^ 42
