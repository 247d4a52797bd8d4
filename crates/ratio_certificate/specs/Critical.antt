-- The pairs of which one has to go farther before weights of a link need less where some of them rise.
use Rattle.std.specs.Prelude.{◌≡◌, ℕ, ◌<◌, Bool, true, List, Option, length, slice_index}
use Rattle.te_model.specs.declared.network.Network.{Network}
use Rattle.te_model.specs.declared.route.PairRoutes.{PairRoutes}
use Rattle.te_model.specs.declared.demand.DemandSet.{DemandSet}
use Rattle.te_model.specs.declared.demand.DemandSet.TheVariants.{All as AllMatrices, Margin, Box}
use Rattle.te_model.specs.Network.{node_count, head_of, tail_of}
use Rattle.te_model.specs.Path.{share, source_of}
use Rattle.shortest_path.specs.Graph.{distance_at}
use Rattle.shortest_path.specs.Least.{is_sum}
use Rattle.best_blocks.specs.declared.sharing.SharedLink.{SharedLink}
use Rattle.best_blocks.specs.Best.{AreNeededDistances}
use Rattle.best_blocks.specs.Quotient.{IsGreatestAt}
use Rattle.best_blocks.specs.Rows.{is_marked}

-- pair p is critical: for every matrix the first with the greatest share by distance, between bounds each
abbrev pub IsCritical : DemandSet → ℕ → (ℕ → ℕ) → (ℕ → ℕ) → ℕ → Type 0
IsCritical AllMatrices n shares distance p = (a : ℕ) × (b : ℕ) × IsGreatestAt n shares distance p a b
IsCritical (Margin num den base) n shares distance p = p < n
IsCritical (Box lower upper) n shares distance p = p < n

-- a mark for each node, on the source of each pair that is critical for the weights on the link, and on nodes with a row alone
pub record AreCriticalMarks (net : Network) (routes : List PairRoutes) (set : DemandSet) (l : SharedLink) (weights : List ℕ) (marks : List Bool) : Type 0 where
  pub count : length marks ≡ node_count net
  pub rows : (i : ℕ) → is_marked marks i ≡ true → is_marked l.marks i ≡ true
  pub complete : (shares distance : ℕ → ℕ) → ((p : ℕ) → p < length routes → shares p ≡ share routes p l.link) →
      AreNeededDistances net weights routes set shares distance → (p : ℕ) → IsCritical set (length routes) shares distance p →
      is_marked marks (source_of routes p) ≡ true

-- whether link h is tight in the row: a least way ends with it
abbrev pub is_tight_in : Network → List (Option ℕ) → List ℕ → ℕ → Bool
is_tight_in net row weights h = is_sum (distance_at row (head_of net h)) (distance_at row (tail_of net h)) (slice_index weights h)
