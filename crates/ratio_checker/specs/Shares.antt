-- The shares of all pairs, kept link after link.
use Rattle.std.specs.Prelude.{◌≡◌, ℕ, ◌<◌, ◌≤◌, List, length, slice_index, slice_index_or}
use Rattle.te_model.specs.declared.route.PairRoutes.{PairRoutes}
use Rattle.te_model.specs.Path.{share}
use Rattle.ratio_checker.specs.declared.link_pairs.LinkPairs.{LinkPairs}
use Rattle.ratio_checker.specs.declared.share_table.ShareTable.{ShareTable}

-- those of the first so many pairs that have a share on link e, ascending, and their shares
pub record AreSharesBelow (routes : List PairRoutes) (e count : ℕ) (pairs shares : List ℕ) : Type 0 where
  pub same : length shares ≡ length pairs
  pub each : (k : ℕ) → k < length pairs → slice_index shares k ≡ share routes (slice_index pairs k) e
  pub some : (k : ℕ) → k < length pairs → 0 < slice_index shares k
  pub below : (k : ℕ) → k < length pairs → slice_index pairs k < count
  pub ascend : (j k : ℕ) → j < k → k < length pairs → slice_index pairs j < slice_index pairs k
  pub all : (p : ℕ) → p < count → 0 < share routes p e → (k : ℕ) × (k < length pairs) × (slice_index pairs k ≡ p)

-- the same of what is kept for a link
abbrev pub HasPairsBelow : List PairRoutes → ℕ → ℕ → LinkPairs → Type 0
HasPairsBelow routes e count of = AreSharesBelow routes e count of.pairs.items of.shares.items

-- the pairs with a share on link e, ascending, and their shares
abbrev pub AreSharesOn : List PairRoutes → ℕ → LinkPairs → Type 0
AreSharesOn routes e of = HasPairsBelow routes e (length routes) of

-- before the place stand lower pairs, and at it and behind it the pair itself, if it stands there, and higher ones
pub record IsPlaceOf (pairs : List ℕ) (place pair : ℕ) : Type 0 where
  pub before : (k : ℕ) → k < place → k < length pairs → slice_index pairs k < pair
  pub after : (k : ℕ) → place ≤ k → k < length pairs → pair ≤ slice_index pairs k

-- the shares of the first so many pairs on each of the links
pub record HasSharesBelow (routes : List PairRoutes) (links count : ℕ) (table : List LinkPairs) : Type 0 where
  pub size : length table ≡ links
  pub each : (e : ℕ) (d : LinkPairs) → e < links → HasPairsBelow routes e count (slice_index_or table e d)

-- the share of each pair on each of the links
abbrev pub HasShares : List PairRoutes → ℕ → ShareTable → Type 0
HasShares routes links table = HasSharesBelow routes links (length routes) table.links.items
