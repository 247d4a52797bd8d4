-- The pairs that have a share on a link, each with its share.
use Rattle.std.specs.Prelude.{◌≡◌, ℕ, ◌+◌, ◌<◌, ◌==◌, List, [], All, Any, IsTrue, length, map, slice_index_or, sum_by, if◌then◌else◌}
use Rattle.std.specs.List.Sorted.{IsStrictlyIncreasing}
use Rattle.te_model.specs.declared.network.Network.{Network}
use Rattle.te_model.specs.declared.route.PairRoutes.{PairRoutes}
use Rattle.te_model.specs.Network.{link_count}
use Rattle.te_model.specs.Path.{is_distinct, share}
use Rattle.routing.specs.declared.shares.PairShare.{PairShare}

-- the numbers of the pairs
abbrev pub pair_numbers : List PairShare → List ℕ
pair_numbers list = map (λ s. s.pair) list

-- the pairs with a share on link e, ascending, each with its share
pub record AreSharesOn (routes : List PairRoutes) (e : ℕ) (list : List PairShare) : Type 0 where
  pub ascending : IsStrictlyIncreasing (pair_numbers list)
  pub shares : All (λ s. (s.pair < length routes) × (0 < s.share) × (s.share ≡ share routes s.pair e)) list
  pub complete : (p : ℕ) → p < length routes → 0 < share routes p e → Any (λ s. s.pair ≡ p) list

-- the shares on link e
abbrev pub shares_on : List (List PairShare) → ℕ → List PairShare
shares_on table e = slice_index_or table e []

-- the shares on each link of the network
pub record AreShares (net : Network) (routes : List PairRoutes) (table : List (List PairShare)) : Type 0 where
  pub count : length table ≡ link_count net
  pub each : (e : ℕ) → e < link_count net → AreSharesOn routes e (shares_on table e)

-- what the list has for pair q, taken together
abbrev pub share_in : List PairShare → ℕ → ℕ
share_in list q = sum_by (λ s. if s.pair == q then s.share else 0) list

-- shares above 0 of pairs below n, which strictly ascend
pub record IsShareList (n : ℕ) (list : List PairShare) : Type 0 where
  pub ascending : IsStrictlyIncreasing (pair_numbers list)
  pub below : All (λ s. s.pair < n) list
  pub some : All (λ s. 0 < s.share) list

-- different links among the first n
abbrev pub AreLinksOnce : ℕ → List ℕ → Type 0
AreLinksOnce n links = IsTrue (is_distinct links) × All (λ h. h < n) links

-- pair p gets so much more on each link, and no other pair does
pub record IsAddition (old new : List (List PairShare)) (p : ℕ) (more : ℕ → ℕ) : Type 0 where
  pub count : length new ≡ length old
  pub each : (e q : ℕ) → e < length old → share_in (shares_on new e) q ≡ share_in (shares_on old e) q + (if p == q then more e else 0)
