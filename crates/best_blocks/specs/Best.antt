-- Best blocks: of a link and given weights the block whose a / b is as small as the shares on the link allow
-- (the dual of the linear program of Applegate and Cohen, 2003, with its weights held fast).
use Rattle.std.specs.Prelude.{◌≡◌, ℕ, ◌-◌, ◌*◌, ◌^◌, ◌<◌, ◌≤◌, Bool, true, false, IsTrue, List, [], Some, length, nat_lt, nat_le, ◌==◌, All}
use Rattle.std.specs.List.{list_any}
use Rattle.te_model.specs.declared.network.Network.{Network}
use Rattle.te_model.specs.declared.route.PairRoutes.{PairRoutes}
use Rattle.te_model.specs.declared.certificate.Row.{Row}
use Rattle.te_model.specs.declared.certificate.Block.{Block}
use Rattle.te_model.specs.declared.demand.DemandSet.{DemandSet}
use Rattle.te_model.specs.declared.demand.DemandSet.TheVariants.{All as AllMatrices, Margin, Box}
use Rattle.te_model.specs.declared.units.TheConstants.{SHARE_UNIT}
use Rattle.te_model.specs.Demand.{lower_of, upper_of}
use Rattle.te_model.specs.Inequalities.{weigh}
use Rattle.te_model.specs.Path.{source_of, destination_of, share}
use Rattle.te_model.specs.Validity.{rows_ascend}
use Rattle.shortest_path.specs.Paths.{ArePotentials, IsDistance}
use Rattle.te_model.specs.Division.{quotient_up}
use Rattle.shortest_path.specs.Pairs.{AreValues}

-- whether the source of a pair with this share has a row: for every matrix where there is a share, between bounds always
abbrev pub needs_row : DemandSet → ℕ → Bool
needs_row AllMatrices s = nat_lt 0 s
needs_row (Margin num den base) s = true
needs_row (Box lower upper) s = true

-- node i is the source of a pair that needs a row
abbrev pub IsSource : List PairRoutes → DemandSet → (ℕ → ℕ) → ℕ → Type 0
IsSource routes set shares i = (p : ℕ) × (p < length routes) × (source_of routes p ≡ i) × IsTrue (needs_row set (shares p))

-- the potentials of exactly those sources that need a row, ascending
pub record AreNeededRows (net : Network) (weights : List ℕ) (routes : List PairRoutes) (set : DemandSet) (shares : ℕ → ℕ) (rows : List Row) : Type 0 where
  pub ascending : IsTrue (rows_ascend rows)
  pub potentials : All (λ r. ArePotentials net weights r.source r.potential) rows
  pub needed : All (λ r. IsSource routes set shares r.source) rows
  pub complete : (i : ℕ) → IsSource routes set shares i → IsTrue (list_any (λ r. r.source == i) rows)

-- the share and the distance of the first pair with the greatest share by distance, among those with a share
pub record IsGreatestQuotient (n : ℕ) (shares distance : ℕ → ℕ) (a b : ℕ) : Type 0 where
  pub pair : ℕ
  pub within : pair < n
  pub positive : 0 < shares pair
  pub share_is : a ≡ shares pair
  pub distance_is : b ≡ distance pair
  pub greatest : (q : ℕ) → q < n → shares q * b ≤ a * distance q
  pub first : (q : ℕ) → q < pair → 0 < shares q → shares q * b < a * distance q

-- for every matrix: no pair with a share has the distance 0, and a / b is the greatest share by distance
pub record IsScaleForAll (n : ℕ) (shares distance : ℕ → ℕ) (a b : ℕ) : Type 0 where
  pub apart : (p : ℕ) → p < n → 0 < shares p → 1 ≤ distance p
  pub quotient : IsGreatestQuotient n shares distance a b

-- b times a share, in whole units, rounded up
abbrev pub weighed_share : ℕ → ℕ → ℕ
weighed_share b s = quotient_up (b * s) SHARE_UNIT

-- by how much the shares ask for more than the distances, and for less
abbrev pub plus_amount : (ℕ → ℕ) → (ℕ → ℕ) → ℕ → ℕ → ℕ
plus_amount shares distance b p = weighed_share b (shares p) - distance p

abbrev pub minus_amount : (ℕ → ℕ) → (ℕ → ℕ) → ℕ → ℕ → ℕ
minus_amount shares distance b p = distance p - weighed_share b (shares p)

-- whether what is added is taken back between the bounds of n pairs
abbrev pub balances : (ℕ → ℕ) → (ℕ → ℕ) → ℕ → (ℕ → ℕ) → (ℕ → ℕ) → ℕ → Bool
balances lower upper n shares distance b =
    nat_le (weigh n upper (plus_amount shares distance b)) (weigh n lower (minus_amount shares distance b))

-- b is the greatest number up to 2^36 that balances
pub record IsGreatestBalance (lower upper : ℕ → ℕ) (n : ℕ) (shares distance : ℕ → ℕ) (b : ℕ) : Type 0 where
  pub some : 1 ≤ b
  pub small : b ≤ 2 ^ 36
  pub balanced : IsTrue (balances lower upper n shares distance b)
  pub greatest : (c : ℕ) → b < c → c ≤ 2 ^ 36 → balances lower upper n shares distance c ≡ false

-- between bounds: a is one million, and b the greatest number that balances
pub record IsScaleBetween (lower upper : ℕ → ℕ) (n : ℕ) (shares distance : ℕ → ℕ) (a b : ℕ) : Type 0 where
  pub unit : a ≡ SHARE_UNIT
  pub balance : IsGreatestBalance lower upper n shares distance b

-- the best scale a / b of the weights, by the shares on a link and the distances of the pairs
abbrev pub IsBestScale : DemandSet → ℕ → (ℕ → ℕ) → (ℕ → ℕ) → ℕ → ℕ → Type 0
IsBestScale AllMatrices n shares distance a b = IsScaleForAll n shares distance a b
IsBestScale (Margin num den base) n shares distance a b =
    IsScaleBetween (lower_of (Margin num den base)) (upper_of (Margin num den base)) n shares distance a b
IsBestScale (Box lower upper) n shares distance a b =
    IsScaleBetween (lower_of (Box lower upper)) (upper_of (Box lower upper)) n shares distance a b

-- what is added and what is taken back, a number for each pair
pub record AreBalanced (n : ℕ) (shares distance : ℕ → ℕ) (b : ℕ) (plus minus : List ℕ) : Type 0 where
  pub added_is : AreValues n (plus_amount shares distance b) plus
  pub taken_is : AreValues n (minus_amount shares distance b) minus

-- what is added and taken back where the weights are scaled by b: nothing for every matrix
abbrev pub IsBalance : DemandSet → ℕ → (ℕ → ℕ) → (ℕ → ℕ) → ℕ → List ℕ → List ℕ → Type 0
IsBalance AllMatrices n shares distance b plus minus = (plus ≡ []) × (minus ≡ [])
IsBalance (Margin num den base) n shares distance b plus minus = AreBalanced n shares distance b plus minus
IsBalance (Box lower upper) n shares distance b plus minus = AreBalanced n shares distance b plus minus

-- the least sum of weights from source to destination, for each pair that needs a row
abbrev pub AreNeededDistances : Network → List ℕ → List PairRoutes → DemandSet → (ℕ → ℕ) → (ℕ → ℕ) → Type 0
AreNeededDistances net weights routes set shares distance =
    (p : ℕ) → p < length routes → IsTrue (needs_row set (shares p)) →
    IsDistance net weights (source_of routes p) (destination_of routes p) (Some (distance p))

-- the best block of link e for these weights, by the shares on the link and the distances of the pairs that need a row
pub record IsBestBlock (net : Network) (routes : List PairRoutes) (set : DemandSet) (e : ℕ) (weights : List ℕ) (block : Block) : Type 0 where
  pub shares : ℕ → ℕ
  pub distance : ℕ → ℕ
  pub shares_are : (p : ℕ) → p < length routes → shares p ≡ share routes p e
  pub distances_are : AreNeededDistances net weights routes set shares distance
  pub link_is : block.link ≡ e
  pub weights_are : block.weights ≡ weights
  pub rows_are : AreNeededRows net weights routes set shares block.rows
  pub scale : IsBestScale set (length routes) shares distance block.a block.b
  pub balance : IsBalance set (length routes) shares distance block.b block.plus block.minus
