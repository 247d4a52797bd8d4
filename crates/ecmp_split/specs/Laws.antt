-- Laws of equal splits, as statements.
use Rattle.std.specs.Prelude.{◌≡◌, ℕ, ◌<◌, IsTrue, List}
use Rattle.te_model.specs.declared.network.Network.{Network}
use Rattle.te_model.specs.declared.route.Pair.{Pair}
use Rattle.te_model.specs.declared.route.PathShare.{PathShare}
use Rattle.te_model.specs.declared.limits.TheConstants.{FORMAT_2}
use Rattle.te_model.specs.Network.{is_well_formed, link_count}
use Rattle.scheme.specs.Fixed.{IsSplitBy}
use Rattle.scheme.specs.Reach.{IsPairOf}
use Rattle.shortest_path.specs.Paths.{HasPath}
use Rattle.ecmp_split.specs.Equal.{IsEqualSplit}
use Rattle.ecmp_split.specs.Rule.{IsMultipathSplit}

-- two equal splits from s to t are the same flow
abbrev pub EqualSplitsAreOne : Type 0
EqualSplitsAreOne =
    (net : Network) → IsTrue (is_well_formed net) → (s t : ℕ) (one two : ℕ → ℕ) → IsEqualSplit net s t one → IsEqualSplit net s t two →
    (h : ℕ) → h < link_count net → one h ≡ two h

-- two lists of paths that the rule gives a pair are the same
abbrev pub MultipathSplitsAreOne : Type 0
MultipathSplitsAreOne =
    (net : Network) → IsTrue (is_well_formed net) → (pair : Pair) (one two : List PathShare) → IsMultipathSplit net pair one → IsMultipathSplit net pair two →
    one ≡ two

-- the rule gives each pair with a path a split over paths of the network, at most as many as a network may have links
abbrev pub MultipathSplitsExist : Type 0
MultipathSplitsExist =
    (net : Network) → IsTrue (is_well_formed net) → (pair : Pair) → IsPairOf net pair → HasPath net pair.src pair.dst →
    (paths : List PathShare) × IsSplitBy IsMultipathSplit FORMAT_2.links net (record { pair = pair; paths = paths })
