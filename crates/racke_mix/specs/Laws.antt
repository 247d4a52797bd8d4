-- What is known of every mix, as statements.
use Rattle.std.specs.Prelude.{ℕ, ◌≤◌, IsTrue, List}
use Rattle.te_model.specs.declared.network.Network.{Network}
use Rattle.te_model.specs.declared.route.Pair.{Pair}
use Rattle.te_model.specs.declared.route.PairRoutes.{PairRoutes}
use Rattle.te_model.specs.Network.{is_well_formed}
use Rattle.scheme.specs.Reach.{AllReached, ArePairsOf}
use Rattle.racke_mix.specs.declared.round.Round.{Round}
use Rattle.racke_mix.specs.Mix.{IsMix}
use Rattle.racke_mix.specs.Racke.{IsRackePlan}

-- of each network and seed there is a mix of any number of trees
abbrev pub MixesExist : Type 0
MixesExist = (net : Network) → IsTrue (is_well_formed net) → (trees seed : ℕ) → (rounds : List Round) × IsMix net trees seed rounds

-- and with 1 to 16 trees a plan for pairs that all have a path
abbrev pub RackePlansExist : Type 0
RackePlansExist =
    (net : Network) → IsTrue (is_well_formed net) → (trees seed : ℕ) → 1 ≤ trees → trees ≤ 16 →
    (pairs : List Pair) → ArePairsOf net pairs → AllReached net pairs →
    (rounds : List Round) × (routes : List PairRoutes) × IsRackePlan trees seed net pairs rounds routes
