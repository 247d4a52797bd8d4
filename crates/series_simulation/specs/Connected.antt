-- The declared pairs that have a path in a network, and the matrix of these pairs.
use Rattle.std.specs.Prelude.{ℕ, ◌≡◌, ◌↔◌, Bool, IsTrue, List, [], ◌∷◌, slice_index_or, if◌then◌else◌}
use Rattle.te_model.specs.declared.network.Network.{Network}
use Rattle.te_model.specs.declared.route.Pair.{Pair}
use Rattle.te_model.specs.Marks.{is_marked}
use Rattle.shortest_path.specs.Paths.{HasPath}
use Rattle.scheme.specs.Reach.{IsPairOf}
use Rattle.series_simulation.specs.declared.reachability.Reachability.{Reachability}

-- the test passes those pairs of two different nodes between which some links chain
abbrev pub TellsPaths : Network → (Pair → Bool) → Type 0
TellsPaths net has_path = (pair : Pair) → IsPairOf net pair → (IsTrue (has_path pair)) ↔ (HasPath net pair.src pair.dst)

-- the demands of those that pass, of pairs or of the routes of pairs, in order
abbrev pub demands_of : {A : Type 0} → (A → Bool) → List A → List ℕ → List ℕ
demands_of passes [] demand = []
demands_of passes (p ∷ ps) [] = []
demands_of passes (p ∷ ps) (d ∷ ds) = if passes p then d ∷ demands_of passes ps ds else demands_of passes ps ds

-- whether the table has a path from the source to the destination of the pair
abbrev pub connects : Reachability → Pair → Bool
connects reach pair = is_marked (slice_index_or reach.rows pair.src []) pair.dst

-- the row of the table for node s: for each other node whether some links chain from s to it
abbrev pub MarksReachable : Network → ℕ → List Bool → Type 0
MarksReachable net s row = (pair : Pair) → IsPairOf net pair → pair.src ≡ s → (IsTrue (is_marked row pair.dst)) ↔ (HasPath net s pair.dst)
