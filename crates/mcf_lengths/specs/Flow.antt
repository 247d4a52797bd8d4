-- What multicommodity flow plans, and what it promises of a routing (the rounds after Garg and Könemann, 1998).
use Rattle.std.specs.Prelude.{◌≡◌, ℕ, ◌≤◌, List, slice_index}
use Rattle.te_model.specs.declared.network.Network.{Network}
use Rattle.te_model.specs.declared.route.Pair.{Pair}
use Rattle.te_model.specs.declared.route.PairRoutes.{PairRoutes}
use Rattle.te_model.specs.declared.bracket.Bracket.{Bracket}
use Rattle.te_model.specs.LowerBound.{IsLowerBound}
use Rattle.routing.specs.Utilisation.{parts}
use Rattle.scheme.specs.Fixed.{IsRoutingBy}
use Rattle.scheme.specs.Reach.{AllReached, ArePairsOf}
use Rattle.k_paths.specs.Even.{IsEvenSplit}
use Rattle.local_search.specs.Moves.{IsStable}
use Rattle.dual_bounds.specs.Rows.{IsBracket}
use Rattle.mcf_lengths.specs.declared.flow.McfPlan.{McfPlan}
use Rattle.mcf_lengths.specs.Rounds.{IsRoundsRouting}

-- the pairs, each with a path, and the four least paths by cost of each, between which weight may move
pub record IsFlowPlan (net : Network) (pairs : List Pair) (plan : McfPlan) : Type 0 where
  pub own : plan.pairs.list ≡ pairs
  pub ends : ArePairsOf net pairs
  pub reached : AllReached net pairs
  pub candidates : IsRoutingBy (IsEvenSplit 4) 32 net pairs plan.candidates.routes

-- The greatest utilisation is no greater than that of the rounds' routing, and no single move to one of the four least paths
-- lowers it by the stated share. The bracket bounds every routing of the matrix.
pub record IsBalanced (net : Network) (pairs : List Pair) (candidates : List PairRoutes) (demand : List ℕ) (routes : List PairRoutes) (note : Bracket) : Type 0 where
  pub stable : IsStable net demand candidates routes
  pub start : List PairRoutes
  pub start_is : IsRoundsRouting net pairs demand start
  pub no_greater : parts net routes demand ≤ parts net start demand
  pub bracket : IsBracket net routes demand note
  pub lower : IsLowerBound net routes (slice_index demand) note.low_num note.low_den
