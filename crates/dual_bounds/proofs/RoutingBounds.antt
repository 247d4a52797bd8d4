-- Brackets for every routing, by rows of the sources.
use Rattle.std.proofs.Common.{◌≡◌, ℕ, ◌*◌, ◌^◌, ◌<◌, ◌≤◌, true, List, Some, length, arith, sym, subst, ◌∙◌, slice_index}
use Rattle.te_model.specs.declared.network.Network.{Network}
use Rattle.te_model.specs.declared.route.PairRoutes.{PairRoutes}
use Rattle.te_model.specs.declared.certificate.Row.{Row}
use Rattle.te_model.specs.declared.bracket.Bracket.{Bracket}
use Rattle.te_model.specs.Counting.{sum_below}
use Rattle.te_model.specs.Laws.{PairsJoinNodes}
use Rattle.te_model.specs.LowerBound.{IsLowerBound}
use Rattle.te_model.specs.Network.{is_well_formed, link_count, capacity_of}
use Rattle.te_model.specs.Path.{source_of, destination_of}
use Rattle.te_model.specs.PathRouting.{IsPathRouting}
use Rattle.te_model.proofs.Lower.{potentials_bound}
use Rattle.routing.specs.Routes.{AreDemands}
use Rattle.routing.specs.Utilisation.{parts}
use Rattle.te_model.proofs.WellFormed.{links_join}
use Rattle.scheme.specs.Low.{HasLow}
use Rattle.shortest_path.specs.Paths.{IsDistance}
use Rattle.shortest_path.specs.Pairs.{AreValues}
use Rattle.shortest_path.proofs.Unique.{distance_unique}
use Rattle.dual_bounds.specs.Dual.{unit_lengths, demand_by, IsBoundBy, IsBoundOf}
use Rattle.dual_bounds.specs.Rows.{AreDistancesUnder, sources_of, potential_in, distance_by, AreSourceRows, IsBracket}
use Rattle.dual_bounds.proofs.Choosing.{IsUnique, IsChoice}
use Rattle.dual_bounds.proofs.Sizes.{demand_same, demand_small, no_length, no_demand, above_unit}
use Rattle.dual_bounds.proofs.SourceRows.{distances_are, distance_small, rows_small, starts, rises}

-- rows of the sources under lengths
abbrev pub keeps_rows : Network → List PairRoutes → List ℕ → List Row → Type 0
keeps_rows net routes lengths rows = AreSourceRows net lengths (sources_of net routes) rows

pub pairs_unique : (net : Network) (routes : List PairRoutes) → IsUnique (length routes) (AreDistancesUnder net routes)
pairs_unique net routes lengths d e made_d made_e p below =
    distance_unique net lengths (source_of routes p) (destination_of routes p) (d p) (e p) (made_d p below) (made_e p below)

pub bound_of : (net : Network) (routes : List PairRoutes) (demand distances lengths : List ℕ) (rows : List Row) (most : ℕ) (b : Bracket) →
    IsPathRouting net routes → PairsJoinNodes net routes → keeps_rows net routes lengths rows → AreValues (length routes) (distance_by rows routes) distances →
    b.lengths ≡ lengths → IsBoundBy net (length distances) demand most (slice_index distances) b →
    IsBoundOf net (length routes) demand most (AreDistancesUnder net routes) b
bound_of net routes demand distances lengths rows most b routing nodes kept values same bound =
    let exact = distances_are net routes lengths rows routing nodes kept in
    record {
      distance = slice_index distances;
      made = λ p below.
          subst (λ x. IsDistance net b.lengths (source_of routes p) (destination_of routes p) (Some x)) (sym (values.each p below))
          (subst (λ (l : List ℕ). IsDistance net l (source_of routes p) (destination_of routes p) (Some (distance_by rows routes p))) (sym same) (exact p below));
      bound = subst (λ n. IsBoundBy net n demand most (slice_index distances) b) values.count bound;
    }

-- what the rows of a bracket say is the distances by which it bounds
bound_by_rows : (net : Network) (routes : List PairRoutes) (demand : List ℕ) (most : ℕ) (b : Bracket) → IsPathRouting net routes → PairsJoinNodes net routes →
    keeps_rows net routes b.lengths b.rows → IsBoundOf net (length routes) demand most (AreDistancesUnder net routes) b →
    IsBoundBy net (length routes) demand most (distance_by b.rows routes) b
bound_by_rows net routes demand most b routing nodes kept of = record {
  count = of.bound.count;
  small = of.bound.small;
  low_num_is = of.bound.low_num_is ∙ demand_same (length routes) demand of.distance (distance_by b.rows routes)
      (pairs_unique net routes b.lengths of.distance (distance_by b.rows routes) of.made (distances_are net routes b.lengths b.rows routing nodes kept));
  low_den_is = of.bound.low_den_is;
  parts_are = of.bound.parts_are;
}

pub has_low : (net : Network) (routes : List PairRoutes) (demand : List ℕ) (most : ℕ) (b : Bracket) → is_well_formed net ≡ true → IsPathRouting net routes →
    PairsJoinNodes net routes → length routes < 2 ^ 32 → AreDemands (length routes) demand → keeps_rows net routes b.lengths b.rows →
    IsBoundOf net (length routes) demand most (AreDistancesUnder net routes) b → HasLow b
has_low net routes demand most b formed routing nodes few demands kept of =
    let bound = bound_by_rows net routes demand most b routing nodes kept of in (
      omega (arith, bound.low_den_is),
      omega (
        arith,
        bound.low_num_is,
        demand_small (length routes) demand (distance_by b.rows routes) few demands (λ p below.
            distance_small net routes b.lengths b.rows p formed nodes bound.small kept below),
      ),
    )

pub is_lower : (net : Network) (routes : List PairRoutes) (demand : List ℕ) (most : ℕ) (b : Bracket) → is_well_formed net ≡ true → IsPathRouting net routes →
    PairsJoinNodes net routes → keeps_rows net routes b.lengths b.rows → IsBoundOf net (length routes) demand most (AreDistancesUnder net routes) b →
    IsLowerBound net routes (slice_index demand) b.low_num b.low_den
is_lower net routes demand most b formed routing nodes kept of =
    let bound = bound_by_rows net routes demand most b routing nodes kept of in
    let enough : sum_below (link_count net) (λ h. capacity_of net h * slice_index b.lengths h) ≤ b.low_den = omega (arith, bound.low_den_is) in
    let law =
    potentials_bound net routes (links_join net formed) nodes (slice_index b.lengths) (potential_in b.rows)
    (λ i inside. starts net b.lengths b.rows i kept.potentials_are)
    (λ i h inside below. rises net b.lengths b.rows i h kept.potentials_are below) (slice_index demand) b.low_den enough
    in
    subst (λ x. IsLowerBound net routes (slice_index demand) x b.low_den) (sym bound.low_num_is) law

-- without links no pair is at a distance
no_hops : (net : Network) (routes : List PairRoutes) (hops : ℕ → ℕ) → AreDistancesUnder net routes (unit_lengths net) hops → link_count net ≡ 0 →
    (p : ℕ) → p < length routes → hops p ≡ 0
no_hops net routes hops are none p below =
    let reached = (are p below).0 in sym reached.2 ∙ no_length net reached.0 none

pub is_bracket : (net : Network) (routes : List PairRoutes) (demand : List ℕ) (came : List (List ℕ)) (b : Bracket) → is_well_formed net ≡ true → IsPathRouting net routes →
    PairsJoinNodes net routes →
    IsChoice net (length routes) demand (parts net routes demand) (AreDistancesUnder net routes) (keeps_rows net routes) came b → IsBracket net routes demand b
is_bracket net routes demand came b formed routing nodes choice =
    let n = length routes in
    record {
      rows_are = choice.rows_are;
      small = rows_small net routes b.lengths b.rows formed choice.bound.bound.small choice.rows_are;
      hops = choice.hops;
      hops_are = choice.hops_are;
      bound = record {
        bound = bound_by_rows net routes demand (parts net routes demand) b routing nodes choice.rows_are choice.bound;
        at_least_unit = above_unit net b.low_num b.low_den (demand_by n demand choice.hops) formed choice.above
            (λ none. no_demand n demand choice.hops (no_hops net routes choice.hops choice.hops_are none));
      };
    }
