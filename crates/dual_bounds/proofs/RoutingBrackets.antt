-- A routing has a bracket for every routing of its matrix.
use Rattle.std.proofs.Common.{◌≡◌, ℕ, ◌<◌, true, List, [], ◌∷◌, length, refl, ap}
use Rattle.std.specs.Prelude.{All}
use Rattle.std.proofs.lemmas.List.{length-replicate}
use Rattle.std.proofs.lemmas.List.Elements.{All-cons, All-head, All-tail}
use Rattle.te_model.specs.declared.network.Network.{Network}
use Rattle.te_model.specs.declared.certificate.Row.{Row}
use Rattle.te_model.specs.Network.{is_well_formed, link_count, node_count}
use Rattle.routing.specs.Utilisation.{parts}
use Rattle.shortest_path.specs.Paths.{ArePotentials}
use Rattle.shortest_path.proofs.Existence.{potentials_exist}
use Rattle.dual_bounds.specs.Dual.{unit_lengths, IsBoundOf}
use Rattle.dual_bounds.specs.Laws.{BracketsExist}
use Rattle.dual_bounds.specs.Rows.{AreDistancesUnder, AreSourceRows, distance_by, sources_of}
use Rattle.dual_bounds.proofs.Choosing.{choice_first}
use Rattle.dual_bounds.proofs.RoutingBounds.{has_low, is_bracket, is_lower, keeps_rows, pairs_unique}
use Rattle.dual_bounds.proofs.SourceRows.{distances_are, no_source_rows, sources_inside}
use Rattle.dual_bounds.proofs.UnitBrackets.{unit_bracket, unit_bound_of}

-- nodes have rows of potentials
rows_exist : (net : Network) (lengths : List ℕ) → is_well_formed net ≡ true → length lengths ≡ link_count net → (nodes : List ℕ) →
    All (λ i. i < node_count net) nodes → (rows : List Row) × AreSourceRows net lengths nodes rows
rows_exist net lengths formed count [] inside = ([], no_source_rows net lengths)
rows_exist net lengths formed count (i ∷ nodes) inside =
    let (potential, are) = potentials_exist net lengths formed count i (All-head (λ i. i < node_count net) i nodes inside) in
    let (rows, rest) = rows_exist net lengths formed count nodes (All-tail (λ i. i < node_count net) i nodes inside) in
    let row : Row = record { source = i; potential = potential } in (
      row ∷ rows,
      record {
        sources_are = ap (λ (xs : List ℕ). i ∷ xs) rest.sources_are;
        potentials_are = All-cons (λ (r : Row). ArePotentials net lengths r.source r.potential) row rows are rest.potentials_are;
      },
    )

pub brackets_exist : BracketsExist
brackets_exist net routes demand formed routing nodes few demands =
    let n = length routes in
    let most = parts net routes demand in
    let unit = unit_lengths net in
    let (rows, kept) = rows_exist net unit formed (length-replicate (link_count net) 1) (sources_of net routes) (sources_inside net routes) in
    let b = unit_bracket net n demand most (distance_by rows routes) rows in
    let of : IsBoundOf net n demand most (AreDistancesUnder net routes) b =
    unit_bound_of net n demand most (AreDistancesUnder net routes) (distance_by rows routes) rows (distances_are net routes unit rows routing nodes kept)
    in
    let low = has_low net routes demand most b formed routing nodes few demands kept of in
    let choice = choice_first net n demand most (AreDistancesUnder net routes) (keeps_rows net routes) b (pairs_unique net routes) refl of kept low in (
      b,
      is_bracket net routes demand (unit ∷ []) b formed routing nodes choice,
      is_lower net routes demand most b formed routing nodes kept of,
      low,
    )
