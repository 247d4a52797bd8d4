-- What distances tell of paths.
use Rattle.std.proofs.Common.{◌≡◌, ◌↔◌, ℕ, ◌<◌, Bool, true, false, Option, Some, None, List, [], ◌∷◌, length, map, get_or, arith, refl, sym, subst, ◌∙◌, is_some}
use Rattle.std.specs.Prelude.{IsTrue}
use Rattle.std.proofs.lemmas.Bool.{and_parts, eqb-true, false≢true}
use Rattle.std.proofs.lemmas.List.{get_or-map}
use Rattle.te_model.specs.declared.network.Network.{Network}
use Rattle.te_model.specs.Marks.{is_marked}
use Rattle.te_model.specs.Network.{node_count}
use Rattle.te_model.specs.Path.{chains, is_distinct, is_path, nodes_visited}
use Rattle.shortest_path.specs.Paths.{AreDistances, HasPath, IsDistance}
use Rattle.series_simulation.specs.declared.reachability.Reachability.{Reachability}
use Rattle.series_simulation.specs.Connected.{MarksReachable, TellsPaths, connects}

path_some : (net : Network) (s t : ℕ) (links : List ℕ) → (s ≡ t → ⊥) → is_path net s t links ≡ true → HasPath net s t
path_some net s t links apart path = go links (and_parts (chains net s t links) (is_distinct (nodes_visited net s links)) path).0
  where
    go : (hs : List ℕ) → chains net s t hs ≡ true → HasPath net s t
    go [] chain = absurd (apart (eqb-true s t chain))
    go (h ∷ hs) chain = (h ∷ hs, omega arith, chain)

-- a distance is known exactly where there is a path
known_path : (net : Network) (lengths : List ℕ) (s t : ℕ) (o : Option ℕ) → (s ≡ t → ⊥) → IsDistance net lengths s t o →
    (IsTrue (is_some o)) ↔ (HasPath net s t)
known_path net lengths s t None apart none = (λ known. absurd (false≢true known), λ path. absurd (none path.0 path.2))
known_path net lengths s t (Some d) apart is = (λ known. path_some net s t is.0.0 apart is.0.1, λ path. refl)

pub row_of_distances : (net : Network) (lengths : List ℕ) (s : ℕ) (distances : List (Option ℕ)) → AreDistances net lengths s distances →
    MarksReachable net s (map is_some distances)
row_of_distances net lengths s distances are pair of from =
    let t = pair.dst in
    let here : t < length distances = omega (arith, of.dst_inside, are.count) in
    let read : is_marked (map is_some distances) t ≡ is_some (get_or distances t None) = get_or-map is_some distances t None false here in
    subst (λ (b : Bool). (IsTrue b) ↔ (HasPath net s t)) (sym read)
    (known_path net lengths s t (get_or distances t None) (λ same. of.apart (from ∙ same)) (are.each t of.dst_inside))

-- rows for all nodes tell all paths
pub tells_of_rows : (net : Network) (reach : Reachability) → ((s : ℕ) → s < node_count net → MarksReachable net s (get_or reach.rows s [])) → TellsPaths net (connects reach)
tells_of_rows net reach rows pair of = rows pair.src of.src_inside pair of refl
