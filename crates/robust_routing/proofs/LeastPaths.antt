-- The least walk over all links by lengths of 1 and more is a path.
use Rattle.std.proofs.Common.{◌≡◌, ◌≤◌, ℕ, List, Bool, Option, Some, None, arith, sym, subst}
use Rattle.std.specs.Prelude.{IfSome, IsTrue}
use Rattle.std.proofs.lemmas.List.Elements.{All-get_or}
use Rattle.te_model.specs.declared.network.Network.{Network}
use Rattle.te_model.specs.declared.route.Path.{Path}
use Rattle.te_model.specs.Network.{link_count}
use Rattle.te_model.specs.Path.{is_path}
use Rattle.shortest_path.specs.Least.{IsLeastWalk, links_of}
use Rattle.shortest_path.specs.Links.{every_link}
use Rattle.shortest_path.proofs.LeastSums.{all_open, least_path_of_walk}
use Rattle.shortest_path.proofs.Walks.{AllOpen}
use Rattle.robust_routing.specs.Lengths.{AreLengths}

pub path_of_least : (net : Network) (lengths : List ℕ) (marks : List Bool) (s t : ℕ) (o : Option Path) → marks ≡ every_link net →
    AreLengths (link_count net) lengths → IsLeastWalk net lengths marks s t (links_of o) → IfSome o (λ p. IsTrue (is_path net s t p.links))
path_of_least net lengths marks s t None every are least = tt
path_of_least net lengths marks s t (Some p) every are least =
    (least_path_of_walk net lengths marks s t (Some p.links) (subst (AllOpen net) (sym every) (all_open net))
    (λ h below. All-get_or (λ (l : ℕ). 1 ≤ l) lengths h 0 (omega (arith, below, are.count)) are.positive) least).0
