-- The paths of a certificate are simple, as the checker's pass over the shares takes them.
use Rattle.std.proofs.Common.{◌≡◌, ℕ, ◌<◌, ◌≤◌, true, List, All, arith}
use Rattle.std.specs.List.{list_all}
use Rattle.std.proofs.lemmas.List.Elements.{All-weaker}
use Rattle.te_model.specs.declared.network.Network.{Network}
use Rattle.te_model.specs.declared.route.PathShare.{PathShare}
use Rattle.te_model.specs.declared.limits.TheConstants.{FORMAT_2}
use Rattle.te_model.specs.Network.{link_count}
use Rattle.te_model.specs.Path.{is_path}
use Rattle.te_model.proofs.SimplePaths.{path_links, path_links_once}
use Rattle.te_model.proofs.Tests.{all_from_tests}
use Rattle.ratio_checker.specs.Checked.{IsSimplePath}

simple_path : (net : Network) (s t : ℕ) (path : PathShare) → link_count net ≤ FORMAT_2.links → is_path net s t path.links ≡ true → IsSimplePath path
simple_path net s t path few is =
    record {
      links = All-weaker (λ h. h < link_count net) (λ h. h < FORMAT_2.links) (λ h inside. omega (arith, inside, few)) path.links (path_links net s t path.links is);
      once = path_links_once net s t path.links is;
    }

pub simple_paths : (net : Network) (s t : ℕ) (paths : List PathShare) → link_count net ≤ FORMAT_2.links → list_all (λ q. is_path net s t q.links) paths ≡ true →
    All IsSimplePath paths
simple_paths net s t paths few all = all_from_tests (λ q. is_path net s t q.links) IsSimplePath (λ q is. simple_path net s t q few is) paths all
