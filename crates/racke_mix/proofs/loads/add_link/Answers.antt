use Rattle.std.proofs.Common.{◌≡◌, ℕ, ◌<◌, List, length, get_or, true, All, arith, ap, sym, subst}
use Rattle.std.specs.Prelude.{IfNone, IfSome}
use Rattle.te_model.specs.declared.network.Link.{Link}
use Rattle.te_model.specs.Network.{node_count, no_link}
use Rattle.te_model.specs.Path.{is_distinct, is_path}
use Rattle.te_model.proofs.SimplePaths.{path_links, path_links_once}
use Rattle.te_model.proofs.WellFormed.{capacities_small, links_join}
use Rattle.shortest_path.specs.Paths.{HasPath}
use Rattle.racke_mix.proofs.LinkLimits.{ends_apart}
use Rattle.racke_mix.proofs.PathLinks.{link_is_path}
use Rattle.racke_mix.proofs.loads.add_link.Goals as goal

pub tree_path-requires-clause-src : goal.tree_path-requires-clause-src
tree_path-requires-clause-src c =
    let net = c.args.net.now in
    let h = c.args.h in
    subst (λ (ls : List Link). (get_or ls h no_link).tail < node_count net) (sym c.as_slice.ensures) (links_join net c.requires.network h c.requires.link).0

pub tree_path-requires-clause-dst : goal.tree_path-requires-clause-dst
tree_path-requires-clause-dst c =
    let net = c.args.net.now in
    let h = c.args.h in
    subst (λ (ls : List Link). (get_or ls h no_link).head < node_count net) (sym c.as_slice.ensures) (links_join net c.requires.network h c.requires.link).1

pub tree_path-requires-clause-apart : goal.tree_path-requires-clause-apart
tree_path-requires-clause-apart c =
    let net = c.args.net.now in
    let h = c.args.h in
    subst (λ (ls : List Link). (get_or ls h no_link).tail ≡ (get_or ls h no_link).head → ⊥) (sym c.as_slice.ensures) (ends_apart net h c.requires.network c.requires.link)

pub add_along-requires-clause-links : goal.add_along-requires-clause-links
add_along-requires-clause-links c =
    let net = c.args.net.now in
    let link = get_or c.as_slice.result.now c.args.h no_link in
    let path = subst (λ o. IfSome o (λ q. is_path net link.tail link.head q.links ≡ true)) c.in-Some.is c.in_ok-path.ensures.path in
    subst (λ (l : List ℕ). All (λ k. k < length c.args.loads.now) l) (sym c.as_slice-in-Some.ensures)
    (subst (λ n. All (λ k. k < n) c.in-Some.path.links) (sym c.requires.count) (path_links net link.tail link.head c.in-Some.path.links path))

pub add_along-requires-clause-distinct : goal.add_along-requires-clause-distinct
add_along-requires-clause-distinct c =
    let net = c.args.net.now in
    let link = get_or c.as_slice.result.now c.args.h no_link in
    let path = subst (λ o. IfSome o (λ q. is_path net link.tail link.head q.links ≡ true)) c.in-Some.is c.in_ok-path.ensures.path in
    subst (λ (l : List ℕ). is_distinct l ≡ true) (sym c.as_slice-in-Some.ensures) (path_links_once net link.tail link.head c.in-Some.path.links path)

pub add_along-requires-clause-room : goal.add_along-requires-clause-room
add_along-requires-clause-room c = λ e.
    let net = c.args.net.now in
    let h = c.args.h in
    let read = ap (λ (ls : List Link). (get_or ls h no_link).capacity) c.as_slice.ensures in
    omega (arith, c.requires.small e, read, capacities_small net c.requires.network h)

pub returns-in-None : goal.returns-in-None
returns-in-None c =
    let net = c.args.net.now in
    let h = c.args.h in
    let link = get_or c.as_slice.result.now h no_link in
    let none = subst (λ o. IfNone o (HasPath net link.tail link.head → ⊥)) c.in-None.is c.in_ok-path.ensures.none in
    absurd (none (subst (λ (ls : List Link). HasPath net (get_or ls h no_link).tail (get_or ls h no_link).head) (sym c.as_slice.ensures) (link_is_path net h c.requires.link)))
