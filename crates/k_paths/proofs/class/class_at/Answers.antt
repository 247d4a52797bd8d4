use Rattle.std.proofs.Common.{◌≡◌, ◌+◌, ◌^◌, ◌<◌, ◌≤◌, ℕ, List, None, All, length, take, get_or, arith, ap, sym, ◌∙◌, subst, slice_index}
use Rattle.std.proofs.lemmas.List.{length-take-le}
use Rattle.std.proofs.lemmas.List.Elements.{All-get_or, All-take, All-weaker}
use Rattle.te_model.specs.declared.network.Link.{Link}
use Rattle.te_model.specs.Network.{link_count, tail_of, no_link, node_count}
use Rattle.te_model.proofs.Chains.{path_links}
use Rattle.shortest_path.specs.Paths.{sum_along}
use Rattle.k_paths.specs.Ways.{IsFirstLeast, IsFirstLeastAt, sum_over}
use Rattle.k_paths.proofs.Bounds.{class_of_first}
use Rattle.k_paths.proofs.DirectPaths.{direct_none}
use Rattle.k_paths.proofs.Prefixes.{prefix_of_path}
use Rattle.k_paths.proofs.class.class_at.Goals as goal

pub bounds-all-links : goal.bounds-all-links
bounds-all-links c =
    let net = c.args.net.now in
    let below = All-get_or (λ h. h < link_count net) c.args.links.now c.args.place 0 c.requires.inside (path_links net c.args.src c.args.ways.now.dst c.args.links.now c.requires.path) in
    subst (λ (ls : List Link). get_or c.args.links.now c.args.place 0 < length ls) (sym c.as_slice-all.ensures) below

pub first_link-requires-clause-sound : goal.first_link-requires-clause-sound
first_link-requires-clause-sound c = c.requires.sound

pub first_link-requires-clause-outgoing : goal.first_link-requires-clause-outgoing
first_link-requires-clause-outgoing c = c.requires.outgoing

pub first_link-requires-clause-prefix : goal.first_link-requires-clause-prefix
first_link-requires-clause-prefix c =
    let net = c.args.net.now in
    All-take (λ h. h < link_count net) c.args.place c.args.links.now (path_links net c.args.src c.args.ways.now.dst c.args.links.now c.requires.path)

pub first_link-requires-clause-node : goal.first_link-requires-clause-node
first_link-requires-clause-node c =
    let net = c.args.net.now in
    let links = c.args.links.now in
    let below = All-get_or (λ h. h < link_count net) links c.args.place 0 c.requires.inside (path_links net c.args.src c.args.ways.now.dst links c.requires.path) in
    subst (λ (ls : List Link). (get_or ls (get_or links c.args.place 0) no_link).tail < node_count net) (sym c.as_slice-all.ensures)
    (c.requires.sound.tails (get_or links c.args.place 0) below)

pub length_along-requires-clause-links : goal.length_along-requires-clause-links
length_along-requires-clause-links c =
    let net = c.args.net.now in
    let all = All-take (λ h. h < link_count net) c.args.place c.args.links.now (path_links net c.args.src c.args.ways.now.dst c.args.links.now c.requires.path) in
    All-weaker (λ h. h < link_count net) (λ h. h < length c.as_slice.result.now)
    (λ h lt. omega (arith, lt, c.requires.ways.costs.count, ap (λ (l : List ℕ). length l) c.as_slice.ensures)) (take c.args.place c.args.links.now) all

pub length_along-requires-clause-limit : goal.length_along-requires-clause-limit
length_along-requires-clause-limit c =
    let costs = c.args.ways.now.costs in
    subst (All (λ x. x ≤ 2 ^ 28)) (sym c.as_slice.ensures)
    (All-weaker (λ x. x ≤ 65535) (λ x. x ≤ 2 ^ 28) (λ x le. omega (arith, le)) costs c.requires.ways.costs.small)

pub overflow_add-bound : goal.overflow_add-bound
overflow_add-bound c =
    omega (
      arith,
      c.length_along.ensures.limit,
      c.in-Some.ensures.small,
      length-take-le c.args.place c.args.links.now (omega (arith, c.requires.inside)),
      c.ranges.place,
    )

pub returns-in-None : goal.returns-in-None
returns-in-None c = λ q in'.
    let net = c.args.net.now in
    let ways = c.args.ways.now in
    let links = c.args.links.now in
    let s = c.args.src in
    let node : (get_or c.as_slice-all.result.now (get_or links c.args.place 0) no_link).tail ≡ tail_of net (slice_index links c.args.place) =
    ap (λ (ls : List Link). (get_or ls (get_or links c.args.place 0) no_link).tail) c.as_slice-all.ensures
    in
    let v = tail_of net (slice_index links c.args.place) in
    let none : IsFirstLeast (sum_over net ways s (take c.args.place links) c.args.excluded.items v) (link_count net) None =
    subst (λ e. IsFirstLeast (sum_over net ways s (take c.args.place links) e v) (link_count net) None) c.deref.ensures.value
    (subst (λ u. IsFirstLeast (sum_over net ways s (take c.args.place links) c.deref.result.now u) (link_count net) None) node c.in-None.ensures.first)
    in
    direct_none net ways s v (take c.args.place links) c.args.excluded.items c.requires.ways
    (prefix_of_path net s ways.dst links c.args.place c.requires.path c.requires.inside) none q in'

pub returns-in_ok-from_slice-in-Some : goal.returns-in_ok-from_slice-in-Some
returns-in_ok-from_slice-in-Some c =
    let net = c.args.net.now in
    let ways = c.args.ways.now in
    let links = c.args.links.now in
    let s = c.args.src in
    let prefix = take c.args.place links in
    let h = c.in-Some.first in
    let x = c.in-Some.sum in
    let node : (get_or c.as_slice-all.result.now (get_or links c.args.place 0) no_link).tail ≡ tail_of net (slice_index links c.args.place) =
    ap (λ (ls : List Link). (get_or ls (get_or links c.args.place 0) no_link).tail) c.as_slice-all.ensures
    in
    let v = tail_of net (slice_index links c.args.place) in
    let first : IsFirstLeastAt (sum_over net ways s prefix c.args.excluded.items v) (link_count net) h x =
    subst (λ e. IsFirstLeastAt (sum_over net ways s prefix e v) (link_count net) h x) c.deref.ensures.value
    (subst (λ u. IsFirstLeastAt (sum_over net ways s prefix c.deref.result.now u) (link_count net) h x) node c.in-Some.ensures.first)
    in
    let bound : c.length_along.result + x ≡ sum_along ways.costs prefix + x =
    ap (λ n. n + x) (c.length_along.ensures.sum ∙ ap (λ (l : List ℕ). sum_along l prefix) c.as_slice.ensures)
    in
    class_of_first net s ways links c.args.excluded.items c.args.place h x (c.length_along.result + x) c.new-prefix.result c.new-excluded.result c.requires.ways c.requires.path c.requires.inside
    first (c.new-prefix.ensures ∙ c.in_ok-from_slice-in-Some.ensures.items) c.new-excluded.ensures bound
