use Rattle.std.proofs.Common.{◌≡◌, ◌<◌, ◌++◌, ◌∷◌, ℕ, false, List, Some, None, Vec, Global, MatchOption, length, take, get_or, ap, sym, ◌∙◌, subst, slice_index_or}
use Rattle.std.specs.Prelude.{All, IfOk}
use Rattle.std.specs.List.{list_any}
use Rattle.te_model.specs.declared.network.Link.{Link}
use Rattle.te_model.specs.Network.{link_count, tail_of, no_link, node_count}
use Rattle.te_model.proofs.Chains.{walk_links}
use Rattle.shortest_path.specs.Links.{every_link}
use Rattle.shortest_path.specs.Ways.{IsLeastWay}
use Rattle.k_paths.specs.Classes.{IsLeastIn, IsLeastOfClass, IsPrefix}
use Rattle.k_paths.specs.Ways.{is_visited}
use Rattle.k_paths.proofs.DirectPaths.{direct_some, links_of_walk}
use Rattle.k_paths.proofs.class.least_of.Goals as goal

pub bounds-all-class : goal.bounds-all-class
bounds-all-class c = subst (λ (ls : List Link). c.args.class.now.first < length ls) (sym c.as_slice-all.ensures) c.requires.class.first.inside

pub meets-requires-clause-prefix : goal.meets-requires-clause-prefix
meets-requires-clause-prefix c =
    let class = c.args.class.now in
    let all = walk_links c.args.net.now c.args.src (tail_of c.args.net.now class.first) class.prefix c.requires.class.prefix.chain in
    subst (λ (ls : List Link). All (λ h. h < length ls) c.as_slice-prefix.result.now) (sym c.as_slice-all.ensures)
    (subst (λ l. All (λ h. h < link_count c.args.net.now) l) (sym c.as_slice-prefix.ensures) all)

pub meets-requires-clause-way : goal.meets-requires-clause-way
meets-requires-clause-way c =
    let net = c.args.net.now in
    let ways = c.args.ways.now in
    let v = (get_or c.as_slice-all.result.now c.args.class.now.first no_link).head in
    let least : IsLeastWay net ways v (Some c.in-Some.way.items) =
    subst (λ o. MatchOption o (IsLeastWay net ways v None) (λ (w : Vec ℕ Global). IsLeastWay net ways v (Some w.items))) c.in-Some.is c.in_ok-way.ensures
    in
    subst (λ (ls : List Link). All (λ h. h < length ls) c.deref.result.now) (sym c.as_slice-all.ensures)
    (subst (λ l. All (λ h. h < link_count net) l) (sym c.deref.ensures.value) (links_of_walk net (every_link net) v ways.dst c.in-Some.way.items least.0))

pub returns-in_ok-found-in-Some : goal.returns-in_ok-found-in-Some
returns-in_ok-found-in-Some c =
    let net = c.args.net.now in
    let ways = c.args.ways.now in
    let s = c.args.src in
    let class = c.args.class.now in
    let h = class.first in
    let w = c.in-Some.way.items in
    let prefix : c.as_slice-prefix.result.now ≡ class.prefix = c.as_slice-prefix.ensures in
    let v = (get_or c.as_slice-all.result.now h no_link).head in
    let least_at : IsLeastWay net ways v (Some w) =
    subst (λ o. MatchOption o (IsLeastWay net ways v None) (λ (w : Vec ℕ Global). IsLeastWay net ways v (Some w.items))) c.in-Some.is c.in_ok-way.ensures
    in
    let least = subst (λ u. IsLeastWay net ways u (Some w)) (ap (λ (ls : List Link). (get_or ls h no_link).head) c.as_slice-all.ensures) least_at in
    let met : (ls : List Link) (p way : List ℕ) → ls ≡ net.links → p ≡ class.prefix → way ≡ w →
    list_any (λ k. is_visited ls s p (slice_index_or ls k no_link).head) way ≡ false →
    list_any (λ k. is_visited net.links s class.prefix (slice_index_or net.links k no_link).head) w ≡ false =
    λ ls p way e f g none. subst (λ (ls : List Link). list_any (λ k. is_visited ls s class.prefix (slice_index_or ls k no_link).head) w ≡ false) e
    (subst (λ (p : List ℕ). list_any (λ k. is_visited ls s p (slice_index_or ls k no_link).head) w ≡ false) f
    (subst (λ (way : List ℕ). list_any (λ k. is_visited ls s p (slice_index_or ls k no_link).head) way ≡ false) g none))
    in
    let unmet = met c.as_slice-all.result.now c.as_slice-prefix.result.now c.deref.result.now c.as_slice-all.ensures prefix c.deref.ensures.value (sym c.meets.ensures ∙ c.if-not-meets.true) in
    let found : c.in_ok-found-in-Some.found.items ≡ class.prefix ++ h ∷ w = c.in_ok-found-in-Some.ensures ∙ (ap (λ p. p ++ h ∷ c.deref-in-Some.result.now) prefix ∙ ap (λ l. class.prefix ++ h ∷ l) c.deref-in-Some.ensures.value) in
    subst (λ l. IsLeastOfClass net s ways.dst l (length class.prefix) class.excluded × (take (length class.prefix) l ≡ class.prefix)) (sym found)
    (direct_some net ways s (tail_of net h) class.prefix class.excluded w h c.requires.class.sum c.requires.ways
    c.requires.class.prefix c.requires.class.first least unmet)

pub detour-requires-clause-prefix : goal.detour-requires-clause-prefix
detour-requires-clause-prefix c =
    let net = c.args.net.now in
    let class = c.args.class.now in
    let node : (get_or c.as_slice-all.result.now class.first no_link).tail ≡ tail_of net class.first = ap (λ (ls : List Link). (get_or ls class.first no_link).tail) c.as_slice-all.ensures in
    subst (λ v. IsPrefix net c.args.src c.args.ways.now.dst v c.as_slice-prefix.result.now) (sym node)
    (subst (IsPrefix net c.args.src c.args.ways.now.dst (tail_of net class.first)) (sym c.as_slice-prefix.ensures) c.requires.class.prefix)

pub way_from-requires-clause-sound : goal.way_from-requires-clause-sound
way_from-requires-clause-sound c = c.requires.sound

pub detour-requires-clause-sound : goal.detour-requires-clause-sound
detour-requires-clause-sound c = c.requires.sound

pub detour-requires-clause-node : goal.detour-requires-clause-node
detour-requires-clause-node c =
    let net = c.args.net.now in
    let h = c.args.class.now.first in
    subst (λ (ls : List Link). (get_or ls h no_link).tail < node_count net) (sym c.as_slice-all.ensures)
    (c.requires.sound.tails h c.requires.class.first.inside)

pub returns-in_default : goal.returns-in_default
returns-in_default c =
    let class = c.args.class.now in
    subst (λ e. IfOk c.detour.result (IsLeastIn c.args.net.now c.args.src c.args.ways.now.dst class.prefix e)) c.as_slice.ensures
    (subst (λ p. IfOk c.detour.result (IsLeastIn c.args.net.now c.args.src c.args.ways.now.dst p c.as_slice.result.now)) c.as_slice-prefix.ensures c.detour.ensures)
