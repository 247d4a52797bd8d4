use Rattle.std.proofs.Common.{◌≡◌, ◌+◌, ◌-◌, ◌<◌, ◌++◌, ◌∷◌, ℕ, List, [], length, ap, sym, subst, ◌∙◌, append-nil}
use Rattle.std.specs.Prelude.{All, slice_index_or}
use Rattle.std.proofs.lemmas.List.Elements.{All-push}
use Rattle.te_model.specs.declared.network.Link.{Link}
use Rattle.te_model.specs.Network.{link_count, no_link, tail_of}
use Rattle.centred_steps.specs.Ways.{way_to}
use Rattle.centred_steps.proofs.LastLinks.{ends_inside}
use Rattle.centred_steps.proofs.WayBack.{way_ends, way_on}
use Rattle.kept_ways.proofs.LinksTo.{link_more}
use Rattle.kept_ways.proofs.links.links_to.Goals as goal

pub returns-in-None-clause-way : goal.returns-in-None-clause-way
returns-in-None-clause-way c =
    let net = c.args.net.now in
    let lasts = c.args.lasts.now in
    let links = c.loop.way.items in
    sym (append-nil links)
    ∙ (sym (ap (λ (rest : List ℕ). links ++ rest) (way_ends net lasts (length lasts - c.loop.counter) c.loop.node c.in-None.is)) ∙ c.loop.invariant.2)

pub loop-preserved : goal.loop-preserved
loop-preserved c =
    let net = c.args.net.now in
    let lasts = c.args.lasts.now in
    let links = c.as_slice-links.result.now in
    let h = c.in-Some.h in
    let so_far = c.loop.way.items in
    let left = length lasts - (c.loop.counter + 1) in
    let inside = c.requires.lasts.each c.loop.node h c.in-Some.is in
    let way = way_on net lasts (length lasts) c.loop.counter c.loop.node h c.loop-test.true c.in-Some.is in
    let tail : (slice_index_or links h no_link).tail ≡ tail_of net h = ap (λ (ls : List Link). (slice_index_or ls h no_link).tail) c.as_slice-links.ensures in
    let whole : so_far ++ h ∷ way_to net lasts left (tail_of net h) ≡ way_to net lasts (length lasts) c.args.dst =
    sym (ap (λ (rest : List ℕ). so_far ++ rest) way) ∙ c.loop.invariant.2
    in (
      (ends_inside net links h c.as_slice-links.ensures c.requires.network inside).0,
      subst (λ (xs : List ℕ). All (λ k. k < link_count net) xs) (sym c.in_ok-push-in-Some.ensures.items)
          (All-push (λ k. k < link_count net) so_far h c.loop.invariant.1 inside),
      ap (λ (xs : List ℕ). xs ++ way_to net lasts left (slice_index_or links h no_link).tail) c.in_ok-push-in-Some.ensures.items
          ∙ (ap (λ v. so_far ++ h ∷ [] ++ way_to net lasts left v) tail
          ∙ link_more so_far (way_to net lasts left (tail_of net h)) (way_to net lasts (length lasts) c.args.dst) h whole),
    )
