use Rattle.std.proofs.Common.{List, length, sym, subst, ◌∙◌}
use Rattle.std.proofs.lemmas.Result.{IfOk-weaker}
use Rattle.te_model.specs.Network.{link_count}
use Rattle.best_blocks.specs.declared.sharing.SharedLink.{SharedLink}
use Rattle.ratio_certificate.specs.declared.weighting.Weighting.{Weighting}
use Rattle.ratio_certificate.specs.Making.{AreBlocksOf, AreSharedLinks}
use Rattle.ratio_certificate.specs.Problems.{AreWeightingsOf}
use Rattle.ratio_certificate.proofs.LinkLists.{links_read}
use Rattle.ratio_certificate.proofs.MadeBlocks.{AreMaking, blocks_polished, made_blocks, within_limit, within_offers}
use Rattle.ratio_certificate.proofs.Searched.{own_weightings}
use Rattle.ratio_certificate.proofs.making.polished_blocks.Goals as goal

-- what was made on the way to the blocks
making : (c : goal.After-drop-links-2) (blocks : _) →
    AreBlocksOf (length c.deref-3.result.now) c.args.problem.now.net.now c.args.problem.now.routing.now.routes c.args.problem.now.set.now c.deref-3.result.now blocks →
    AreMaking c.args.problem.now.net.now c.args.problem.now.routing.now.routes c.args.problem.now.set.now c.deref.result.now c.in_ok-list.ensures.start
    c.in_ok-list.list.items blocks
making c blocks made =
    let p = c.args.problem.now in
    let from = c.in_ok-list.ensures in
    record {
      links_are = subst (AreSharedLinks (link_count p.net.now) p.net.now p.routing.now.routes p.set.now) (sym c.deref.ensures.value) c.in_ok-links.ensures;
      rounds = from.starts.rounds;
      polished = from.weightings;
      done = from.done;
      blocks_are = subst (λ (ws : List Weighting). AreBlocksOf (length ws) p.net.now p.routing.now.routes p.set.now ws blocks) c.deref-3.ensures.value made;
    }

pub returns-clause-made : goal.returns-clause-made
returns-clause-made c =
    let p = c.args.problem.now in
    IfOk-weaker c.blocks_of.result _ _
    (λ b made. made_blocks p.net.now p.routing.now.routes p.set.now c.deref.result.now c.in_ok-list.ensures.start c.in_ok-list.list.items b.items (making c b.items made))
    c.blocks_of.ensures

pub returns-clause-polished : goal.returns-clause-polished
returns-clause-polished c =
    let p = c.args.problem.now in
    IfOk-weaker c.blocks_of.result _ _
    (λ b made. blocks_polished p.net.now p.routing.now.routes p.set.now c.deref.result.now c.in_ok-list.ensures.start c.in_ok-list.list.items b.items
    c.requires.problem.network (making c b.items made))
    c.blocks_of.ensures

pub returns-clause-small : goal.returns-clause-small
returns-clause-small c =
    let p = c.args.problem.now in
    IfOk-weaker c.blocks_of.result _ _
    (λ b made. within_limit p.net.now p.routing.now.routes p.set.now c.deref.result.now c.in_ok-list.ensures.start c.in_ok-list.list.items b.items
    c.requires.problem.network c.requires.problem.routing (making c b.items made))
    c.blocks_of.ensures

pub returns-clause-within : goal.returns-clause-within
returns-clause-within c =
    let p = c.args.problem.now in
    IfOk-weaker c.blocks_of.result _ _
    (λ b made. within_offers p.net.now p.routing.now.routes p.set.now c.deref.result.now c.args.offers.now c.in_ok-list.ensures.start c.in_ok-list.list.items b.items
    c.requires.problem.network (making c b.items made) c.in_ok-list.ensures.starts)
    c.blocks_of.ensures

pub polished_weightings-requires-clause-links : goal.polished_weightings-requires-clause-links
polished_weightings-requires-clause-links c =
    links_read c.args.problem.now c.in_ok-links.links.items c.deref.result.now c.deref.ensures.value c.requires.problem c.in_ok-links.ensures

pub blocks_of-requires-clause-links : goal.blocks_of-requires-clause-links
blocks_of-requires-clause-links c =
    links_read c.args.problem.now c.in_ok-links.links.items c.deref-2.result.now c.deref-2.ensures.value c.requires.problem c.in_ok-links.ensures

pub blocks_of-requires-clause-list : goal.blocks_of-requires-clause-list
blocks_of-requires-clause-list c =
    let p = c.args.problem.now in
    let from = c.in_ok-list.ensures in
    let list = c.in_ok-list.list.items in
    let own = own_weightings p.net.now p.routing.now.routes p.set.now c.deref.result.now from.start list from.weightings in
    subst (λ (ws : List Weighting). AreWeightingsOf p c.deref-2.result.now ws ws) (sym c.deref-3.ensures.value)
    (subst (λ (ls : List SharedLink). AreWeightingsOf p ls list list) (c.deref.ensures.value ∙ sym c.deref-2.ensures.value) own)
