use Rattle.std.proofs.Common.{List, length, ap, sym, subst, ◌∙◌}
use Rattle.te_model.proofs.Lists.{written_whole}
use Rattle.ratio_certificate.specs.declared.weighting.Weighting.{Weighting}
use Rattle.ratio_certificate.specs.Offering.{ArePolishedFrom}
use Rattle.ratio_certificate.specs.Problems.{AreWeightingsOf}
use Rattle.ratio_certificate.proofs.LinkLists.{rounds_start}
use Rattle.ratio_certificate.proofs.making.polished_weightings.Goals as goal

pub search_and_polish-requires-clause-weightings : goal.search_and_polish-requires-clause-weightings
search_and_polish-requires-clause-weightings c =
    let p = c.args.problem.now in
    let list = c.in_ok-list.list.items in
    subst (λ (ws : List Weighting). AreWeightingsOf p c.args.links.now ws ws) (sym c.deref_mut.ensures.value)
    (rounds_start p.net.now p.routing.now.routes p.set.now c.args.links.now list c.in_ok-list.ensures.rounds)

pub returns : goal.returns
returns c =
    let p = c.args.problem.now in
    let links = c.args.links.now in
    let list = c.in_ok-list.list.items in
    let new = c.search_and_polish.new.weightings in
    let whole = written_whole c.in_ok-list.list.len new list (c.search_and_polish.auto.weightings ∙ ap (λ (ws : List Weighting). length ws) c.deref_mut.ensures.value) c.in_ok-list.list.ok.0 in
    subst (ArePolishedFrom p.net.now p.routing.now.routes p.set.now links c.args.offers.now) (sym whole) (record {
      start = list;
      starts = c.in_ok-list.ensures;
      weightings = subst (λ (ws : List Weighting). AreWeightingsOf p links ws new) c.deref_mut.ensures.value c.in_ok-search_and_polish.ensures.weightings;
      done = c.in_ok-search_and_polish.ensures.done;
    })
