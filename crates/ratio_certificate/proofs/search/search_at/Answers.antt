use Rattle.std.proofs.Common.{◌≡◌, arith, sym, subst}
use Rattle.std.proofs.lemmas.List.{get_or_read}
use Rattle.ratio_certificate.specs.declared.weighting.Weighting.{Weighting}
use Rattle.ratio_certificate.specs.Places.{no_weighting, weighting_at}
use Rattle.ratio_certificate.specs.Weighting.{AreWeights}
use Rattle.ratio_certificate.proofs.LinkLists.{shared_read}
use Rattle.ratio_certificate.proofs.Searched.{found_taken, own_weightings, weightings_after}
use Rattle.ratio_certificate.proofs.search.search_at.Goals as goal

pub sought-requires-clause-shared : goal.sought-requires-clause-shared
sought-requires-clause-shared c =
    shared_read c.args.problem.now c.args.links.now c.args.place c.index-links-place.result (omega (arith, c.requires.place, c.requires.list.count)) c.index-links-place.is
    c.requires.links

pub sought-requires-clause-weights : goal.sought-requires-clause-weights
sought-requires-clause-weights c =
    let list = c.args.list.now in
    let k = c.args.place in
    let at : c.index-list-place.result ≡ weighting_at list k = get_or_read list k c.index-list-place.result c.requires.place c.index-list-place.is no_weighting in
    subst (λ (w : Weighting). AreWeights c.args.problem.now.net.now w.weights) c.index-list-place.is
    (subst (λ (w : Weighting). AreWeights c.args.problem.now.net.now w.weights) (sym at)
    (c.requires.list.each k (omega (arith, c.requires.place, c.requires.list.count))).weights_are)

pub offer_to_others-requires-clause-list : goal.offer_to_others-requires-clause-list
offer_to_others-requires-clause-list c =
    let p = c.args.problem.now in
    let taken =
    found_taken p c.args.links.now c.args.list.now c.take_lesser.new.list c.args.place c.index-links-place.result c.in_ok-found.found c.requires.place c.requires.list
    c.index-links-place.is c.in_ok-found.ensures.link c.in_ok-found.ensures.weighting c.take_lesser.ensures.lesser c.take_lesser.ensures.same
    in
    own_weightings p.net.now p.routing.now.routes p.set.now c.args.links.now c.args.list.now c.take_lesser.new.list taken

pub returns : goal.returns
returns c =
    let p = c.args.problem.now in
    let taken =
    found_taken p c.args.links.now c.args.list.now c.take_lesser.new.list c.args.place c.index-links-place.result c.in_ok-found.found c.requires.place c.requires.list
    c.index-links-place.is c.in_ok-found.ensures.link c.in_ok-found.ensures.weighting c.take_lesser.ensures.lesser c.take_lesser.ensures.same
    in
    weightings_after p.net.now p.routing.now.routes p.set.now c.args.links.now c.args.list.now c.take_lesser.new.list c.offer_to_others.new.list taken
    c.in_ok-offer_to_others.ensures
