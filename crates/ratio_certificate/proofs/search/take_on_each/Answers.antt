use Rattle.std.proofs.Common.{◌≡◌, ◌<◌, length, arith, ap, sym, subst, ◌∙◌}
use Rattle.std.proofs.lemmas.List.{get_or_read}
use Rattle.std.proofs.lemmas.List.Elements.{All-get_or}
use Rattle.best_blocks.specs.declared.sharing.SharedLink.{SharedLink}
use Rattle.best_blocks.specs.Metric.{IsMetric}
use Rattle.ratio_certificate.specs.Places.{no_shared, shared_at}
use Rattle.ratio_certificate.proofs.LinkLists.{shared_read}
use Rattle.ratio_certificate.proofs.Searched.{lesser_taken}
use Rattle.ratio_certificate.proofs.search.take_on_each.Goals as goal

pub loop-k-init : goal.loop-k-init
loop-k-init c = c.requires.list

pub loop-k-preserved : goal.loop-k-preserved
loop-k-preserved c =
    let p = c.args.problem.now in
    let links = c.args.links.now in
    let list = c.loop-k.list in
    let so_far = c.loop-k.invariant in
    let k = c.loop-k.k in
    let found = c.in_ok-found.found in
    let within : k < length links = omega arith in
    let inside : k < length list = omega (arith, within, so_far.count) in
    let at : c.index-links-k.result ≡ shared_at links k = get_or_read links k c.index-links-k.result within c.index-links-k.is no_shared in
    let link_is = c.in_ok-found.ensures.link ∙ ap (λ (l : SharedLink). l.link) at ∙ sym (so_far.links_are k within) in
    lesser_taken p.net.now p.routing.now.routes p.set.now links c.args.list.now list c.take_lesser.new.list k found inside so_far link_is
    c.in_ok-found.ensures.weighting c.take_lesser.ensures.lesser c.take_lesser.ensures.same

pub take_lesser-requires : goal.take_lesser-requires
take_lesser-requires c =
    let within : c.loop-k.k < length c.args.links.now = omega arith in
    record { place = omega (arith, within, c.loop-k.invariant.count) }

pub weighting_of-requires-clause-shared : goal.weighting_of-requires-clause-shared
weighting_of-requires-clause-shared c =
    shared_read c.args.problem.now c.args.links.now c.loop-k.k c.index-links-k.result c.loop-k-test.true c.index-links-k.is c.requires.links

pub weighting_of-requires-clause-metric : goal.weighting_of-requires-clause-metric
weighting_of-requires-clause-metric c =
    let p = c.args.problem.now in
    let links = c.args.links.now in
    let k = c.loop-k.k in
    let within : k < length links = omega arith in
    let at : c.index-links-k.result ≡ shared_at links k = get_or_read links k c.index-links-k.result within c.index-links-k.is no_shared in
    subst (λ (l : SharedLink). IsMetric p.net.now p.routing.now.routes l.marks c.args.metric.now) (sym at)
    (All-get_or (λ (l : SharedLink). IsMetric p.net.now p.routing.now.routes l.marks c.args.metric.now) links k no_shared within c.requires.metric)
