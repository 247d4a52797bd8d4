use Rattle.std.proofs.Common.{◌≡◌, ◌<◌, ℕ, length, arith, sym, subst}
use Rattle.std.proofs.lemmas.List.{get_or_read}
use Rattle.te_model.specs.Network.{link_count}
use Rattle.ratio_certificate.specs.declared.weighting.Weighting.{Weighting}
use Rattle.ratio_certificate.specs.Places.{no_weighting, weighting_at}
use Rattle.ratio_certificate.specs.Polished.{IsFine}
use Rattle.ratio_certificate.specs.Steps.{IsSettledAt}
use Rattle.ratio_certificate.specs.Weighting.{IsWeighting}
use Rattle.ratio_certificate.proofs.LinkLists.{link_read, shared_read}
use Rattle.ratio_certificate.proofs.Stepping.{done_at, none_done}
use Rattle.ratio_certificate.proofs.Trying.{none_gives_both}
use Rattle.ratio_certificate.proofs.polish.next_step.Goals as goal

pub returns-in-None-clause-none : goal.returns-in-None-clause-none
returns-in-None-clause-none c =
    let p = c.args.problem.now in
    none_done p.net.now p.routing.now.routes p.set.now c.args.list.now c.in-None.ensures.none

pub step_at-requires-clause-weighting : goal.step_at-requires-clause-weighting
step_at-requires-clause-weighting c =
    let k = c.in-Some.k in
    let inside : k < length c.args.list.now = c.in-Some.ensures.some.within in
    let at : c.index-list-k.result ≡ weighting_at c.args.list.now k = get_or_read c.args.list.now k c.index-list-k.result inside c.index-list-k.is no_weighting in
    subst (IsWeighting c.args.problem.now.net.now c.args.problem.now.routing.now.routes c.args.problem.now.set.now) (sym at)
    (c.requires.list.each k (omega (arith, inside, c.requires.list.count)))

pub returns-in-Some-clause-none : goal.returns-in-Some-clause-none
returns-in-Some-clause-none c =
    let net = c.args.problem.now.net.now in
    let routes = c.args.problem.now.routing.now.routes in
    let wanted = c.args.problem.now.set.now in
    let list = c.args.list.now in
    let k = c.in-Some.k in
    let w = c.index-list-k.result in
    let worst = c.in-Some.ensures.some in
    let at : w ≡ weighting_at list k = get_or_read list k w worst.within c.index-list-k.is no_weighting in
    none_gives_both c.step_at.result _ _ _
    (λ fine settled. done_at net routes wanted list k worst
    (subst (λ (x : Weighting). IsFine x.weights x.b) at fine)
    (subst (λ (x : Weighting). (h : ℕ) → h < link_count net → IsSettledAt net routes wanted x.link x.need x.weights h) at settled))
    c.step_at.ensures.fine c.step_at.ensures.none

pub step_at-requires-clause-shared : goal.step_at-requires-clause-shared
step_at-requires-clause-shared c =
    shared_read c.args.problem.now c.args.links.now c.in-Some.k c.index-links-k.result (omega (arith, c.in-Some.ensures.some.within, c.requires.list.count)) c.index-links-k.is
    c.requires.links

pub step_at-requires-clause-link : goal.step_at-requires-clause-link
step_at-requires-clause-link c =
    let list = c.args.list.now in
    link_read c.args.problem.now c.args.links.now list list c.in-Some.k c.index-links-k.result c.index-list-k.result c.in-Some.ensures.some.within c.index-links-k.is
    c.index-list-k.is c.requires.list
