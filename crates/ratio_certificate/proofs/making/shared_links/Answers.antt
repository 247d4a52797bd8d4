use Rattle.std.proofs.Common.{◌≡◌, ◌+◌, ◌<◌, ◌≤◌, List, length, arith, ap, sym, subst}
use Rattle.te_model.specs.declared.network.Link.{Link}
use Rattle.te_model.specs.Network.{link_count}
use Rattle.routing.specs.Shares.{AreSharesOn}
use Rattle.best_blocks.proofs.SharesListed.{listed_some}
use Rattle.ratio_certificate.specs.Making.{AreSharedLinks}
use Rattle.ratio_certificate.proofs.LinkLists.{link_added, link_left_out, no_links}
use Rattle.ratio_certificate.proofs.making.shared_links.Goals as goal
use Rattle.ratio_certificate.proofs.making.shared_links.Goals.{then-list-gt0+in_ok-link+in_ok-push, else-list-gt0}

pub shared_link-requires-clause-list : goal.shared_link-requires-clause-list
shared_link-requires-clause-list c =
    let inside : c.loop-e.e < link_count c.args.problem.now.net.now = omega (arith, c.loop-e-test.true, ap (λ (ls : List Link). length ls) c.as_slice-e-end.ensures) in
    subst (AreSharesOn c.args.problem.now.routing.now.routes c.loop-e.e) (sym c.on-list.ensures) (c.requires.shares.each c.loop-e.e inside)

pub loop-e-preserved : goal.loop-e-preserved
loop-e-preserved c =
    let net = c.args.problem.now.net.now in
    let routes = c.args.problem.now.routing.now.routes in
    let wanted = c.args.problem.now.set.now in
    let e = c.loop-e.e in
    let links = c.loop-e.links.items in
    let so_far = c.loop-e.invariant in
    let inside : e < link_count net = omega (arith, c.loop-e-test.true, ap (λ (ls : List Link). length ls) c.as_slice-e-end.ensures) in
    let listed = subst (AreSharesOn routes e) (sym c.on-list.ensures) (c.requires.shares.each e inside) in
    elim c.if-list-gt0.branch [
      | then-list-gt0+in_ok-link+in_ok-push w ↦
          rw w.links-is
          (subst (AreSharedLinks (e + 1) net routes wanted) (sym w.in_ok-push.ensures.items)
          (link_added e net routes wanted links w.in_ok-link.link so_far w.in_ok-link.ensures.link w.in_ok-link.ensures.shared))
      | else-list-gt0 w ↦
          rw w.links-is
          (link_left_out e net routes wanted links so_far
          (λ share. let some = listed_some routes e c.on-list.result.now listed share in let none : length c.on-list.result.now ≤ 0 = w.if-list-gt0.false in omega (arith, some, none)))
    ]

pub shared_link-requires-clause-nodes : goal.shared_link-requires-clause-nodes
shared_link-requires-clause-nodes c = c.requires.problem.routing.nodes

pub loop-e-init : goal.loop-e-init
loop-e-init c = rw c.new-links.ensures.items (no_links c.args.problem.now.net.now c.args.problem.now.routing.now.routes c.args.problem.now.set.now)

pub returns : goal.returns
returns c =
    let net = c.args.problem.now.net.now in
    let all : c.loop-e.e ≡ link_count net =
    omega (arith, c.loop-e-test.false, c.loop-e.auto.e-end, ap (λ (ls : List Link). length ls) c.as_slice-e-end.ensures)
    in
    subst (λ m. AreSharedLinks m net c.args.problem.now.routing.now.routes c.args.problem.now.set.now c.loop-e.links.items) all c.loop-e.invariant
