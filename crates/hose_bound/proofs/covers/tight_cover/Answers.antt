use Rattle.std.proofs.Common.{◌≡◌, replicate}
use Rattle.std.specs.Prelude.{slice_index}
use Rattle.std.proofs.lemmas.Result.{IfOk-weaker}
use Rattle.te_model.specs.Network.{node_count}
use Rattle.te_model.proofs.WellFormed.{few_links}
use Rattle.cover_search.specs.Transport.{IsLeastTransport}
use Rattle.hose_bound.specs.declared.covers.End.TheVariants.{Source}
use Rattle.hose_bound.specs.declared.hose.HoseBlock.{HoseBlock}
use Rattle.hose_bound.specs.Covering.{AreLeastNumbers, IsLeastFrom, IsMadeBlock}
use Rattle.hose_bound.specs.Making.{IsAttained}
use Rattle.hose_bound.proofs.Exact.{attained, least_is_tight}
use Rattle.hose_bound.proofs.MadeBlocks.{made}
use Rattle.hose_bound.proofs.StartCover.{ends_inside, tails_cover, tails_small}
use Rattle.hose_bound.proofs.covers.tight_cover.Goals as goal

pub least_cover-requires-clause-shares : goal.least_cover-requires-clause-shares
least_cover-requires-clause-shares c =
    let net = c.args.net.now in
    let least : AreLeastNumbers Source (node_count net) c.args.routes.now c.args.shares.now c.in_ok-none.none.items c.in_ok-tails.tails =
    rw (c.as_slice-nodes.ensures, c.as_slice.ensures.value) at c.in_ok-tails.ensures
    in
    rw (c.as_slice-2.ensures.value, least.count)
    (ends_inside net c.args.routes.now c.args.link c.requires.ends c.requires.small c.args.shares.now c.requires.shares c.in_ok-ends.ends.items c.in_ok-ends.ensures)

pub least_cover-requires-clause-covers : goal.least_cover-requires-clause-covers
least_cover-requires-clause-covers c =
    let net = c.args.net.now in
    let least : AreLeastNumbers Source (node_count net) c.args.routes.now c.args.shares.now c.in_ok-none.none.items c.in_ok-tails.tails =
    rw (c.as_slice-nodes.ensures, c.as_slice.ensures.value) at c.in_ok-tails.ensures
    in
    let cleared : c.in_ok-none.none.items ≡ replicate (node_count net) 0 = rw c.as_slice-nodes.ensures at (c.in_ok-none.ensures.items_if_clones_equal (λ y same. same)) in
    rw c.as_slice-2.ensures.value
    (tails_cover net c.args.routes.now c.args.link c.requires.ends c.requires.small c.args.shares.now c.requires.shares c.in_ok-ends.ends.items c.in_ok-ends.ensures c.in_ok-none.none.items
    c.in_ok-tails.tails cleared least)

pub least_cover-requires-clause-small : goal.least_cover-requires-clause-small
least_cover-requires-clause-small c =
    let net = c.args.net.now in
    let least : AreLeastNumbers Source (node_count net) c.args.routes.now c.args.shares.now c.in_ok-none.none.items c.in_ok-tails.tails =
    rw (c.as_slice-nodes.ensures, c.as_slice.ensures.value) at c.in_ok-tails.ensures
    in
    let cleared : c.in_ok-none.none.items ≡ replicate (node_count net) 0 = rw c.as_slice-nodes.ensures at (c.in_ok-none.ensures.items_if_clones_equal (λ y same. same)) in
    tails_small net c.args.routes.now c.args.link c.requires.ends c.requires.small c.args.shares.now c.requires.shares c.in_ok-ends.ends.items c.in_ok-ends.ensures c.in_ok-none.none.items
    c.in_ok-tails.tails cleared least

pub returns-clause-made : goal.returns-clause-made
returns-clause-made c =
    let net = c.args.net.now in
    let routes = c.args.routes.now in
    let h = c.args.hose.now in
    let t = c.in_ok-cover.cover in
    let tails : AreLeastNumbers Source (node_count net) routes c.args.shares.now c.in_ok-none.none.items c.in_ok-tails.tails =
    rw (c.as_slice-nodes.ensures, c.as_slice.ensures.value) at c.in_ok-tails.ensures
    in
    let least : IsLeastTransport c.in_ok-ends.ends.items (node_count net) (slice_index h.sent) (slice_index h.received) t =
    rw (c.as_slice-2.ensures.value, tails.count, c.as_slice-sent.ensures, c.as_slice-received.ensures) at c.in_ok-cover.ensures
    in
    IfOk-weaker c.lowered_from.result (IsLeastFrom (node_count net) routes c.args.link c.args.shares.now t.heads) (λ (b : HoseBlock). (b.link ≡ c.args.link) × IsMadeBlock net routes h b)
    (λ b lowered.
    made net routes h c.args.link c.requires.link (few_links net c.requires.network) c.requires.small b lowered.link lowered.tails.count lowered.heads.count
    (least_is_tight net routes h c.args.link c.requires.ends c.args.shares.now c.requires.shares c.in_ok-ends.ends.items c.in_ok-ends.ensures t least b lowered))
    (rw (c.as_slice-nodes.ensures, c.as_slice-3.ensures) at c.lowered_from.ensures)

pub returns-clause-attained : goal.returns-clause-attained
returns-clause-attained c =
    let net = c.args.net.now in
    let e = c.args.link in
    let shares = c.args.shares.now in
    let t = c.in_ok-cover.cover in
    let tails : AreLeastNumbers Source (node_count net) c.args.routes.now shares c.in_ok-none.none.items c.in_ok-tails.tails =
    rw (c.as_slice-nodes.ensures, c.as_slice.ensures.value) at c.in_ok-tails.ensures
    in
    let least : IsLeastTransport c.in_ok-ends.ends.items (node_count net) (slice_index c.args.hose.now.sent) (slice_index c.args.hose.now.received) t =
    rw (c.as_slice-2.ensures.value, tails.count, c.as_slice-sent.ensures, c.as_slice-received.ensures) at c.in_ok-cover.ensures
    in
    IfOk-weaker c.lowered_from.result (IsLeastFrom (node_count net) c.args.routes.now e shares t.heads) (IsAttained net c.args.routes.now c.args.hose.now)
    (λ b lowered.
    attained net c.args.routes.now c.args.hose.now e c.requires.ends shares c.requires.shares c.in_ok-ends.ends.items c.in_ok-ends.ensures t least b lowered)
    (rw (c.as_slice-nodes.ensures, c.as_slice-3.ensures) at c.lowered_from.ensures)
