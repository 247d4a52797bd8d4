use Rattle.std.proofs.Common.{◌≡◌, ℕ, ◌+◌, ◌<◌, Bool, List, Option, [], length, arith, ap, sym, ◌∙◌, subst, rules}
use Rattle.std.proofs.lemmas.List.{get_or_read}
use Rattle.te_model.specs.Network.{link_count, node_count}
use Rattle.shortest_path.specs.Least.{AreFirstLinks}
use Rattle.shortest_path.specs.Links.{every_link}
use Rattle.shortest_path.proofs.Sound.{sound}
use Rattle.tree_embed.specs.Tables.{sums_to}
use Rattle.tree_embed.proofs.LeastWays.{FirstsSoFar, firsts_none, firsts_more}
use Rattle.tree_embed.proofs.first_links.firsts_of.Goals as goal

pub loop-t-init : goal.loop-t-init
loop-t-init c = subst (FirstsSoFar c.args.net.now c.args.lengths.now c.args.sums.now 0) (sym c.in_ok-firsts.ensures.items) (firsts_none c.args.net.now c.args.lengths.now c.args.sums.now)

pub first_links-requires-clause-sound : goal.first_links-requires-clause-sound
first_links-requires-clause-sound c = sound c.args.net.now c.requires.network

pub first_links-requires-clause-sums : goal.first_links-requires-clause-sums
first_links-requires-clause-sums c =
    let sums = c.args.sums.now in
    let t = c.loop-t.t in
    let below : t < node_count c.args.net.now = omega (arith, c.loop-t-test.true, c.requires.sums.count) in
    let to : c.as_slice-to.result.now ≡ sums_to sums t = c.as_slice-to.ensures ∙ get_or_read sums t c.index-sums-t.result c.loop-t-test.true c.index-sums-t.is [] in
    ap (λ (l : List (Option ℕ)). length l) to ∙ (c.requires.sums.each t below).count

pub loop-t-preserved : goal.loop-t-preserved
loop-t-preserved c =
    let net = c.args.net.now in
    let lengths = c.args.lengths.now in
    let sums = c.args.sums.now in
    let t = c.loop-t.t in
    let row = c.in_ok-row.row.items in
    let every : c.deref.result.now ≡ every_link net = search rules in
    let to : c.as_slice-to.result.now ≡ sums_to sums t = c.as_slice-to.ensures ∙ get_or_read sums t c.index-sums-t.result c.loop-t-test.true c.index-sums-t.is [] in
    let are : AreFirstLinks net lengths (every_link net) (sums_to sums t) (link_count net) row =
    subst (λ l. AreFirstLinks net lengths (every_link net) l (link_count net) row) to
    (subst (λ (m : List Bool). AreFirstLinks net lengths m c.as_slice-to.result.now (link_count net) row) every c.in_ok-row.ensures)
    in
    let same : c.new.result ≡ row = c.new.ensures in
    subst (FirstsSoFar net lengths sums (t + 1)) (sym c.in_ok-push.ensures.items)
    (firsts_more net lengths sums t c.loop-t.firsts.items c.new.result c.loop-t.invariant
    (subst (AreFirstLinks net lengths (every_link net) (sums_to sums t) (link_count net)) (sym same) are))

pub returns : goal.returns
returns c =
    let so_far = c.loop-t.invariant in
    let done : c.loop-t.t ≡ node_count c.args.net.now = omega (arith, c.loop-t-test.false, c.loop-t.auto.t-end, c.requires.sums.count) in
    record { count = so_far.count ∙ done; each = λ t below. so_far.each t (omega (arith, done, below)) }
