use Rattle.std.proofs.Common.{◌≡◌, ◌<◌, All, length, arith, ap, sym, ◌∙◌, subst}
use Rattle.te_model.specs.Network.{node_count}
use Rattle.te_model.proofs.WellFormed.{well_formed_parts}
use Rattle.tree_embed.specs.Tables.{AreFirsts}
use Rattle.tree_embed.proofs.Centering.{order_inside, order_length, center_rows, tables_made}
use Rattle.tree_embed.proofs.LeastWays.{firsts_made}
use Rattle.tree_embed.proofs.embedding.embed.Goals as goal

pub centers_of-requires-clause-order : goal.centers_of-requires-clause-order
centers_of-requires-clause-order c =
    let count : length c.deref-2.result.now ≡ node_count c.args.net.now = ap length c.deref-2.ensures.value ∙ c.in_ok-sums.ensures.count in
    subst (λ n. All (λ u. u < n) c.args.order.now) (sym count) (order_inside c.args.net.now c.args.order.now c.requires.order)

pub centers_of-requires-clause-some : goal.centers_of-requires-clause-some
centers_of-requires-clause-some c =
    omega (arith, order_length c.args.net.now c.args.order.now c.requires.order, (well_formed_parts c.args.net.now c.requires.network).two_nodes)

pub invariant_of-result : goal.invariant_of-result
invariant_of-result c =
    let lengths = c.args.lengths.now in
    let order = c.args.order.now in
    let sums = c.in_ok-sums.sums.items in
    let rows : c.in_ok-centers.centers.items ≡ center_rows sums order c.args.scale (length sums) =
    subst (λ s. c.in_ok-centers.centers.items ≡ center_rows s order c.args.scale (length s)) c.deref-2.ensures.value c.in_ok-centers.ensures
    in
    let firsts : AreFirsts c.args.net.now lengths sums c.in_ok-firsts.firsts.items =
    subst (λ s. AreFirsts c.args.net.now lengths s c.in_ok-firsts.firsts.items) c.deref.ensures.value c.in_ok-firsts.ensures
    in (
      tables_made c.args.net.now c.in_ok-network.network lengths c.new.result order c.new-2.result c.args.scale sums c.new-3.result
          c.in_ok-centers.centers.items c.new-5.result
          (record {
            formed = c.requires.network;
            count = c.requires.lengths;
            small = c.requires.limit;
            positive = c.requires.positive;
            ordered = c.requires.order;
            low = c.requires.scale.0;
            high = c.requires.scale.1;
          })
          c.in_ok-sums.ensures rows c.in_ok-network.ensures (c.new.ensures ∙ c.in_ok-lengths.ensures.items) (c.new-2.ensures ∙ c.in_ok-order.ensures.items)
          c.new-3.ensures c.new-5.ensures,
      firsts_made c.args.net.now c.in_ok-network.network lengths c.new.result sums c.new-3.result c.in_ok-firsts.firsts.items c.new-4.result firsts
          c.in_ok-network.ensures (c.new.ensures ∙ c.in_ok-lengths.ensures.items) c.new-3.ensures c.new-4.ensures,
    )
