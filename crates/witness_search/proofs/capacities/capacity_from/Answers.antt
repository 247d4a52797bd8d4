use Rattle.std.proofs.Common.{◌≡◌, ◌∙◌, ◌==◌, ◌+◌, ℕ, List, length, get_or, arith, ap}
use Rattle.std.specs.Prelude.{if◌then◌else◌}
use Rattle.te_model.specs.declared.network.Link.{Link}
use Rattle.te_model.specs.declared.network.Network.{Network}
use Rattle.te_model.specs.Network.{capacity_of, tail_of, link_count, no_link}
use Rattle.witness_search.proofs.LinkSums.{capacities_where, where_more, where_small}
use Rattle.witness_search.proofs.capacities.capacity_from.Goals as goal

-- what a link of the list that is lent adds
part : (net : Network) (node : ℕ) (list : List Link) (i number : ℕ) → list ≡ net.links →
    number ≡ (if (get_or list i no_link).tail == node then (get_or list i no_link).capacity else 0) → number ≡ (if tail_of net i == node then capacity_of net i else 0)
part net node list i number same is = is ∙ ap (λ (ls : List Link). if (get_or ls i no_link).tail == node then (get_or ls i no_link).capacity else 0) same

pub overflow_add-total : goal.overflow_add-total
overflow_add-total c =
    let net = c.args.net.now in
    let i = c.loop-link.link-index in
    let list = c.as_slice-link-items in
    let test = λ (h : ℕ). tail_of net h == c.args.node in
    let is = part net c.args.node list.result.now i c.part_from-total.result list.ensures c.part_from-total.ensures in
    let count = ap (λ (ls : List Link). length ls) list.ensures in
    omega (
      arith,
      where_more net test i c.loop-link.total c.part_from-total.result c.loop-link.invariant is,
      where_small net test (i + 1) c.requires (omega (arith, count)),
    )

pub loop-link-preserved : goal.loop-link-preserved
loop-link-preserved c =
    let net = c.args.net.now in
    let i = c.loop-link.link-index in
    let list = c.as_slice-link-items in
    where_more net (λ h. tail_of net h == c.args.node) i c.loop-link.total c.part_from-total.result c.loop-link.invariant
    (part net c.args.node list.result.now i c.part_from-total.result list.ensures c.part_from-total.ensures)

pub returns : goal.returns
returns c =
    let net = c.args.net.now in
    let count = ap (λ (ls : List Link). length ls) c.as_slice-link-items.ensures in
    let all : c.loop-link.link-index ≡ link_count net = omega (arith, count) in
    c.loop-link.invariant ∙ ap (capacities_where net (λ h. tail_of net h == c.args.node)) all
