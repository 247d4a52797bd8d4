use Rattle.std.proofs.Common.{◌==◌, ◌∙◌, inl, inr, arith}
use Rattle.te_model.specs.Network.{head_of, link_count, tail_of}
use Rattle.witness_search.proofs.LinkSums.{where_small}
use Rattle.witness_search.proofs.limits.room_of.Goals as goal

pub returns-clause-one : goal.returns-clause-one
returns-clause-one c = elim c.lesser.ensures [ inl same ↦ inl (same ∙ c.capacity_from.ensures) | inr same ↦ inr (same ∙ c.capacity_into.ensures) ]

pub returns-clause-small : goal.returns-clause-small
returns-clause-small c =
    let net = c.args.net.now in
    let from = where_small net (λ h. tail_of net h == c.args.pair.src) (link_count net) c.requires (omega arith) in
    let into = where_small net (λ h. head_of net h == c.args.pair.dst) (link_count net) c.requires (omega arith) in
    let is_from = c.capacity_from.ensures in
    let is_into = c.capacity_into.ensures in
    elim c.lesser.ensures [ inl same ↦ omega (arith, same, from, is_from) | inr same ↦ omega (arith, same, into, is_into) ]
