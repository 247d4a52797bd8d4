use Rattle.std.proofs.Common.{◌≡◌, ◌*◌, ◌<◌, List, get_or, arith, ap, ◌∙◌}
use Rattle.std.proofs.lemmas.Bool.{le-leb, leb-true}
use Rattle.std.proofs.lemmas.Nat.{mul-le}
use Rattle.te_model.specs.declared.network.Link.{Link}
use Rattle.te_model.specs.Network.{capacity_of, link_count, no_link}
use Rattle.te_model.proofs.WellFormed.{capacities_small}
use Rattle.local_search.proofs.search.is_within.Goals as goal

pub overflow_mul-result : goal.overflow_mul-result
overflow_mul-result c =
    let net = c.args.net.now in
    let h = c.args.link in
    let is : c.from.result ≡ capacity_of net h = c.from.ensures ∙ ap (λ (ls : List Link). (get_or ls h no_link).capacity) c.as_slice.ensures in
    omega (
      arith,
      mul-le c.args.times c.from.result 38685626227668133590597632 4294967296 (omega (arith, c.requires.times))
          (omega (arith, is, capacities_small net c.requires.network h)),
    )

pub returns : goal.returns
returns c =
    let net = c.args.net.now in
    let h = c.args.link in
    let is : c.from.result ≡ capacity_of net h = c.from.ensures ∙ ap (λ (ls : List Link). (get_or ls h no_link).capacity) c.as_slice.ensures in
    let product : c.args.times * c.from.result ≡ c.args.times * capacity_of net h = ap (λ x. c.args.times * x) is in
    let inside : h < link_count net = omega (arith, c.if-h-loads.false, c.requires.count) in (
      λ t below. omega (arith, leb-true c.load_after-load.result (c.args.times * c.from.result) t, product, c.load_after-load.ensures),
      λ within. le-leb c.load_after-load.result (c.args.times * c.from.result) (omega (arith, within inside, product, c.load_after-load.ensures)),
    )
