use Rattle.std.proofs.Common.{◌≡◌, ℕ, suc, ◌+◌, ◌*◌, ◌<◌, ◌≤◌, ◌^◌, List, length, get_or, slice_index, arith, ap, sym, ◌∙◌, subst}
use Rattle.std.proofs.lemmas.Nat.{mul-le}
use Rattle.std.proofs.lemmas.List.Elements.{All-get_or}
use Rattle.te_model.specs.Flow.{load}
use Rattle.te_model.specs.Path.{share}
use Rattle.routing.proofs.Splits.{share-le}
use Rattle.routing.proofs.routes.Routing.load.Goals as goal

pub loop-pair-preserved : goal.loop-pair-preserved
loop-pair-preserved c =
    let routes = c.args.self.now.routes in
    let demand = c.args.matrix.now.demand in
    let p = c.loop-pair.pair in
    let inside : p < length routes = omega (arith, c.loop-pair-test.true, ap (λ (r : List _). length r) c.as_slice-pair-end.ensures) in
    let is_demand : c.from.result ≡ slice_index demand p = c.from.ensures ∙ ap (λ (d : List ℕ). get_or d p 0) c.as_slice.ensures in
    let is_share : c.from-in-loop-pair.result ≡ share routes p c.args.link = c.from-in-loop-pair.ensures ∙ c.share.ensures in
    let small : c.from.result ≤ 4294967296 =
    omega (arith, is_demand, All-get_or (λ d. d ≤ 2 ^ 32) demand p 0 (omega (arith, inside, c.requires.demands.count)) c.requires.demands.small)
    in
    let part : c.from-in-loop-pair.result ≤ 1000000 = omega (arith, is_share, share-le routes p c.args.link c.args.self.now.splits inside) in
    let term = mul-le c.from.result c.from-in-loop-pair.result 4294967296 1000000 small part in
    let product : c.from.result * c.from-in-loop-pair.result ≡ slice_index demand p * share routes p c.args.link =
    ap (λ x. x * c.from-in-loop-pair.result) is_demand ∙ ap (λ x. slice_index demand p * x) is_share
    in
    let next : p + 1 ≡ suc p = omega arith in (
      subst (λ n. c.loop-pair.load + c.from.result * c.from-in-loop-pair.result ≡ load n (slice_index demand) (share routes) c.args.link) (sym next)
          (omega (arith, c.loop-pair.invariant.0, product)),
      omega (arith, c.loop-pair.invariant.1, term),
    )
