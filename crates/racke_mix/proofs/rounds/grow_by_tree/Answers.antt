use Rattle.std.proofs.Common.{◌≡◌, ℕ, List, length, ap, ◌∙◌}
use Rattle.multiplicative_lengths.specs.Growth.{greatest_usage, grown_multipliers}
use Rattle.racke_mix.proofs.Loading.{loads_count}
use Rattle.racke_mix.proofs.rounds.grow_by_tree.Goals as goal

pub greatest_usage-most-requires-clause-count : goal.greatest_usage-most-requires-clause-count
greatest_usage-most-requires-clause-count c =
    ap (λ (l : List ℕ). length l) c.deref.ensures.value ∙ loads_count c.args.net.now c.args.tree.now c.in_ok-loads.loads.items c.in_ok-loads.ensures

pub grow-requires-clause-loads : goal.grow-requires-clause-loads
grow-requires-clause-loads c =
    ap (λ (l : List ℕ). length l) c.deref-2.ensures.value ∙ loads_count c.args.net.now c.args.tree.now c.in_ok-loads.loads.items c.in_ok-loads.ensures

pub returns : goal.returns
returns c =
    let net = c.args.net.now in
    let loads = c.in_ok-loads.loads.items in
    let multipliers = c.args.multipliers.now in
    let most : c.greatest_usage-most.result ≡ greatest_usage net loads =
    c.greatest_usage-most.ensures.usage ∙ ap (λ (l : List ℕ). greatest_usage net l) c.deref.ensures.value
    in (
      loads,
      c.in_ok-loads.ensures,
      c.in_ok-next.ensures ∙ (ap (λ (l : List ℕ). grown_multipliers net l c.greatest_usage-most.result multipliers) c.deref-2.ensures.value ∙ ap (λ (x : ℕ). grown_multipliers net loads x multipliers) most),
    )
