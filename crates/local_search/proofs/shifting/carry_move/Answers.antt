use Rattle.std.proofs.Common.{◌≡◌, ℕ, ◌≤◌, ◌^◌, List, get_or, slice_index, arith, ap, ◌∙◌}
use Rattle.std.proofs.lemmas.Nat.{mul-le}
use Rattle.std.proofs.lemmas.List.Elements.{All-get_or}
use Rattle.local_search.proofs.shifting.carry_move.Goals as goal

pub carry_over-requires-clause-amount : goal.carry_over-requires-clause-amount
carry_over-requires-clause-amount c =
    let p = c.args.step.pair in
    let demand = c.args.matrix.now.demand in
    let is_demand : c.from.result ≡ slice_index demand p = c.from.ensures ∙ ap (λ (d : List ℕ). get_or d p 0) c.as_slice-3.ensures in
    let small = All-get_or (λ d. d ≤ 2 ^ 32) demand p 0 (omega (arith, c.requires.pair, c.requires.demands.count)) c.requires.demands.small in
    omega (
      arith,
      mul-le c.from.result c.from-2.result 4294967296 1000000 (omega (arith, is_demand, small)) (omega (arith, c.from-2.ensures, c.min.ensures, c.requires.size)),
    )
