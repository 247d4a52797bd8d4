-- Costs are lengths within the limit of a search.
use Rattle.std.proofs.Common.{ℕ, ◌^◌, ◌≤◌, List, arith}
use Rattle.std.specs.Prelude.{All}
use Rattle.std.proofs.lemmas.List.Elements.{All-weaker}
use Rattle.te_model.specs.declared.network.Network.{Network}
use Rattle.shortest_path.specs.Costs.{HasCosts}

pub costs_limit : (net : Network) (costs : List ℕ) → HasCosts net costs → All (λ l. l ≤ 2 ^ 28) costs
costs_limit net costs has = All-weaker (λ x. x ≤ 65535) (λ x. x ≤ 2 ^ 28) (λ x le. omega (arith, le)) costs has.small
