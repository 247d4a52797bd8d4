-- The flow of the test over three nodes in the middle is acyclic.
use Rattle.std.proofs.Common.{ℕ, zero, suc, ◌<◌, slice_index, arith, refl}
use Rattle.te_model.specs.Network.{tail_of, head_of}
use Rattle.te_model.specs.Flow.{IsFlow}
use Rattle.routing.specs.Decomposition.{IsAcyclicFlow}
use Rattle.path_tests.specs.RoutingSamples.{three_middles, thirds}

-- s comes first, then the nodes in the middle, then t
abbrev number : ℕ → ℕ
number zero = 0
number (suc zero) = 4
number (suc (suc v)) = 1

balance : IsFlow three_middles (slice_index thirds) 1000000 0 1
balance zero below = refl
balance (suc zero) below = refl
balance (suc (suc zero)) below = refl
balance (suc (suc (suc zero))) below = refl
balance (suc (suc (suc (suc zero)))) below = refl
balance (suc (suc (suc (suc (suc v))))) below = absurd (omega arith)

number_below : (v : ℕ) → v < 5 → number v < 5
number_below zero below = omega arith
number_below (suc zero) below = omega arith
number_below (suc (suc v)) below = omega arith

rises : (h : ℕ) → h < 6 → 0 < slice_index thirds h → number (tail_of three_middles h) < number (head_of three_middles h)
rises zero below some = omega arith
rises (suc zero) below some = omega arith
rises (suc (suc zero)) below some = omega arith
rises (suc (suc (suc zero))) below some = omega arith
rises (suc (suc (suc (suc zero)))) below some = omega arith
rises (suc (suc (suc (suc (suc zero))))) below some = omega arith
rises (suc (suc (suc (suc (suc (suc h)))))) below some = absurd (omega arith)

pub thirds_flow : IsAcyclicFlow three_middles (slice_index thirds) 1000000 0 1
thirds_flow = record { balance = balance; acyclic = (number, record { below = number_below; rises = rises }) }
