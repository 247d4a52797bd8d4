-- The flows that ask a link in a round, and what the link serves them.
use Rattle.std.specs.Prelude.{ℕ, zero, suc, ◌≡◌, ◌<◌, Bool, List, [], ◌∷◌, ◌++◌, length, map, slice_index, ◌==◌, if◌then◌else◌}
use Rattle.flow_sim.specs.Fair.{fair_shares}
use Rattle.flow_sim.specs.Step.{Setting, units, before_round, service_of}

-- the numbers below n that pass, ascending
abbrev pub numbers_below : ℕ → (ℕ → Bool) → List ℕ
numbers_below zero test = []
numbers_below (suc n) test = numbers_below n test ++ (if test n then n ∷ [] else [])

-- the flows whose r-th hop is link e, in order of pair and path
abbrev pub asking_flows : Setting → ℕ → ℕ → List ℕ
asking_flows s r e = numbers_below s.flows (λ f. s.hop f r == e)

-- what arrives at link e in round r: the units of those flows
abbrev pub arriving_units : Setting → ℕ → ℕ → List ℕ
arriving_units s r e = map (λ f. units s f r) (asking_flows s r e)

-- a failed link serves nothing, and another fair shares of what it has left
abbrev pub ServesFairly : Setting → Type 0
ServesFairly s =
    (r e i : ℕ) → i < length (asking_flows s r e) →
    service_of s (before_round s r) r e (slice_index (asking_flows s r e) i)
    ≡ (if s.has_failed e then 0 else slice_index (fair_shares ((before_round s r).left e) (arriving_units s r e)) i)
