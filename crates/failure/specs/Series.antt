-- Which links have failed in each step of a series.
use Rattle.std.specs.Prelude.{◌≡◌, ℕ, ◌<◌, Bool, ◌&&◌, ◌==◌, List, [], map, length, nat_le, nat_lt, slice_index, slice_index_or}
use Rattle.std.specs.List.{list_any, range_with_len}
use Rattle.te_model.specs.declared.network.Network.{Network}
use Rattle.te_model.specs.Network.{link_count}
use Rattle.failure.specs.declared.outage.Outage.{Outage}
use Rattle.failure.specs.declared.outage.Failures.{Failures}
use Rattle.failure.specs.Failed.{has_failed}

-- no link fails
abbrev pub no_failures : Failures
no_failures = record { list = [] }

-- for each link whether it has failed in the step
abbrev pub marks_of : Network → Failures → ℕ → List Bool
marks_of net failures step = map (has_failed failures step) (range_with_len 0 (link_count net))

-- the same for each of so many steps
abbrev pub marks_of_steps : Network → Failures → ℕ → List (List Bool)
marks_of_steps net failures steps = map (marks_of net failures) (range_with_len 0 steps)

-- an outage of the link that begins in such a step, and lasts to step x or longer
abbrev pub reaches : (ℕ → Bool) → ℕ → ℕ → Outage → Bool
reaches begins link x o = o.link == link && (begins o.from && nat_le x o.to)

-- for each link one more than the last step of the longest outage that begins in such a step, or 0
pub record AreEnds (links : ℕ) (begins : ℕ → Bool) (outages : List Outage) (ends : List ℕ) : Type 0 where
  pub count : length ends ≡ links
  pub each : (e x : ℕ) → e < links → nat_lt x (slice_index ends e) ≡ list_any (reaches begins e x) outages

-- the ends of the outages that begin in each step
abbrev pub AreEndsByStep : ℕ → List Outage → List (List ℕ) → Type 0
AreEndsByStep links outages table = (step : ℕ) → step < length table → AreEnds links (λ from. from == step) outages (slice_index_or table step [])
