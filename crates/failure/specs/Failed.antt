-- Which links have failed in a step.
use Rattle.std.specs.Prelude.{ℕ, Bool, ◌&&◌, ◌==◌, nat_le}
use Rattle.std.specs.List.{list_any}
use Rattle.failure.specs.declared.outage.Outage.{Outage}
use Rattle.failure.specs.declared.outage.Failures.{Failures}

-- an outage of this link, from a step at or before this one to a step at or after it
abbrev pub is_during : ℕ → ℕ → Outage → Bool
is_during step link o = o.link == link && nat_le o.from step && nat_le step o.to

-- some outage is of this link and has this step in it
abbrev pub has_failed : Failures → ℕ → ℕ → Bool
has_failed failures step link = list_any (is_during step link) failures.list
