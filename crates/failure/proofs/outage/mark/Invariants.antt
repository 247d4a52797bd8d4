use Rattle.std.proofs.Common.{◌≡◌, ℕ, ◌<◌, length, take, false}
use Rattle.std.specs.Prelude.{slice_index_or}
use Rattle.std.specs.List.{list_any}
use Rattle.failure.specs.Failed.{is_during}
use Rattle.failure.proofs.outage.mark.Given as goal

abbrev pub invariant-loop-outage : goal.invariant-loop-outage
invariant-loop-outage l = (e : ℕ) → e < length l.fn.marks → slice_index_or l.marks e false ≡ list_any (is_during l.step e) (take l.outage-index l.outages)
