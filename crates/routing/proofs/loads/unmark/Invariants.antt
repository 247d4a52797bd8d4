use Rattle.std.proofs.Common.{◌≡◌, ℕ, ◌<◌, length, drop, true, false}
use Rattle.std.specs.Prelude.{slice_index_or}
use Rattle.te_model.specs.Path.{has_number}
use Rattle.routing.proofs.loads.unmark.Given as goal

abbrev pub invariant-loop-link : goal.invariant-loop-link
invariant-loop-link l =
    (e : ℕ) → e < length l.fn.marks → slice_index_or l.marks e false ≡ true → has_number (drop l.link-index l.path) e ≡ true
