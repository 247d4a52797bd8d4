use Rattle.std.proofs.Common.{◌≡◌, filter, not, false, get_or}
use Rattle.std.specs.List.{range_with_len}
use Rattle.failure.proofs.survivor.surviving_links.Given as goal

abbrev pub invariant-loop-link : goal.invariant-loop-link
invariant-loop-link l = l.origin.items ≡ filter (λ h. not (get_or l.failed h false)) (range_with_len 0 l.link)
