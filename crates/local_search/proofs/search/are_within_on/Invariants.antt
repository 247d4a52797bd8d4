use Rattle.std.proofs.Common.{ℕ, ◌*◌, ◌<◌, ◌≤◌, slice_index}
use Rattle.te_model.specs.Network.{capacity_of, link_count}
use Rattle.local_search.specs.Loads.{load_after}
use Rattle.local_search.proofs.search.are_within_on.Given as goal

abbrev pub invariant-loop-link : goal.invariant-loop-link
invariant-loop-link l = (k : ℕ) → k < l.link-index → slice_index l.links k < link_count l.net →
    load_after (slice_index l.loads (slice_index l.links k)) l.shift.from.now l.shift.to.now l.shift.amount (slice_index l.links k) ≤ l.times * capacity_of l.net (slice_index l.links k)
