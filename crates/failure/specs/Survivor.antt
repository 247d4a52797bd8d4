-- The network that is left where links have failed.
use Rattle.std.specs.Prelude.{ℕ, Bool, false, not, List, length, map, filter, slice_index_or}
use Rattle.std.specs.List.{range_with_len}
use Rattle.te_model.specs.declared.network.Network.{Network}
use Rattle.te_model.specs.Network.{link_at}
use Rattle.failure.specs.declared.survivor.Survivor.{Survivor}

-- the numbers of the links that have not failed, ascending
abbrev pub surviving_links : List Bool → List ℕ
surviving_links failed = filter (λ h. not (slice_index_or failed h false)) (range_with_len 0 (length failed))

-- the same nodes, and the links that have not failed, each with its number before
abbrev pub survivor_of : Network → List Bool → Survivor
survivor_of net failed = record {
  network = record { names = net.names; links = map (link_at net) (surviving_links failed) };
  origin = surviving_links failed;
}
