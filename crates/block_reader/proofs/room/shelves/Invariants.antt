use Rattle.std.proofs.Common.{◌≡◌, ◌<◌, ℕ, [], vec_len}
use Rattle.std.specs.Prelude.{slice_index_or}
use Rattle.block_reader.specs.Room.{IsShelf}
use Rattle.block_reader.proofs.room.shelves.Given as goal

abbrev pub invariant-loop-count : goal.invariant-loop-count
invariant-loop-count l =
    (vec_len l.shelves ≡ l.count) × ((k : ℕ) → k < vec_len l.shelves → IsShelf k l.nodes (slice_index_or l.shelves.items k []))
