use Rattle.block_reader.specs.Room.{IsShelf}
use Rattle.block_reader.proofs.room.shelf.Given as goal

abbrev pub invariant-loop : goal.invariant-loop
invariant-loop l = IsShelf l.counter l.nodes l.list.items
