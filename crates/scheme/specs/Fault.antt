-- What the faults of a scheme say.
use Rattle.std.specs.Prelude.{List, ⊤}
use Rattle.te_model.specs.declared.network.Network.{Network}
use Rattle.te_model.specs.declared.route.Pair.{Pair}
use Rattle.scheme.specs.declared.fault.SchemeFault.{SchemeFault}
use Rattle.scheme.specs.declared.fault.SchemeFault.TheVariants.{NoPath, Memory}
use Rattle.scheme.specs.Reach.{IsFirstWithout}

-- the first pair without a path, or the want of memory
abbrev pub IsFault : Network → List Pair → SchemeFault → Type 0
IsFault net pairs (NoPath p) = IsFirstWithout net pairs p
IsFault net pairs Memory = ⊤
