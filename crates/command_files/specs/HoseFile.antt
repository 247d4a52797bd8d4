-- The files of a hose, and of a hose certificate.
use Rattle.std.specs.Prelude.{ℕ, List, codes}
use Rattle.te_model.specs.declared.network.Network.{Network}
use Rattle.hose_bound.specs.declared.fault.HoseFault.{HoseFault}
use Rattle.hose_bound.specs.declared.fault.HoseFault.TheVariants.{Shape, Rule, Memory}
use Rattle.hose_bound.specs.declared.hose.Hose.{Hose}
use Rattle.hose_bound.specs.declared.hose.HoseCert.{HoseCert}
use Rattle.hose_bound.specs.Reading.{MeansHose, MeansHoseCert}
use Rattle.command_frame.specs.Reading.{Kind}
use Rattle.command_files.specs.InputFile.{inputs_meant}
use Rattle.command_files.specs.Refusals.{shape_reason, rule_reason}

-- the words for a fault
abbrev pub hose_reason : HoseFault → List ℕ
hose_reason (Shape line) = shape_reason line
hose_reason (Rule rule) = rule_reason (codes "K") rule
hose_reason Memory = codes "memory"

-- what the bytes mean as a hose of the network, or their fault
abbrev pub bounds_files : Network → Kind Hose
bounds_files network = inputs_meant hose_reason (MeansHose network)

-- and as a hose certificate
abbrev pub hose_files : Network → Kind HoseCert
hose_files network = inputs_meant hose_reason (MeansHoseCert network)
