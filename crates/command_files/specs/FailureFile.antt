-- The file of the failures of a network's links.
use Rattle.std.specs.Prelude.{List, ℕ, ◌++◌, codes, length}
use Rattle.std.specs.Fmt.{decimal}
use Rattle.te_model.specs.declared.network.Network.{Network}
use Rattle.te_model.specs.Network.{link_count}
use Rattle.traffic_matrix.specs.declared.series.Series.{Series}
use Rattle.failure.specs.File.{failures_of}
use Rattle.failure.specs.declared.outage.Failures.{Failures}
use Rattle.failure.specs.declared.fault.FailureFault.{FailureFault}
use Rattle.failure.specs.declared.fault.FailureFault.TheVariants.{Header, Fields, Number, NoSuchLink, Interval, Memory}
use Rattle.command_frame.specs.Reading.{Kind}
use Rattle.command_files.specs.InputFile.{inputs}

-- the words for a fault
abbrev pub failures_reason : FailureFault → List ℕ
failures_reason Header = codes "header"
failures_reason (Fields n) = codes "fields at row " ++ decimal n
failures_reason (Number n) = codes "number at row " ++ decimal n
failures_reason (NoSuchLink n) = codes "no such link at row " ++ decimal n
failures_reason (Interval n) = codes "interval at row " ++ decimal n
failures_reason Memory = codes "memory"

-- the outages that the rows make for the network and the steps of the series, or their first fault
abbrev pub failure_files : Network → Series → Kind Failures
failure_files network series = inputs failures_reason (failures_of (link_count network) (length series.steps))
