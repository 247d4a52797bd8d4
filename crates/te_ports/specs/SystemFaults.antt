-- What a port makes of an error of the system.
use Rattle.std.specs.declared.io.ErrorKind.{ErrorKind}
use Rattle.std.specs.declared.io.ErrorKind.TheVariants as kind
use Rattle.te_ports.specs.declared.system.SystemFault.{SystemFault}
use Rattle.te_ports.specs.declared.system.SystemFault.TheVariants.{Interrupted, Failed}

-- a call that a signal interrupted may be made again, and an error of any other kind is a failure
abbrev pub system_fault : ErrorKind → SystemFault
system_fault kind.Interrupted = Interrupted
system_fault _ = Failed
