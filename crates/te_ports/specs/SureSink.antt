-- What a sink whose writes never fail shows: how much it has taken.
use Rattle.std.specs.Prelude.{ℕ}
use Rattle.te_ports.specs.declared.sure_sink.SureSink.{SureSink}

-- how many bytes were taken
abbrev pub sure_count : SureSink → ℕ
sure_count s = s.count
