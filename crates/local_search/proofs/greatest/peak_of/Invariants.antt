use Rattle.std.proofs.Common.{slice_index}
use Rattle.local_search.specs.Loads.{IsPeakBelow}
use Rattle.local_search.proofs.greatest.peak_of.Given as goal

abbrev pub invariant-loop-h : goal.invariant-loop-h
invariant-loop-h l = IsPeakBelow l.net (slice_index l.loads) l.h l.peak.link l.peak.parts
