use Rattle.std.proofs.Common.{◌∙◌, refl, sym}
use Rattle.ratio_witness.proofs.reading.keep_ruled.Goals as goal

pub returns-in-Some : goal.returns-in-Some
returns-in-Some c = (c.in-Some.fault, refl, sym c.witness_fault.ensures ∙ c.in-Some.is)

pub returns-in-None : goal.returns-in-None
returns-in-None c = (refl, sym c.witness_fault.ensures ∙ c.in-None.is)
