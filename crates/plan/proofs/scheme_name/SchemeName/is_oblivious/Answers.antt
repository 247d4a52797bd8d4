use Rattle.std.proofs.Common.{inl, inr, refl}
use Rattle.plan.proofs.scheme_name.SchemeName.is_oblivious.Goals as goal

pub returns-in-Mcf : goal.returns-in-Mcf
returns-in-Mcf c = elim c.in-Mcf.is [ inl mcf ↦ rw mcf refl | inr smore ↦ rw smore refl ]
