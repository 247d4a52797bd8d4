use Rattle.plan.proofs.values.read_envelope.Goals as goal

pub returns-then-is_some-clause-alone : goal.returns-then-is_some-clause-alone
returns-then-is_some-clause-alone c = tt
