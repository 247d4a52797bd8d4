use Rattle.plan.proofs.reader.read_plan.Goals as goal

pub returns-then-not-knows_all-clause-plan : goal.returns-then-not-knows_all-clause-plan
returns-then-not-knows_all-clause-plan c = tt
