use Rattle.ratio_tightening.proofs.Tighter.{tightened_exist, tightened_is_tighter, tightened_lowers}
use Rattle.ratio_tightening.proofs.laws.tightened_certificates_are_tighter.Goals as goal

pub returns-clause-exist : goal.returns-clause-exist
returns-clause-exist c = tightened_exist

pub returns-clause-tighter : goal.returns-clause-tighter
returns-clause-tighter c = tightened_is_tighter

pub returns-clause-lowers : goal.returns-clause-lowers
returns-clause-lowers c = tightened_lowers
