use Rattle.std.proofs.Common.{◌≡◌, ℕ, rules}
use Rattle.std.specs.Prelude.{MatchResult}
use Rattle.te_ports.proofs.Trying.{tried_taken, tried_none}
use Rattle.te_ports.proofs.real_sink.RealSinkSink.put.Goals as goal

pub returns-in-Ok-clause-takes : goal.returns-in-Ok-clause-takes
returns-in-Ok-clause-takes g c = c.in-Ok.ensures.bytes

pub returns-in-Ok-clause-appended : goal.returns-in-Ok-clause-appended
returns-in-Ok-clause-appended g c = tried_taken _ _ _ _ _ c.in-Ok.ensures.tried

pub returns-in_default-clause-unchanged : goal.returns-in_default-clause-unchanged
returns-in_default-clause-unchanged g c =
    let none : MatchResult c.write_again.result (λ (n : ℕ). n ≡ 0) (λ _. Unit {0}) = search rules in
    tried_none _ _ _ _ _ c.write_again.ensures.tried none
