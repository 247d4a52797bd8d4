use Rattle.std.proofs.Common.{rules, ◌≡◌, Bool, true, not, Result, Ok, refl, ap}
use Rattle.block_reader.specs.declared.stream_fault.StreamFault.{StreamFault}
use Rattle.block_reader.proofs.Begun.{fault_begun, reader_begun, stands_behind, stands_on}
use Rattle.block_reader.proofs.block_reader.BlockReader.next.Goals as goal

one_more : (more : Bool) → ◌≡◌ {A = Result Bool StreamFault} (Ok more) (Ok true) → more ≡ true
one_more more is = cc

pub returns-in-Ok-clause-handed : goal.returns-in-Ok-clause-handed
returns-in-Ok-clause-handed g c = λ is before head blocks read.
    let next = c.in-Ok.ensures.handed is before head blocks read.stands read.sound in
    record { stands = next.0; sound = next.1; no_fault = read.no_fault; not_over = ap not (one_more c.in-Ok.more is) }

pub returns-in-Ok-clause-whole : goal.returns-in-Ok-clause-whole
returns-in-Ok-clause-whole g c = λ is before head blocks read. c.in-Ok.ensures.whole is before head blocks read.stands read.sound

pub returns-in-Err-clause-refused : goal.returns-in-Err-clause-refused
returns-in-Err-clause-refused g c = λ fault is before head blocks read. c.in-Err.ensures.refused fault is before head blocks read.stands read.sound

pub returns-in-Some-clause-begun : goal.returns-in-Some-clause-begun
returns-in-Some-clause-begun g c = λ before stands. reader_begun _ c.args.self.now stands

pub returns-then-self-clause-begun : goal.returns-then-self-clause-begun
returns-then-self-clause-begun g c = λ before stands. reader_begun _ c.args.self.now stands

pub returns-in-Ok-clause-stands : goal.returns-in-Ok-clause-stands
returns-in-Ok-clause-stands g c = λ before.
    stands_on _ _ c.args.self.now _ c.in-Ok.more (search rules) c.if-self.false refl refl
    (λ e. returns-in-Ok-clause-handed g c (ap (λ more. Ok more) e) before) (λ e. returns-in-Ok-clause-whole g c (ap (λ more. Ok more) e) before)

pub returns-in-Ok-clause-begun : goal.returns-in-Ok-clause-begun
returns-in-Ok-clause-begun g c = λ before stands. reader_begun _ _ (returns-in-Ok-clause-stands g c before stands)

pub returns-in-Err-clause-stands : goal.returns-in-Err-clause-stands
returns-in-Err-clause-stands g c = λ before stands.
    let read = stands_behind _ c.args.self.now (search rules) c.if-self.false stands in
    returns-in-Err-clause-refused g c c.in-Err.fault refl before read.0 read.1 read.2

pub returns-in-Err-clause-begun : goal.returns-in-Err-clause-begun
returns-in-Err-clause-begun g c = λ before stands. fault_begun _ c.in-Err.fault (returns-in-Err-clause-stands g c before stands)
