use Rattle.std.proofs.Common.{◌≡◌, ◌≢◌, ◌∙◌, ◌⊎◌, Result, Ok, Err, refl, sym, inl, inr}
use Rattle.block_reader.specs.declared.window.State.TheVariants.{Open, Ended, Failed, TooLong}
use Rattle.block_reader.specs.declared.stream_fault.StreamFault.{StreamFault}
use Rattle.block_reader.specs.declared.stream_fault.StreamFault.TheVariants as faults
use Rattle.block_reader.specs.declared.window.State.{State}
use Rattle.block_reader.proofs.Filling.{behind_after_fill, stood_before_fill}
use Rattle.block_reader.proofs.Advancing.{fault_is}
use Rattle.block_reader.proofs.lines.Lines.fill.Goals as goal

-- a file that is too long, open or at its end has not failed
long_sound : (now shown : State) → shown ≡ now → shown ≡ TooLong → now ≢ Failed
long_sound now shown same is failed = cc

open_sound : (now shown : State) → shown ≡ now → (shown ≡ Open) ⊎ (shown ≡ Ended) → now ≢ Failed
open_sound now shown same (inl is) failed = cc
open_sound now shown same (inr is) failed = cc

long_err : ◌≡◌ {A = Result (Unit {0}) StreamFault} (Err faults.TooLong) (Err faults.Failed) → ⊥
long_err e = cc

ok_err : ◌≡◌ {A = Result (Unit {0}) StreamFault} (Ok tt) (Err faults.Failed) → ⊥
ok_err e = cc

pub returns-in-Failed-clause-behind : goal.returns-in-Failed-clause-behind
returns-in-Failed-clause-behind g c = λ before passed b.
    let fill = c.fill.ensures in
    behind_after_fill _ _ c.args.self.now _ passed fill.behind.0 fill.behind.1 fill.limit fill.closed (fill.stands before) b

pub returns-in-Failed-clause-stood : goal.returns-in-Failed-clause-stood
returns-in-Failed-clause-stood g c = λ before passed b content s.
    let fill = c.fill.ensures in
    stood_before_fill _ content c.args.self.now.window c.fill.new.self passed fill.behind.0 fill.behind.1 fill.limit fill.closed b.stands s

pub returns-in-TooLong-clause-behind : goal.returns-in-TooLong-clause-behind
returns-in-TooLong-clause-behind g c = λ before passed b.
    let fill = c.fill.ensures in
    behind_after_fill _ _ c.args.self.now _ passed fill.behind.0 fill.behind.1 fill.limit fill.closed (fill.stands before) b

pub returns-in-TooLong-clause-stood : goal.returns-in-TooLong-clause-stood
returns-in-TooLong-clause-stood g c = λ before passed b content s.
    let fill = c.fill.ensures in
    stood_before_fill _ content c.args.self.now.window c.fill.new.self passed fill.behind.0 fill.behind.1 fill.limit fill.closed b.stands s

pub returns-in-Open-clause-behind : goal.returns-in-Open-clause-behind
returns-in-Open-clause-behind g c = λ before passed b.
    let fill = c.fill.ensures in
    behind_after_fill _ _ c.args.self.now _ passed fill.behind.0 fill.behind.1 fill.limit fill.closed (fill.stands before) b

pub returns-in-Open-clause-stood : goal.returns-in-Open-clause-stood
returns-in-Open-clause-stood g c = λ before passed b content s.
    let fill = c.fill.ensures in
    stood_before_fill _ content c.args.self.now.window c.fill.new.self passed fill.behind.0 fill.behind.1 fill.limit fill.closed b.stands s

pub returns-in-Failed-clause-reads : goal.returns-in-Failed-clause-reads
returns-in-Failed-clause-reads g c =
    let fill = c.fill.ensures in
    record {
      failed = λ e. elim (fill.failed (sym c.state.ensures ∙ c.in-Failed.is)) [ inl was ↦ absurd (c.requires.well was) | inr rose ↦ rose ];
      steady = λ other. absurd (other refl);
      later = fill.later;
      added = fill.added;
      content = fill.content;
    }

pub returns-in-TooLong-clause-reads : goal.returns-in-TooLong-clause-reads
returns-in-TooLong-clause-reads g c =
    let fill = c.fill.ensures in
    record {
      failed = λ e. absurd (long_err e);
      steady = λ other. fill.steady (inl (long_sound _ c.state.result c.state.ensures c.in-TooLong.is));
      later = fill.later;
      added = fill.added;
      content = fill.content;
    }

pub returns-in-Open-clause-reads : goal.returns-in-Open-clause-reads
returns-in-Open-clause-reads g c =
    let fill = c.fill.ensures in
    record {
      failed = λ e. absurd (ok_err e);
      steady = λ other. fill.steady (inl (open_sound _ c.state.result c.state.ensures c.in-Open.is));
      later = fill.later;
      added = fill.added;
      content = fill.content;
    }

pub returns-in-Open-clause-enough : goal.returns-in-Open-clause-enough
returns-in-Open-clause-enough g c =
    elim c.in-Open.is [
      | inl now ↦ inr (c.fill.ensures.enough (sym c.state.ensures ∙ now))
      | inr now ↦ inl (sym c.state.ensures ∙ now)
    ]

pub returns-in-Failed-clause-closed : goal.returns-in-Failed-clause-closed
returns-in-Failed-clause-closed g c = λ fault is.
    inl (fault_is fault faults.Failed (sym is), sym c.state.ensures ∙ c.in-Failed.is)

pub returns-in-TooLong-clause-closed : goal.returns-in-TooLong-clause-closed
returns-in-TooLong-clause-closed g c = λ fault is.
    inr (fault_is fault faults.TooLong (sym is), sym c.state.ensures ∙ c.in-TooLong.is)
