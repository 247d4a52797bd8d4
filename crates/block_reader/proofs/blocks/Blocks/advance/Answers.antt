use Rattle.std.proofs.Common.{[], ◌∷◌, ◌++◌, Err, true, false, ap, refl, subst}
use Rattle.std.specs.Prelude.{string_bytes}
use Rattle.std.proofs.lemmas.Result.{err_from_is_err_and}
use Rattle.te_ports.specs.Record.{pass}
use Rattle.block_reader.specs.Blocks.{IsFaultOf}
use Rattle.block_reader.proofs.Handing.{sound_text}
use Rattle.block_reader.proofs.Advancing.{Judges, fault_is, follows_of, valid_of, sound_next, fault_next, same_room_then}
use Rattle.block_reader.proofs.Reading.{reads_then, reads_as, reads_err}
use Rattle.block_reader.proofs.blocks.Blocks.advance.Goals as goal

pub returns-in_err-read_end-clause-refused : goal.returns-in_err-read_end-clause-refused
returns-in_err-read_end-clause-refused g c =
    let p = err_from_is_err_and c.from_residual.result c.from_residual.ensures.1 in
    rw (p.1, p.2) (λ fault is before head blocks are sound.
    subst (IsFaultOf _) (fault_is c.in_err-read_end.field-0.0 fault is)
    (c.in_err-read_end.ensures.refused c.in_err-read_end.field-0.0 refl before head blocks are))

pub returns-then-self-eq0-clause-whole : goal.returns-then-self-eq0-clause-whole
returns-then-self-eq0-clause-whole g c = λ is before head blocks are sound.
    sound_text _ head blocks (c.in_ok-read_end.ensures.whole before head blocks are) sound

pub returns-in_err-read_next-clause-refused : goal.returns-in_err-read_next-clause-refused
returns-in_err-read_next-clause-refused g c =
    let p = err_from_is_err_and c.from_residual-in_err-read_next.result c.from_residual-in_err-read_next.ensures.1 in
    rw (p.1, p.2) (λ fault is before head blocks are sound.
    subst (IsFaultOf _) (fault_is c.in_err-read_next.field-0.0 fault is)
    (c.in_err-read_next.ensures.refused c.in_err-read_next.field-0.0 refl before head blocks are))

pub returns-in-None-clause-handed : goal.returns-in-None-clause-handed
returns-in-None-clause-handed g c = λ is before head blocks are sound.
    let next = c.in_ok-read_next.ensures in (
      next.handed before head blocks are,
      sound_next _ c.args.self.now c.read_next.new.self head blocks c.in_ok-read_next.field-0 are next.fault c.in-None.is sound,
    )

pub returns-in-None-clause-valid : goal.returns-in-None-clause-valid
returns-in-None-clause-valid g c = λ is head are.
    let next = c.in_ok-read_next.ensures in
    valid_of c.args.self.now head c.read_next.new.self.room.block c.in_ok-read_next.field-0 next.fits next.fault c.in-None.is are

pub returns-in-None-clause-ascends : goal.returns-in-None-clause-ascends
returns-in-None-clause-ascends g c = λ is.
    let old = c.args.self.now in
    follows_of old.room.counts old.before old.place c.read_next.new.self.room.block c.in_ok-read_next.field-0 c.in_ok-read_next.ensures.fault c.in-None.is

pub returns-in-Some-clause-refused : goal.returns-in-Some-clause-refused
returns-in-Some-clause-refused g c = λ fault is before head blocks are sound.
    let next = c.in_ok-read_next.ensures in
    let new = c.read_next.new.self in
    let judged = subst (λ n. Judges (pass n before (g.D.Depot.gave c.read_next.new.depot)) (pass n before (g.D.Depot.gave c.judge_rest.new.depot)) c.read_next.new.self c.in-Some.fault c.judge_rest.result)
    (ap string_bytes next.room.name) (c.judge_rest.ensures.refused before) in
    subst (IsFaultOf _) (fault_is c.judge_rest.result fault is)
    (judged head (blocks ++ new.room.block ∷ []) (next.handed before head blocks are)
    (fault_next _ c.args.self.now new head blocks c.in_ok-read_next.field-0 c.in-Some.fault are next.fault c.in-Some.is sound))

pub returns-in_err-read_end-clause-reads : goal.returns-in_err-read_end-clause-reads
returns-in_err-read_end-clause-reads g c =
    let p = err_from_is_err_and c.from_residual.result c.from_residual.ensures.1 in
    rw (p.1, p.2) (reads_err _ _ _ c.in_err-read_end.field-0.0 c.in_err-read_end.ensures.reads)

pub returns-then-self-eq0-clause-reads : goal.returns-then-self-eq0-clause-reads
returns-then-self-eq0-clause-reads g c = reads_as _ _ _ tt false c.in_ok-read_end.ensures.reads

pub returns-in_err-read_next-clause-reads : goal.returns-in_err-read_next-clause-reads
returns-in_err-read_next-clause-reads g c =
    let p = err_from_is_err_and c.from_residual-in_err-read_next.result c.from_residual-in_err-read_next.ensures.1 in
    rw (p.1, p.2) (reads_err _ _ _ c.in_err-read_next.field-0.0 c.in_err-read_next.ensures.reads)

pub returns-in-None-clause-reads : goal.returns-in-None-clause-reads
returns-in-None-clause-reads g c = reads_as _ _ _ c.in_ok-read_next.field-0 true c.in_ok-read_next.ensures.reads

pub returns-in-Some-clause-reads : goal.returns-in-Some-clause-reads
returns-in-Some-clause-reads g c =
    let next = c.in_ok-read_next.ensures in
    reads_then _ _ _ _ c.in_ok-read_next.field-0 (Err c.judge_rest.result) next.reads (reads_err _ _ _ c.judge_rest.result (rw next.room.name at c.judge_rest.ensures.reads))

pub returns-in-Some-clause-room : goal.returns-in-Some-clause-room
returns-in-Some-clause-room g c = same_room_then c.args.self.now c.read_next.new.self c.judge_rest.new.self c.in_ok-read_next.ensures.room c.judge_rest.ensures.room
