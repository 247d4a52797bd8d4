use Rattle.std.proofs.Common.{List, Ok, Err, ap, refl, subst}
use Rattle.std.specs.Prelude.{string_bytes}
use Rattle.std.proofs.lemmas.Result.{err_from_is_err_and}
use Rattle.te_ports.specs.Record.{Read, pass}
use Rattle.block_reader.specs.Blocks.{IsFaultOf}
use Rattle.block_reader.proofs.Handing.{rule_refused}
use Rattle.block_reader.proofs.Advancing.{Refuses, Hands, Ends, fault_is, same_room_then, carries_on}
use Rattle.block_reader.proofs.Reading.{reads_then, reads_as, reads_err}
use Rattle.block_reader.proofs.blocks.Blocks.earliest.Goals as goal

pub returns-in_err-fault-clause-refused : goal.returns-in_err-fault-clause-refused
returns-in_err-fault-clause-refused g c =
    let p = err_from_is_err_and c.from_residual.result c.from_residual.ensures.1 in
    let all = c.rest.invariant in
    let f = c.in_err-fault.field-0.0 in
    let refused = subst (λ n. (before : List Read) → Refuses (pass n before (g.D.Depot.gave c.rest.depot)) (pass n before (g.D.Depot.gave c.read_next.new.depot)) c.rest.self f) (ap string_bytes all.1.name)
    (c.in_err-fault.ensures.refused f refl) in
    rw (p.1, p.2) (λ fault is before head blocks are.
    let so_far = all.3 before head blocks are in
    subst (IsFaultOf _) (fault_is f fault is) (refused before head so_far.0 so_far.1))

pub rest-preserved : goal.rest-preserved
rest-preserved g c =
    let all = c.rest.invariant in
    let next = c.in_ok-fault.ensures in (
      next.well,
      same_room_then c.args.self.now c.rest.self c.read_next.new.self all.1 next.room,
      reads_then _ _ _ _ tt (Ok tt) all.2 (reads_as _ _ _ c.in_ok-fault.fault tt (rw all.1.name at next.reads)),
      (λ before. carries_on _ _ _ c.args.self.now c.rest.self c.read_next.new.self c.args.first c.rest.earliest c.earlier-earliest.result c.in_ok-fault.fault (all.3 before)
          (subst (λ n. Hands (pass n before (g.D.Depot.gave c.rest.depot)) (pass n before (g.D.Depot.gave c.read_next.new.depot)) c.rest.self c.read_next.new.self) (ap string_bytes all.1.name) (next.handed before))
          next.fault c.earlier-earliest.ensures),
    )

pub returns-in_err-read_end-clause-refused : goal.returns-in_err-read_end-clause-refused
returns-in_err-read_end-clause-refused g c =
    let p = err_from_is_err_and c.from_residual-in_err-read_end.result c.from_residual-in_err-read_end.ensures.1 in
    let all = c.rest.invariant in
    let f = c.in_err-read_end.field-0.0 in
    let refused = subst (λ n. (before : List Read) → Refuses (pass n before (g.D.Depot.gave c.rest.depot)) (pass n before (g.D.Depot.gave c.read_end.new.depot)) c.rest.self f) (ap string_bytes all.1.name)
    (c.in_err-read_end.ensures.refused f refl) in
    rw (p.1, p.2) (λ fault is before head blocks are.
    let so_far = all.3 before head blocks are in
    subst (IsFaultOf _) (fault_is f fault is) (refused before head so_far.0 so_far.1))

pub returns-clause-rule : goal.returns-clause-rule
returns-clause-rule g c = λ before head blocks are first.
    let all = c.rest.invariant in
    let so_far = all.3 before head blocks are in
    let ends = subst (λ n. Ends (pass n before (g.D.Depot.gave c.rest.depot)) (pass n before (g.D.Depot.gave c.read_end.new.depot)) c.rest.self) (ap string_bytes all.1.name) (c.in_ok-read_end.ensures.whole before) in
    rule_refused _ head so_far.0 c.rest.earliest (ends head so_far.0 so_far.1) (so_far.2 first)

pub returns-in_err-fault-clause-reads : goal.returns-in_err-fault-clause-reads
returns-in_err-fault-clause-reads g c =
    let p = err_from_is_err_and c.from_residual.result c.from_residual.ensures.1 in
    let all = c.rest.invariant in
    let f = c.in_err-fault.field-0.0 in
    rw (p.1, p.2) (reads_then _ _ _ _ tt (Err f) all.2 (reads_err _ _ _ f (rw all.1.name at c.in_err-fault.ensures.reads)))

pub returns-in_err-read_end-clause-reads : goal.returns-in_err-read_end-clause-reads
returns-in_err-read_end-clause-reads g c =
    let p = err_from_is_err_and c.from_residual-in_err-read_end.result c.from_residual-in_err-read_end.ensures.1 in
    let all = c.rest.invariant in
    let f = c.in_err-read_end.field-0.0 in
    rw (p.1, p.2) (reads_then _ _ _ _ tt (Err f) all.2 (reads_err _ _ _ f (rw all.1.name at c.in_err-read_end.ensures.reads)))

pub returns-clause-reads : goal.returns-clause-reads
returns-clause-reads g c =
    let all = c.rest.invariant in
    reads_then _ _ _ _ tt (Ok c.rest.earliest) all.2 (reads_as _ _ _ tt c.rest.earliest (rw all.1.name at c.in_ok-read_end.ensures.reads))
