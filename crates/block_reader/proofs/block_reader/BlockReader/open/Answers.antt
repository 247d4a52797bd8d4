use Rattle.std.proofs.Common.{◌∙◌, [], Err, refl, sym, ap, subst, le_trans}
use Rattle.std.proofs.lemmas.Result.{err_from_is_err_and}
use Rattle.te_ports.specs.Ports.{Rose}
use Rattle.te_ports.specs.Record.{pass}
use Rattle.te_ports.proofs.Giving.{adds_then}
use Rattle.block_reader.specs.declared.stream_fault.StreamFault.TheVariants.{Failed as IsFailed}
use Rattle.block_reader.specs.Blocks.{IsFaultOf}
use Rattle.block_reader.proofs.Handing.{valid_head, head_earliest}
use Rattle.block_reader.proofs.Advancing.{Judges, fault_is}
use Rattle.block_reader.proofs.Begun.{fault_begun, read_begun}
use Rattle.block_reader.proofs.Reading.{ok_sound}
use Rattle.block_reader.proofs.block_reader.BlockReader.open.Goals as goal

pub returns-in-None-clause-head : goal.returns-in-None-clause-head
returns-in-None-clause-head g c =
    let read = c.in_ok-reader.ensures in record {
      stands = read.stands;
      sound = record { sound_head = sym c.head_fault.ensures ∙ c.in-None.is; sound_blocks = refl };
      no_fault = read.fresh.0;
      not_over = read.fresh.1;
    }

pub returns-in-None-clause-valid : goal.returns-in-None-clause-valid
returns-in-None-clause-valid g c = valid_head c.in_ok-reader.head c.in_ok-reader.ensures.stands.of_head.fits (sym c.head_fault.ensures ∙ c.in-None.is)

pub returns-in-Some-clause-refused : goal.returns-in-Some-clause-refused
returns-in-Some-clause-refused g c = λ fault same.
    let read = c.in_ok-reader.ensures in
    let judged = subst (λ n. Judges (pass n (g.D.Depot.gave c.args.depot.now) (g.D.Depot.gave c.read_head.new.depot)) (pass n (g.D.Depot.gave c.args.depot.now) (g.D.Depot.gave c.judge_rest.new.depot)) c.in_ok-reader.reader.blocks c.in-Some.fault c.judge_rest.result)
    read.name (c.judge_rest.ensures.refused _) in
    subst (IsFaultOf _) (fault_is c.judge_rest.result fault same)
    (judged c.in_ok-reader.head [] read.stands (head_earliest c.in_ok-reader.head c.in-Some.fault (sym c.head_fault.ensures ∙ c.in-Some.is)))

pub returns-in-Some-clause-steady : goal.returns-in-Some-clause-steady
returns-in-Some-clause-steady g c = λ other.
    c.judge_rest.ensures.reads.steady (λ e. other (ap (λ f. Err f) (fault_is c.judge_rest.result IsFailed e)))
    ∙ c.in_ok-reader.ensures.reads.steady (ok_sound _)

pub returns-in-Some-clause-failed : goal.returns-in-Some-clause-failed
returns-in-Some-clause-failed g c = λ e.
    let read = c.in_ok-reader.ensures in
    let name = c.args.name.now in
    let rose = rw read.name at (c.judge_rest.ensures.reads.failed (ap (λ f. Err f) (fault_is c.judge_rest.result IsFailed e))) in
    subst (λ f. Rose (f name) (g.D.Depot.faults c.judge_rest.new.depot name)) (read.reads.steady (ok_sound _)) rose

pub returns-in_err-reader-clause-refused : goal.returns-in_err-reader-clause-refused
returns-in_err-reader-clause-refused g c =
    let p = err_from_is_err_and c.from_residual.result c.from_residual.ensures.1 in
    let f = c.in_err-reader.field-0.0 in
    rw (p.1, p.2) (λ fault is. subst (IsFaultOf _) (fault_is f fault is) (c.in_err-reader.ensures.refused f refl))

pub returns-in_err-reader-clause-failed : goal.returns-in_err-reader-clause-failed
returns-in_err-reader-clause-failed g c =
    let p = err_from_is_err_and c.from_residual.result c.from_residual.ensures.1 in
    rw (p.1, p.2) (λ e. c.in_err-reader.ensures.reads.failed (ap (λ f. Err f) (fault_is c.in_err-reader.field-0.0 IsFailed e)))

pub returns-in_err-reader-clause-steady : goal.returns-in_err-reader-clause-steady
returns-in_err-reader-clause-steady g c =
    let p = err_from_is_err_and c.from_residual.result c.from_residual.ensures.1 in
    rw (p.1, p.2) (λ other. c.in_err-reader.ensures.reads.steady (λ e. other (ap (λ f. Err f) (fault_is c.in_err-reader.field-0.0 IsFailed e))))

pub returns-in-Some-clause-later : goal.returns-in-Some-clause-later
returns-in-Some-clause-later g c = λ other. le_trans (c.in_ok-reader.ensures.reads.later other) (c.judge_rest.ensures.reads.later other)

pub returns-in-Some-clause-added : goal.returns-in-Some-clause-added
returns-in-Some-clause-added g c = adds_then _ _ _ _ _ c.in_ok-reader.ensures.reads.content c.in_ok-reader.ensures.reads.added c.judge_rest.ensures.reads.added

pub returns-in-Some-clause-content : goal.returns-in-Some-clause-content
returns-in-Some-clause-content g c = c.judge_rest.ensures.reads.content ∙ c.in_ok-reader.ensures.reads.content

pub returns-in-None-clause-of_head : goal.returns-in-None-clause-of_head
returns-in-None-clause-of_head g c = c.in_ok-reader.ensures.stands.of_head

pub returns-in-None-clause-steady : goal.returns-in-None-clause-steady
returns-in-None-clause-steady g c = λ other. c.in_ok-reader.ensures.reads.steady (ok_sound _)

pub returns-in-None-clause-later : goal.returns-in-None-clause-later
returns-in-None-clause-later g c = c.in_ok-reader.ensures.reads.later

pub returns-in-None-clause-added : goal.returns-in-None-clause-added
returns-in-None-clause-added g c = c.in_ok-reader.ensures.reads.added

pub returns-in-None-clause-content : goal.returns-in-None-clause-content
returns-in-None-clause-content g c = c.in_ok-reader.ensures.reads.content

pub returns-in_err-reader-clause-begun : goal.returns-in_err-reader-clause-begun
returns-in_err-reader-clause-begun g c = fault_begun _ c.in_err-reader.field-0.0 (c.in_err-reader.ensures.refused c.in_err-reader.field-0.0 refl)

pub returns-in-None-clause-begun : goal.returns-in-None-clause-begun
returns-in-None-clause-begun g c = read_begun _ _ _ [] (returns-in-None-clause-head g c)

pub returns-in-Some-clause-begun : goal.returns-in-Some-clause-begun
returns-in-Some-clause-begun g c = fault_begun _ c.judge_rest.result (returns-in-Some-clause-refused g c c.judge_rest.result refl)
