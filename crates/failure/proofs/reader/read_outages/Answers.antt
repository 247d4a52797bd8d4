use Rattle.std.proofs.Common.{◌≡◌, ◌≢◌, ◌∙◌, refl, arith, [], Err}
use Rattle.std.proofs.lemmas.List.Elements.{All-append, All-cons}
use Rattle.csv_records.specs.Rows.{fold_rows}
use Rattle.csv_records.proofs.RowFacts.{rows-end, rows-fault, rows-more, passed}
use Rattle.failure.specs.declared.fault.FailureFault.{FailureFault}
use Rattle.failure.specs.declared.fault.FailureFault.TheVariants as fault
use Rattle.failure.specs.File.{with_outage_row, IsOutage}
use Rattle.failure.specs.Series.{no_failures}
use Rattle.failure.proofs.RowLemmas.{row-added, row-refused}
use Rattle.failure.proofs.reader.read_outages.Goals as goal

pub loop-list-init : goal.loop-list-init
loop-list-init c = record {
  said = rw c.new-list.ensures.items refl;
  row = omega (arith, c.new-list.ensures.len);
  each = rw c.new-list.ensures.items (λ k d l. absurd (omega arith));
}

pub returns-in_err-outage-clause-refused : goal.returns-in_err-outage-clause-refused
returns-in_err-outage-clause-refused c =
    let step = with_outage_row c.args.links c.args.steps in
    passed _ c.in_err-outage.field-0.0 (λ (e : FailureFault). e ≢ fault.Memory → fold_rows step no_failures 1 c.args.rows.now.rest ≡ Err e) c.from_residual-in_err-outage.ensures.1
    (λ _. c.loop-list.invariant.said ∙ rows-fault step _ _ _ _ _ _ (c.in_ok-advance.ensures.found c.if-branch.true) (row-refused _ _ _ _ _ _ c.in_err-outage.ensures.refused))

pub loop-list-preserved : goal.loop-list-preserved
loop-list-preserved c =
    let i = c.loop-list.invariant in
    let pushed = c.in_ok-push.ensures in
    record {
      said = rw pushed.items (i.said ∙ rows-more (with_outage_row c.args.links c.args.steps) _ _ _ _ _ _ (c.in_ok-advance.ensures.found c.if-branch.true) (row-added _ _ _ _ _ _ c.in_ok-outage.ensures.outage));
      row = omega (arith, pushed.len);
      each =
          let each = IsOutage c.args.links c.args.steps in
          rw pushed.items (All-append each _ _ i.each (All-cons each c.in_ok-outage.outage [] c.in_ok-outage.ensures.in_range (λ k d l. absurd (omega arith))));
    }

pub returns-clause-failures : goal.returns-clause-failures
returns-clause-failures c =
    rw c.new.ensures (c.loop-list.invariant.said ∙ rows-end (with_outage_row c.args.links c.args.steps) _ _ _ (c.in_ok-advance.ensures.ended c.if-branch.false))
