use Rattle.std.proofs.Common.{sym}
use Rattle.csv_records.proofs.RowFacts.{no-record, no-header}
use Rattle.failure.specs.declared.fault.FailureFault.TheVariants as fault
use Rattle.failure.specs.File.{with_outage_row, is_failure_header}
use Rattle.failure.specs.Series.{no_failures}
use Rattle.failure.proofs.reader.read_header.Goals as goal
use Rattle.failure.proofs.reader.read_header.Goals.{then-not-branch-via-then-not-branch, then-not-branch-via-else-not-branch+then-not-has_header}

pub returns-then-not-branch-clause-refused : goal.returns-then-not-branch-clause-refused
returns-then-not-branch-clause-refused c = λ _ links steps.
    elim c.then-not-branch.branch [
      | then-not-branch-via-then-not-branch w ↦
          no-record (with_outage_row links steps) is_failure_header fault.Header no_failures c.args.rows.now.rest (c.in_ok-advance.ensures.ended w.if-not-branch.true)
      | then-not-branch-via-else-not-branch+then-not-has_header w ↦
          no-header (with_outage_row links steps) is_failure_header fault.Header no_failures c.args.rows.now.rest c.advance.new.self.current c.advance.new.self.rest
          (c.in_ok-advance.ensures.found w.if-not-branch.false) (sym w.if-not-has_header.ensures)
    ]

pub returns-clause-first : goal.returns-clause-first
returns-clause-first c = c.in_ok-advance.ensures.found c.if-not-branch.false

pub returns-clause-header : goal.returns-clause-header
returns-clause-header c = sym c.if-not-has_header.ensures
