use Rattle.std.proofs.Common.{sym}
use Rattle.csv_records.proofs.RowFacts.{no-record, no-header}
use Rattle.topology.specs.Topology.{with_link_row, is_topology_header, no_links}
use Rattle.topology.specs.declared.fault.TopologyFault.TheVariants as fault
use Rattle.topology.proofs.reader.read_header.Goals as goal
use Rattle.topology.proofs.reader.read_header.Goals.{then-not-branch-via-then-not-branch, then-not-branch-via-else-not-branch+then-not-has_header}

pub returns-then-not-branch-clause-refused : goal.returns-then-not-branch-clause-refused
returns-then-not-branch-clause-refused c = λ _. elim c.then-not-branch.branch [
  | then-not-branch-via-then-not-branch w ↦
      no-record with_link_row is_topology_header fault.Header no_links c.args.rows.now.rest (c.in_ok-advance.ensures.ended w.if-not-branch.true)
  | then-not-branch-via-else-not-branch+then-not-has_header w ↦
      no-header with_link_row is_topology_header fault.Header no_links c.args.rows.now.rest c.advance.new.self.current c.advance.new.self.rest
      (c.in_ok-advance.ensures.found w.if-not-branch.false) (sym w.if-not-has_header.ensures)
]

pub returns-clause-first : goal.returns-clause-first
returns-clause-first c = c.in_ok-advance.ensures.found c.if-not-branch.false

pub returns-clause-header : goal.returns-clause-header
returns-clause-header c = sym c.if-not-has_header.ensures
