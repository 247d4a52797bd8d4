use Rattle.std.proofs.Common.{◌≡◌, ◌≤◌, ◌+◌, length}
use Rattle.te_model.specs.declared.limits.TheConstants.{MAX_LINKS, MAX_NODES}
use Rattle.csv_records.specs.Rows.{fold_rows}
use Rattle.topology.specs.Topology.{with_link_row, no_links}
use Rattle.topology.proofs.reader.read_links.Given as goal

-- what the rows that are left add to the network so far is what all of them make
abbrev pub invariant-links : goal.invariant-links
invariant-links l = record {
  made : fold_rows with_link_row no_links 1 l.fn.rows.rest ≡ fold_rows with_link_row l.draft l.row l.rows.rest;
  row : l.row ≡ length l.draft.links + 1;
  nodes : length l.draft.names ≤ MAX_NODES;
  links : length l.draft.links ≤ MAX_LINKS;
}

abbrev pub decreases-links : goal.decreases-links
decreases-links l = length l.rows.rest
