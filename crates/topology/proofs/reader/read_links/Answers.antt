use Rattle.std.proofs.Common.{◌≡◌, ◌≢◌, ◌∙◌, refl, arith, Err}
use Rattle.csv_records.specs.Rows.{fold_rows}
use Rattle.csv_records.proofs.RowFacts.{rows-end, rows-fault, rows-more, passed}
use Rattle.topology.specs.Topology.{with_link_row, no_links}
use Rattle.topology.specs.declared.fault.TopologyFault.{TopologyFault}
use Rattle.topology.specs.declared.fault.TopologyFault.TheVariants as fault
use Rattle.topology.proofs.RowLemmas.{row-fault, row-link}
use Rattle.topology.proofs.reader.read_links.Goals as goal

pub links-init : goal.links-init
links-init c = rw c.requires (record { made = refl; row = omega arith; nodes = omega arith; links = omega arith })

pub returns-in_err-entry-clause-refused : goal.returns-in_err-entry-clause-refused
returns-in_err-entry-clause-refused c =
    passed _ c.in_err-entry.field-0.0 (λ (e : TopologyFault). e ≢ fault.Memory → fold_rows with_link_row no_links 1 c.args.rows.now.rest ≡ Err e) c.from_residual-in_err-entry.ensures.1
    (λ _. c.links.invariant.made ∙ rows-fault with_link_row _ _ _ _ _ _ (c.in_ok-advance.ensures.found c.if-branch.true) (row-fault c.links.draft _ _ _ c.in_err-entry.ensures.refused))

pub returns-in_err-add_link-clause-refused : goal.returns-in_err-add_link-clause-refused
returns-in_err-add_link-clause-refused c =
    passed _ c.in_err-add_link.field-0.0 (λ (e : TopologyFault). e ≢ fault.Memory → fold_rows with_link_row no_links 1 c.args.rows.now.rest ≡ Err e) c.from_residual-in_err-add_link.ensures.1
    (λ n. c.links.invariant.made ∙ rows-fault with_link_row _ _ _ _ _ _ (c.in_ok-advance.ensures.found c.if-branch.true) (row-link c.links.draft _ _ _ _ c.in_ok-entry.ensures.entry (c.in_err-add_link.ensures.refused n)))

pub links-preserved : goal.links-preserved
links-preserved c =
    let i = c.links.invariant in
    let e = c.in_ok-add_link.ensures in
    record {
      made = i.made ∙ rows-more with_link_row _ _ _ _ _ _ (c.in_ok-advance.ensures.found c.if-branch.true) (row-link c.links.draft _ _ _ _ c.in_ok-entry.ensures.entry e.added);
      row = omega (arith, i.row, e.links);
      nodes = e.nodes;
      links = e.few;
    }

pub returns-clause-links : goal.returns-clause-links
returns-clause-links c = c.links.invariant.made ∙ rows-end with_link_row _ _ _ (c.in_ok-advance.ensures.ended c.if-branch.false)
