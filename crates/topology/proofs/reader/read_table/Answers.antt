use Rattle.std.proofs.Common.{◌≡◌, ◌≢◌, ◌∙◌, Ok, Err, ap}
use Rattle.std.proofs.lemmas.Result.{IfOk-weaker, IfErr-weaker}
use Rattle.csv_records.specs.Rows.{and_then, fold_table}
use Rattle.csv_records.proofs.RowFacts.{passed}
use Rattle.topology.specs.Topology.{closed_network, is_topology_header, no_links, with_link_row}
use Rattle.topology.specs.declared.fault.TopologyFault.{TopologyFault}
use Rattle.topology.specs.declared.fault.TopologyFault.TheVariants as fault
use Rattle.topology.proofs.RowLemmas.{made-of-records}
use Rattle.topology.proofs.reader.read_table.Goals as goal

pub returns-in_err-read_header-clause-refused : goal.returns-in_err-read_header-clause-refused
returns-in_err-read_header-clause-refused c =
    passed _ c.in_err-read_header.field-0.0
    (λ (e : TopologyFault). e ≢ fault.Memory → and_then closed_network (fold_table is_topology_header fault.Header with_link_row no_links c.args.rows.now.rest) ≡ Err e)
    c.from_residual.ensures.1
    (λ n. ap (and_then closed_network) (c.in_err-read_header.ensures.refused n))

pub returns-in_err-read_links-clause-refused : goal.returns-in_err-read_links-clause-refused
returns-in_err-read_links-clause-refused c =
    passed _ c.in_err-read_links.field-0.0
    (λ (e : TopologyFault). e ≢ fault.Memory → and_then closed_network (fold_table is_topology_header fault.Header with_link_row no_links c.args.rows.now.rest) ≡ Err e)
    c.from_residual-in_err-read_links.ensures.1
    (λ n. made-of-records _ _ _ _ c.in_ok-read_header.ensures.first c.in_ok-read_header.ensures.header (c.in_err-read_links.ensures.refused n))

pub returns : goal.returns
returns c =
    let records = c.args.rows.now.rest in
    let made : and_then closed_network (fold_table is_topology_header fault.Header with_link_row no_links records) ≡ closed_network c.read_links.new.draft =
    made-of-records records _ _ _ c.in_ok-read_header.ensures.first c.in_ok-read_header.ensures.header c.in_ok-read_links.ensures.links in
    record {
      network = IfOk-weaker c.close.result _ (λ net. and_then closed_network (fold_table is_topology_header fault.Header with_link_row no_links records) ≡ Ok net) (λ net h. made ∙ h)
          c.close.ensures.network;
      refused = IfErr-weaker c.close.result _
          (λ e. e ≢ fault.Memory → and_then closed_network (fold_table is_topology_header fault.Header with_link_row no_links records) ≡ Err e) (λ e h n. made ∙ h n)
          c.close.ensures.refused;
    }
