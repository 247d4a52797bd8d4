use Rattle.std.proofs.Common.{◌≡◌, ◌≢◌, Err}
use Rattle.csv_records.proofs.RowFacts.{passed}
use Rattle.traffic_matrix.specs.declared.fault.MatrixFault.{MatrixFault}
use Rattle.traffic_matrix.specs.declared.fault.MatrixFault.TheVariants as fault
use Rattle.traffic_matrix.specs.Rows.{series_in}
use Rattle.traffic_matrix.proofs.Reading.{series-refused, series-made}
use Rattle.traffic_matrix.proofs.LimitLemmas.{series-in-range}
use Rattle.traffic_matrix.proofs.reader.read.Goals as goal

pub returns-in_err-demands-clause-refused : goal.returns-in_err-demands-clause-refused
returns-in_err-demands-clause-refused c =
    let net = c.args.net.now in
    let bytes = c.args.bytes.now in
    let e = c.in_err-demands.field-0.0 in
    passed _ e (λ (e : MatrixFault). e ≢ fault.Memory → series_in net bytes ≡ Err e) c.from_residual.ensures.1
    (λ other. series-refused net bytes e (c.in_err-demands.ensures.refused other))

pub returns-clause-series : goal.returns-clause-series
returns-clause-series c =
    let (entries, made, shows) = c.in_ok-demands.ensures.entries in
    series-made c.args.net.now c.args.bytes.now c.in_ok-demands.demands entries c.in_ok-series.field-0 made shows c.in_ok-demands.ensures.nodes c.in_ok-series.ensures

pub returns-clause-in_range : goal.returns-clause-in_range
returns-clause-in_range c =
    let (entries, made, shows) = c.in_ok-demands.ensures.entries in
    series-in-range c.args.net.now c.args.bytes.now c.in_ok-series.field-0
    (series-made c.args.net.now c.args.bytes.now c.in_ok-demands.demands entries c.in_ok-series.field-0 made shows c.in_ok-demands.ensures.nodes c.in_ok-series.ensures)
