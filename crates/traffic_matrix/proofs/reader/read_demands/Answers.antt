use Rattle.std.proofs.Common.{ap, arith, length}
use Rattle.csv_records.specs.Table.{Table}
use Rattle.csv_records.proofs.RecordLemmas.{few-records}
use Rattle.traffic_matrix.proofs.reader.read_demands.Goals as goal

pub read_table-requires-clause-few : goal.read_table-requires-clause-few
read_table-requires-clause-few c =
    omega (arith, ap (λ (t : Table). length t.rest) c.new-rows.ensures, few-records c.args.bytes.now)
