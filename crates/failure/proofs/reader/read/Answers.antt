use Rattle.std.proofs.Common.{◌≡◌, ◌≢◌, ◌∙◌, refl, All, Ok, Err, length}
use Rattle.std.proofs.lemmas.Result.{IfOk-weaker, IfErr-weaker}
use Rattle.te_model.specs.Network.{link_count}
use Rattle.csv_records.specs.Rows.{fold_rows}
use Rattle.csv_records.proofs.RowFacts.{passed}
use Rattle.failure.specs.declared.fault.FailureFault.{FailureFault}
use Rattle.failure.specs.declared.fault.FailureFault.TheVariants as fault
use Rattle.failure.specs.File.{failures_of, with_outage_row, IsOutage}
use Rattle.failure.specs.Series.{no_failures}
use Rattle.failure.proofs.RowLemmas.{failures-of-rows}
use Rattle.failure.proofs.reader.read.Goals as goal

pub returns-in_err-read_header-clause-refused : goal.returns-in_err-read_header-clause-refused
returns-in_err-read_header-clause-refused c =
    passed _ c.in_err-read_header.field-0.0 (λ (e : FailureFault). e ≢ fault.Memory → failures_of (link_count c.args.net.now) c.args.steps c.args.bytes.now ≡ Err e) c.from_residual.ensures.1
    (λ n. rw c.new-rows.ensures at (c.in_err-read_header.ensures.refused n (link_count c.args.net.now) c.args.steps))

pub returns : goal.returns
returns c =
    let bytes = c.args.bytes.now in
    let links = link_count c.args.net.now in
    let count = length c.as_slice-links.result.now in
    let same : count ≡ links = cc in
    let said : failures_of links c.args.steps bytes ≡ fold_rows (with_outage_row count c.args.steps) no_failures 1 c.read_header.new.rows.rest = rw (← same) (failures-of-rows _ _ bytes _ _ _ (rw c.new-rows.ensures at c.in_ok-read_header.ensures.first) c.in_ok-read_header.ensures.header refl) in
    record {
      failures = IfOk-weaker c.read_outages.result _ (λ f. failures_of links c.args.steps bytes ≡ Ok f) (λ f h. said ∙ h) c.read_outages.ensures.failures;
      in_range = IfOk-weaker c.read_outages.result _ (λ f. All (IsOutage links c.args.steps) f.list) (λ f h. rw (← same) h) c.read_outages.ensures.in_range;
      refused = IfErr-weaker c.read_outages.result _ (λ e. e ≢ fault.Memory → failures_of links c.args.steps bytes ≡ Err e) (λ e h n. said ∙ h n) c.read_outages.ensures.refused;
    }
