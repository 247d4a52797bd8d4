use Rattle.std.proofs.Common.{◌≡◌, ◌∙◌, ◌++◌, ℕ, List, All, ap, subst, sym}
use Rattle.te_model.specs.declared.route.Pair.{Pair}
use Rattle.te_model.specs.Network.{node_count}
use Rattle.te_model.specs.Pairs.{AscendPairs, IsPairAmong}
use Rattle.local_recovery.specs.Rates.{pairs_of}
use Rattle.routing.specs.Routes.{IsRoutingOf}
use Rattle.traffic_matrix.specs.declared.series.Series.{Series}
use Rattle.traffic_matrix.specs.Limits.{IsSeries}
use Rattle.traffic_matrix.specs.Outside.{AreAmong}
use Rattle.traffic_matrix.specs.Traffic.{with_pairs}
use Rattle.series_simulation.specs.KeptRouting.{AreKeptRows}
use Rattle.experiment.specs.Text.{header}
use Rattle.certificate_simulation.specs.Report.{routed_series}
use Rattle.certificate_simulation.proofs.report.report_by.Goals as goal

pub with_pairs-requires-clause-series : goal.with_pairs-requires-clause-series
with_pairs-requires-clause-series c =
    let same : c.as_slice-declared.result.now ≡ pairs_of c.args.routing.now.routes =
    c.as_slice-declared.ensures.value ∙ (c.in_ok-pairs.ensures ∙ ap pairs_of c.as_slice-routes.ensures)
    in
    let n = node_count c.args.network.now in
    (n, c.requires.series, subst (All (IsPairAmong n)) (sym same) c.requires.pairs.pairs)

pub with_pairs-requires-clause-among : goal.with_pairs-requires-clause-among
with_pairs-requires-clause-among c =
    let same : c.as_slice-declared.result.now ≡ pairs_of c.args.routing.now.routes =
    c.as_slice-declared.ensures.value ∙ (c.in_ok-pairs.ensures ∙ ap pairs_of c.as_slice-routes.ensures)
    in
    subst (λ (ps : List Pair). AreAmong c.args.series.now.pairs.list ps) (sym same) c.requires.among

pub with_pairs-requires-clause-ascending : goal.with_pairs-requires-clause-ascending
with_pairs-requires-clause-ascending c =
    let same : c.as_slice-declared.result.now ≡ pairs_of c.args.routing.now.routes =
    c.as_slice-declared.ensures.value ∙ (c.in_ok-pairs.ensures ∙ ap pairs_of c.as_slice-routes.ensures)
    in
    subst AscendPairs (sym same) c.requires.pairs.ascending

pub lines_by-requires-clause-whole : goal.lines_by-requires-clause-whole
lines_by-requires-clause-whole c =
    let whole : c.in_ok-whole.whole ≡ routed_series c.args.routing.now.routes c.args.series.now =
    c.in_ok-whole.ensures.series ∙ ap (λ (ps : List Pair). with_pairs ps c.args.series.now)
    (c.as_slice-declared.ensures.value ∙ (c.in_ok-pairs.ensures ∙ ap pairs_of c.as_slice-routes.ensures))
    in
    subst (IsSeries (node_count c.args.network.now)) (sym whole) c.requires.pairs

pub lines_by-requires-clause-routing : goal.lines_by-requires-clause-routing
lines_by-requires-clause-routing c =
    let whole : c.in_ok-whole.whole ≡ routed_series c.args.routing.now.routes c.args.series.now =
    c.in_ok-whole.ensures.series ∙ ap (λ (ps : List Pair). with_pairs ps c.args.series.now)
    (c.as_slice-declared.ensures.value ∙ (c.in_ok-pairs.ensures ∙ ap pairs_of c.as_slice-routes.ensures))
    in
    subst (λ (s : Series). IsRoutingOf c.args.network.now s.pairs.list c.args.routing.now.routes) (sym whole) c.requires.routing

pub returns : goal.returns
returns c =
    let net = c.args.network.now in
    let routes = c.args.routing.now.routes in
    let lines = c.in_ok-lines.ensures in
    let whole : c.in_ok-whole.whole ≡ routed_series routes c.args.series.now =
    c.in_ok-whole.ensures.series ∙ ap (λ (ps : List Pair). with_pairs ps c.args.series.now)
    (c.as_slice-declared.ensures.value ∙ (c.in_ok-pairs.ensures ∙ ap pairs_of c.as_slice-routes.ensures))
    in
    record {
      rows = lines.0;
      are_rows = subst (λ (s : Series). AreKeptRows routes net s c.args.failures.now c.args.recovery lines.0) whole lines.1;
      text_is = c.in_ok-extend_from_slice.ensures.items
          ∙ (ap (λ (t : List ℕ). t ++ c.as_slice.result.now) (c.in_ok-text.ensures.items ∙ (c.as_bytes.ensures.value ∙ c.report_header.ensures))
          ∙ ap (λ (l : List ℕ). header ++ l) (c.as_slice.ensures.value ∙ lines.2));
    }
