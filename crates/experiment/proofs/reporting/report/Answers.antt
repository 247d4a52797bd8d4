use Rattle.std.proofs.Common.{◌∙◌, ◌<◌, arith, List, [], ◌∷◌, ◌++◌, ap, sym, subst, get_or, take, length}
use Rattle.std.proofs.lemmas.List.{take_more}
use Rattle.plan.specs.declared.scheme_name.SchemeName.{SchemeName}
use Rattle.plan.specs.declared.scheme_name.SchemeName.TheVariants.{Spf}
use Rattle.experiment.specs.Report.{IsReportOfSchemes}
use Rattle.experiment.proofs.Reports.{report_more}
use Rattle.experiment.proofs.SchemeTexts.{text_read}
use Rattle.experiment.proofs.reporting.report.Goals as goal

pub shared_texts-requires : goal.shared_texts-requires
shared_texts-requires c = record { input = record { plan = c.requires.plan; network = c.requires.network; traffic = c.requires.traffic } }

pub text_place-requires-clause-input : goal.text_place-requires-clause-input
text_place-requires-clause-input c = record { plan = c.requires.plan; network = c.requires.network; traffic = c.requires.traffic }

pub text_place-requires-clause-texts : goal.text_place-requires-clause-texts
text_place-requires-clause-texts c = c.loop-name.invariant.texts

pub index-requires : goal.index-requires
index-requires c = omega (arith, c.in_ok-place.ensures.place.0, c.text_place.new.texts.ok.0)

pub loop-name-preserved : goal.loop-name-preserved
loop-name-preserved c =
    let plan = c.args.plan.now in
    let names = plan.schemes in
    let i = c.loop-name.name-index in
    let same = c.as_slice-name-items.ensures in
    let place = c.in_ok-place.ensures.place in
    let name = get_or c.as_slice-name-items.result.now i Spf in
    let lines = text_read (record { plan = c.args.plan; network = c.args.network; traffic = c.args.traffic; failures = c.args.failures })
    c.text_place.new.texts.items c.in_ok-place.place c.index.result.now name place.0 c.in_ok-place.ensures.texts place.1 c.index.ensures in
    let before = c.loop-name.text.items in
    let inside : i < length names = subst (λ (ns : List SchemeName). i < length ns) same c.loop-name-test.true in
    let one_more = ap (λ (ns : List SchemeName). take i names ++ get_or ns i Spf ∷ []) same ∙ sym (take_more names i Spf inside) in
    record {
      written = subst (λ (ns : List SchemeName). IsReportOfSchemes ns plan c.args.network.now c.args.traffic.now c.args.failures.now c.extend_from_slice.new.self.items) one_more
          (report_more plan c.args.network.now c.args.traffic.now c.args.failures.now (take i names) name before
          c.extend_from_slice.new.self.items lines.0 c.loop-name.invariant.written lines.1
          (c.in_ok-extend_from_slice.ensures.items ∙ ap (λ l. before ++ l) (c.as_slice.ensures.value ∙ lines.2)));
      texts = c.in_ok-place.ensures.texts;
    }
