-- The clauses, from what the bytes spell.
use Rattle.std.proofs.Common.{◌∙◌, List, Ok, Err, ap, length, subst, sym}
use Rattle.std.proofs.lemmas.Result.{err_from_is_err_and}
use Rattle.te_model.specs.declared.route.PairRoutes.{PairRoutes}
use Rattle.ratio_witness.specs.declared.fault.WitnessFault.{WitnessFault}
use Rattle.ratio_witness.specs.Reading.{SpellsWitness}
use Rattle.ratio_witness.proofs.ReadAnswers.{ReadsWitness, fault_answers, few_links, witness_answers}
use Rattle.ratio_witness.proofs.reading.read.Goals as goal

pub returns-in_err-witness : goal.returns-in_err-witness
returns-in_err-witness c =
    let h = c.args.head.now in
    let bytes = c.args.bytes.now in
    let fault = c.in_err-witness.field-0.0 in
    let p = err_from_is_err_and c.from_residual.result c.from_residual.ensures.1 in
    let spells = subst (λ (rs : List PairRoutes). SpellsWitness (length rs) (Err fault) bytes) c.as_slice.ensures c.in_err-witness.ensures in
    let answers = subst (ReadsWitness h bytes) (sym (p.1 ∙ ap (λ (f : WitnessFault). Err f) p.2)) (fault_answers h bytes fault spells) in
    record {
      spelled = answers.spelled;
      accepted = answers.accepted;
      shape = answers.shape;
      misshaped = answers.misshaped;
      rule = answers.rule;
      invalid = answers.invalid;
    }

pub returns : goal.returns
returns c =
    let h = c.args.head.now in
    let bytes = c.args.bytes.now in
    let v = c.in_ok-witness.witness in
    let spells = subst (λ (rs : List PairRoutes). SpellsWitness (length rs) (Ok v) bytes) c.as_slice.ensures c.in_ok-witness.ensures in
    let answers = witness_answers h bytes v c.keep_ruled.result (few_links h c.requires) spells c.keep_ruled.ensures in
    record {
      spelled = answers.spelled;
      accepted = answers.accepted;
      shape = answers.shape;
      misshaped = answers.misshaped;
      rule = answers.rule;
      invalid = answers.invalid;
    }
