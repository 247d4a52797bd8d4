use Rattle.plan.specs.declared.scheme_name.SchemeName.TheVariants.{Spf, Ecmp, Ksp, Mcf, Racke, Smore, Valiant, Robust}
use Rattle.experiment.proofs.ByName.{lines_by_word}
use Rattle.experiment.proofs.scheme_texts.lines_by_name.Goals as goal

pub returns-in-Spf : goal.returns-in-Spf
returns-in-Spf c =
    lines_by_word c.args.name Spf c.args.input.now.plan.now c.args.input.now.network.now c.args.input.now.traffic.now c.args.input.now.failures.now c.word-word.result.now c.in-Spf.is
    c.word-word.ensures.word (λ text. text.items) c.lines_of.result c.lines_of.ensures

pub returns-in-Ecmp : goal.returns-in-Ecmp
returns-in-Ecmp c =
    lines_by_word c.args.name Ecmp c.args.input.now.plan.now c.args.input.now.network.now c.args.input.now.traffic.now c.args.input.now.failures.now c.word-word.result.now c.in-Ecmp.is
    c.word-word.ensures.word (λ text. text.items) c.lines_of-in-Ecmp.result c.lines_of-in-Ecmp.ensures

pub returns-in-Ksp : goal.returns-in-Ksp
returns-in-Ksp c =
    lines_by_word c.args.name Ksp c.args.input.now.plan.now c.args.input.now.network.now c.args.input.now.traffic.now c.args.input.now.failures.now c.word-word.result.now c.in-Ksp.is
    c.word-word.ensures.word (λ text. text.items) c.lines_of-in-Ksp.result c.lines_of-in-Ksp.ensures

pub returns-in-Mcf : goal.returns-in-Mcf
returns-in-Mcf c =
    lines_by_word c.args.name Mcf c.args.input.now.plan.now c.args.input.now.network.now c.args.input.now.traffic.now c.args.input.now.failures.now c.word-word.result.now c.in-Mcf.is
    c.word-word.ensures.word (λ text. text.items) c.lines_of-in-Mcf.result c.lines_of-in-Mcf.ensures

pub returns-in-Racke : goal.returns-in-Racke
returns-in-Racke c =
    lines_by_word c.args.name Racke c.args.input.now.plan.now c.args.input.now.network.now c.args.input.now.traffic.now c.args.input.now.failures.now c.word-word.result.now c.in-Racke.is
    c.word-word.ensures.word (λ text. text.items) c.lines_of-in-Racke.result c.lines_of-in-Racke.ensures

pub returns-in-Smore : goal.returns-in-Smore
returns-in-Smore c =
    lines_by_word c.args.name Smore c.args.input.now.plan.now c.args.input.now.network.now c.args.input.now.traffic.now c.args.input.now.failures.now c.word-word.result.now c.in-Smore.is
    c.word-word.ensures.word (λ text. text.items) c.lines_of-in-Smore.result c.lines_of-in-Smore.ensures

pub returns-in-Valiant : goal.returns-in-Valiant
returns-in-Valiant c =
    lines_by_word c.args.name Valiant c.args.input.now.plan.now c.args.input.now.network.now c.args.input.now.traffic.now c.args.input.now.failures.now c.word-word.result.now c.in-Valiant.is
    c.word-word.ensures.word (λ text. text.items) c.lines_of-in-Valiant.result c.lines_of-in-Valiant.ensures

pub returns-in-Robust : goal.returns-in-Robust
returns-in-Robust c =
    lines_by_word c.args.name Robust c.args.input.now.plan.now c.args.input.now.network.now c.args.input.now.traffic.now c.args.input.now.failures.now c.word-word.result.now c.in-Robust.is
    c.word-word.ensures.word (λ text. text.items) c.lines_of-in-Robust.result c.lines_of-in-Robust.ensures
