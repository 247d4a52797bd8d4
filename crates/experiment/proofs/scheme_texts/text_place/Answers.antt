use Rattle.std.proofs.Common.{refl}
use Rattle.plan.specs.Words.{scheme_word}
use Rattle.experiment.proofs.SchemeTexts.{text_found, texts_more}
use Rattle.experiment.proofs.scheme_texts.text_place.Goals as goal

pub returns-in-Some-clause-place : goal.returns-in-Some-clause-place
returns-in-Some-clause-place c =
    text_found c.args.texts.now.items c.as_slice.result.now c.args.name c.place_of.result c.in-Some.place c.as_slice.ensures.value c.in-Some.is c.place_of.ensures.found

pub returns-in_ok-push-in-None-clause-texts : goal.returns-in_ok-push-in-None-clause-texts
returns-in_ok-push-in-None-clause-texts c =
    let lines = c.in_ok-text-in-None.ensures in
    texts_more c.args.input.now c.args.texts.now.items c.push.new.self.items (record { name = c.args.name; text = c.in_ok-text-in-None.text }) c.args.name
    (scheme_word c.args.name) refl refl lines.0 lines.1 lines.2 c.requires.texts c.in_ok-push-in-None.ensures.items
