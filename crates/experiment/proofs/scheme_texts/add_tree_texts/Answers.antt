use Rattle.std.proofs.Common.{refl}
use Rattle.plan.specs.declared.scheme_name.SchemeName.TheVariants.{Racke, Smore}
use Rattle.series_simulation.proofs.SeriesLemmas.{series_pairs}
use Rattle.experiment.proofs.SchemeTexts.{texts_more}
use Rattle.experiment.proofs.scheme_texts.add_tree_texts.Goals as goal

pub prepare_connected-requires-clause-network : goal.prepare_connected-requires-clause-network
prepare_connected-requires-clause-network c = c.requires.input.network

pub prepare_connected-requires-clause-pairs : goal.prepare_connected-requires-clause-pairs
prepare_connected-requires-clause-pairs c = series_pairs c.args.input.now.network.now c.args.input.now.traffic.now.sent c.requires.input.network c.requires.input.traffic.sent

pub returns : goal.returns
returns c =
    let input = c.args.input.now in
    let first = c.in_ok-adapted.ensures in
    let second = c.in_ok-mixed.ensures in
    let once = texts_more input c.args.texts.now.items c.push.new.self.items (record { name = Smore; text = c.in_ok-adapted.adapted }) Smore c.word.result.now refl
    c.word.ensures.word first.0 first.1 first.2 c.requires.texts c.in_ok-push.ensures.items in
    record {
      texts = texts_more input c.push.new.self.items c.push-2.new.self.items (record { name = Racke; text = c.in_ok-mixed.mixed }) Racke c.word-2.result.now refl
          c.word-2.ensures.word second.0 second.1 second.2 once c.in_ok-push-2.ensures.items;
    }
