use Rattle.std.specs.Vec.Iter.{into_iter_items}
use Rattle.command_frame.proofs.Arguments.{run_of_given, run_of_none}
use Rattle.command_frame.proofs.serving.serve.Goals as goal

pub returns-in-Ok-clause-words : goal.returns-in-Ok-clause-words
returns-in-Ok-clause-words g c =
    run_of_given g.T.Table.table c.args.args into_iter_items c.in-Ok.words.items _ _ c.run.result _ _ c.in-Ok.ensures.words c.run.ensures

pub returns-in-Ok-clause-no_text : goal.returns-in-Ok-clause-no_text
returns-in-Ok-clause-no_text g c =
    run_of_none g.T.Table.table c.args.args _ c.in-Ok.words.items _ _ c.run.result _ _ c.in-Ok.ensures.no_text c.run.ensures
