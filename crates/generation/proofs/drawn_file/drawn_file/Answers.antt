use Rattle.std.proofs.lemmas.Result.{IfOk-weaker}
use Rattle.generation.specs.Summary.{IsDrawnFile}
use Rattle.generation.proofs.drawn_file.drawn_file.Goals as goal

pub returns-in-Ok : goal.returns-in-Ok
returns-in-Ok c =
    let scheme = c.four_trees-scheme.ensures in
    let made = c.in-Ok.ensures.made in
    IfOk-weaker c.print.result _ (λ file. IsDrawnFile c.args.seed c.args.network.now c.args.pairs.now.list file.items)
    (λ file is. record {
      rounds = made.0.rounds;
      routes = made.0.routing.routes;
      mix = rw (scheme.trees, scheme.seed) at made.1;
      made = record { certificate = c.in-Ok.certificate; made = made.2.made; text_is = is };
    })
    c.print.ensures.spelling
