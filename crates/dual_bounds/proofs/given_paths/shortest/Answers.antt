use Rattle.std.proofs.Common.{◌≡◌, ◌≤◌, List, arith, subst}
use Rattle.std.specs.Prelude.{All}
use Rattle.std.proofs.lemmas.List.{take_all}
use Rattle.te_model.specs.declared.route.PathShare.{PathShare}
use Rattle.shortest_path.specs.Paths.{sum_along}
use Rattle.dual_bounds.proofs.PathBounds.{shortest_more}
use Rattle.dual_bounds.proofs.given_paths.shortest.Goals as goal

pub loop-path-preserved : goal.loop-path-preserved
loop-path-preserved c =
    let lengths = c.args.lengths.now in
    let path = c.path-item.result in
    let long : c.length_of.result ≡ sum_along lengths path.links = c.length_of.ensures in
    shortest_more lengths c.args.paths.now c.loop-path.path-index c.loop-path.least _ path c.loop-path-test.true c.path-item.is
    (grind (arith, long)) c.loop-path.invariant.0 c.loop-path.invariant.1

pub returns : goal.returns
returns c =
    let lengths = c.args.lengths.now in
    let paths = c.args.paths.now in
    let all = take_all c.loop-path.path-index paths (omega arith) in
    record {
      reached = c.loop-path.invariant.0;
      least = subst (λ (ps : List PathShare). All (λ s. c.loop-path.least ≤ sum_along lengths s.links) ps) all c.loop-path.invariant.1;
    }
