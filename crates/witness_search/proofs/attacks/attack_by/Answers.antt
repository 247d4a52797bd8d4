use Rattle.std.proofs.Common.{◌≡◌, None}
use Rattle.std.proofs.lemmas.Result.{IfOk-weaker}
use Rattle.witness_search.specs.Attempts.{RoutesBy, pairs_of}
use Rattle.witness_search.specs.Candidates.{IsChosen, IsWitnessBy}
use Rattle.ratio_witness.specs.Text.{IsWitnessOf}
use Rattle.ratio_witness.specs.Verdict.{verdict_fault}
use Rattle.witness_search.proofs.ChosenWitness.{chosen_by}
use Rattle.witness_search.proofs.attacks.attack_by.Goals as goal

pub returns-clause-witness : goal.returns-clause-witness
returns-clause-witness g c =
    let h = c.args.head.now in
    let best = c.in_ok-best.best in
    let Routes = RoutesBy (g.S.Scheme.relates c.args.rival.now h.network (pairs_of h) c.args.plan.now) in
    IfOk-weaker c.witness_if_some.result (IsWitnessBy h best) (IsWitnessOf h)
    (λ w by. (chosen_by h Routes best w c.requires.head c.in_ok-best.ensures by).witness) c.witness_if_some.ensures

pub returns-clause-yes : goal.returns-clause-yes
returns-clause-yes g c =
    let h = c.args.head.now in
    let best = c.in_ok-best.best in
    let Routes = RoutesBy (g.S.Scheme.relates c.args.rival.now h.network (pairs_of h) c.args.plan.now) in
    IfOk-weaker c.witness_if_some.result (IsWitnessBy h best) (λ w. verdict_fault h w ≡ None)
    (λ w by. (chosen_by h Routes best w c.requires.head c.in_ok-best.ensures by).yes) c.witness_if_some.ensures

pub returns-clause-chosen : goal.returns-clause-chosen
returns-clause-chosen g c =
    let h = c.args.head.now in
    let best = c.in_ok-best.best in
    let Routes = RoutesBy (g.S.Scheme.relates c.args.rival.now h.network (pairs_of h) c.args.plan.now) in
    IfOk-weaker c.witness_if_some.result (IsWitnessBy h best) (IsChosen h Routes)
    (λ w by. (chosen_by h Routes best w c.requires.head c.in_ok-best.ensures by).chosen) c.witness_if_some.ensures
