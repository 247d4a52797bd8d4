use Rattle.std.proofs.Common.{refl, subst, sym, arith, true, Option}
use Rattle.std.specs.Prelude.{◌≡◌, ◌↔◌, IsTrue}
use Rattle.std.specs.Option.{option_map}
use Rattle.traffic_matrix.specs.declared.series.Series.{Series}
use Rattle.traffic_matrix.specs.Traffic.{demands_in}
use Rattle.series_simulation.proofs.Repeating.{predictions_alike, predictions_fit}
use Rattle.series_simulation.proofs.repeated_step.same_predictions.Goals as goal

pub same_demands-requires-clause-one : goal.same_demands-requires-clause-one
same_demands-requires-clause-one c =
    omega (arith, c.requires.one, (predictions_fit c.requires.traffic.0 c.args.traffic.now c.in-Some.predicted c.in-Some.is c.requires.traffic.1).count)

pub same_demands-requires-clause-other : goal.same_demands-requires-clause-other
same_demands-requires-clause-other c =
    omega (arith, c.requires.other, (predictions_fit c.requires.traffic.0 c.args.traffic.now c.in-Some.predicted c.in-Some.is c.requires.traffic.1).count)

pub same_demands-requires-clause-demands : goal.same_demands-requires-clause-demands
same_demands-requires-clause-demands c =
    (predictions_fit c.requires.traffic.0 c.args.traffic.now c.in-Some.predicted c.in-Some.is c.requires.traffic.1).series.matrices

pub returns-in-Some : goal.returns-in-Some
returns-in-Some c =
    subst (λ (o : Option Series). (IsTrue c.same_demands.result) ↔ (option_map (λ s. demands_in s c.args.one) o ≡ option_map (λ s. demands_in s c.args.other) o))
    (sym c.in-Some.is) (predictions_alike c.in-Some.predicted c.args.one c.args.other c.same_demands.result c.same_demands.ensures)

pub returns-in-None : goal.returns-in-None
returns-in-None c =
    subst (λ (o : Option Series). (IsTrue true) ↔ (option_map (λ s. demands_in s c.args.one) o ≡ option_map (λ s. demands_in s c.args.other) o))
    (sym c.in-None.is) (λ t. refl, λ e. refl)
