-- Steps of schemes: by their names, what fits them, and texts that grow by the lines of a scheme.
use Rattle.std.proofs.Common.{◌≡◌, ◌∙◌, ℕ, Bool, true, false, List, [], ◌∷◌, ◌++◌, Option, Result, append_assoc, append-nil, length, ap, sym, subst}
use Rattle.std.specs.Prelude.{IfOk}
use Rattle.std.specs.List.{AllZip}
use Rattle.std.proofs.lemmas.List.{length-map}
use Rattle.std.proofs.lemmas.List.FromFn.{length-map-range_with_len}
use Rattle.te_model.specs.declared.network.Network.{Network}
use Rattle.te_model.specs.declared.route.PairRoutes.{PairRoutes}
use Rattle.te_model.specs.Network.{link_count}
use Rattle.failure.specs.declared.outage.Failures.{Failures}
use Rattle.failure.specs.Series.{marks_of}
use Rattle.traffic_matrix.specs.declared.traffic.Traffic.{Traffic}
use Rattle.plan.specs.declared.experiment.Experiment.{Experiment}
use Rattle.plan.specs.declared.scheme_name.SchemeName.{SchemeName}
use Rattle.plan.specs.Words.{scheme_word}
use Rattle.flow_sim.specs.Result.{pair_result}
use Rattle.flow_sim.specs.Step.{link_traffic}
use Rattle.flow_sim.specs.Traffic.{step_setting}
use Rattle.series_simulation.specs.declared.step_row.SimulatedStep.{SimulatedStep}
use Rattle.traffic_matrix.specs.Traffic.{sent_in}
use Rattle.step_detail.specs.declared.breakdown.Breakdown.{Breakdown}
use Rattle.step_detail.specs.declared.breakdown.Breakdown.TheVariants.{Links, Pairs, Paths}
use Rattle.step_detail.specs.Breakdown.{IsSchemeStep, header_of, lines_of, lines_of_schemes}

-- a step of a scheme is one of its name
pub step_by_name : {E : Type 0} (name scheme : SchemeName) (plan : Experiment) (net : Network) (traffic : Traffic) (failures : Failures) (k : ℕ) →
    name ≡ scheme → (r : Result SimulatedStep E) → IfOk r (IsSchemeStep scheme plan net traffic failures k) → IfOk r (IsSchemeStep name plan net traffic failures k)
step_by_name name scheme plan net traffic failures k named r is =
    subst (λ (n : SchemeName). IfOk r (IsSchemeStep n plan net traffic failures k)) (sym named) is

-- the lists of a step have a number for each link and each pair
pub record FitsSeries (net : Network) (traffic : Traffic) (step : SimulatedStep) : Type 0 where
  pub carried : length step.row.result.carried ≡ link_count net
  pub results : length step.row.result.per_pair ≡ length step.rates.routes
  pub pairs : length step.rates.routes ≡ length traffic.sent.pairs.list

pub step_fits : (name : SchemeName) (plan : Experiment) (net : Network) (traffic : Traffic) (failures : Failures) (k : ℕ) (step : SimulatedStep) →
    IsSchemeStep name plan net traffic failures k step → FitsSeries net traffic step
step_fits name plan net traffic failures k step is =
    let of = is.is_step.simulated in
    let failed = marks_of net failures k in
    let rates = step.rates.routes in
    let demand = sent_in traffic k in
    record {
      carried = ap length of.carried ∙ length-map-range_with_len (link_traffic (step_setting net failed rates demand)) 0 (link_count net);
      results = ap length of.per_pair ∙ length-map-range_with_len (pair_result net failed rates demand) 0 (length rates);
      pairs = sym (length-map rates (λ (r : PairRoutes). r.pair)) ∙ ap length of.spread.pairs_are;
    }

-- whether the least costs are among the lines
abbrev pub has_least_costs : Breakdown → Bool
has_least_costs Links = false
has_least_costs Pairs = true
has_least_costs Paths = false

module _ {A B : Type 0} (R : A → B → Type 0) (x : A) (y : B) (is : R x y) where
  zip_more : (xs : List A) (ys : List B) → AllZip R xs ys → AllZip R (xs ++ x ∷ []) (ys ++ y ∷ [])
  zip_more [] [] all = (is, tt)
  zip_more [] (b ∷ ys) all = absurd all
  zip_more (a ∷ xs) [] all = absurd all
  zip_more (a ∷ xs) (b ∷ ys) all = (all.0, zip_more xs ys all.1)

module _ (R : SchemeName → SimulatedStep → Type 0) (breakdown : Breakdown) (net : Network) (failed : List Bool) (demand : List ℕ) (least : List (Option ℕ))
    (name : SchemeName) (step : SimulatedStep) where
  scheme_more : (names : List SchemeName) (steps : List SimulatedStep) → AllZip R names steps →
      lines_of_schemes breakdown net failed demand least (names ++ name ∷ []) (steps ++ step ∷ [])
      ≡ lines_of_schemes breakdown net failed demand least names steps ++ lines_of breakdown net failed demand least (scheme_word name) step
  scheme_more [] [] all = append-nil (lines_of breakdown net failed demand least (scheme_word name) step)
  scheme_more [] (s ∷ steps) all = absurd all
  scheme_more (n ∷ names) [] all = absurd all
  scheme_more (n ∷ names) (s ∷ steps) all =
      let first = lines_of breakdown net failed demand least (scheme_word n) s in
      ap (λ (l : List ℕ). first ++ l) (scheme_more names steps all.1)
      ∙ sym (append_assoc first (lines_of_schemes breakdown net failed demand least names steps) (lines_of breakdown net failed demand least (scheme_word name) step))

-- the text is the header and the lines of a step of each of the schemes
pub record AreLinesOf (names : List SchemeName) (breakdown : Breakdown) (plan : Experiment) (net : Network) (traffic : Traffic) (failures : Failures) (k : ℕ) (least : List (Option ℕ)) (text : List ℕ) : Type 0 where
  pub steps : List SimulatedStep
  pub are_steps : AllZip (λ name step. IsSchemeStep name plan net traffic failures k step) names steps
  pub text_is : text ≡ header_of breakdown ++ lines_of_schemes breakdown net (marks_of net failures k) (sent_in traffic k) least names steps

pub lines_none : (breakdown : Breakdown) (plan : Experiment) (net : Network) (traffic : Traffic) (failures : Failures) (k : ℕ) (least : List (Option ℕ))
    (text : List ℕ) → text ≡ header_of breakdown → AreLinesOf [] breakdown plan net traffic failures k least text
lines_none breakdown plan net traffic failures k least text is = record { steps = []; are_steps = tt; text_is = is ∙ sym (append-nil (header_of breakdown)) }

-- one scheme more
pub lines_of_scheme_more : (names : List SchemeName) (name : SchemeName) (breakdown : Breakdown) (plan : Experiment) (net : Network) (traffic : Traffic)
    (failures : Failures) (k : ℕ) (least lent : List (Option ℕ)) (failed : List Bool) (demand word text more : List ℕ) (step : SimulatedStep) →
    AreLinesOf names breakdown plan net traffic failures k least text → IsSchemeStep name plan net traffic failures k step → failed ≡ marks_of net failures k →
    demand ≡ sent_in traffic k → lent ≡ least → word ≡ scheme_word name → more ≡ text ++ lines_of breakdown net failed demand lent word step →
    AreLinesOf (names ++ name ∷ []) breakdown plan net traffic failures k least more
lines_of_scheme_more names name breakdown plan net traffic failures k least lent failed demand word text more step so_far is a b c d grown =
    let marks = marks_of net failures k in
    let demands = sent_in traffic k in
    let R : SchemeName → SimulatedStep → Type 0 = λ n s. IsSchemeStep n plan net traffic failures k s in
    let lines = lines_of breakdown net marks demands least (scheme_word name) step in
    let added : more ≡ text ++ lines = rw (a, b, c, d) at grown in
    record {
      steps = so_far.steps ++ step ∷ [];
      are_steps = zip_more R name step is names so_far.steps so_far.are_steps;
      text_is =
          added ∙ (ap (λ (t : List ℕ). t ++ lines) so_far.text_is
          ∙ (append_assoc (header_of breakdown) (lines_of_schemes breakdown net marks demands least names so_far.steps) lines
          ∙ ap (λ (l : List ℕ). header_of breakdown ++ l) (sym (scheme_more R breakdown net marks demands least name step names so_far.steps so_far.are_steps))));
    }
