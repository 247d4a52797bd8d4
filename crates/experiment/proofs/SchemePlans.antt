-- The schemes of the table have plans for pairs that all have a path, and routings by them.
use Rattle.std.proofs.Common.{◌≡◌, ℕ, ◌≤◌, List, true, arith, refl, sym, subst}
use Rattle.std.proofs.lemmas.Option.{none-some, same_Some}
use Rattle.te_model.specs.declared.network.Network.{Network}
use Rattle.te_model.specs.declared.route.Pair.{Pair}
use Rattle.te_model.specs.declared.route.PathShare.{PathShare}
use Rattle.te_model.specs.declared.route.PairRoutes.{PairRoutes}
use Rattle.te_model.specs.Network.{is_well_formed}
use Rattle.routing.specs.declared.routes.Routing.{Routing}
use Rattle.routing.specs.Routes.{HasFewPaths, IsRoutingOf}
use Rattle.routing.proofs.Splits.{splits_of}
use Rattle.scheme.specs.Fixed.{IsRoutingBy}
use Rattle.scheme.specs.Least.{IsLeastSplit}
use Rattle.scheme.specs.Low.{bracket_low}
use Rattle.scheme.specs.Reach.{AllReached, ArePairsOf}
use Rattle.scheme.specs.declared.spf.SpfPlan.{SpfPlan}
use Rattle.scheme.proofs.Existence.{least_splits_exist, routings_by_rules_exist}
use Rattle.ecmp_split.specs.Rule.{IsMultipathSplit}
use Rattle.ecmp_split.specs.declared.ecmp.EcmpPlan.{EcmpPlan}
use Rattle.ecmp_split.proofs.SplitsMade.{multipath_splits_exist}
use Rattle.k_paths.specs.Even.{IsEvenSplit}
use Rattle.k_paths.specs.declared.ksp.KspPlan.{KspPlan}
use Rattle.k_paths.proofs.Existence.{even_splits_exist}
use Rattle.mcf_lengths.proofs.Existence.{balanced_routings_exist, flow_plans_exist}
use Rattle.racke_mix.specs.declared.racke.RackePlan.{RackePlan}
use Rattle.racke_mix.specs.Racke.{IsRackePlan}
use Rattle.racke_mix.proofs.Existence.{racke_plans_exist}
use Rattle.semi_oblivious.proofs.AdaptedRoutings.{adapted_rates_exist, adapted_routings_exist, fixed_routings_exist}
use Rattle.valiant_mix.specs.Valiant.{IsValiantSplit}
use Rattle.valiant_mix.specs.declared.valiant.ValiantPlan.{ValiantPlan}
use Rattle.valiant_mix.proofs.Splits.{valiant_splits_exist, within_format}
use Rattle.robust_routing.proofs.Existence.{robust_plans_exist}
use Rattle.robust_routing.proofs.Ways.{few_of_most}
use Rattle.plan.specs.declared.experiment.Experiment.{Experiment}
use Rattle.plan.specs.declared.scheme_name.SchemeName.{SchemeName}
use Rattle.plan.specs.declared.scheme_name.SchemeName.TheVariants.{Spf, Ecmp, Ksp, Mcf, Racke, Smore, Valiant, Robust}
use Rattle.plan.specs.Plan.{InRange}
use Rattle.series_simulation.specs.Laws.{HasAdaptations, HasPlans, HasRoutings}
use Rattle.experiment.specs.Schemes.{SchemeMeaning, ecmp_paths, flow_scheme, ksp_paths, meaning_of, racke_scheme, robust_scheme, rule_scheme, semi_scheme, spf_paths, valiant_paths}

-- a scheme has plans, a routing of each matrix by each plan, and one over any paths that it is given, if it chooses rates over some
pub record CanRoute (scheme : SchemeMeaning) : Type 0 where
  pub few : scheme.limit ≤ 4096
  pub plans : HasPlans scheme.is_plan
  pub routings : HasRoutings scheme.limit scheme.is_plan scheme.relates
  pub adaptations : HasAdaptations scheme.limit scheme.is_plan scheme.path_set scheme.adapts

-- a scheme whose rule gives pairs that all have a path a routing
rule_routings : {Plan : Type 0} (kept : Plan → List PairRoutes) (plan_with : (r : Routing) → (plan : Plan) × (kept plan ≡ r.routes)) (limit : ℕ)
    (rule : Network → Pair → List PathShare → Type 0) → limit ≤ 4096 →
    ((net : Network) → is_well_formed net ≡ true → (pairs : List Pair) → ArePairsOf net pairs → AllReached net pairs →
    (routes : List PairRoutes) × IsRoutingBy rule limit net pairs routes) →
    CanRoute (rule_scheme kept limit rule)
rule_routings kept plan_with limit rule small routing = record {
  few = small;
  plans = λ net formed pairs are reached.
      let (routes, by) = routing net formed pairs are reached in
      let (plan, same) = plan_with (record { routes = routes; splits = splits_of net routes by.routing.splits }) in
      (plan, subst (IsRoutingBy rule limit net pairs) (sym same) by);
  routings = λ net formed pairs plan by are demand of. (kept plan, tt, by.routing, by.few, record { same = refl; by_rule = by.by_rule });
  adaptations = λ net formed pairs plan paths is set. absurd (none-some paths set);
}

-- least paths by cost
pub least_routings : CanRoute (rule_scheme (λ (p : SpfPlan). p.routing.routes) spf_paths IsLeastSplit)
least_routings = rule_routings (λ (p : SpfPlan). p.routing.routes) (λ r. (record { routing = r }, refl)) spf_paths IsLeastSplit (omega arith)
    (λ net formed. routings_by_rules_exist IsLeastSplit spf_paths net (least_splits_exist net formed))

racke_plan : (trees seed : ℕ) → 1 ≤ trees → trees ≤ 16 → (net : Network) → is_well_formed net ≡ true → (pairs : List Pair) → ArePairsOf net pairs →
    AllReached net pairs → (plan : RackePlan) × IsRackePlan trees seed net pairs plan.rounds plan.routing.routes
racke_plan trees seed some few net formed pairs are reached =
    let (rounds, routes, is) = racke_plans_exist net formed trees seed some few pairs are reached in
    (record { rounds = rounds; routing = record { routes = routes; splits = splits_of net routes is.routing.routing.splits } }, is)

racke_routings : (trees seed : ℕ) → 1 ≤ trees → trees ≤ 16 → CanRoute (racke_scheme trees seed)
racke_routings trees seed some few = record {
  few = omega arith;
  plans = racke_plan trees seed some few;
  routings = λ net formed pairs plan is are demand of. (
    plan.routing.routes,
    tt,
    is.routing.routing,
    is.routing.few,
    record { mix = is.mix; routing = record { same = refl; by_rule = is.routing.by_rule } },
  );
  adaptations = λ net formed pairs plan paths is set. absurd (none-some paths set);
}

flow_routings : CanRoute flow_scheme
flow_routings = record {
  few = omega arith;
  plans = λ net formed pairs are reached. flow_plans_exist net pairs formed are reached;
  routings = λ net formed pairs plan is are demand of.
      let (routes, note, routing, few, so, low) = balanced_routings_exist net pairs plan demand formed is of in
      (routes, note, routing, few, so);
  adaptations = λ net formed pairs plan paths is set. absurd (none-some paths set);
}

semi_routings : (trees seed budget : ℕ) → 1 ≤ trees → trees ≤ 16 → 1 ≤ budget → budget ≤ 32 → CanRoute (semi_scheme trees seed budget)
semi_routings trees seed budget some few some_kept few_kept = record {
  few = omega arith;
  plans = λ net formed pairs are reached.
      let (base, is) = racke_plan trees seed some few net formed pairs are reached in
      let (fixed, so) = fixed_routings_exist budget net pairs base.routing.routes some_kept are is.routing.routing in
      (record { base = base; fixed = record { routes = fixed; splits = splits_of net fixed so.routing.splits } }, (is, so));
  routings = λ net formed pairs plan is are demand of.
      let (routes, note, routing, have_few, so, low) =
      adapted_routings_exist budget net pairs plan.base.routing.routes plan.fixed.routes demand formed few_kept is.1 of in
      (routes, note, routing, have_few, so);
  adaptations = λ net formed pairs plan paths is set.
      let own = same_Some plan.fixed.routes paths set in (
        subst (λ (rs : List PairRoutes). IsRoutingOf net pairs rs) own is.1.routing,
        subst (λ (rs : List PairRoutes). HasFewPaths 32 rs) own (λ k d below. omega (arith, is.1.few k d below, few_kept)),
        λ some given demand are routing small of.
            let (routes, note, over, have_few, so, low) = adapted_rates_exist net some given demand formed are routing small of in
            (routes, bracket_low note, over, have_few, so.fixed_paths, (note, so, refl)),
      );
}

robust_routings : (ways : ℕ) → CanRoute (robust_scheme ways)
robust_routings ways = record {
  few = omega arith;
  plans = λ net formed pairs are reached. robust_plans_exist net formed pairs are reached ways;
  routings = λ net formed pairs plan is are demand of. (plan.routing.routes, tt, is.routing, few_of_most ways plan.routing.routes is.few, refl);
  adaptations = λ net formed pairs plan paths is set. absurd (none-some paths set);
}

-- the scheme of each name, with the numbers of a plan
pub name_routings : (plan : Experiment) → InRange plan → (name : SchemeName) → CanRoute (meaning_of name plan)
name_routings plan range Spf = least_routings
name_routings plan range Ecmp =
    rule_routings (λ (p : EcmpPlan). p.routing.routes) (λ r. (record { routing = r }, refl)) ecmp_paths IsMultipathSplit (omega arith)
    (λ net formed. routings_by_rules_exist IsMultipathSplit ecmp_paths net (multipath_splits_exist net formed))
name_routings plan range Ksp =
    rule_routings (λ (p : KspPlan). p.routing.routes) (λ r. (record { routing = r }, refl)) ksp_paths (IsEvenSplit plan.k) (omega arith)
    (λ net formed. routings_by_rules_exist (IsEvenSplit plan.k) ksp_paths net (even_splits_exist net formed plan.k range.k_low range.k_high))
name_routings plan range Mcf = flow_routings
name_routings plan range Racke = racke_routings plan.trees plan.seed range.trees_low range.trees_high
name_routings plan range Smore =
    semi_routings plan.trees plan.seed plan.budget range.trees_low range.trees_high range.budget_low range.budget_high
name_routings plan range Valiant =
    rule_routings (λ (p : ValiantPlan). p.routing.routes) (λ r. (record { routing = r }, refl)) valiant_paths IsValiantSplit (omega arith)
    (λ net formed. routings_by_rules_exist IsValiantSplit valiant_paths net (λ pair is has.
    let (paths, by) = valiant_splits_exist net formed pair is has in (paths, within_format net pair paths formed by)))
name_routings plan range Robust = robust_routings plan.budget
