-- The first certificate of the least ratio among those that are made by the seeds of a plan.
use Rattle.std.proofs.Common.{◌≡◌, ◌∙◌, ◌⊎◌, inl, inr, ℕ, zero, suc, ◌+◌, ◌<◌, ◌≤◌, Bool, true, false, List, [], ◌∷◌, ◌++◌, append_assoc, arith, ap, refl, sym, subst, if◌then◌else◌}
use Rattle.std.specs.Prelude.{All}
use Rattle.std.proofs.lemmas.Bool.{cases_lt}
use Rattle.std.proofs.lemmas.List.Elements.{All-append, All-cons, All-head, All-nil, All-push, All-same, All-tail, All-weaker}
use Rattle.te_model.specs.declared.network.Network.{Network}
use Rattle.te_model.specs.declared.certificate.Certificate.{Certificate}
use Rattle.traffic_matrix.specs.declared.series.Series.{Series}
use Rattle.plan.specs.declared.experiment.Experiment.{Experiment}
use Rattle.plan.specs.Plan.{InRange}
use Rattle.plan.specs.Words.{draws}
use Rattle.experiment.specs.Published.{AreMadeBySeeds, IsFirstOfLeastRatio, IsMadeByPlan, later_seed, seed_count, with_seed}

-- the only one is the first of the least ratio
pub only_one : (c : Certificate) → IsFirstOfLeastRatio (c ∷ []) c
only_one c = record {
  earlier = [];
  later = [];
  among = refl;
  less = All-nil (λ (d : Certificate). c.head.ratio < d.head.ratio);
  least = All-nil (λ (d : Certificate). c.head.ratio ≤ d.head.ratio);
}

-- a certificate of no lesser ratio behind the others changes nothing
pub best_stays : (list : List Certificate) (best next : Certificate) → IsFirstOfLeastRatio list best → best.head.ratio ≤ next.head.ratio →
    IsFirstOfLeastRatio (list ++ next ∷ []) best
best_stays list best next is more = record {
  earlier = is.earlier;
  later = is.later ++ next ∷ [];
  among = ap (λ (l : List Certificate). l ++ next ∷ []) is.among ∙ append_assoc is.earlier (best ∷ is.later) (next ∷ []);
  less = is.less;
  least = All-push (λ (c : Certificate). best.head.ratio ≤ c.head.ratio) is.later next is.least more;
}

-- what the ratio of the best is below or at
all_above : (earlier later : List Certificate) (best : Certificate) (n : ℕ) → All (λ (c : Certificate). best.head.ratio < c.head.ratio) earlier →
    All (λ (c : Certificate). best.head.ratio ≤ c.head.ratio) later → n < best.head.ratio → All (λ (c : Certificate). n < c.head.ratio) (earlier ++ best ∷ later)
all_above earlier later best n less least below =
    All-append (λ (c : Certificate). n < c.head.ratio) earlier (best ∷ later)
    (All-weaker (λ (c : Certificate). best.head.ratio < c.head.ratio) (λ (c : Certificate). n < c.head.ratio) (λ c l. omega (arith, l, below)) earlier less)
    (All-cons (λ (c : Certificate). n < c.head.ratio) best later below
    (All-weaker (λ (c : Certificate). best.head.ratio ≤ c.head.ratio) (λ (c : Certificate). n < c.head.ratio) (λ c l. omega (arith, l, below)) later least))

-- one of a lesser ratio is the first of the least
pub best_changes : (list : List Certificate) (best next : Certificate) → IsFirstOfLeastRatio list best → next.head.ratio < best.head.ratio →
    IsFirstOfLeastRatio (list ++ next ∷ []) next
best_changes list best next is below = record {
  earlier = list;
  later = [];
  among = refl;
  less = All-same (λ (c : Certificate). next.head.ratio < c.head.ratio) list (is.earlier ++ best ∷ is.later) is.among
      (all_above is.earlier is.later best next.head.ratio is.less is.least below);
  least = All-nil (λ (c : Certificate). next.head.ratio ≤ c.head.ratio);
}

-- one certificate more
pub made_more : (plan : Experiment) (net : Network) (series : Series) (n : ℕ) (list : List Certificate) (next : Certificate) →
    AreMadeBySeeds plan net series n list → IsMadeByPlan (with_seed plan (later_seed plan n)) net series next → AreMadeBySeeds plan net series (n + 1) (list ++ next ∷ [])
made_more plan net series n list next made is =
    let one_more : suc n ≡ n + 1 = omega arith in
    subst (λ k. AreMadeBySeeds plan net series k (list ++ next ∷ [])) one_more (list, next, made, is, refl)

-- each of them is made by the plan with some seed
abbrev IsMadeBySome : Experiment → Network → Series → Certificate → Type 0
IsMadeBySome plan net series c = (seed : ℕ) × IsMadeByPlan (with_seed plan seed) net series c

each_made : (plan : Experiment) (net : Network) (series : Series) (n : ℕ) (list : List Certificate) → AreMadeBySeeds plan net series n list →
    All (IsMadeBySome plan net series) list
each_made plan net series zero list none = subst (λ l. All (IsMadeBySome plan net series) l) (sym none) (All-nil (IsMadeBySome plan net series))
each_made plan net series (suc n) list (earlier, last, made, is, list_is) =
    subst (λ l. All (IsMadeBySome plan net series) l) (sym list_is)
    (All-push (IsMadeBySome plan net series) earlier last (each_made plan net series n earlier made) (later_seed plan n, is))

middle : (P : Certificate → Type 0) (earlier later : List Certificate) (c : Certificate) → All P (earlier ++ c ∷ later) → P c
middle P [] later c all = All-head P c later all
middle P (x ∷ xs) later c all = middle P xs later c (All-tail P x (xs ++ c ∷ later) all)

-- the best one is made by the plan with some seed
pub best_is_made : (plan : Experiment) (net : Network) (series : Series) (n : ℕ) (list : List Certificate) (best : Certificate) →
    AreMadeBySeeds plan net series n list → IsFirstOfLeastRatio list best → (seed : ℕ) × IsMadeByPlan (with_seed plan seed) net series best
best_is_made plan net series n list best made is =
    middle (IsMadeBySome plan net series) is.earlier is.later best
    (subst (λ l. All (IsMadeBySome plan net series) l) is.among (each_made plan net series n list made))

-- there is at least one seed
pub some_seed : (plan : Experiment) → InRange plan → 1 ≤ seed_count plan
some_seed plan range = go (draws plan.publish)
  where
    go : (b : Bool) → 1 ≤ (if b then plan.seeds else 1)
    go true = range.seeds_low
    go false = omega arith

-- a plan in range is so with each seed
pub range_with_seed : (plan : Experiment) (seed : ℕ) → InRange plan → InRange (with_seed plan seed)
range_with_seed plan seed range = record {
  topology = range.topology;
  matrices = range.matrices;
  failures = range.failures;
  predictions = range.predictions;
  some_scheme = range.some_scheme;
  few_schemes = range.few_schemes;
  publish = range.publish;
  margin = range.margin;
  k_low = range.k_low;
  k_high = range.k_high;
  budget_low = range.budget_low;
  budget_high = range.budget_high;
  trees_low = range.trees_low;
  trees_high = range.trees_high;
  seeds_low = range.seeds_low;
  seeds_high = range.seeds_high;
  envelope = range.envelope;
}

-- what the one of the two with the lesser ratio is
pub lesser_is_best : (list : List Certificate) (best next kept : Certificate) → IsFirstOfLeastRatio list best →
    (best.head.ratio ≤ next.head.ratio → kept ≡ best) → (next.head.ratio < best.head.ratio → kept ≡ next) → IsFirstOfLeastRatio (list ++ next ∷ []) kept
lesser_is_best list best next kept is same lesser = go (cases_lt next.head.ratio best.head.ratio)
  where
    go : (next.head.ratio < best.head.ratio) ⊎ (best.head.ratio ≤ next.head.ratio) → IsFirstOfLeastRatio (list ++ next ∷ []) kept
    go (inl below) = subst (IsFirstOfLeastRatio (list ++ next ∷ [])) (sym (lesser below)) (best_changes list best next is below)
    go (inr more) = subst (IsFirstOfLeastRatio (list ++ next ∷ [])) (sym (same more)) (best_stays list best next is more)

-- of the best so far and one more, one is the first of the least ratio
best_of_two : (list : List Certificate) (best next : Certificate) → IsFirstOfLeastRatio list best →
    (c : Certificate) × IsFirstOfLeastRatio (list ++ next ∷ []) c
best_of_two list best next is = go (cases_lt next.head.ratio best.head.ratio)
  where
    go : (next.head.ratio < best.head.ratio) ⊎ (best.head.ratio ≤ next.head.ratio) → (c : Certificate) × IsFirstOfLeastRatio (list ++ next ∷ []) c
    go (inl below) = (next, best_changes list best next is below)
    go (inr more) = (best, best_stays list best next is more)

-- where there is a certificate by each seed, there is a first one of the least ratio
pub best_exists : (plan : Experiment) (net : Network) (series : Series) → ((seed : ℕ) → (c : Certificate) × IsMadeByPlan (with_seed plan seed) net series c) →
    (n : ℕ) → 1 ≤ n → (list : List Certificate) × (best : Certificate) × AreMadeBySeeds plan net series n list × IsFirstOfLeastRatio list best
best_exists plan net series by zero some = absurd (omega (arith, some))
best_exists plan net series by (suc zero) some =
    let (c, is) = by (later_seed plan 0) in (c ∷ [], c, ([], c, refl, is, refl), only_one c)
best_exists plan net series by (suc (suc n)) some =
    let (list, best, made, is) = best_exists plan net series by (suc n) (omega arith) in
    let (next, next_is) = by (later_seed plan (suc n)) in
    let (chosen, chosen_is) = best_of_two list best next is in
    (list ++ next ∷ [], chosen, (list, next, made, next_is, refl), chosen_is)
