-- There is an answer on an update.
use Rattle.std.proofs.Common.{◌≡◌, ◌⊎◌, inl, inr, ℕ, zero, suc, ◌*◌, ◌-◌, ◌<◌, ◌≤◌, List, [], ◌∷◌, length, arith, below_more, refl, sym, ap, ◌∙◌, subst, map}
use Rattle.std.proofs.lemmas.Bool.{cases_eq, cases_lt}
use Rattle.te_model.specs.declared.certificate.Head.{Head}
use Rattle.te_model.specs.declared.network.Network.{Network}
use Rattle.te_model.specs.declared.route.Pair.{Pair}
use Rattle.te_model.specs.declared.route.PairRoutes.{PairRoutes}
use Rattle.te_model.specs.declared.units.TheConstants.{SHARE_UNIT}
use Rattle.te_model.specs.PathRouting.{IsPathRouting}
use Rattle.te_model.proofs.SameNetworks.{same_or_not}
use Rattle.routing.proofs.InOrder.{same_count}
use Rattle.update_plan.specs.declared.path.TheConstants.{MAX_STEPS}
use Rattle.update_plan.specs.declared.path.UpdatePlan.{UpdatePlan}
use Rattle.update_plan.specs.Answer.{HavePairs, IsUpdateText, SomeUpdateText, no_network_line, no_pairs_line, no_slack_line}
use Rattle.update_plan.specs.Laws.{AreEnough, HasSteps, decline_on, growth_on}
use Rattle.update_plan.specs.Paths.{update_of}
use Rattle.update_plan.specs.Plan.{IsLeastSafe, IsPlanOf, LacksSlack, LacksSlackOn}
use Rattle.update_plan.specs.Text.{plan_text}
use Rattle.update_plan.specs.Update.{IsSafe, Update, load_by}
use Rattle.update_plan.proofs.OneList.{one_list}
use Rattle.update_plan.proofs.Safe.{by_quotients, for_more, on_quotients}

-- K steps are enough on a link or not
enough_or_not : (whole before after growth decline K : ℕ) → AreEnough whole before after growth decline K ⊎ ¬ AreEnough whole before after growth decline K
enough_or_not whole before after growth decline K = elim (cases_lt whole before) [
  | inl over ↦ inr (λ has. omega (arith, over, has.before_fits))
  | inr before_in ↦ elim (cases_lt whole after) [
    | inl over ↦ inr (λ has. omega (arith, over, has.after_fits))
    | inr after_in ↦ elim (cases_lt (K * (whole - before)) growth) [
      | inl over ↦ inr (λ has. omega (arith, over, has.growth_fits))
      | inr growth_in ↦ elim (cases_lt (K * (whole - after)) decline) [
        | inl over ↦ inr (λ has. omega (arith, over, has.decline_fits))
        | inr decline_in ↦ inl (record { before_fits = before_in; after_fits = after_in; growth_fits = growth_in; decline_fits = decline_in })
      ]
    ]
  ]
]

-- below link n, K steps are enough on each link, or there is a first one on which they are not
enough_below : (x : Update) (K n : ℕ) → ((e : ℕ) → e < n → HasSteps x K e)
    ⊎ ((e : ℕ) × (e < n) × (¬ HasSteps x K e) × ((h : ℕ) → h < e → HasSteps x K h))
enough_below x K zero = inl (λ e none. absurd (omega (arith, none)))
enough_below x K (suc n) = elim (enough_below x K n) [
  | inl all ↦ elim (enough_or_not (SHARE_UNIT * x.capacity n) (load_by x x.before n) (load_by x x.after n) (growth_on x n) (decline_on x n) K) [
    | inl has ↦ inl (λ e below. below_more (HasSteps x K) n all has e (omega (arith, below)))
    | inr lacks ↦ inr (n, omega arith, lacks, all)
  ]
  | inr at ↦ inr (at.0, omega (arith, at.1), at.2, at.3)
]

-- of the numbers of steps up to n, none is safe, or there is a least one that is
least_up_to : (x : Update) (n : ℕ) → ((K : ℕ) → 1 ≤ K → K ≤ n → ¬ IsSafe x K)
    ⊎ ((K : ℕ) × (1 ≤ K) × (K ≤ n) × IsSafe x K × ((L : ℕ) → 1 ≤ L → L < K → ¬ IsSafe x L))
least_up_to x zero = inl (λ K some none. absurd (omega (arith, some, none)))
least_up_to x (suc n) = elim (least_up_to x n) [
  | inr at ↦ inr (at.0, at.1, omega (arith, at.2), at.3, at.4)
  | inl none ↦ elim (enough_below x (suc n) x.links) [
    | inl all ↦ inr (suc n, omega arith, omega arith, (by_quotients x (suc n) (omega arith)).1 all, λ L some less. none L some (omega (arith, less)))
    | inr at ↦ inl (λ K some few safe. elim (cases_lt K (suc n)) [
      | inl less ↦ none K some (omega (arith, less)) safe
      | inr most ↦
          let last : K ≡ suc n = omega (arith, most, few) in
          at.2 (subst (λ k. HasSteps x k at.0) last ((by_quotients x K some).0 safe at.0 at.1))
    ])
  ]
]

lacks_slack : (x : Update) (e : ℕ) → e < x.links → ¬ HasSteps x MAX_STEPS e → ((h : ℕ) → h < e → HasSteps x MAX_STEPS h) → LacksSlack x e
lacks_slack x e inside lacks first =
    let some : 1 ≤ MAX_STEPS = omega arith in
    record {
      inside = inside;
      none = λ K one few safe. lacks ((by_quotients x MAX_STEPS some).0 (for_more x K MAX_STEPS one few safe) e inside);
      fails = λ safe. lacks ((on_quotients x MAX_STEPS e some).0 safe);
      first = λ h less. (on_quotients x MAX_STEPS h some).1 (first h less);
    }

least_or_link : (x : Update) → ((steps : ℕ) × IsLeastSafe x steps) ⊎ ((e : ℕ) × LacksSlack x e)
least_or_link x = elim (enough_below x MAX_STEPS x.links) [
  | inr at ↦ inr (at.0, lacks_slack x at.0 at.1 at.2 at.3)
  | inl all ↦ elim (least_up_to x MAX_STEPS) [
    | inl none ↦ absurd (none MAX_STEPS (omega arith) (omega arith) ((by_quotients x MAX_STEPS (omega arith)).1 all))
    | inr at ↦ inl (at.0, record { some = at.1; few = at.2; safe = at.3; least = at.4 })
  ]
]

plan_or_link : (net : Network) (before after : List PairRoutes) (demand : List ℕ) → IsPathRouting net before → IsPathRouting net after →
    length after ≡ length before → ((plan : UpdatePlan) × IsPlanOf net before after demand plan) ⊎ ((e : ℕ) × LacksSlackOn net before after demand e)
plan_or_link net before after demand old new same =
    let (paths, are) = (one_list net before after old new same).0 in
    elim (least_or_link (update_of net demand paths)) [
      | inl at ↦ inl (record { steps = at.0; paths = paths }, (are, at.1))
      | inr at ↦ inr (at.0, (paths, are, at.1))
    ]

-- two lists of pairs are the same or not
same_pairs_or_not : (xs ys : List Pair) → (xs ≡ ys) ⊎ ¬ (xs ≡ ys)
same_pairs_or_not [] [] = inl refl
same_pairs_or_not [] (y ∷ ys) = inr (λ same. omega (arith, ap (λ (l : List Pair). length l) same))
same_pairs_or_not (x ∷ xs) [] = inr (λ same. omega (arith, ap (λ (l : List Pair). length l) same))
same_pairs_or_not (x ∷ xs) (y ∷ ys) = elim (cases_eq x.src y.src) [
  | inr apart ↦ inr (λ same. apart (ap (λ (p : Pair). p.src) (first same)))
  | inl src ↦ elim (cases_eq x.dst y.dst) [
    | inr apart ↦ inr (λ same. apart (ap (λ (p : Pair). p.dst) (first same)))
    | inl dst ↦ elim (same_pairs_or_not xs ys) [
      | inr apart ↦ inr (λ same. apart (rest same))
      | inl tail ↦ inl (ap (λ (p : Pair). p ∷ xs) (pair_is src dst) ∙ ap (λ (l : List Pair). y ∷ l) tail)
    ]
  ]
]
  where
    first : x ∷ xs ≡ y ∷ ys → x ≡ y
    first same = cc

    rest : x ∷ xs ≡ y ∷ ys → xs ≡ ys
    rest same = cc

    pair_is : x.src ≡ y.src → x.dst ≡ y.dst → x ≡ y
    pair_is src dst = ap (λ s. record { src = s; dst = x.dst }) src ∙ ap (λ d. record { src = y.src; dst = d }) dst

have_or_not : (old new : Head) (pairs : List Pair) → HavePairs old new pairs ⊎ ¬ HavePairs old new pairs
have_or_not old new pairs = elim (same_pairs_or_not (map (λ (r : PairRoutes). r.pair) old.routes) pairs) [
  | inr apart ↦ inr (λ have. apart have.0)
  | inl first ↦ elim (same_pairs_or_not (map (λ (r : PairRoutes). r.pair) new.routes) pairs) [
    | inr apart ↦ inr (λ have. apart have.1)
    | inl second ↦ inl (first, second)
  ]
]

pub some_answer : SomeUpdateText
some_answer old new pairs demand routed routed' = elim (same_or_not old.network new.network) [
  | inr apart ↦ (1, no_network_line, inl (apart, refl, refl))
  | inl same ↦ elim (have_or_not old new pairs) [
    | inr differ ↦ (1, no_pairs_line, inr (inl (same, differ, refl, refl)))
    | inl have ↦ elim (plan_or_link old.network old.routes new.routes demand routed (subst (λ n. IsPathRouting n new.routes) (sym same) routed')
        (same_count new.routes old.routes (have.1 ∙ sym have.0))) [
          | inl at ↦ (0, plan_text at.0, inr (inr (same, have, inl (record { plan = at.0; is_plan = at.1; status_is = refl; text_is = refl }))))
          | inr at ↦ (1, no_slack_line at.0, inr (inr (same, have, inr (record { link = at.0; lacks = at.1; status_is = refl; text_is = refl }))))
        ]
  ]
]
