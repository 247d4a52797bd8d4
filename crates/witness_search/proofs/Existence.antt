-- An attack has a witness to choose, where a plan gives a routing of each matrix.
use Rattle.std.proofs.Common.{◌≡◌, inl, inr, ℕ, suc, Bool, true, false, List, [], ◌∷◌, Option, Some, None, All, length, arith, refl, sym, subst}
use Rattle.std.specs.Prelude.{◌⊎◌, Contains}
use Rattle.std.proofs.lemmas.Bool.{cases_lt}
use Rattle.std.proofs.lemmas.List.{length-map}
use Rattle.std.proofs.lemmas.List.Elements.{All-append, All-cons, All-head, All-nil, All-tail, All-weaker}
use Rattle.te_model.specs.declared.certificate.Head.{Head}
use Rattle.te_model.specs.declared.demand.DemandSet.{DemandSet}
use Rattle.te_model.specs.declared.demand.DemandSet.TheVariants.{All as AllMatrices, Margin, Box}
use Rattle.te_model.specs.declared.network.Network.{Network}
use Rattle.te_model.specs.declared.route.Pair.{Pair}
use Rattle.te_model.specs.declared.route.PairRoutes.{PairRoutes}
use Rattle.te_model.specs.Pairs.{AreDemands}
use Rattle.te_model.specs.Validity.{IsValidHead}
use Rattle.te_model.proofs.Valid.{valid_limits}
use Rattle.routing.specs.Routes.{HasFewPaths, IsRoutingOf}
use Rattle.ratio_witness.specs.declared.witness.Witness.{Witness}
use Rattle.ratio_witness.specs.Text.{witness_text}
use Rattle.ratio_witness.specs.Verdict.{ratio_shown}
use Rattle.te_model.proofs.ValidHeads.{valid_without_blocks}
use Rattle.witness_search.specs.declared.attempt.Attempt.{Attempt}
use Rattle.witness_search.specs.declared.attempt.Tried.{Tried}
use Rattle.witness_search.specs.Attempts.{CanTry, GivesBest, IsAttempt, IsDone, RoutesBy, pairs_of}
use Rattle.witness_search.specs.Candidates.{base_tried, bounds_tried, comes_before, nothing_of, paths_by, tried_of, witness_by, IsUpToAt, IsWitnessBy}
use Rattle.witness_search.proofs.BestSoFar.{all_tried, attempt_no_better, done_later}
use Rattle.witness_search.proofs.Choosing.{before_up_to, not_before_up_to}
use Rattle.witness_search.specs.Laws.{AttacksExist}
use Rattle.witness_search.proofs.ChosenWitness.{chosen_by}
use Rattle.witness_search.proofs.Heads.{head_pairs_of, head_reached}
use Rattle.witness_search.proofs.MadeAttempts.{attempt_made, witness_tried}
use Rattle.witness_search.proofs.TriedMatrices.{can_alone, can_base, can_direct, can_lower, can_upper}
use Rattle.ratio_checker.proofs.FormedHeads.{head_formed}

-- ---- each matrix that is tried can be attempted

can_tried : (h : Head) → IsValidHead h → All (CanTry h) (tried_of h h.set)
can_tried h valid = by_set h.set refl
  where
    by_set : (set' : DemandSet) → h.set ≡ set' → All (CanTry h) (tried_of h set')
    by_set AllMatrices is = all_tried h (CanTry h) (λ p below. can_alone h p) (can_direct h)
    by_set (Margin num den base) is = All-cons (CanTry h) (base_tried den base) [] (can_base h num den base valid is) (All-nil (CanTry h))
    by_set (Box lower upper) is = All-append (CanTry h) (bounds_tried 0 lower) (bounds_tried 1 upper) (can_lower h 0 lower upper valid is) (can_upper h 1 lower upper valid is)

-- a routing of each matrix of the head's pairs, with few paths
abbrev RoutesEach : Head → (List ℕ → List PairRoutes → Type 0) → Type 0
RoutesEach h Routes =
    (demand : List ℕ) → AreDemands (length h.routes) demand →
    (routes : List PairRoutes) × IsRoutingOf h.network (pairs_of h) routes × HasFewPaths 32 routes × Routes demand routes

abbrev HasAttempt : Head → (List ℕ → List PairRoutes → Type 0) → Tried → Type 0
HasAttempt h Routes t = (a : Attempt) × IsAttempt h Routes t a

attempted : (h : Head) (Routes : List ℕ → List PairRoutes → Type 0) → IsValidHead h → RoutesEach h Routes → (t : Tried) → CanTry h t → HasAttempt h Routes t
attempted h Routes valid each t can =
    let (routes, is, few, routed) = each t.demand.demand can.demands in
    let paths = paths_by routes in
    let ratio = ratio_shown h (witness_tried t paths) in
    (record { place = t.place; ratio = ratio; witness = witness_tried t paths }, attempt_made h Routes t routes paths ratio valid can is few refl routed refl)

-- ---- the best of some attempts

-- an attempt of one of these matrices, than which the others are no better
record IsBestAmong (h : Head) (Routes : List ℕ → List PairRoutes → Type 0) (ts : List Tried) (a : Attempt) : Type 0 where
  pub tried : Tried
  pub is_tried : Contains ts tried
  pub attempt : IsAttempt h Routes tried a
  pub best : All (IsDone h Routes tried a.ratio) ts

abbrev HasBestAmong : Head → (List ℕ → List PairRoutes → Type 0) → List Tried → Type 0
HasBestAmong h Routes ts = (ts ≡ []) ⊎ ((a : Attempt) × IsBestAmong h Routes ts a)

contains_later : (t u : Tried) (ts : List Tried) → Contains ts u → Contains (t ∷ ts) u
contains_later t u ts (k, below, at) = (suc k, omega (arith, below), at)

-- with one matrix more
best_with : (h : Head) (Routes : List ℕ → List PairRoutes → Type 0) (t : Tried) (ts : List Tried) (b a : Attempt) → IsAttempt h Routes t b →
    IsBestAmong h Routes ts a → HasBestAmong h Routes (t ∷ ts)
best_with h Routes t ts b a is was = by_order (comes_before b.place a.place b.ratio a.ratio) refl
  where
    by_order : (before : Bool) → comes_before b.place a.place b.ratio a.ratio ≡ before → HasBestAmong h Routes (t ∷ ts)
    by_order true before =
        let up = before_up_to b.place a.place b.ratio a.ratio before in
        inr (
          b,
          record {
            tried = t;
            is_tried = (0, omega arith, refl);
            attempt = is;
            best = All-cons (IsDone h Routes t b.ratio) t ts (inl refl)
                (All-weaker (IsDone h Routes was.tried a.ratio) (IsDone h Routes t b.ratio)
                (λ x done. done_later h Routes x was.tried t a b was.attempt is.place up done) ts was.best);
          },
        )
    by_order false not_before =
        let up = not_before_up_to b.place a.place b.ratio a.ratio not_before in
        let here = subst (λ k. IsUpToAt b.place k b.ratio a.ratio) was.attempt.place up in
        inr (
          a,
          record {
            tried = was.tried;
            is_tried = contains_later t was.tried ts was.is_tried;
            attempt = was.attempt;
            best = All-cons (IsDone h Routes was.tried a.ratio) t ts
                (inr (attempt_no_better h Routes t b was.tried.place a.ratio is here)) was.best;
          },
        )

best_among : (h : Head) (Routes : List ℕ → List PairRoutes → Type 0) (ts : List Tried) → All (HasAttempt h Routes) ts → HasBestAmong h Routes ts
best_among h Routes [] all = inl refl
best_among h Routes (t ∷ ts) all = by_rest (best_among h Routes ts (All-tail (HasAttempt h Routes) t ts all))
  where
    first : HasAttempt h Routes t
    first = All-head (HasAttempt h Routes) t ts all

    by_rest : HasBestAmong h Routes ts → HasBestAmong h Routes (t ∷ ts)
    by_rest (inl none) =
        inr (
          first.0,
          record {
            tried = t;
            is_tried = (0, omega arith, refl);
            attempt = first.1;
            best = All-cons (IsDone h Routes t first.0.ratio) t ts (inl refl)
                (subst (All (IsDone h Routes t first.0.ratio)) (sym none) (All-nil (IsDone h Routes t first.0.ratio)));
          },
        )
    by_rest (inr some) = best_with h Routes t ts first.0 some.0 first.1 some.1

-- ---- the witness

some_best : (h : Head) (Routes : List ℕ → List PairRoutes → Type 0) → HasBestAmong h Routes (tried_of h h.set) → (best : Option Attempt) × GivesBest h Routes best
some_best h Routes (inl none) = (None, none)
some_best h Routes (inr (a, is)) = (Some a, record { tried = is.tried; is_tried = is.is_tried; attempt = is.attempt; best = is.best })

some_witness : (h : Head) (best : Option Attempt) → (w : Witness) × IsWitnessBy h best w
some_witness h None = (nothing_of h, refl)
some_witness h (Some a) = elim (cases_lt 0 a.ratio) [
  | inl some ↦ (witness_by a, inr (some, refl))
  | inr none ↦ (nothing_of h, inl (omega (arith, none), refl))
]

pub attacks_exist : {Plan Note : Type 0} (is_plan : Network → List Pair → Plan → Type 0)
    (relates : Network → List Pair → Plan → List ℕ → List PairRoutes → Note → Type 0) → AttacksExist is_plan relates
attacks_exist is_plan relates plans h valid =
    let limits = valid_limits (record { head = h; blocks = [] }) (valid_without_blocks h valid) in
    let can = plans h.network (pairs_of h) (head_formed h valid) (head_pairs_of h valid limits.pairs) (head_reached h valid) in
    let Routes : List ℕ → List PairRoutes → Type 0 = RoutesBy (relates h.network (pairs_of h) can.plan) in
    let count = length-map h.routes (λ r. r.pair) in
    let each : RoutesEach h Routes = λ demand of.
    let (routes, note, is, few, routed) = can.routings demand (subst (λ n. AreDemands n demand) (sym count) of) in
    (routes, is, few, (note, routed))
    in
    let all = All-weaker (CanTry h) (HasAttempt h Routes) (attempted h Routes valid each) (tried_of h h.set) (can_tried h valid) in
    let (best, gives) = some_best h Routes (best_among h Routes (tried_of h h.set) all) in
    let (w, by) = some_witness h best in
    let is = chosen_by h Routes best w valid gives by in
    (witness_text w, (w, record { of_head = is.witness; plan = can.plan; planned = can.planned; chosen = is.chosen }, refl))
