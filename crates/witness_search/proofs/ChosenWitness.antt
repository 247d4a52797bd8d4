-- The witness that an attack chooses.
use Rattle.std.proofs.Common.{◌≡◌, inl, inr, ℕ, zero, suc, ◌-◌, ◌*◌, ◌^◌, ◌<◌, ◌≤◌, true, ◌&&◌, ◌||◌, List, [], length, Option, Some, None, arith, refl, ap, sym, ◌∙◌, subst, All, nat_le, slice_index, ◌==◌}
use Rattle.std.specs.Prelude.{min, replicate, sum_by}
use Rattle.std.specs.List.{list_all}
use Rattle.std.proofs.lemmas.Bool.{and_from, and_parts, eq-eqb, le-leb, lt-ltb}
use Rattle.std.proofs.lemmas.List.{get_or-replicate, length-replicate}
use Rattle.std.proofs.lemmas.List.Elements.{All-contains, All-nil, All-weaker}
use Rattle.te_model.specs.declared.certificate.Head.{Head}
use Rattle.te_model.specs.declared.demand.DemandSet.{DemandSet}
use Rattle.te_model.specs.declared.demand.DemandSet.TheVariants.{All as AllMatrices, Margin, Box}
use Rattle.te_model.specs.declared.demand.Matrix.{Matrix}
use Rattle.te_model.specs.declared.route.PairRoutes.{PairRoutes}
use Rattle.te_model.specs.declared.route.PathShare.{PathShare}
use Rattle.te_model.specs.Demand.{lower_of, upper_of}
use Rattle.te_model.specs.Path.{destination_of, is_path, source_of}
use Rattle.te_model.specs.Shape.{are_words, is_row_of, is_word}
use Rattle.te_model.specs.Validity.{IsValidHead, paths_ascend}
use Rattle.witness_search.specs.declared.attempt.Attempt.{Attempt}
use Rattle.witness_search.specs.declared.attempt.Tried.{Tried}
use Rattle.ratio_witness.specs.declared.witness.Witness.{Witness}
use Rattle.witness_search.specs.Attempts.{GivesBest, IsAttempt, IsBestAttempt, IsDone}
use Rattle.witness_search.specs.Candidates.{no_demand_scale, nothing_of, tried_of, tried_ratio, witness_by, IsChosen, IsNoBetter, IsWitnessBy}
use Rattle.ratio_witness.specs.Rules.{demand_of, rival_paths, KeepsRules}
use Rattle.ratio_witness.specs.Text.{are_shaped_paths, is_shaped_witness, IsWitnessOf}
use Rattle.ratio_witness.specs.Verdict.{is_between, is_in_set, ratio_shown, verdict_fault}
use Rattle.ratio_witness.specs.Witness.{performance_ratio}
use Rattle.witness_search.proofs.Attempted.{keeps_rules}
use Rattle.witness_search.proofs.BestSoFar.{attempt_no_better, no_better_later}
use Rattle.ratio_witness.proofs.KeptRules.{rules_kept}
use Rattle.witness_search.proofs.TriedMatrices.{IsOfSet, tried_of_set}
use Rattle.ratio_witness.proofs.Verdicts.{no_faults}

-- what is said of the witness that is chosen
pub record Chosen (h : Head) (Routes : List ℕ → List PairRoutes → Type 0) (w : Witness) : Type 0 where
  pub witness : IsWitnessOf h w
  pub yes : verdict_fault h w ≡ None
  pub chosen : IsChosen h Routes w

-- ---- the witness of the best attempt

bound_changed : (n bound : ℕ) (w : Witness) → bound < 2 ^ 64 → is_shaped_witness n w ≡ true → is_shaped_witness n (record w { bound = bound }) ≡ true
bound_changed n bound w small shaped =
    let a = is_word w.bound in
    let b = is_word w.x in
    let c = is_word w.y in
    let d = is_row_of n w.demand.demand in
    let e = length w.rival == n in
    let f = list_all are_shaped_paths w.rival in
    let five = and_parts (a && b && c && d && e) f shaped in
    let four = and_parts (a && b && c && d) e five.0 in
    let three = and_parts (a && b && c) d four.0 in
    let two = and_parts (a && b) c three.0 in
    let one = and_parts a b two.0 in
    let first = is_word bound in
    and_from (first && b && c && d && e) f (and_from (first && b && c && d) e (and_from (first && b && c) d (and_from (first && b) c (and_from first b
    (lt-ltb bound (2 ^ 64) small) one.1) two.1) three.1) four.1) five.1

-- the ratio of an attempt, of its matrix and its rival
attempt_shows : (h : Head) (Routes : List ℕ → List PairRoutes → Type 0) (t : Tried) (a : Attempt) → IsAttempt h Routes t a → a.ratio ≡ tried_ratio h t a.witness.rival
attempt_shows h Routes t a is =
    is.ratio ∙ ap (λ (m : Matrix). performance_ratio h.network h.routes (slice_index m.demand) a.witness.rival) is.demand

-- the witness of an attempt, with the ratio that it shows as its bound, is one of the head
pub attempt_witness : (h : Head) (Routes : List ℕ → List PairRoutes → Type 0) (t : Tried) (a : Attempt) → IsAttempt h Routes t a → IsWitnessOf h (witness_by a)
attempt_witness h Routes t a is =
    let w = witness_by a in
    let kept = rules_kept h a.witness is.witness.rules in
    record {
      shaped = bound_changed (length h.routes) (min a.ratio (10 ^ 19 - 1)) a.witness (omega arith) is.witness.shaped;
      rules = keeps_rules h w (record {
        bound = lt-ltb w.bound (10 ^ 19) (omega arith);
        scale = kept.scale;
        demands = kept.demands;
        carried = kept.carried;
        sound = kept.sound;
        whole = kept.whole;
      });
    }

pub best_chosen : (h : Head) (Routes : List ℕ → List PairRoutes → Type 0) (a : Attempt) → IsValidHead h → IsBestAttempt h Routes a → 0 < a.ratio →
    Chosen h Routes (witness_by a)
best_chosen h Routes a valid is some =
    let t = is.tried in
    let w = witness_by a in
    let shows = attempt_shows h Routes t a is.attempt in
    let of_set = All-contains (IsOfSet h) (tried_of h h.set) t (tried_of_set h valid) is.is_tried in
    let shown = is.attempt.ratio in
    record {
      witness = attempt_witness h Routes t a is.attempt;
      yes = no_faults h w (of_set w is.attempt.demand is.attempt.scale.0 is.attempt.scale.1)
          (le-leb (min a.ratio (10 ^ 19 - 1)) (ratio_shown h a.witness) (omega (arith, shown)));
      chosen = inl (record {
        tried = t;
        is_tried = is.is_tried;
        demand = is.attempt.demand;
        scale = is.attempt.scale;
        routes = is.attempt.routes;
        routed = subst (λ (m : Matrix). Routes m.demand is.attempt.routes) (sym is.attempt.demand) is.attempt.routed;
        rival = is.attempt.rival;
        some = subst (λ (r : ℕ). 0 < r) shows some;
        bound = ap (λ (r : ℕ). min r (10 ^ 19 - 1)) shows;
        best = All-weaker (IsDone h Routes t a.ratio) (λ x. (x.place ≡ t.place → ⊥) → IsNoBetter h Routes t.place (tried_ratio h t a.witness.rival) x)
            (λ x done apart. subst (λ (r : ℕ). IsNoBetter h Routes t.place r x) shows (elim done [
              | inl same ↦ absurd (apart (ap (λ (y : Tried). y.place) same))
              | inr no_better ↦ no_better
            ]))
            (tried_of h h.set) is.best;
      });
    }

-- ---- the witness that shows nothing

zero_words : (n : ℕ) → are_words (replicate n 0) ≡ true
zero_words zero = refl
zero_words (suc n) = zero_words n

no_paths_shaped : (n : ℕ) → list_all are_shaped_paths (replicate n []) ≡ true
no_paths_shaped zero = refl
no_paths_shaped (suc n) = no_paths_shaped n

scale_small : (s : DemandSet) → (nat_le (no_demand_scale s) (2 ^ 36) && nat_le 1 1 && nat_le 1 (2 ^ 36)) ≡ true
scale_small AllMatrices = refl
scale_small (Margin num den base) = refl
scale_small (Box lower upper) = refl

scale_word : (s : DemandSet) → is_word (no_demand_scale s) ≡ true
scale_word AllMatrices = refl
scale_word (Margin num den base) = refl
scale_word (Box lower upper) = refl

nothing_shaped : (h : Head) → is_shaped_witness (length h.routes) (nothing_of h) ≡ true
nothing_shaped h =
    let n = length h.routes in
    let b = is_word (no_demand_scale h.set) in
    let row = and_from (length (replicate n 0) == n) (are_words (replicate n 0)) (eq-eqb (length (replicate n 0)) n (length-replicate n 0)) (zero_words n) in
    let d = is_row_of n (replicate n 0) in
    let count = eq-eqb (length (replicate n [])) n (length-replicate n []) in
    and_from (is_word 0 && b && is_word 1 && d && length (replicate n []) == n) (list_all are_shaped_paths (replicate n []))
    (and_from (is_word 0 && b && is_word 1 && d) (length (replicate n []) == n)
    (and_from (is_word 0 && b && is_word 1) d (and_from (is_word 0 && b) (is_word 1) (and_from (is_word 0) b refl (scale_word h.set)) refl) row) count)
    (no_paths_shaped n)

nothing_keeps : (h : Head) → KeepsRules h (nothing_of h)
nothing_keeps h =
    let n = length h.routes in
    let w = nothing_of h in
    let demand : (p : ℕ) → p < n → demand_of w p ≡ 0 = λ p below. get_or-replicate n p 0 0 below in
    let paths : (p : ℕ) → p < n → rival_paths w p ≡ [] = λ p below. get_or-replicate n p [] [] below in
    keeps_rules h w (record {
      bound = lt-ltb 0 (10 ^ 19) (omega arith);
      scale = scale_small h.set;
      demands = λ p below. ap (λ d. nat_le d (2 ^ 32)) (demand p below);
      carried = λ p below. ap (λ d. d == 0 || nat_le 1 (length (rival_paths w p))) (demand p below);
      sound = λ p below.
          ap (λ (ps : List PathShare). list_all (λ s. is_path h.network (source_of h.routes p) (destination_of h.routes p) s.links) ps && paths_ascend ps) (paths p below);
      whole = λ p below.
          ap (λ (ps : List PathShare). length ps == 0 || (list_all (λ s. nat_le 1 s.weight) ps && sum_by (λ s. s.weight) ps == 1000000)) (paths p below);
    })

-- zeros lie between any bounds times 0
zeros_between : (set' : DemandSet) (w : Witness) (p : ℕ) → w.x ≡ 0 → demand_of w p ≡ 0 → is_between set' w p ≡ true
zeros_between set' w p x none =
    let least : w.x * lower_of set' p ≤ w.y * demand_of w p = rw (x, none) (omega arith) in
    let most : w.y * demand_of w p ≤ w.x * upper_of set' p = rw (x, none) (omega arith) in
    and_from (nat_le (w.x * lower_of set' p) (w.y * demand_of w p)) (nat_le (w.y * demand_of w p) (w.x * upper_of set' p))
    (le-leb (w.x * lower_of set' p) (w.y * demand_of w p) least) (le-leb (w.y * demand_of w p) (w.x * upper_of set' p) most)

zeros_in_set : (set' : DemandSet) (w : Witness) (p : ℕ) → w.x ≡ no_demand_scale set' → demand_of w p ≡ 0 → is_in_set set' w p ≡ true
zeros_in_set AllMatrices w p x none = refl
zeros_in_set (Margin num den base) w p x none = zeros_between (Margin num den base) w p x none
zeros_in_set (Box lower upper) w p x none = zeros_between (Box lower upper) w p x none

nothing_yes : (h : Head) → verdict_fault h (nothing_of h) ≡ None
nothing_yes h =
    no_faults h (nothing_of h) (λ p below. zeros_in_set h.set (nothing_of h) p refl (get_or-replicate (length h.routes) p 0 0 below))
    (le-leb 0 (ratio_shown h (nothing_of h)) (omega arith))

pub nothing_chosen : (h : Head) (Routes : List ℕ → List PairRoutes → Type 0) → All (IsNoBetter h Routes 0 0) (tried_of h h.set) → Chosen h Routes (nothing_of h)
nothing_chosen h Routes none = record {
  witness = record { shaped = nothing_shaped h; rules = nothing_keeps h };
  yes = nothing_yes h;
  chosen = inr (record { same = refl; none = none });
}

-- the verdict on a witness that is chosen is yes
pub chosen_yes : (h : Head) (Routes : List ℕ → List PairRoutes → Type 0) (w : Witness) → IsValidHead h → IsChosen h Routes w → verdict_fault h w ≡ None
chosen_yes h Routes w valid (inl is) =
    let of_set = All-contains (IsOfSet h) (tried_of h h.set) is.tried (tried_of_set h valid) is.is_tried in
    let shown : ratio_shown h w ≡ tried_ratio h is.tried w.rival =
    ap (λ (m : Matrix). performance_ratio h.network h.routes (slice_index m.demand) w.rival) is.demand
    in
    let bound = is.bound in
    no_faults h w (of_set w is.demand is.scale.0 is.scale.1) (le-leb w.bound (ratio_shown h w) (omega (arith, bound, shown)))
chosen_yes h Routes w valid (inr is) = subst (λ (x : Witness). verdict_fault h x ≡ None) (sym is.same) (nothing_yes h)

-- where the best ratio is 0, no matrix has a greater one
pub best_of_none : (h : Head) (Routes : List ℕ → List PairRoutes → Type 0) (a : Attempt) → IsBestAttempt h Routes a → a.ratio ≡ 0 →
    All (IsNoBetter h Routes 0 0) (tried_of h h.set)
best_of_none h Routes a is none =
    let t = is.tried in
    All-weaker (IsDone h Routes t a.ratio) (IsNoBetter h Routes 0 0)
    (λ x done. elim done [
      | inl same ↦ subst (IsNoBetter h Routes 0 0) (sym same) (attempt_no_better h Routes t a 0 0 is.attempt (inl none))
      | inr no_better ↦ no_better_later h Routes x t.place 0 a.ratio 0 no_better (inl none)
    ])
    (tried_of h h.set) is.best

-- ---- the answer

pub chosen_by : (h : Head) (Routes : List ℕ → List PairRoutes → Type 0) (best : Option Attempt) (w : Witness) → IsValidHead h → GivesBest h Routes best →
    IsWitnessBy h best w → Chosen h Routes w
chosen_by h Routes None w valid none same =
    subst (Chosen h Routes) (sym same) (nothing_chosen h Routes (subst (All (IsNoBetter h Routes 0 0)) (sym none) (All-nil (IsNoBetter h Routes 0 0))))
chosen_by h Routes (Some a) w valid is (inl zero_ratio) =
    subst (Chosen h Routes) (sym zero_ratio.1) (nothing_chosen h Routes (best_of_none h Routes a is zero_ratio.0))
chosen_by h Routes (Some a) w valid is (inr some) = subst (Chosen h Routes) (sym some.1) (best_chosen h Routes a valid is some.0)
