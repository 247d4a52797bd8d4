-- The best of the attempts, as the search of every matrix goes on.
use Rattle.std.proofs.Common.{◌≡◌, inl, inr, ℕ, ◌<◌, List, [], ◌∷◌, length, map, arith, refl, ap, sym, ◌∙◌, subst, set, slice_index, All}
use Rattle.std.specs.Prelude.{◌⊎◌, Contains, replicate}
use Rattle.std.specs.List.{range_with_len}
use Rattle.std.proofs.lemmas.Bool.{cases_eq}
use Rattle.std.proofs.lemmas.List.{get_or-replicate, get_or-set_other, length-set}
use Rattle.std.proofs.lemmas.List.Elements.{All-append, All-cons, All-from_get_or, All-nil, Contains-append_left, Contains-push}
use Rattle.std.proofs.lemmas.List.FromFn.{get_or-map-range_with_len, length-map-range_with_len}
use Rattle.te_model.specs.declared.certificate.Head.{Head}
use Rattle.te_model.specs.declared.demand.DemandSet.TheVariants.{All as AllMatrices}
use Rattle.te_model.specs.declared.demand.Matrix.{Matrix}
use Rattle.te_model.specs.declared.route.PairRoutes.{PairRoutes}
use Rattle.te_model.specs.declared.route.PathShare.{PathShare}
use Rattle.witness_search.specs.declared.attempt.Attempt.{Attempt}
use Rattle.witness_search.specs.declared.attempt.Tried.{Tried}
use Rattle.witness_search.specs.Attempts.{AreLimits, IsAttempt, IsBestAttempt, IsBestSoFar, IsBetter, IsDone, IsLimit}
use Rattle.witness_search.specs.Candidates.{alone, direct_capacities, paths_by, tried_of, tried_ratio, IsNoBetter, IsUpToAt}
use Rattle.ratio_witness.specs.Witness.{performance_ratio}
use Rattle.witness_search.proofs.Choosing.{up_to_lower, up_to_trans}

-- ---- what is done

-- the ratio of an attempt is that of its matrix and of the scheme's routing
attempt_ratio : (h : Head) (Routes : List ℕ → List PairRoutes → Type 0) (t : Tried) (a : Attempt) (is : IsAttempt h Routes t a) →
    a.ratio ≡ tried_ratio h t (paths_by is.routes)
attempt_ratio h Routes t a is =
    is.ratio
    ∙ ap (λ (m : Matrix). performance_ratio h.network h.routes (slice_index m.demand) a.witness.rival) is.demand
    ∙ ap (λ (rival : List (List PathShare)). performance_ratio h.network h.routes (slice_index t.demand.demand) rival) is.rival

-- a matrix that was tried is no better than what its attempt is no better than
pub attempt_no_better : (h : Head) (Routes : List ℕ → List PairRoutes → Type 0) (t : Tried) (a : Attempt) (k r : ℕ) → IsAttempt h Routes t a →
    IsUpToAt a.place k a.ratio r → IsNoBetter h Routes k r t
attempt_no_better h Routes t a k r is up =
    inl (is.routes, is.routed, subst (λ x. IsUpToAt t.place k x r) (attempt_ratio h Routes t a is) (subst (λ j. IsUpToAt j k a.ratio r) is.place up))

pub no_better_later : (h : Head) (Routes : List ℕ → List PairRoutes → Type 0) (t : Tried) (j k r s : ℕ) → IsNoBetter h Routes j r t → IsUpToAt j k r s →
    IsNoBetter h Routes k s t
no_better_later h Routes t j k r s (inl shown) up =
    inl (shown.0, shown.1, up_to_trans t.place j k (tried_ratio h t (paths_by shown.0)) r s shown.2 up)
no_better_later h Routes t j k r s (inr limited) up =
    inr (λ rival is. up_to_trans t.place j k (tried_ratio h t rival) r s (limited rival is) up)

-- what is done stays so where the best goes to the next attempt
pub done_later : (h : Head) (Routes : List ℕ → List PairRoutes → Type 0) (t old new : Tried) (best next : Attempt) → IsAttempt h Routes old best →
    next.place ≡ new.place → IsUpToAt best.place next.place best.ratio next.ratio → IsDone h Routes old best.ratio t → IsDone h Routes new next.ratio t
done_later h Routes t old new best next was at up (inl same) =
    let here = subst (λ k. IsUpToAt best.place k best.ratio next.ratio) at up in
    inr (subst (IsNoBetter h Routes new.place next.ratio) (sym same) (attempt_no_better h Routes old best new.place next.ratio was here))
done_later h Routes t old new best next was at up (inr no_better) =
    let from = subst (λ j. IsUpToAt j next.place best.ratio next.ratio) was.place up in
    let here = subst (λ k. IsUpToAt old.place k best.ratio next.ratio) at from in
    inr (no_better_later h Routes t old.place new.place best.ratio next.ratio no_better here)

-- ---- the search

pub so_far_first : (h : Head) (Routes : List ℕ → List PairRoutes → Type 0) (limits : List ℕ) (best : Attempt) → AreLimits h limits →
    IsAttempt h Routes (direct_capacities h) best → IsBestSoFar h Routes limits best (direct_capacities h)
so_far_first h Routes limits best are is = record {
  attempt = is;
  which = inl refl;
  direct = inl refl;
  count = are.count;
  pairs = λ p below. inl (are.each p below);
}

-- the limit of another pair stands where it stood
other_limit : (limits : List ℕ) (p q : ℕ) → (q ≡ p → ⊥) → slice_index (set limits p 0) q ≡ slice_index limits q
other_limit limits p q apart = get_or-set_other limits p q 0 0 apart

-- the best stays
pub so_far_kept : (h : Head) (Routes : List ℕ → List PairRoutes → Type 0) (limits : List ℕ) (best next : Attempt) (tried : Tried) (p : ℕ) →
    IsBestSoFar h Routes limits best tried → IsAttempt h Routes (alone (length h.routes) p) next → IsUpToAt next.place best.place next.ratio best.ratio →
    IsBestSoFar h Routes (set limits p 0) best tried
so_far_kept h Routes limits best next tried p was is up = record {
  attempt = was.attempt;
  which = was.which;
  direct = was.direct;
  count = length-set limits p 0 ∙ was.count;
  pairs = λ q below. elim (cases_eq q p) [
    | inl same ↦
        let here = subst (λ k. IsUpToAt next.place k next.ratio best.ratio) was.attempt.place up in
        inr (inr (subst (λ k. IsNoBetter h Routes tried.place best.ratio (alone (length h.routes) k)) (sym same)
        (attempt_no_better h Routes (alone (length h.routes) p) next tried.place best.ratio is here)))
    | inr apart ↦ elim (was.pairs q below) [
      | inl limit ↦ inl (subst (IsLimit h q) (sym (other_limit limits p q apart)) limit)
      | inr done ↦ inr done
    ]
  ];
}

-- the next attempt is the best
pub so_far_next : (h : Head) (Routes : List ℕ → List PairRoutes → Type 0) (limits : List ℕ) (best next : Attempt) (tried : Tried) (p : ℕ) → p < length h.routes →
    IsBestSoFar h Routes limits best tried → IsAttempt h Routes (alone (length h.routes) p) next → IsUpToAt best.place next.place best.ratio next.ratio →
    IsBestSoFar h Routes (set limits p 0) next (alone (length h.routes) p)
so_far_next h Routes limits best next tried p inside was is up =
    let n = length h.routes in
    record {
      attempt = is;
      which = inr (p, inside, refl);
      direct = done_later h Routes (direct_capacities h) tried (alone n p) best next was.attempt is.place up was.direct;
      count = length-set limits p 0 ∙ was.count;
      pairs = λ q below. elim (cases_eq q p) [
        | inl same ↦ inr (inl (ap (alone n) same))
        | inr apart ↦ elim (was.pairs q below) [
          | inl limit ↦ inl (subst (IsLimit h q) (sym (other_limit limits p q apart)) limit)
          | inr done ↦ inr (done_later h Routes (alone n q) tried (alone n p) best next was.attempt is.place up done)
        ]
      ];
    }

-- ---- the end of the search

-- a pair alone leaves each other pair without a demand
pub alone_others : (n p q : ℕ) → q < n → (q ≡ p → ⊥) → slice_index (alone n p).demand.demand q ≡ 0
alone_others n p q below apart = get_or-set_other (replicate n 0) p q 1000000 0 apart ∙ get_or-replicate n q 0 0 below

-- no rival of a pair whose limit cannot come before the best can
pub limit_no_better : (h : Head) (Routes : List ℕ → List PairRoutes → Type 0) (p k ratio limit : ℕ) → IsLimit h p limit → IsUpToAt p k limit ratio →
    IsNoBetter h Routes k ratio (alone (length h.routes) p)
limit_no_better h Routes p k ratio limit is up =
    let t = alone (length h.routes) p in
    inr (λ rival rivals. up_to_lower p k limit ratio (tried_ratio h t rival)
    (is (slice_index t.demand.demand) rival (λ q below apart. alone_others (length h.routes) p q below apart) rivals) up)

-- the matrices that are tried of every matrix
pub all_tried : (h : Head) (P : Tried → Type 0) → ((p : ℕ) → p < length h.routes → P (alone (length h.routes) p)) → P (direct_capacities h) → All P (tried_of h AllMatrices)
all_tried h P each last =
    let n = length h.routes in
    let pairs = map (alone n) (range_with_len 0 n) in
    All-append P pairs (direct_capacities h ∷ [])
    (All-from_get_or P pairs (direct_capacities h) (λ p below.
    let inside : p < n = let e = length-map-range_with_len (alone n) 0 n in omega (arith, below, e) in
    subst P (sym (get_or-map-range_with_len (alone n) 0 n p p (direct_capacities h) inside (omega arith))) (each p inside)))
    (All-cons P (direct_capacities h) [] last (All-nil P))

tried_contained : (h : Head) (tried : Tried) →
    (tried ≡ direct_capacities h) ⊎ ((p : ℕ) × (p < length h.routes) × (tried ≡ alone (length h.routes) p)) → Contains (tried_of h AllMatrices) tried
tried_contained h tried (inl same) =
    let n = length h.routes in
    subst (Contains (tried_of h AllMatrices)) (sym same) (Contains-push (map (alone n) (range_with_len 0 n)) (direct_capacities h))
tried_contained h tried (inr one) =
    let n = length h.routes in
    let p = one.0 in
    let pairs = map (alone n) (range_with_len 0 n) in
    let inside = one.1 in
    let count = length-map-range_with_len (alone n) 0 n in
    let here : Contains pairs (alone n p) = (p, omega (arith, inside, count), get_or-map-range_with_len (alone n) 0 n p p (alone n p) inside (omega arith)) in
    subst (Contains (tried_of h AllMatrices)) (sym one.2) (Contains-append_left pairs (direct_capacities h ∷ []) (alone n p) here)

pub so_far_all : (h : Head) (Routes : List ℕ → List PairRoutes → Type 0) (limits : List ℕ) (best : Attempt) (tried : Tried) → h.set ≡ AllMatrices →
    IsBestSoFar h Routes limits best tried →
    ((k : ℕ) → k < length limits → IsUpToAt k best.place (slice_index limits k) best.ratio) → IsBestAttempt h Routes best
so_far_all h Routes limits best tried all was none =
    let n = length h.routes in
    let Done : Tried → Type 0 = IsDone h Routes tried best.ratio in
    record {
      tried = tried;
      is_tried = subst (λ set'. Contains (tried_of h set') tried) (sym all) (tried_contained h tried was.which);
      attempt = was.attempt;
      best = subst (λ set'. All Done (tried_of h set')) (sym all) (all_tried h Done
          (λ p below. elim (was.pairs p below) [
            | inl limit ↦ inr (limit_no_better h Routes p tried.place best.ratio (slice_index limits p) limit
                (subst (λ k. IsUpToAt p k (slice_index limits p) best.ratio) was.attempt.place (none p (let e = was.count in omega (arith, below, e)))))
            | inr is ↦ is
          ])
          was.direct);
    }

-- the better of the two is the best
pub so_far_more : (h : Head) (Routes : List ℕ → List PairRoutes → Type 0) (limits : List ℕ) (best next better : Attempt) (tried : Tried) (p : ℕ) → p < length h.routes →
    IsBestSoFar h Routes limits best tried → IsAttempt h Routes (alone (length h.routes) p) next → IsBetter best next better →
    (t : Tried) × IsBestSoFar h Routes (set limits p 0) better t
so_far_more h Routes limits best next better tried p inside was is choice =
    let n = length h.routes in
    elim choice.0 [
      | inl same ↦
          let up = subst (λ (b : Attempt). IsUpToAt next.place b.place next.ratio b.ratio) same choice.2 in
          (tried, subst (λ (b : Attempt). IsBestSoFar h Routes (set limits p 0) b tried) (sym same) (so_far_kept h Routes limits best next tried p was is up))
      | inr same ↦
          let up = subst (λ (b : Attempt). IsUpToAt best.place b.place best.ratio b.ratio) same choice.1 in (
            alone n p,
            subst (λ (b : Attempt). IsBestSoFar h Routes (set limits p 0) b (alone n p)) (sym same)
                (so_far_next h Routes limits best next tried p inside was is up),
          )
    ]
