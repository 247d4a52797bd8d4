-- Rates over more pairs, pair by pair.
use Rattle.std.proofs.Common.{◌≡◌, ◌⊎◌, ℕ, suc, ◌+◌, ◌<◌, Bool, true, false, List, [], ◌∷◌, ◌++◌, length, take, drop, All, refl, ap, sym, ◌∙◌, inl, inr, subst, add-one}
use Rattle.std.specs.Prelude.{slice_index_or, filter, reverse, if◌then◌else◌}
use Rattle.std.specs.List.{Contains}
use Rattle.std.proofs.lemmas.Bool.{false≢true, and_from}
use Rattle.std.proofs.lemmas.List.{append-nil, append_assoc, reverse-append, take_more}
use Rattle.std.proofs.lemmas.List.Elements.{All-nil, All-cons, All-head, All-tail, All-append, All-from_get_or, All-contains, Contains-append_left, Contains-push}
use Rattle.std.proofs.Math.Seq.{drop-cons}
use Rattle.te_model.specs.declared.route.Pair.{Pair}
use Rattle.te_model.specs.declared.route.PairRoutes.{PairRoutes}
use Rattle.te_model.specs.Path.{no_routes}
use Rattle.te_model.proofs.Tests.{list_all_at}
use Rattle.local_recovery.specs.Rates.{has_rates, have_rates, pairs_of}
use Rattle.local_recovery.specs.Spread.{IsSublist, IsSpread, IsTaken}

-- of the own routes some are handed out, and the rest are left, the last first
pub record SpreadSoFar (own : List PairRoutes) (pairs : List Pair) (i : ℕ) (left list : List PairRoutes) : Type 0 where
  pub pairs_are : pairs_of list ≡ take i pairs
  pub rest : IsSublist (pairs_of (reverse left)) (drop i pairs)
  pub done : (done : List PairRoutes) × (own ≡ done ++ reverse left) × All (Contains list) done
  pub added : All (λ r. Contains own r ⊎ (r.paths ≡ [])) list

all_more : (P Q : PairRoutes → Type 0) (xs : List PairRoutes) → ((x : PairRoutes) → P x → Q x) → All P xs → All Q xs
all_more P Q [] weaker all = All-nil Q
all_more P Q (x ∷ xs) weaker all =
    All-cons Q x xs (weaker x (All-head P x xs all)) (all_more P Q xs weaker (All-tail P x xs all))

reverse_twice : (xs : List PairRoutes) → reverse (reverse xs) ≡ xs
reverse_twice [] = refl
reverse_twice (x ∷ xs) = reverse_pushed x xs (reverse_twice xs)
  where
    reverse_pushed : (x : PairRoutes) (xs : List PairRoutes) → reverse (reverse xs) ≡ xs → reverse (reverse (x ∷ xs)) ≡ x ∷ xs
    reverse_pushed x xs e =
        ap reverse (reverse-append (x ∷ []) xs) ∙ (reverse-append (reverse xs) (x ∷ []) ∙ ap (λ ys. x ∷ ys) e)

pub spread_begin : (own : List PairRoutes) (pairs : List Pair) (left : List PairRoutes) → left ≡ reverse own → IsSublist (pairs_of own) pairs →
    SpreadSoFar own pairs 0 left []
spread_begin own pairs left is sub =
    let whole : reverse left ≡ own = ap reverse is ∙ reverse_twice own in
    record {
      pairs_are = refl;
      rest = subst (λ rs. IsSublist (pairs_of rs) pairs) (sym whole) sub;
      done = ([], sym whole, All-nil (Contains []));
      added = All-nil (λ r. Contains own r ⊎ (r.paths ≡ []));
    }

filter_passes : (test : Pair → Bool) (xs : List Pair) → All (λ x. test x ≡ true) (filter test xs)
filter_passes test [] = All-nil (λ x. test x ≡ true)
filter_passes test (x ∷ xs) = go (test x) refl (filter_passes test xs)
  where
    go : (b : Bool) → test x ≡ b → All (λ y. test y ≡ true) (filter test xs) → All (λ y. test y ≡ true) (if b then x ∷ filter test xs else filter test xs)
    go true is rest = All-cons (λ y. test y ≡ true) x (filter test xs) is rest
    go false is rest = rest

-- the pair at hand is among the rest where it is the first of it
first_taken : (test : Pair → Bool) (q : Pair) (ds ps : List Pair) (b : Bool) → test q ≡ b →
    q ∷ ps ≡ (if b then q ∷ filter test ds else filter test ds) → ps ≡ filter test ds
first_taken test q ds ps true is e = cc
first_taken test q ds ps false is e =
    absurd (false≢true (sym is ∙ All-head (λ x. test x ≡ true) q ps (subst (All (λ x. test x ≡ true)) (sym e) (filter_passes test ds))))

sublist_taken : (q : Pair) (ps ds : List Pair) → IsSublist (q ∷ ps) (q ∷ ds) → IsSublist ps ds
sublist_taken q ps ds sub = (sub.0, first_taken sub.0 q ds ps (sub.0 q) refl sub.1)

-- and it is not where the first of the rest is another
first_left : (test : Pair → Bool) (q : Pair) (ds : List Pair) (rs : List PairRoutes) (b : Bool) →
    ((r : PairRoutes) (more : List PairRoutes) → rs ≡ r ∷ more → r.pair ≡ q → ⊥) →
    pairs_of rs ≡ (if b then q ∷ filter test ds else filter test ds) → pairs_of rs ≡ filter test ds
first_left test q ds [] true other e = cc
first_left test q ds (r ∷ rs) true other e = absurd (other r rs refl (cc))
first_left test q ds rs false other e = e

sublist_left : (q : Pair) (rs : List PairRoutes) (ds : List Pair) → ((r : PairRoutes) (more : List PairRoutes) → rs ≡ r ∷ more → r.pair ≡ q → ⊥) →
    IsSublist (pairs_of rs) (q ∷ ds) → IsSublist (pairs_of rs) ds
sublist_left q rs ds other sub = (sub.0, first_left sub.0 q ds rs (sub.0 q) other sub.1)

pairs_pushed : (list : List PairRoutes) (r : PairRoutes) → pairs_of (list ++ r ∷ []) ≡ pairs_of list ++ r.pair ∷ []
pairs_pushed [] r = refl
pairs_pushed (x ∷ xs) r = ap (λ ps. x.pair ∷ ps) (pairs_pushed xs r)

pub spread_more : (own : List PairRoutes) (pairs lent : List Pair) (i : ℕ) (q : Pair) (left left' list list' : List PairRoutes) (r : PairRoutes) →
    SpreadSoFar own pairs i left list → lent ≡ pairs → i < length lent → q ≡ slice_index_or lent i q → IsTaken q left left' r → list' ≡ list ++ r ∷ [] →
    SpreadSoFar own pairs (i + 1) left' list'
spread_more own pairs lent i q left left' list list' r before same below read taken made =
    go taken
  where
    inside : i < length pairs
    inside = subst (λ ps. i < length ps) same below

    here : slice_index_or pairs i q ≡ q
    here = ap (λ ps. slice_index_or ps i q) (sym same) ∙ sym read

    cut : drop i pairs ≡ q ∷ drop (i + 1) pairs
    cut = drop-cons pairs i q inside ∙ (ap (λ p. p ∷ drop (suc i) pairs) here ∙ ap (λ k. q ∷ drop k pairs) (sym (add-one i)))

    pairs_next : r.pair ≡ q → pairs_of list' ≡ take (i + 1) pairs
    pairs_next e =
        ap pairs_of made ∙ (pairs_pushed list r ∙ (ap (λ ps. ps ++ r.pair ∷ []) before.pairs_are
        ∙ (ap (λ p. take i pairs ++ p ∷ []) (e ∙ sym here) ∙ sym (take_more pairs i q inside))))

    kept : (done : List PairRoutes) → All (Contains list) done → All (Contains list') done
    kept done all =
        all_more (Contains list) (Contains list') done
        (λ x is. subst (λ xs. Contains xs x) (sym made) (Contains-append_left list (r ∷ []) x is)) all

    has : Contains list' r
    has = subst (λ xs. Contains xs r) (sym made) (Contains-push list r)

    added : Contains own r ⊎ (r.paths ≡ []) → All (λ x. Contains own x ⊎ (x.paths ≡ [])) list'
    added new =
        subst (All (λ x. Contains own x ⊎ (x.paths ≡ []))) (sym made)
        (All-append (λ x. Contains own x ⊎ (x.paths ≡ [])) list (r ∷ []) before.added
        (All-cons (λ x. Contains own x ⊎ (x.paths ≡ [])) r [] new (All-nil (λ x. Contains own x ⊎ (x.paths ≡ [])))))

    go : IsTaken q left left' r → SpreadSoFar own pairs (i + 1) left' list'
    go (inl found) =
        let turned : reverse left ≡ r ∷ reverse left' = ap reverse found.0 ∙ reverse-append left' (r ∷ []) in
        let done = before.done.0 in
        let own_is : own ≡ (done ++ r ∷ []) ++ reverse left' =
        before.done.1 ∙ (ap (λ rs. done ++ rs) turned ∙ sym (append_assoc done (r ∷ []) (reverse left'))) in
        let sub : IsSublist (q ∷ pairs_of (reverse left')) (q ∷ drop (i + 1) pairs) =
        subst (λ ds. IsSublist (q ∷ pairs_of (reverse left')) ds) cut
        (subst (λ p. IsSublist (p ∷ pairs_of (reverse left')) (drop i pairs)) found.1
        (subst (λ rs. IsSublist (pairs_of rs) (drop i pairs)) turned before.rest)) in
        record {
          pairs_are = pairs_next found.1;
          rest = sublist_taken q (pairs_of (reverse left')) (drop (i + 1) pairs) sub;
          done = (
            done ++ r ∷ [],
            own_is,
            All-append (Contains list') done (r ∷ []) (kept done before.done.2) (All-cons (Contains list') r [] has (All-nil (Contains list'))),
          );
          added = added (inl (subst (λ xs. Contains xs r) (sym own_is)
              (Contains-append_left (done ++ r ∷ []) (reverse left') r (Contains-push done r))));
        }
    go (inr other) =
        let stays = other.0 in
        let none = λ (x : PairRoutes) (more : List PairRoutes) (e : reverse left ≡ x ∷ more) (p : x.pair ≡ q).
        other.2 (reverse more) x (sym (reverse_twice left) ∙ (ap reverse e ∙ reverse-append (x ∷ []) more)) p in
        record {
          pairs_are = pairs_next (ap (λ (x : PairRoutes). x.pair) other.1);
          rest = subst (λ rs. IsSublist (pairs_of (reverse rs)) (drop (i + 1) pairs)) (sym stays)
              (sublist_left q (reverse left) (drop (i + 1) pairs) none (subst (IsSublist (pairs_of (reverse left))) cut before.rest));
          done = (before.done.0, before.done.1 ∙ ap (λ rs. before.done.0 ++ reverse rs) (sym stays), kept before.done.0 before.done.2);
          added = added (inr (ap (λ (x : PairRoutes). x.paths) other.1));
        }

no_pairs : (rs : List PairRoutes) → pairs_of rs ≡ [] → rs ≡ []
no_pairs [] e = refl
no_pairs (r ∷ rs) e = cc

drop_all : (ps : List Pair) → drop (length ps) ps ≡ []
drop_all [] = refl
drop_all (p ∷ ps) = drop_all ps

take_all : (ps : List Pair) → take (length ps) ps ≡ ps
take_all [] = refl
take_all (p ∷ ps) = ap (λ qs. p ∷ qs) (take_all ps)

pub spread_end : (own : List PairRoutes) (pairs : List Pair) (i : ℕ) (left list : List PairRoutes) → SpreadSoFar own pairs i left list → i ≡ length pairs →
    IsSpread pairs own list
spread_end own pairs i left list before end' =
    let none : reverse left ≡ [] =
    no_pairs (reverse left) (before.rest.1 ∙ (ap (λ k. filter before.rest.0 (drop k pairs)) end' ∙ ap (filter before.rest.0) (drop_all pairs))) in
    let whole : own ≡ before.done.0 =
    before.done.1 ∙ (ap (λ rs. before.done.0 ++ rs) none ∙ append-nil before.done.0) in
    record {
      pairs_are = before.pairs_are ∙ (ap (λ k. take k pairs) end' ∙ take_all pairs);
      kept = subst (All (Contains list)) (sym whole) before.done.2;
      added = before.added;
    }

all_pass : (own : List PairRoutes) → have_rates own ≡ true → All (λ r. has_rates r ≡ true) own
all_pass own rates = All-from_get_or (λ r. has_rates r ≡ true) own no_routes (λ k below. list_all_at has_rates own k no_routes rates refl)

empty_rates : (r : PairRoutes) → r.paths ≡ [] → has_rates r ≡ true
empty_rates r none = subst (λ ps. has_rates (record { pair = r.pair; paths = ps }) ≡ true) (sym none) refl

-- the routes that were spread are rates too
pub spread_rates : (own list : List PairRoutes) → have_rates own ≡ true → All (λ r. Contains own r ⊎ (r.paths ≡ [])) list → have_rates list ≡ true
spread_rates own [] rates added = refl
spread_rates own (r ∷ rs) rates added =
    and_from (has_rates r) (have_rates rs)
    (first r (All-head (λ r. Contains own r ⊎ (r.paths ≡ [])) r rs added))
    (spread_rates own rs rates (All-tail (λ r. Contains own r ⊎ (r.paths ≡ [])) r rs added))
  where
    first : (r : PairRoutes) → Contains own r ⊎ (r.paths ≡ []) → has_rates r ≡ true
    first r (inl is) = All-contains (λ x. has_rates x ≡ true) own r (all_pass own rates) is
    first r (inr none) = empty_rates r none
