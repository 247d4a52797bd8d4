-- The pairs that stand in either of two lists, and those of them that stand in one.
use Rattle.std.proofs.Common.{ℕ, suc, ◌+◌, ◌*◌, ◌/◌, ◌%◌, ◌<◌, ◌≡◌, ◌∙◌, refl, sym, ap, List, [], ◌∷◌, length, get_or, take, map, filter, replicate, All, AllPairs, Bool, true, false, ◌||◌, cond, arith}
use Rattle.std.specs.List.{list_any}
use Rattle.std.proofs.Math.Bool.{or-false}
use Rattle.std.proofs.lemmas.Bool.{false≢true}
use Rattle.std.proofs.lemmas.List.{get_or-replicate, get_or_default}
use Rattle.std.proofs.lemmas.List.Elements.{filter_passes}
use Rattle.std.proofs.lemmas.List.Folds.{Any-from_list_any, list_any_at, list_any_more}
use Rattle.std.proofs.lemmas.List.Kept.{AllPairs-filter}
use Rattle.te_model.specs.declared.route.Pair.{Pair}
use Rattle.te_model.specs.Pairs.{no_pair, AscendPairs, IsNodePair, IsPairAmong}
use Rattle.te_model.proofs.AscendingPairs.{Below, all_ascend, neighbours_ascend}
use Rattle.traffic_matrix.specs.Pairs.{all_pairs, pair_of_place, place_of_pair, same_pair}
use Rattle.traffic_matrix.specs.Traffic.{has_pair, pairs_of_either}
use Rattle.traffic_matrix.proofs.GravityLemmas.{all-within}
use Rattle.traffic_matrix.proofs.LimitLemmas.{All-where, all-ascend}
use Rattle.traffic_matrix.proofs.PairLists.{Mem, among-all, mem-filter, pair-is, same-lists}
use Rattle.traffic_matrix.proofs.TableLemmas.{place-below, same-pair}

-- two nodes, whichever
pub node-pairs : (n : ℕ) (pairs : List Pair) → All (IsPairAmong n) pairs → All (IsNodePair n) pairs
node-pairs n pairs all k d low = let pair = all k d low in record { src = pair.src_inside; dst = pair.dst_inside }

-- a pair that the list has stands in it
pub stands : (pairs : List Pair) (q : Pair) → has_pair pairs q ≡ true → Mem q pairs
stands pairs q has =
    let (i, p, low, at, is) = Any-from_list_any (λ (r : Pair). same_pair r q) pairs has in
    (i, low, get_or_default pairs i no_pair p low ∙ at ∙ pair-is p q is)

pub has-own : (pairs : List Pair) (i : ℕ) → i < length pairs → has_pair pairs (get_or pairs i no_pair) ≡ true
has-own pairs i low =
    let p = get_or pairs i no_pair in
    list_any_at (λ (q : Pair). same_pair q p) pairs i no_pair low (same-pair p p refl refl)

-- of all pairs those that an ascending list has are the list
pub own-of-all : (n : ℕ) (own : List Pair) → All (IsNodePair n) own → AscendPairs own → filter (has_pair own) (all_pairs n) ≡ own
own-of-all n own nodes ascend =
    let tested = filter_passes (has_pair own) (all_pairs n) in
    same-lists (filter (has_pair own) (all_pairs n)) own (AllPairs-filter Below (has_pair own) (all_pairs n) (all-ascend n)) (all_ascend own ascend)
    (λ q m. let (i, low, is) = m in stands own q (rw is at (tested i no_pair low)))
    (λ q m. let (i, low, is) = m in
    rw is at (mem-filter (has_pair own) (all_pairs n) (get_or own i no_pair) (among-all n (get_or own i no_pair) (nodes i no_pair low)) (has-own own i low)))

-- what passes one test and then a wider one
pub within-wider : (test wider : Pair → Bool) → ((q : Pair) → test q ≡ true → wider q ≡ true) → (pairs : List Pair) →
    filter test (filter wider pairs) ≡ filter test pairs
within-wider test wider says [] = refl
within-wider test wider says (p ∷ ps) = go (test p) (wider p) refl refl (within-wider test wider says ps)
  where
    go : (a b : Bool) → test p ≡ a → wider p ≡ b → filter test (filter wider ps) ≡ filter test ps → filter test (cond b (p ∷ filter wider ps) (filter wider ps)) ≡ cond a (p ∷ filter test ps) (filter test ps)
    go true true e f rest = rw e (ap (λ (qs : List Pair). p ∷ qs) rest)
    go false true e f rest = rw e rest
    go true false e f rest = absurd (false≢true (sym f ∙ says p e))
    go false false e f rest = rest

wider-one : (a b : Bool) → a ≡ true → (a || b) ≡ true
wider-one true b e = refl
wider-one false b e = absurd (false≢true e)

wider-other : (a b : Bool) → b ≡ true → (a || b) ≡ true
wider-other true b e = refl
wider-other false b e = e

-- the pairs of one list are those of both that it has
pub one-of-either : (n : ℕ) (one other : List Pair) → All (IsNodePair n) one → AscendPairs one → one ≡ filter (has_pair one) (pairs_of_either n one other)
one-of-either n one other nodes ascend =
    sym (within-wider (has_pair one) (λ q. has_pair one q || has_pair other q) (λ q. wider-one (has_pair one q) (has_pair other q)) (all_pairs n)
    ∙ own-of-all n one nodes ascend)

pub other-of-either : (n : ℕ) (one other : List Pair) → All (IsNodePair n) other → AscendPairs other → other ≡ filter (has_pair other) (pairs_of_either n one other)
other-of-either n one other nodes ascend =
    sym (within-wider (has_pair other) (λ q. has_pair one q || has_pair other q) (λ q. wider-other (has_pair one q) (has_pair other q)) (all_pairs n)
    ∙ own-of-all n other nodes ascend)

pub either-ascend : (n : ℕ) (one other : List Pair) → AscendPairs (pairs_of_either n one other)
either-ascend n one other =
    let test : Pair → Bool = λ q. has_pair one q || has_pair other q in
    neighbours_ascend (pairs_of_either n one other) (AllPairs-filter Below test (all_pairs n) (all-ascend n))

among-stands : (n : ℕ) (pairs : List Pair) (q : Pair) → All (IsPairAmong n) pairs → has_pair pairs q ≡ true → IsPairAmong n q
among-stands n pairs q all has = let (i, low, is) = stands pairs q has in rw is at (all i no_pair low)

pub either-among : (n : ℕ) (one other : List Pair) → All (IsPairAmong n) one → All (IsPairAmong n) other → All (IsPairAmong n) (pairs_of_either n one other)
either-among n one other all also =
    All-where (λ q. has_pair one q || has_pair other q) (λ q. Unit {0}) (IsPairAmong n) (all_pairs n) (λ k d low. tt)
    (λ q u h. go q (has_pair one q) refl h)
  where
    go : (q : Pair) (b : Bool) → has_pair one q ≡ b → (b || has_pair other q) ≡ true → IsPairAmong n q
    go q true e h = among-stands n one q all e
    go q false e h = among-stands n other q also h

-- the list has the pairs so far, or the next one
or-swaps : (a b c : Bool) → (b || (a || c)) ≡ ((a || b) || c)
or-swaps true true c = refl
or-swaps true false c = refl
or-swaps false true c = refl
or-swaps false false c = refl

pub marks-more : (pairs : List Pair) (i : ℕ) (q : Pair) (old : Bool) → i < length pairs →
    (same_pair (get_or pairs i no_pair) q || (has_pair (take i pairs) q || old)) ≡ (has_pair (take (i + 1) pairs) q || old)
marks-more pairs i q old low =
    or-swaps (has_pair (take i pairs) q) (same_pair (get_or pairs i no_pair) q) old
    ∙ ap (λ (b : Bool). b || old) (sym (list_any_more (λ (p : Pair). same_pair p q) pairs i no_pair low))

-- the place of the pair of a place
pub place-back : (n k : ℕ) → place_of_pair n (pair_of_place n k) ≡ k
place-back n k = omega arith

-- tests that agree on pairs of nodes pass the same of all pairs
pub same-of-all : (test other : Pair → Bool) (n : ℕ) (pairs : List Pair) → All (IsNodePair n) pairs →
    ((q : Pair) → IsNodePair n q → test q ≡ other q) → filter test pairs ≡ filter other pairs
same-of-all test other n [] nodes agree = refl
same-of-all test other n (p ∷ ps) nodes agree =
    rw (agree p (nodes 0 no_pair (omega arith)), same-of-all test other n ps (λ k d low. nodes (suc k) d (omega arith)) agree) refl

-- the pairs at the places that were marked for either list
pub either-marked : (n : ℕ) (one other : List Pair) (none first both read : List Bool) → none ≡ replicate (n * n) false →
    ((q : Pair) → IsNodePair n q → get_or first (place_of_pair n q) false ≡ (has_pair other q || get_or none (place_of_pair n q) false)) →
    ((q : Pair) → IsNodePair n q → get_or both (place_of_pair n q) false ≡ (has_pair one q || get_or first (place_of_pair n q) false)) → read ≡ both →
    filter (λ q. get_or read (place_of_pair n q) false) (all_pairs n) ≡ pairs_of_either n one other
either-marked n one other none first both read empty by_other by_one same =
    same-of-all (λ q. get_or read (place_of_pair n q) false) (λ q. has_pair one q || has_pair other q) n (all_pairs n) (all-within n) (λ q w.
    let unmarked : get_or none (place_of_pair n q) false ≡ false =
    ap (λ (bs : List Bool). get_or bs (place_of_pair n q) false) empty ∙ get_or-replicate (n * n) (place_of_pair n q) false false (place-below n q w)
    in
    ap (λ (bs : List Bool). get_or bs (place_of_pair n q) false) same
    ∙ (by_one q w
    ∙ ap (λ (b : Bool). has_pair one q || b) (by_other q w ∙ ap (λ (b : Bool). has_pair other q || b) unmarked ∙ or-false (has_pair other q))))
