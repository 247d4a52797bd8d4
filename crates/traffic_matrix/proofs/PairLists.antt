-- Lists of pairs that ascend, and the pairs that stand in them.
use Rattle.std.proofs.Common.{ℕ, zero, suc, ◌*◌, ◌/◌, ◌%◌, ◌<◌, ◌≡◌, ◌∙◌, refl, sym, ap, inl, inr, List, [], ◌∷◌, length, get_or, filter, AllPairs, Bool, true, false, cond, arith}
use Rattle.std.proofs.lemmas.List.FromFn.{get_or-map-range_with_len, length-map-range_with_len}
use Rattle.std.proofs.lemmas.Nat.{div-mul-add}
use Rattle.te_model.proofs.AscendingPairs.{Below, below_differ}
use Rattle.te_model.specs.declared.route.Pair.{Pair}
use Rattle.te_model.specs.Pairs.{no_pair, IsNodePair}
use Rattle.traffic_matrix.specs.Pairs.{place_of_pair, pair_of_place, all_pairs, same_pair}
use Rattle.traffic_matrix.proofs.TableLemmas.{pair-parts, place-below}

-- a pair that stands in a list
abbrev pub Mem : Pair → List Pair → Type 0
Mem q xs = (i : ℕ) × (i < length xs) × (get_or xs i no_pair ≡ q)

both-below : (p q : Pair) → Below p q → Below q p → ⊥
both-below p q a b = elim a [
  | inl x ↦ elim b [ inl y ↦ absurd (omega arith) | inr y ↦ absurd (omega (arith, y.0)) ]
  | inr x ↦ elim b [ inl y ↦ absurd (omega (arith, x.0)) | inr y ↦ absurd (omega (arith, x.1, y.1)) ]
]

-- the first pairs of two ascending lists of the same pairs
same-head : (x y : Pair) (xs ys : List Pair) → AllPairs Below (x ∷ xs) → AllPairs Below (y ∷ ys) → Mem x (y ∷ ys) → Mem y (x ∷ xs) → x ≡ y
same-head x y xs ys a b (zero, l, is) g = sym is
same-head x y xs ys a b (suc i, l, is) (zero, m, back) = back
same-head x y xs ys a b (suc i, l, is) (suc j, m, back) = absurd (both-below y x (rw is at (b 0 (suc i) no_pair (omega arith) l)) (rw back at (a 0 (suc j) no_pair (omega arith) m)))

-- a later pair of one list is a later pair of the other
same-tail : (x q : Pair) (xs ys : List Pair) → AllPairs Below (x ∷ xs) → Mem q xs → Mem q (x ∷ ys) → Mem q ys
same-tail x q xs ys a (i, l, is) (suc j, m, back) = (j, omega arith, back)
same-tail x q xs ys a (i, l, is) (zero, m, back) =
    let less : Below x q = rw is at (a 0 (suc i) no_pair (omega arith) (omega arith)) in
    absurd (below_differ x q less (ap (λ (p : Pair). p.src) back) (ap (λ (p : Pair). p.dst) back))

pub tail-ascends : (x : Pair) (xs : List Pair) → AllPairs Below (x ∷ xs) → AllPairs Below xs
tail-ascends x xs a i j d less low = a (suc i) (suc j) d (omega arith) (omega arith)

later : (x q : Pair) (xs : List Pair) → Mem q xs → Mem q (x ∷ xs)
later x q xs (i, l, is) = (suc i, omega arith, is)

-- two ascending lists of the same pairs are one
pub same-lists : (xs ys : List Pair) → AllPairs Below xs → AllPairs Below ys → ((q : Pair) → Mem q xs → Mem q ys) → ((q : Pair) → Mem q ys → Mem q xs) → xs ≡ ys
same-lists [] [] a b f g = refl
same-lists [] (y ∷ ys) a b f g = let (i, l, is) = g y (0, omega arith, refl) in absurd (omega arith)
same-lists (x ∷ xs) [] a b f g = let (i, l, is) = f x (0, omega arith, refl) in absurd (omega arith)
same-lists (x ∷ xs) (y ∷ ys) a b f g =
    let e : x ≡ y = same-head x y xs ys a b (f x (0, omega arith, refl)) (g y (0, omega arith, refl)) in
    rw e (ap (λ (r : List Pair). y ∷ r) (same-lists xs ys (tail-ascends x xs a) (tail-ascends y ys b)
    (λ q m. same-tail x q xs ys a m (rw (sym e) at (f q (later x q xs m))))
    (λ q m. same-tail y q ys xs b m (rw e at (g q (later y q ys m))))))

pub mem-filter : (test : Pair → Bool) (xs : List Pair) (q : Pair) → Mem q xs → test q ≡ true → Mem q (filter test xs)
mem-filter test [] q (i, l, is) h = absurd (omega arith)
mem-filter test (x ∷ xs) q (zero, l, is) h = let e : test x ≡ true = rw (sym is) at h in rw e (0, omega arith, is)
mem-filter test (x ∷ xs) q (suc i, l, is) h = go (test x) (mem-filter test xs q (i, omega arith, is) h)
  where
    go : (b : Bool) → Mem q (filter test xs) → Mem q (cond b (x ∷ filter test xs) (filter test xs))
    go true m = later x q (filter test xs) m
    go false m = m

pub pair-is : (p q : Pair) → same_pair p q ≡ true → p ≡ q
pair-is p q h = let (s, d) = pair-parts p q h in ap (λ (v : ℕ). let r : Pair = record { src = v; dst = p.dst } in r) s ∙ ap (λ (v : ℕ). let r : Pair = record { src = q.src; dst = v } in r) d

-- a pair within stands among all pairs
pub among-all : (n : ℕ) (p : Pair) → IsNodePair n p → Mem p (all_pairs n)
among-all n p w =
    let k = place_of_pair n p in
    let low = place-below n p w in
    let quotient : k / n ≡ p.src = div-mul-add p.src n p.dst w.dst in
    let rest : k % n ≡ p.dst = (let dst = w.dst in let f : n * (k / n) ≡ n * p.src = ap (λ (v : ℕ). n * v) quotient in omega arith) in
    let is : pair_of_place n k ≡ p = ap (λ (v : ℕ). let r : Pair = record { src = v; dst = k % n } in r) quotient ∙ ap (λ (v : ℕ). let r : Pair = record { src = p.src; dst = v } in r) rest in
    (k, omega (arith, length-map-range_with_len (pair_of_place n) 0 (n * n)), get_or-map-range_with_len (pair_of_place n) 0 (n * n) k k no_pair low (omega arith) ∙ is)
