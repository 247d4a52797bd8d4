-- The units of a pair's flows are its demand.
use Rattle.std.proofs.Common.{◌≡◌, ℕ, zero, suc, ◌+◌, ◌<◌, Bool, true, false, List, [], ◌∷◌, ◌++◌, length, sum, slice_index, arith, refl, ap, sym, ◌∙◌, inl, inr, ◌==◌, length-append}
use Rattle.std.specs.Prelude.{if◌then◌else◌, nat_lt, replicate}
use Rattle.std.proofs.lemmas.Bool.{cases_lt}
use Rattle.std.proofs.lemmas.Bool.Decides.{nat_tests}
use Rattle.std.proofs.lemmas.List.{length-map}
use Rattle.std.proofs.lemmas.List.Sums.{sum_by-cons}
use Rattle.std.proofs.lemmas.List.FromFn.{length-map-range_with_len}
use Rattle.te_model.specs.declared.network.Network.{Network}
use Rattle.te_model.specs.declared.route.PairRoutes.{PairRoutes}
use Rattle.te_model.specs.declared.route.PathShare.{PathShare}
use Rattle.te_model.specs.Counting.{sum_below}
use Rattle.te_model.specs.Apportion.{apportion, part}
use Rattle.te_model.proofs.ApportionLaws.{sum_below-first, apportion-sum}
use Rattle.flow_sim.specs.Tables.{amount_of_key, total_at}
use Rattle.flow_sim.specs.Step.{over_pair, delivery, lost_failed, lost_full}
use Rattle.flow_sim.specs.Traffic.{concat_below, paths_of, weights, flow_paths, flow_pairs, starts_of, flow_starts, step_setting, lost_no_path, CanSplit}
use Rattle.flow_sim.proofs.Conservation.{pair_conserved}

-- the amounts of key q, along two lists at once
abbrev key_sum : List ℕ → List ℕ → ℕ → ℕ
key_sum [] xs q = 0
key_sum (k ∷ ks) [] q = 0
key_sum (k ∷ ks) (x ∷ xs) q = (if k == q then x else 0) + key_sum ks xs q

total_at-key_sum : (ks xs : List ℕ) (q : ℕ) → length ks ≡ length xs → total_at ks xs q ≡ key_sum ks xs q
total_at-key_sum [] xs q same = refl
total_at-key_sum (k ∷ ks) [] q same = absurd (omega arith)
total_at-key_sum (k ∷ ks) (x ∷ xs) q same =
    omega (
      arith,
      sum_below-first (length ks) (amount_of_key (k ∷ ks) (x ∷ xs) q),
      total_at-key_sum ks xs q (omega arith),
    )

key_sum-append : (ks xs ls ys : List ℕ) (q : ℕ) → length ks ≡ length xs → key_sum (ks ++ ls) (xs ++ ys) q ≡ key_sum ks xs q + key_sum ls ys q
key_sum-append [] [] ls ys q same = omega arith
key_sum-append [] (x ∷ xs) ls ys q same = absurd (omega arith)
key_sum-append (k ∷ ks) [] ls ys q same = absurd (omega arith)
key_sum-append (k ∷ ks) (x ∷ xs) ls ys q same = omega (arith, key_sum-append ks xs ls ys q (omega arith))

one_key : (b : Bool) (x rest : ℕ) → (if b then x else 0) + (if b then rest else 0) ≡ (if b then x + rest else 0)
one_key true x rest = refl
one_key false x rest = refl

key_sum-replicate : (p : ℕ) (xs : List ℕ) (q : ℕ) → key_sum (replicate (length xs) p) xs q ≡ (if p == q then sum xs else 0)
key_sum-replicate p [] q = go (p == q)
  where
    go : (b : Bool) → 0 ≡ (if b then sum [] else 0)
    go true = refl
    go false = refl
key_sum-replicate p (x ∷ xs) q =
    let whole : sum (x ∷ xs) ≡ x + sum xs = sum_by-cons (λ y. y) x xs in
    rw whole (ap (λ s. (if p == q then x else 0) + s) (key_sum-replicate p xs q) ∙ one_key (p == q) x (sum xs))

pub concat_same : {A B : Type 0} (n : ℕ) (a : ℕ → List A) (b : ℕ → List B) → ((k : ℕ) → k < n → length (a k) ≡ length (b k)) →
    length (concat_below n a) ≡ length (concat_below n b)
concat_same zero a b each = refl
concat_same (suc n) a b each =
    omega (
      arith,
      length-append (concat_below n a) (a n),
      length-append (concat_below n b) (b n),
      concat_same n a b (λ k below. each k (omega arith)),
      each n (omega arith),
    )

length-replicate' : {A : Type 0} (n : ℕ) (x : A) → length (replicate n x) ≡ n
length-replicate' zero x = refl
length-replicate' (suc n) x = ap suc (length-replicate' n x)

key_sum-counted : (p c : ℕ) (xs : List ℕ) (q : ℕ) → length xs ≡ c → key_sum (replicate c p) xs q ≡ (if p == q then sum xs else 0)
key_sum-counted p c xs q e = rw (← e) (key_sum-replicate p xs q)

-- the amounts of key q are those of its piece
pieces_sum : (n : ℕ) (count : ℕ → ℕ) (piece : ℕ → List ℕ) (q : ℕ) → ((k : ℕ) → length (piece k) ≡ count k) →
    key_sum (concat_below n (λ p. replicate (count p) p)) (concat_below n piece) q ≡ (if nat_lt q n then sum (piece q) else 0)
pieces_sum zero count piece q each = let out : nat_lt q 0 ≡ false = grind (arith, nat_tests) in rw out refl
pieces_sum (suc n) count piece q each =
    let split = key_sum-append (concat_below n (λ p. replicate (count p) p)) (concat_below n piece)
    (replicate (count n) n) (piece n) q
    (concat_same n (λ p. replicate (count p) p) piece (λ k below. length-replicate' (count k) k ∙ sym (each k))) in
    let last = key_sum-counted n (count n) (piece n) q (each n) in
    let before = pieces_sum n count piece q each in
    elim (cases_lt q n) [
      | inl lt ↦
          let a : nat_lt q n ≡ true = grind (arith, nat_tests) in
          let b : nat_lt q (suc n) ≡ true = grind (arith, nat_tests) in
          let d : (n == q) ≡ false = grind (arith, nat_tests) in
          rw b (omega (arith, split, rw d at last, rw a at before))
      | inr ge ↦
          elim (cases_lt n q) [
            | inl gt ↦
                let a : nat_lt q n ≡ false = grind (arith, nat_tests) in
                let b : nat_lt q (suc n) ≡ false = grind (arith, nat_tests) in
                let d : (n == q) ≡ false = grind (arith, nat_tests) in
                rw b (omega (arith, split, rw d at last, rw a at before))
            | inr le ↦
                let a : nat_lt q n ≡ false = grind (arith, nat_tests) in
                let b : nat_lt q (suc n) ≡ true = grind (arith, nat_tests) in
                let d : (n == q) ≡ true = grind (arith, nat_tests) in
                let same : n ≡ q = omega arith in
                rw b (omega (arith, split, rw d at last, rw a at before, ap (λ k. sum (piece k)) same))
          ]
    ]

weights-length : (rates : List PairRoutes) (p : ℕ) → length (weights (paths_of rates p)) ≡ length (paths_of rates p)
weights-length rates p = length-map (paths_of rates p) (λ s. s.weight)

pub starts-length : (rates : List PairRoutes) (demand : List ℕ) (p : ℕ) → length (starts_of rates demand p) ≡ length (paths_of rates p)
starts-length rates demand p =
    length-map-range_with_len (part (slice_index demand p) (weights (paths_of rates p))) 0 (length (weights (paths_of rates p)))
    ∙ weights-length rates p

pub pairs-length : (rates : List PairRoutes) → length (flow_pairs rates) ≡ length (flow_paths rates)
pairs-length rates =
    concat_same (length rates) (λ p. replicate (length (paths_of rates p)) p) (paths_of rates)
    (λ k below. length-replicate' (length (paths_of rates k)) k)

pub starts-flows : (rates : List PairRoutes) (demand : List ℕ) → length (flow_starts rates demand) ≡ length (flow_paths rates)
starts-flows rates demand =
    concat_same (length rates) (starts_of rates demand) (paths_of rates) (λ k below. starts-length rates demand k)

-- the units that a pair's flows start with
started : (net : Network) (failed : List Bool) (rates : List PairRoutes) (demand : List ℕ) (q : ℕ) → q < length rates →
    over_pair (step_setting net failed rates demand) (step_setting net failed rates demand).start q ≡ sum (starts_of rates demand q)
started net failed rates demand q below =
    let ks = flow_pairs rates in
    let xs = flow_starts rates demand in
    let inside : nat_lt q (length rates) ≡ true = grind (arith, nat_tests) in
    ap (λ n. sum_below n (amount_of_key ks xs q)) (sym (pairs-length rates))
    ∙ (total_at-key_sum ks xs q (pairs-length rates ∙ sym (starts-flows rates demand))
    ∙ (pieces_sum (length rates) (λ p. length (paths_of rates p)) (starts_of rates demand) q (starts-length rates demand)
    ∙ ap (λ b. if b then sum (starts_of rates demand q) else 0) inside))

pub pair_offered : (net : Network) (failed : List Bool) (rates : List PairRoutes) (demand : List ℕ) (q : ℕ) →
    CanSplit (paths_of rates q) → q < length rates →
    slice_index demand q
    ≡ over_pair (step_setting net failed rates demand) (step_setting net failed rates demand).start q + lost_no_path rates demand q
pair_offered net failed rates demand q split below =
    offered (slice_index demand q) (paths_of rates q) _ split (started net failed rates demand q below)
  where
    offered : (d : ℕ) (paths : List PathShare) (whole : ℕ) → CanSplit paths → whole ≡ sum (apportion d (weights paths)) →
        d ≡ whole + (if length paths == 0 then d else 0)
    offered d [] whole split is =
        let none : sum (apportion d []) ≡ 0 = refl in omega (arith, is)
    offered d (s ∷ ss) whole split is =
        let some : (length (s ∷ ss) == 0) ≡ false = grind (arith, nat_tests) in
        rw some (omega (arith, is, apportion-sum d (weights (s ∷ ss)) (split.2 (omega arith))))

-- Of each pair's demand all is delivered or lost.
pub demand_conserved : (net : Network) (failed : List Bool) (rates : List PairRoutes) (demand : List ℕ) (q : ℕ) →
    CanSplit (paths_of rates q) → q < length rates →
    let s = step_setting net failed rates demand in
    slice_index demand q
    ≡ over_pair s (delivery s) q + over_pair s (lost_full s) q + over_pair s (lost_failed s) q + lost_no_path rates demand q
demand_conserved net failed rates demand q weighted below =
    omega (
      arith,
      pair_offered net failed rates demand q weighted below,
      pair_conserved (step_setting net failed rates demand) q,
    )
