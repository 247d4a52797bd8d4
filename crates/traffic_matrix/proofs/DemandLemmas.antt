-- What a table holds after a row more, and the pairs that it declares.
use Rattle.std.proofs.Common.{ℕ, ◌+◌, ◌*◌, ◌/◌, ◌≤◌, ◌<◌, ◌≡◌, ◌∙◌, refl, ap, List, [], ◌∷◌, ◌++◌, map, filter, cond, length, vec_len, append-nil, Bool, true, false, ◌&&◌, ◌||◌, ◌==◌, nat_lt, nat_le, is_some, Option, Some, Ok, Err, arith, inl, inr, max, if◌then◌else◌}
use Rattle.std.proofs.lemmas.Bool.Decides.{nat_tests}
use Rattle.std.specs.List.{range_with_len}
use Rattle.std.proofs.lemmas.List.FromFn.{filter_of_map_range_with_len_more}
use Rattle.std.proofs.lemmas.Bool.{cases_lt}
use Rattle.std.proofs.Math.Nat.{mul-le-mul_left}
use Rattle.te_model.specs.declared.route.Pair.{Pair}
use Rattle.te_model.specs.Pairs.{IsNodePair}
use Rattle.traffic_matrix.specs.declared.entry.Entry.{Entry}
use Rattle.traffic_matrix.specs.declared.demands.Demands.{Demands}
use Rattle.traffic_matrix.specs.declared.fault.MatrixFault.TheVariants as fault
use Rattle.traffic_matrix.specs.Pairs.{same_pair, pair_of_place}
use Rattle.traffic_matrix.specs.Series.{demand_in}
use Rattle.traffic_matrix.specs.Rows.{latest_step, with_accepted_entry}
use Rattle.traffic_matrix.specs.Table.{declared_at, IsPut}
use Rattle.traffic_matrix.specs.Shows.{Shows}

-- a row more
pub shows-more : (entries : List Entry) (e : Entry) (old new : Demands) → IsPut old.table new.table e.step e.pair e.demand → vec_len new.table.steps ≡ max (e.step + 1) (vec_len old.table.steps) → new.latest ≡ e.step
    → Shows entries old → Shows (e ∷ entries) new
shows-more entries e old new put steps latest s =
    let before = λ (p : Pair) (w : IsNodePair new.table.nodes p). rw put.nodes at w in
    record {
      latest = latest;
      steps = steps ∙ ap (max (e.step + 1)) s.steps;
      demands = λ k p w. put.demands k p (before p w) ∙ ap (λ (o : Option ℕ). if e.step == k && same_pair e.pair p then Some e.demand else o) (s.demands k p (before p w));
      declared = λ p w. put.declared p (before p w) ∙ ap (λ (b : Bool). same_pair e.pair p || b) (s.declared p (before p w));
    }

module _ (entries : List Entry) (row : ℕ) (e : Entry) where
  pub order-fault : e.step < latest_step entries → with_accepted_entry entries row e ≡ Err (fault.Order row)
  order-fault h = let a : nat_lt e.step (latest_step entries) ≡ true = grind (arith, nat_tests) in rw a refl

  module _ (after : latest_step entries ≤ e.step) where
    pub repeated-fault : is_some (demand_in entries e.step e.pair) ≡ true → with_accepted_entry entries row e ≡ Err (fault.Repeated row)
    repeated-fault h = let a : nat_lt e.step (latest_step entries) ≡ false = grind (arith, nat_tests) in rw (a, h) refl

    module _ (new : is_some (demand_in entries e.step e.pair) ≡ false) where
      pub self-fault : e.pair.src ≡ e.pair.dst → with_accepted_entry entries row e ≡ Err (fault.SelfPair row)
      self-fault h =
          let a : nat_lt e.step (latest_step entries) ≡ false = grind (arith, nat_tests) in
          let b : (e.pair.src == e.pair.dst) ≡ true = grind (arith, nat_tests) in
          rw (a, new, b) refl

      pub steps-fault : (e.pair.src == e.pair.dst) ≡ false → 1024 ≤ e.step → with_accepted_entry entries row e ≡ Err (fault.TooManySteps row)
      steps-fault h k =
          let a : nat_lt e.step (latest_step entries) ≡ false = grind (arith, nat_tests) in
          let b : nat_le 1024 e.step ≡ true = grind (arith, nat_tests) in
          rw (a, new, h, b) refl

      pub accepts : (e.pair.src == e.pair.dst) ≡ false → e.step < 1024 → with_accepted_entry entries row e ≡ Ok (e ∷ entries)
      accepts h k =
          let a : nat_lt e.step (latest_step entries) ≡ false = grind (arith, nat_tests) in
          let b : nat_le 1024 e.step ≡ false = grind (arith, nat_tests) in
          rw (a, new, h, b) refl

-- the pair of a place
pub pair-within : (n k : ℕ) → k < n * n → IsNodePair n (pair_of_place n k)
pair-within n k low =
    elim (cases_lt 0 n) [
      | inl some ↦ record {
        src = elim (cases_lt (k / n) n) [
          | inl less ↦ less
          | inr more ↦ (let h : n * n ≤ n * (k / n) = mul-le-mul_left n more in absurd (omega arith))
        ];
        dst = omega arith;
      }
      | inr none ↦ absurd (let e : n ≡ 0 = omega arith in let f : k < 0 = rw e at low in omega arith)
    ]

-- the pair of the next place passes a test, or it does not
pub pairs-more : (test : Pair → Bool) (n k : ℕ) (b : Bool) → test (pair_of_place n k) ≡ b
    → filter test (map (pair_of_place n) (range_with_len 0 (k + 1))) ≡ (if b then filter test (map (pair_of_place n) (range_with_len 0 k)) ++ pair_of_place n k ∷ [] else filter test (map (pair_of_place n) (range_with_len 0 k)))
pairs-more test n k b e = filter_of_map_range_with_len_more test (pair_of_place n) 0 k k (omega arith) ∙ go b e
  where
    go : (b : Bool) → test (pair_of_place n k) ≡ b → filter test (map (pair_of_place n) (range_with_len 0 k)) ++ cond (test (pair_of_place n k)) (pair_of_place n k ∷ []) []
        ≡ (if b then filter test (map (pair_of_place n) (range_with_len 0 k)) ++ pair_of_place n k ∷ [] else filter test (map (pair_of_place n) (range_with_len 0 k)))
    go true h = rw h refl
    go false h = rw h (append-nil (filter test (map (pair_of_place n) (range_with_len 0 k))))
