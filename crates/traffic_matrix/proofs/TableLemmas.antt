-- Where the demands of pairs stand in a table.
use Rattle.std.proofs.Common.{ℕ, zero, suc, ◌+◌, ◌*◌, ◌<◌, ◌≤◌, ◌≡◌, ◌≢◌, ◌∙◌, refl, sym, ap, List, [], ◌∷◌, ◌++◌, map, vec_len, length, get_or, set, Bool, true, false, ◌&&◌, ◌||◌, ◌==◌, Option, Some, None, arith, inl, inr, if◌then◌else◌}
use Rattle.std.proofs.lemmas.Bool.{and_from, and_parts, cases_eq, cases_lt}
use Rattle.std.proofs.lemmas.Bool.Decides.{nat_tests}
use Rattle.std.proofs.lemmas.List.{map-append, get_or-map, get_or-set_other, get_or-set_same, length-map, map-set}
use Rattle.std.proofs.Math.Nat.{mul-le-mul_left}
use Rattle.te_model.specs.declared.route.Pair.{Pair}
use Rattle.te_model.specs.Pairs.{IsNodePair}
use Rattle.traffic_matrix.specs.Pairs.{place_of_pair, same_pair}
use Rattle.traffic_matrix.specs.declared.step_demands.StepDemands.{StepDemands}
use Rattle.traffic_matrix.specs.declared.table.Table.{Table}
use Rattle.traffic_matrix.specs.Table.{demand_at, declared_at, demand_of_place, IsGrown, IsPut}

-- a number of two digits to the base m
pub two-digits : (a b k m : ℕ) → a < k → b < m → a * m + b < k * m
two-digits a b k m low digit =
    let h : m * (a + 1) ≤ m * k = mul-le-mul_left m (omega arith) in
    omega arith

higher : (a b c d m : ℕ) → a < c → b < m → a * m + b ≡ c * m + d → ⊥
higher a b c d m less digit same =
    let h : m * (a + 1) ≤ m * c = mul-le-mul_left m (omega arith) in
    omega arith

-- has no other digits
pub same-digits : (a b c d m : ℕ) → b < m → d < m → a * m + b ≡ c * m + d → (a ≡ c) × (b ≡ d)
same-digits a b c d m x y same =
    elim (cases_lt a c) [
      | inl less ↦ absurd (higher a b c d m less x same)
      | inr ge ↦ elim (cases_lt c a) [
        | inl more ↦ absurd (higher c d a b m more y (sym same))
        | inr le ↦ let e : a ≡ c = omega arith in (e, (let f : a * m ≡ c * m = ap (λ (k : ℕ). k * m) e in omega arith))
      ]
    ]

pub place-below : (n : ℕ) (p : Pair) → IsNodePair n p → place_of_pair n p < n * n
place-below n p w = two-digits p.src p.dst n n w.src w.dst

pub same-pair : (p q : Pair) → p.src ≡ q.src → p.dst ≡ q.dst → same_pair p q ≡ true
same-pair p q e f = and_from (p.src == q.src) (p.dst == q.dst) (grind (arith, nat_tests)) (grind (arith, nat_tests))

pub pair-parts : (p q : Pair) → same_pair p q ≡ true → (p.src ≡ q.src) × (p.dst ≡ q.dst)
pair-parts p q h =
    let (a, b) = and_parts (p.src == q.src) (p.dst == q.dst) h in
    (grind (arith, nat_tests), grind (arith, nat_tests))

-- the pair of a place
pub place-pair : (n : ℕ) (p q : Pair) → IsNodePair n p → IsNodePair n q → place_of_pair n p ≡ place_of_pair n q → same_pair p q ≡ true
place-pair n p q v w e = let (s, d) = same-digits p.src p.dst q.src q.dst n v.dst w.dst e in same-pair p q s d

pub pair-place : (n : ℕ) (p q : Pair) → same_pair p q ≡ true → place_of_pair n p ≡ place_of_pair n q
pair-place n p q h =
    let (s, d) = pair-parts p q h in
    let f : p.src * n ≡ q.src * n = ap (λ (k : ℕ). k * n) s in
    omega arith

-- one place is set to true
pub declared-set : (n : ℕ) (bits : List Bool) (p q : Pair) (i : ℕ) → i ≡ place_of_pair n p → length bits ≡ n * n → IsNodePair n p → IsNodePair n q
    → get_or (set bits i true) (place_of_pair n q) false ≡ (same_pair p q || get_or bits (place_of_pair n q) false)
declared-set n bits p q i here size v w = rw here (go (same_pair p q) refl)
  where
    go : (b : Bool) → same_pair p q ≡ b → get_or (set bits (place_of_pair n p) true) (place_of_pair n q) false ≡ (b || get_or bits (place_of_pair n q) false)
    go true e = rw (← pair-place n p q e) (get_or-set_same bits (place_of_pair n p) true false (let low = place-below n p v in omega arith))
    go false e = get_or-set_other bits (place_of_pair n p) (place_of_pair n q) true false (λ same. cc (e, place-pair n p q v w (sym same)))

-- one step is another one
pub demand-other : (steps : List StepDemands) (s : StepDemands) (at k i : ℕ) → k ≢ at
    → get_or (map (λ s. demand_of_place s i) (set steps at s)) k None ≡ get_or (map (λ s. demand_of_place s i) steps) k None
demand-other steps s at k i other =
    let f = λ (s : StepDemands). demand_of_place s i in
    ap (λ (os : List (Option ℕ)). get_or os k None) (map-set f steps at s) ∙ get_or-set_other (map f steps) at k (f s) None other

-- one step has a demand more
pub demand-put : (n at k : ℕ) (steps : List StepDemands) (old new : StepDemands) (p q : Pair) (d i : ℕ) → i ≡ place_of_pair n p → at < length steps → old ≡ get_or steps at old → IsNodePair n p → IsNodePair n q
    → ((j : ℕ) → demand_of_place new j ≡ (if i == j then Some d else demand_of_place old j))
    → get_or (map (λ s. demand_of_place s (place_of_pair n q)) (set steps at new)) k None ≡ (if at == k && same_pair p q then Some d else get_or (map (λ s. demand_of_place s (place_of_pair n q)) steps) k None)
demand-put n at k steps old new p q d i here low read v w put = elim (cases_eq at k) [
  | inl same ↦
      let e : (at == k) ≡ true = grind (arith, nat_tests) in
      rw (e, ← same)
      (ap (λ (os : List (Option ℕ)). get_or os at None) (map-set (λ s. demand_of_place s (place_of_pair n q)) steps at new)
      ∙ get_or-set_same (map (λ s. demand_of_place s (place_of_pair n q)) steps) at (demand_of_place new (place_of_pair n q)) None (rw length-map low)
      ∙ put (place_of_pair n q) ∙ go (same_pair p q) refl)
  | inr other ↦
      let e : (at == k) ≡ false = grind (arith, nat_tests) in
      rw e (demand-other steps new at k (place_of_pair n q) (λ h. other (sym h)))
]
  where
    before : demand_of_place old (place_of_pair n q) ≡ get_or (map (λ s. demand_of_place s (place_of_pair n q)) steps) at None
    before = ap (λ (s : StepDemands). demand_of_place s (place_of_pair n q)) read ∙ sym (get_or-map (λ s. demand_of_place s (place_of_pair n q)) steps at old None low)

    go : (b : Bool) → same_pair p q ≡ b → (if i == place_of_pair n q then Some d else demand_of_place old (place_of_pair n q)) ≡ (if b then Some d else get_or (map (λ s. demand_of_place s (place_of_pair n q)) steps) at None)
    go true h =
        let e : (i == place_of_pair n q) ≡ true = (let f = pair-place n p q h in grind (arith, nat_tests)) in
        rw e refl
    go false h =
        let f : i ≢ place_of_pair n q = λ same. cc (h, place-pair n p q v w (sym here ∙ same)) in
        let e : (i == place_of_pair n q) ≡ false = grind (arith, nat_tests) in
        rw e before

-- a demand put after the table grew
pub put-grown : (old mid new : Table) (count at : ℕ) (pair : Pair) (demand : ℕ) → IsGrown old mid count → IsPut mid new at pair demand → IsPut old new at pair demand
put-grown old mid new count at pair demand g p =
    let inside = λ (q : Pair) (w : IsNodePair old.nodes q). rw (sym g.nodes) at w in
    record {
      nodes = p.nodes ∙ g.nodes;
      demands = λ k q w. p.demands k q (inside q w) ∙ ap (λ (o : Option ℕ). if at == k && same_pair pair q then Some demand else o) (g.demands k q w);
      declared = λ q w. p.declared q (inside q w) ∙ ap (λ (b : Bool). same_pair pair q || b) (same q);
    }
  where
    same : (q : Pair) → declared_at mid q ≡ declared_at old q
    same q = rw (g.nodes, g.declared) refl

-- one more where there is nothing
past-none : (xs : List (Option ℕ)) (y : Option ℕ) (k : ℕ) → y ≡ None → get_or (xs ++ y ∷ []) k None ≡ get_or xs k None
past-none [] y zero e = e
past-none [] y (suc k) e = refl
past-none (x ∷ xs) y zero e = refl
past-none (x ∷ xs) y (suc k) e = past-none xs y k e

-- a step without demands more
pub grown-more : (old mid new : Table) (s : StepDemands) (count : ℕ) → IsGrown old mid count → new.nodes ≡ mid.nodes → new.declared.items ≡ mid.declared.items → new.steps.items ≡ mid.steps.items ++ s ∷ [] → vec_len new.steps ≡ count + 1
    → ((place : ℕ) → demand_of_place s place ≡ None) → IsGrown old new (count + 1)
grown-more old mid new s count grown nodes declared steps len none = record {
  nodes = nodes ∙ grown.nodes;
  steps = len;
  demands = λ k p w. one-more k p ∙ grown.demands k p w;
  declared = declared ∙ grown.declared;
}
  where
    one-more : (k : ℕ) (p : Pair) → demand_at new k p ≡ demand_at mid k p
    one-more k p =
        let at = λ (t : StepDemands). demand_of_place t (place_of_pair mid.nodes p) in
        rw (nodes, steps, map-append at mid.steps.items (s ∷ [])) (past-none (map at mid.steps.items) (at s) k (none (place_of_pair mid.nodes p)))
