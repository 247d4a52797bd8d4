-- Reading the rows of a series, one after another.
use Rattle.std.proofs.Common.{ℕ, zero, suc, ◌+◌, ◌≤◌, ◌<◌, ◌≡◌, ◌≢◌, ◌⊎◌, ◌∙◌, refl, sym, ap, subst, inl, inr, List, [], ◌∷◌, ◌++◌, length, get_or, map, take, decimal, Bool, true, false, ◌&&◌, ◌==◌, nat_lt, is_some, min, Option, Some, None, Ok, arith, if◌then◌else◌}
use Rattle.std.specs.Str.{bytes_eq}
use Rattle.std.specs.List.{list_any, position_or_len, range_with_len}
use Rattle.std.proofs.lemmas.Bool.{false≢true, cases_lt, or_cases, or_parts, or_right}
use Rattle.std.proofs.lemmas.Bool.Decides.{nat_tests}
use Rattle.std.proofs.lemmas.List.{map-append}
use Rattle.std.proofs.lemmas.Slice.Eq.{bytes_eq-Decides}
use Rattle.te_model.specs.declared.network.Network.{Network}
use Rattle.te_model.specs.declared.route.Pair.{Pair}
use Rattle.te_model.specs.Network.{is_well_formed, node_count, name_at}
use Rattle.te_model.specs.Pairs.{no_pair}
use Rattle.te_model.proofs.AscendingPairs.{Below, all_ascend}
use Rattle.csv_records.specs.Rows.{fold_rows}
use Rattle.csv_records.proofs.RowFacts.{rows-end, rows-more}
use Rattle.traffic_matrix.specs.declared.entry.Entry.{Entry}
use Rattle.traffic_matrix.specs.declared.series.Series.{Series}
use Rattle.traffic_matrix.specs.Limits.{IsSeries}
use Rattle.traffic_matrix.specs.Pairs.{same_pair}
use Rattle.traffic_matrix.specs.Series.{demand_in, is_declared, step_count}
use Rattle.traffic_matrix.specs.Rows.{number_named, demand_entry, latest_step, with_demand_row}
use Rattle.traffic_matrix.specs.Text.{no_matrix}
use Rattle.traffic_matrix.proofs.FieldText.{decimal-number, decimal-within}
use Rattle.traffic_matrix.proofs.NodeLemmas.{new-here}
use Rattle.traffic_matrix.proofs.RowLemmas.{four-fields, good}
use Rattle.traffic_matrix.proofs.DemandLemmas.{accepts}
use Rattle.traffic_matrix.proofs.TableLemmas.{same-pair, pair-parts}
use Rattle.te_model.proofs.AscendingPairs.{below_differ}
use Rattle.traffic_matrix.proofs.RowText.{entry_at, step_entries, entries_from, fields}

-- a name stands at its place where no name before equals it
first-place : (name : List ℕ) (names : List (List ℕ)) (v : ℕ) → v < length names → get_or names v [] ≡ name → list_any (bytes_eq name) (take v names) ≡ false → position_or_len (bytes_eq name) names ≡ v
first-place name [] v low is none = absurd (omega arith)
first-place name (x ∷ xs) zero low is none = let e : bytes_eq name x ≡ true = (bytes_eq-Decides name x).1 (sym is) in rw e refl
first-place name (x ∷ xs) (suc v) low is none =
    let (first, rest) = or_parts (bytes_eq name x) (list_any (bytes_eq name) (take v xs)) none in
    rw (first, first-place name xs v (omega arith) is rest) (omega arith)

pub number-of : (net : Network) (v : ℕ) → is_well_formed net ≡ true → v < node_count net → number_named net.names (name_at net v) ≡ Some v
number-of net v w low =
    let first = first-place (name_at net v) net.names v low refl (new-here net v w low) in
    let inside : nat_lt v (length net.names) ≡ true = grind (arith, nat_tests) in
    rw (first, inside) refl

unequal : (p q : Pair) → (p.src ≡ q.src → p.dst ≡ q.dst → ⊥) → same_pair p q ≡ false
unequal p q f = go (same_pair p q) refl
  where
    go : (b : Bool) → same_pair p q ≡ b → b ≡ false
    go true e = let (s, d) = pair-parts p q e in absurd (f s d)
    go false e = refl

-- a pair below another is not the same, either way round
pub apart : (p q : Pair) → Below p q → (same_pair p q ≡ false) × (same_pair q p ≡ false)
apart p q b = (unequal p q (below_differ p q b), unequal q p (λ s d. below_differ p q b (sym s) (sym d)))

pick-none : (a b : Bool) (x y : Option ℕ) → b ≡ false → (if a && b then x else y) ≡ y
pick-none true b x y e = rw e refl
pick-none false b x y e = refl

module _ (e : Entry) (es : List Entry) (step : ℕ) (pair : Pair) where
  other-step : e.step ≢ step → demand_in (e ∷ es) step pair ≡ demand_in es step pair
  other-step h = let f : (e.step == step) ≡ false = grind (arith, nat_tests) in rw f refl

  other-pair : same_pair e.pair pair ≡ false → demand_in (e ∷ es) step pair ≡ demand_in es step pair
  other-pair h = pick-none (e.step == step) (same_pair e.pair pair) (Some e.demand) (demand_in es step pair) h

  this-pair : e.step ≡ step → same_pair e.pair pair ≡ true → demand_in (e ∷ es) step pair ≡ Some e.demand
  this-pair s h = let f : (e.step == step) ≡ true = grind (arith, nat_tests) in rw (f, h) refl

module _ (net : Network) (s : Series) (formed : is_well_formed net ≡ true) (limits : IsSeries (node_count net) s) where
  -- the rows up to a place in a step
  pub record Written (step place : ℕ) (before : List Entry) : Type 0 where
    pub latest : latest_step before ≤ step
    pub count : step_count before ≡ step + min place 1
    pub done : (k i : ℕ) → k < step → i < length s.pairs.list → demand_in before k (get_or s.pairs.list i no_pair) ≡ Some (entry_at s k i).demand
    pub here : (i : ℕ) → i < place → i < length s.pairs.list → demand_in before step (get_or s.pairs.list i no_pair) ≡ Some (entry_at s step i).demand
    pub rest : (i : ℕ) → place ≤ i → i < length s.pairs.list → demand_in before step (get_or s.pairs.list i no_pair) ≡ None
    pub later : (k i : ℕ) → step < k → i < length s.pairs.list → demand_in before k (get_or s.pairs.list i no_pair) ≡ None
    pub known : (q : Pair) → is_declared before q ≡ true → (i : ℕ) × (i < length s.pairs.list) × (same_pair (get_or s.pairs.list i no_pair) q ≡ true)
    pub has : (i : ℕ) → i < length s.pairs.list → (0 < step) ⊎ (i < place) → is_declared before (get_or s.pairs.list i no_pair) ≡ true

  pub start : Written 0 0 []
  start = record {
    latest = omega arith;
    count = omega arith;
    done = λ k i low inside. absurd (omega arith);
    here = λ i low inside. absurd (omega arith);
    rest = λ i ge inside. refl;
    later = λ k i low inside. refl;
    known = λ q h. absurd (false≢true h);
    has = λ i inside o. elim o [ inl some ↦ absurd (omega arith) | inr low ↦ absurd (omega arith) ];
  }

  -- the next row of a step
  written-more : (k a : ℕ) (before : List Entry) → a < length s.pairs.list → Written k a before → Written k (a + 1) (entry_at s k a ∷ before)
  written-more k a before low w =
      let e = entry_at s k a in
      let ascending = all_ascend s.pairs.list limits.ascending in
      record {
        latest = omega arith;
        count = (let c = w.count in omega arith);
        done = λ j i less inside. other-step e before j (get_or s.pairs.list i no_pair) (omega arith) ∙ w.done j i less inside;
        here = λ i less inside. elim (cases_lt i a) [
          | inl earlier ↦ other-pair e before k (get_or s.pairs.list i no_pair) (apart (get_or s.pairs.list i no_pair) (get_or s.pairs.list a no_pair) (ascending i a no_pair earlier low)).1 ∙ w.here i earlier inside
          | inr now ↦ (let same : i ≡ a = omega arith in rw same (this-pair e before k (get_or s.pairs.list a no_pair) refl (same-pair (get_or s.pairs.list a no_pair) (get_or s.pairs.list a no_pair) refl refl)))
        ];
        rest = λ i ge inside. other-pair e before k (get_or s.pairs.list i no_pair) (apart (get_or s.pairs.list a no_pair) (get_or s.pairs.list i no_pair) (ascending a i no_pair (omega arith) inside)).0 ∙ w.rest i (omega arith) inside;
        later = λ j i less inside. other-step e before j (get_or s.pairs.list i no_pair) (omega arith) ∙ w.later j i less inside;
        known = λ q h. elim (or_cases (same_pair e.pair q) (is_declared before q) h) [
          | inl now ↦ (a, low, now)
          | inr earlier ↦ w.known q earlier
        ];
        has = λ i inside o. elim (cases_lt i a) [
          | inl earlier ↦ or_right (same_pair e.pair (get_or s.pairs.list i no_pair)) (is_declared before (get_or s.pairs.list i no_pair)) (w.has i inside (inr earlier))
          | inr others ↦ elim o [
            | inl some ↦ or_right (same_pair e.pair (get_or s.pairs.list i no_pair)) (is_declared before (get_or s.pairs.list i no_pair)) (w.has i inside (inl some))
            | inr less ↦ (let same : i ≡ a = omega arith in rw (same, same-pair (get_or s.pairs.list a no_pair) (get_or s.pairs.list a no_pair) refl refl) refl)
          ]
        ];
      }

  -- the end of a step
  written-next : (k : ℕ) (before : List Entry) → 0 < length s.pairs.list → Written k (length s.pairs.list) before → Written (k + 1) 0 before
  written-next k before some w = record {
    latest = (let l = w.latest in omega arith);
    count = (let c = w.count in omega arith);
    done = λ j i less inside. elim (cases_lt j k) [
      | inl earlier ↦ w.done j i earlier inside
      | inr now ↦ (let same : j ≡ k = omega arith in rw same (w.here i inside inside))
    ];
    here = λ i less inside. absurd (omega arith);
    rest = λ i ge inside. w.later (k + 1) i (omega arith) inside;
    later = λ j i less inside. w.later j i (omega arith) inside;
    known = w.known;
    has = λ i inside o. w.has i inside (inr inside);
  }

  row-read : (k a row : ℕ) (before : List Entry) → a < length s.pairs.list → k < length s.steps → Written k a before
      → with_demand_row net.names before row (fields net.names (entry_at s k a)) ≡ Ok (entry_at s k a ∷ before)
  row-read k a row before low step w =
      let e = entry_at s k a in
      let pair = limits.pairs a no_pair low in
      let matrix = limits.matrices k no_matrix step in
      let count = matrix.count in
      let few = limits.few in
      let small = matrix.small a 0 (omega arith) in
      let differ = pair.apart in
      let (is-step, step-value) = decimal-number k (omega arith) in
      let (is-demand, demand-value) = decimal-number e.demand (omega arith) in
      let said : demand_entry net.names row (fields net.names e) ≡ Ok e =
      four-fields net.names row (fields net.names e) (decimal k) (name_at net e.pair.src) (name_at net e.pair.dst) (decimal e.demand) (Ok e) refl
      (good row (decimal k) (decimal e.demand) (number_named net.names (name_at net e.pair.src)) (number_named net.names (name_at net e.pair.dst)) e.pair.src e.pair.dst
      (number-of net e.pair.src formed pair.src_inside) (number-of net e.pair.dst formed pair.dst_inside) k e.demand (is-step, sym step-value) (decimal-within e.demand small, sym demand-value)) in
      let new : is_some (demand_in before e.step e.pair) ≡ false = ap is_some (w.rest a (omega arith) low) in
      rw said (accepts before row e w.latest new (grind (arith, nat_tests)) (omega arith))

  -- the rows of a step from a place on, and then others
  step-read : (k a m row : ℕ) (before : List Entry) (more : List (List (List ℕ))) → a + m ≡ length s.pairs.list → k < length s.steps → Written k a before
      → (after : List Entry) × (next : ℕ) × Written k (length s.pairs.list) after
      × (fold_rows (with_demand_row net.names) before row (map (fields net.names) (map (entry_at s k) (range_with_len a m)) ++ more) ≡ fold_rows (with_demand_row net.names) after next more)
  step-read k a zero row before more e step w = let end : a ≡ length s.pairs.list = omega arith in (before, row, subst (λ (p : ℕ). Written k p before) end w, refl)
  step-read k a (suc m) row before more e step w =
      let low : a < length s.pairs.list = omega arith in
      let x = entry_at s k a in
      let (after, next, written, goes) = step-read k (a + 1) m (row + 1) (x ∷ before) more (omega arith) step (written-more k a before low w) in (
        after,
        next,
        written,
        rows-more (with_demand_row net.names) before (x ∷ before) row (map (fields net.names) (map (entry_at s k) (range_with_len a (suc m))) ++ more) (fields net.names x)
            (map (fields net.names) (map (entry_at s k) (range_with_len (a + 1) m)) ++ more) refl (row-read k a row before low step w) ∙ goes,
      )

  -- the rows of all steps from one on
  pub steps-read : (k m row : ℕ) (before : List Entry) → 0 < length s.pairs.list → k + m ≡ length s.steps → Written k 0 before
      → (after : List Entry) × Written (length s.steps) 0 after
      × (fold_rows (with_demand_row net.names) before row (map (fields net.names) (entries_from s k m)) ≡ Ok after)
  steps-read k zero row before some e w = let end : k ≡ length s.steps = omega arith in (before, subst (λ (j : ℕ). Written j 0 before) end w, rows-end (with_demand_row net.names) before row [] refl)
  steps-read k (suc m) row before some e w =
      let rest = map (fields net.names) (entries_from s (k + 1) m) in
      let (mid, next, written, goes) = step-read k 0 (length s.pairs.list) row before rest (omega arith) (omega arith) w in
      let (after, all, ends) = steps-read (k + 1) m next mid some (omega arith) (written-next k mid some written) in
      (after, all, ap (fold_rows (with_demand_row net.names) before row) (map-append (fields net.names) (step_entries s k) (entries_from s (k + 1) m)) ∙ goes ∙ ends)
