-- Rows of potentials, node by node.
use Rattle.std.proofs.Common.{◌≡◌, ℕ, ◌+◌, ◌<◌, Bool, true, false, List, [], ◌∷◌, ◌++◌, Option, length, arith, refl, ap, sym, subst, ◌∙◌, inl, inr, nat_lt, ◌==◌}
use Rattle.std.specs.Prelude.{All}
use Rattle.std.proofs.lemmas.Bool.{cases_lt, lt-ltb, eq-eqb, and_from, and_parts}
use Rattle.std.proofs.lemmas.List.Elements.{All-nil, All-head, All-tail, All-push, All-weaker}
use Rattle.te_model.specs.declared.network.Network.{Network}
use Rattle.te_model.specs.declared.route.PairRoutes.{PairRoutes}
use Rattle.te_model.specs.declared.certificate.Row.{Row}
use Rattle.te_model.specs.declared.demand.DemandSet.{DemandSet}
use Rattle.te_model.specs.Network.{is_well_formed, node_count}
use Rattle.te_model.specs.Path.{source_of}
use Rattle.te_model.specs.Validity.{rows_ascend}
use Rattle.shortest_path.specs.Paths.{ArePotentials}
use Rattle.shortest_path.proofs.Filling.{potentials_of_distances}
use Rattle.shortest_path.proofs.Sound.{sound}
use Rattle.best_blocks.specs.Best.{IsSource, AreNeededRows}
use Rattle.best_blocks.specs.Marks.{AreSourceMarks}
use Rattle.best_blocks.specs.Potentials.{potentials_of, ArePotentialRows}
use Rattle.best_blocks.specs.Rows.{is_marked, distances_from, AreRowsFrom}
use Rattle.best_blocks.proofs.Pushed.{any_append, any_last}

rows_ascend-append : (rows : List Row) (r : Row) → rows_ascend rows ≡ true → All (λ s. s.source < r.source) rows → rows_ascend (rows ++ r ∷ []) ≡ true
rows_ascend-append [] r ascend below = refl
rows_ascend-append (s ∷ []) r ascend below = and_from _ _ (lt-ltb s.source r.source (All-head (λ t. t.source < r.source) s [] below)) refl
rows_ascend-append (s ∷ t ∷ rows) r ascend below =
    let both = and_parts (nat_lt s.source t.source) (rows_ascend (t ∷ rows)) ascend in
    and_from _ _ both.0 (rows_ascend-append (t ∷ rows) r both.1 (All-tail (λ t. t.source < r.source) s (t ∷ rows) below))

pub no_potential_rows : (net : Network) (weights : List ℕ) (marks : List Bool) → ArePotentialRows 0 net weights marks []
no_potential_rows net weights marks = record {
  ascending = refl;
  potentials = All-nil (λ r. ArePotentials net weights r.source r.potential);
  marked = All-nil (λ (r : Row). (r.source < 0) × (is_marked marks r.source ≡ true));
  complete = λ j below. absurd (omega arith);
}

pub potential_row_added : (i : ℕ) (net : Network) (weights : List ℕ) (marks : List Bool) (rows : List Row) (r : Row) → ArePotentialRows i net weights marks rows →
    r.source ≡ i → is_marked marks i ≡ true → ArePotentials net weights i r.potential → ArePotentialRows (i + 1) net weights marks (rows ++ r ∷ [])
potential_row_added i net weights marks rows r are is marked potentials = record {
  ascending = rows_ascend-append rows r are.ascending
      (All-weaker (λ s. (s.source < i) × (is_marked marks s.source ≡ true)) (λ s. s.source < r.source) (λ s has. omega (arith, has.0, is)) rows are.marked);
  potentials = All-push (λ r. ArePotentials net weights r.source r.potential) rows r are.potentials
      (subst (λ j. ArePotentials net weights j r.potential) (sym is) potentials);
  marked = All-push (λ (s : Row). (s.source < i + 1) × (is_marked marks s.source ≡ true)) rows r
      (All-weaker (λ s. (s.source < i) × (is_marked marks s.source ≡ true)) (λ s. (s.source < i + 1) × (is_marked marks s.source ≡ true))
      (λ s has. (omega (arith, has.0), has.1)) rows are.marked)
      (omega (arith, is), subst (λ j. is_marked marks j ≡ true) (sym is) marked);
  complete = λ j below marked_j. elim (cases_lt j i) [
    | inl lt ↦ any_append (λ s. s.source == j) rows r (are.complete j lt marked_j)
    | inr ge ↦ any_last (λ s. s.source == j) rows r (eq-eqb r.source j (omega (arith, is, ge, below)))
  ];
}

-- the row of a marked node, by the distances from it
pub row_of_distances : (i : ℕ) (net : Network) (weights : List ℕ) (marks : List Bool) (rows : List (List (Option ℕ))) (made : List Row) (r : Row) →
    is_well_formed net ≡ true → AreRowsFrom (node_count net) net weights marks rows → i < node_count net → ArePotentialRows i net weights marks made →
    r ≡ record { source = i; potential = potentials_of (distances_from rows i) } → is_marked marks i ≡ true → ArePotentialRows (i + 1) net weights marks (made ++ r ∷ [])
row_of_distances i net weights marks rows made r formed are inside so_far is marked =
    let row = distances_from rows i in
    let potentials : ArePotentials net weights i r.potential =
    subst (ArePotentials net weights i) (sym (ap (λ (x : Row). x.potential) is))
    (potentials_of_distances net weights i row (sound net formed) inside (are.each i inside marked))
    in
    potential_row_added i net weights marks made r so_far (ap (λ (x : Row). x.source) is) marked potentials

pub potential_row_left_out : (i : ℕ) (net : Network) (weights : List ℕ) (marks : List Bool) (rows : List Row) → ArePotentialRows i net weights marks rows →
    is_marked marks i ≡ false → ArePotentialRows (i + 1) net weights marks rows
potential_row_left_out i net weights marks rows are unmarked = record {
  ascending = are.ascending;
  potentials = are.potentials;
  marked = All-weaker (λ s. (s.source < i) × (is_marked marks s.source ≡ true)) (λ s. (s.source < i + 1) × (is_marked marks s.source ≡ true))
      (λ s has. (omega (arith, has.0), has.1)) rows are.marked;
  complete = λ j below marked_j. elim (cases_lt j i) [
    | inl lt ↦ are.complete j lt marked_j
    | inr ge ↦
        let e : j ≡ i = omega (arith, ge, below) in
        let contrary : false ≡ true = sym unmarked ∙ subst (λ k. is_marked marks k ≡ true) e marked_j in
        cc
  ];
}

-- rows of the marked nodes are the rows of the sources
pub rows_of_sources : (n : ℕ) (net : Network) (weights : List ℕ) (routes : List PairRoutes) (set : DemandSet) (shares : ℕ → ℕ) (marks : List Bool) (rows : List Row) →
    AreSourceMarks n (length routes) routes set shares marks → ((p : ℕ) → p < length routes → source_of routes p < n) →
    ArePotentialRows n net weights marks rows → AreNeededRows net weights routes set shares rows
rows_of_sources n net weights routes set shares marks rows are inside rows_are = record {
  ascending = rows_are.ascending;
  potentials = rows_are.potentials;
  needed = All-weaker (λ r. (r.source < n) × (is_marked marks r.source ≡ true)) (λ r. IsSource routes set shares r.source)
      (λ r has. are.marked r.source has.1) rows rows_are.marked;
  complete = λ i source. rows_are.complete i (within i source) (marked i source);
}
  where
    within : (i : ℕ) → IsSource routes set shares i → i < n
    within i (p, below, is, needs) = subst (λ j. j < n) is (inside p below)

    marked : (i : ℕ) → IsSource routes set shares i → is_marked marks i ≡ true
    marked i (p, below, is, needs) = subst (λ j. is_marked marks j ≡ true) is (are.complete p below needs)
