-- Marks of the sources, pair by pair.
use Rattle.std.proofs.Common.{◌≡◌, ℕ, ◌+◌, ◌<◌, Bool, true, false, List, length, arith, ap, sym, subst, ◌∙◌, inl, inr, set, replicate, get_or}
use Rattle.std.specs.Prelude.{IsTrue}
use Rattle.std.proofs.lemmas.Bool.{cases_eq, cases_lt}
use Rattle.std.proofs.lemmas.List.{get_or-replicate, get_or-set_same, get_or-set_other, length-replicate, length-set}
use Rattle.te_model.specs.declared.route.PairRoutes.{PairRoutes}
use Rattle.te_model.specs.declared.demand.DemandSet.{DemandSet}
use Rattle.te_model.specs.Path.{source_of}
use Rattle.te_model.proofs.Tests.{get_or_past}
use Rattle.best_blocks.specs.Best.{needs_row}
use Rattle.best_blocks.specs.Marks.{AreSourceMarks}

pub no_marks : (nodes : ℕ) (routes : List PairRoutes) (wanted : DemandSet) (shares : ℕ → ℕ) → AreSourceMarks nodes 0 routes wanted shares (replicate nodes false)
no_marks nodes routes wanted shares = record {
  count = length-replicate nodes false;
  marked = λ i is. let none = unmarked i in cc;
  complete = λ p below. absurd (omega arith);
}
  where
    unmarked : (i : ℕ) → get_or (replicate nodes false) i false ≡ false
    unmarked i = elim (cases_lt i nodes) [
      | inl lt ↦ get_or-replicate nodes i false false lt
      | inr ge ↦ get_or_past (replicate nodes false) i false (omega (arith, ge, length-replicate nodes false))
    ]

pub mark_added : (nodes p : ℕ) (routes : List PairRoutes) (wanted : DemandSet) (shares : ℕ → ℕ) (marks : List Bool) → p < length routes → source_of routes p < nodes →
    IsTrue (needs_row wanted (shares p)) → AreSourceMarks nodes p routes wanted shares marks →
    AreSourceMarks nodes (p + 1) routes wanted shares (set marks (source_of routes p) true)
mark_added nodes p routes wanted shares marks below inside needs are =
    let s = source_of routes p in
    let same : get_or (set marks s true) s false ≡ true = get_or-set_same marks s true false (omega (arith, inside, are.count)) in
    record {
      count = length-set marks s true ∙ are.count;
      marked = λ i is. elim (cases_eq i s) [
        | inl e ↦ (p, below, sym e, needs)
        | inr ne ↦ are.marked i (sym (get_or-set_other marks s i true false ne) ∙ is)
      ];
      complete = λ q less asks. elim (cases_eq (source_of routes q) s) [
        | inl e ↦ subst (λ i. get_or (set marks s true) i false ≡ true) (sym e) same
        | inr ne ↦ get_or-set_other marks s (source_of routes q) true false ne ∙ are.complete q (earlier q less ne) asks
      ];
    }
  where
    earlier : (q : ℕ) → q < p + 1 → (source_of routes q ≡ source_of routes p → ⊥) → q < p
    earlier q less ne = elim (cases_lt q p) [
      | inl lt ↦ lt
      | inr ge ↦ let e : q ≡ p = omega (arith, ge, less) in absurd (ne (ap (source_of routes) e))
    ]

pub mark_left_out : (nodes p : ℕ) (routes : List PairRoutes) (wanted : DemandSet) (shares : ℕ → ℕ) (marks : List Bool) → needs_row wanted (shares p) ≡ false →
    AreSourceMarks nodes p routes wanted shares marks → AreSourceMarks nodes (p + 1) routes wanted shares marks
mark_left_out nodes p routes wanted shares marks needs are = record {
  count = are.count;
  marked = are.marked;
  complete = λ q less asks. elim (cases_lt q p) [
    | inl lt ↦ are.complete q lt asks
    | inr ge ↦
        let e : q ≡ p = omega (arith, ge, less) in
        let contrary : false ≡ true = sym needs ∙ subst (λ k. needs_row wanted (shares k) ≡ true) e asks in
        cc
  ];
}
