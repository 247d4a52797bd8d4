-- The row of a source, by a binary search among rows that ascend by their sources.
use Rattle.std.proofs.Common.{◌≡◌, ℕ, ◌<◌, ◌≤◌, Result, Ok, Err, Option, Some, None, List, length, get_or, arith, refl, ap, sym, ◌∙◌, inl, inr, ◌==◌}
use Rattle.std.specs.Prelude.{find, unwrap_or, MatchResult}
use Rattle.std.specs.List.Sorted.{IsSearchInRange, IsBinarySearchResult, IsNonDecreasingBy}
use Rattle.std.specs.Ordering.{nat_cmp, ordering_index}
use Rattle.std.proofs.lemmas.Bool.{cases_lt}
use Rattle.std.proofs.lemmas.Bool.Decides.{nat_tests}
use Rattle.std.proofs.lemmas.Cmp.{ranked}
use Rattle.std.proofs.lemmas.List.{get_or_default}
use Rattle.std.proofs.lemmas.List.Sorted.{IsNonDecreasingBy-from_default}
use Rattle.te_model.specs.declared.certificate.Row.{Row}
use Rattle.te_model.specs.Certificate.{empty_row, row_of}
use Rattle.ratio_checker.specs.Ascending.{AscendsFrom}
use Rattle.ratio_checker.proofs.Ascending.{find_stands, ascends_order}
use Rattle.ratio_checker.proofs.RowFailures.{row_of_own}

module _ (rows : List Row) (ascends : AscendsFrom (λ r. r.source) 0 rows) (source : ℕ) where
  never_falls : (i j : ℕ) → i ≤ j → j < length rows → (get_or rows i (empty_row 0)).source ≤ (get_or rows j (empty_row 0)).source
  never_falls i j le below =
      elim (cases_lt (get_or rows j (empty_row 0)).source (get_or rows i (empty_row 0)).source) [
        | inl lt ↦ let back = ascends_order (λ r. r.source) 0 rows j i (empty_row 0) ascends below (omega arith) lt in absurd (omega arith)
        | inr ge ↦ ge
      ]

  comparisons_rise : IsNonDecreasingBy (λ r. ordering_index (nat_cmp r.source source)) rows
  comparisons_rise = IsNonDecreasingBy-from_default (λ r. ordering_index (nat_cmp r.source source)) rows (empty_row 0) (λ i j le below.
      let rise = never_falls i j le below in grind (arith, nat_tests))

  -- the search ends at the row of the source, or there is none
  pub searched : (r : Result ℕ ℕ) → IsSearchInRange r (length rows) → IsBinarySearchResult (λ x. nat_cmp x.source source) rows r →
      MatchResult r (λ k. row_of rows source ≡ get_or rows k (empty_row 0)) (λ i. row_of rows source ≡ empty_row source)
  searched (Ok k) below equal =
      let own : (get_or rows k (empty_row 0)).source ≡ source = ranked _ source _ (sym (equal (empty_row 0))) in
      ap (row_of rows) (sym own) ∙ row_of_own rows k (get_or rows k (empty_row 0)) ascends below
      (get_or_default rows k (empty_row 0) (get_or rows k (empty_row 0)) below)
  searched (Err i) within parted = absent (find (λ r. r.source == source) rows) refl
    where
      absent : (o : Option Row) → find (λ r. r.source == source) rows ≡ o → row_of rows source ≡ empty_row source
      absent None e = ap (λ o. unwrap_or o (empty_row source)) e
      absent (Some r) e =
          let at = find_stands (λ r. r.source) source rows (empty_row 0) r e in
          let own : (get_or rows at.0.place (empty_row 0)).source ≡ source = ap (λ x. x.source) at.0.is ∙ at.1 in
          elim (cases_lt at.0.place i) [
            | inl lt ↦ let less = ranked _ source _ (sym ((parted comparisons_rise).0 at.0.place (empty_row 0) (omega arith) lt)) in absurd (omega arith)
            | inr ge ↦ let more = ranked _ source _ (sym ((parted comparisons_rise).1 at.0.place (empty_row 0) ge at.0.within)) in absurd (omega arith)
          ]
