use Rattle.std.proofs.Common.{inl, inr, ◌≡◌, ℕ, ◌+◌, ◌<◌, Bool, true, false, List, length, get_or, drop, slice_index, slice_set, ◌==◌, arith, ap, sym, ◌∙◌}
use Rattle.std.proofs.lemmas.Bool.{cases_eq, eqb-true, false≢true, or_cases}
use Rattle.std.proofs.lemmas.List.{drop_all, drop_more, get_or-set_same, get_or-set_other}
use Rattle.te_model.specs.Path.{has_number}
use Rattle.routing.proofs.Loading.{none_marked}
use Rattle.routing.proofs.loads.unmark.Goals as goal
use Rattle.routing.proofs.loads.unmark.Goals.{then-h-marks, else-h-marks}

-- a number that stands at place i or behind it, and is not the one there
stands_behind : (path : List ℕ) (i e : ℕ) → i < length path → has_number (drop i path) e ≡ true → (e ≡ slice_index path i → ⊥) → has_number (drop (i + 1) path) e ≡ true
stands_behind path i e below has apart =
    elim (or_cases (slice_index path i == e) (has_number (drop (i + 1) path) e) (ap (λ l. has_number l e) (sym (drop_more path i 0 below)) ∙ has)) [
      | inl here ↦ absurd (apart (sym (eqb-true (slice_index path i) e here)))
      | inr later ↦ later
    ]

pub loop-link-preserved : goal.loop-link-preserved
loop-link-preserved c = λ e below marked.
    let path = c.args.path.now in
    let i = c.loop-link.link-index in
    let marks = c.loop-link.marks in
    let h = slice_index path i in
    elim c.if-h-marks.branch [
      | then-h-marks w ↦
          let now : get_or (slice_set marks h false) e false ≡ true = ap (λ (l : List Bool). get_or l e false) (sym w.marks-is) ∙ marked in
          elim (cases_eq e h) [
            | inl same ↦ absurd (false≢true (sym (get_or-set_same marks h false false w.if-h-marks.true) ∙ (ap (λ k. get_or (slice_set marks h false) k false) (sym same) ∙ now)))
            | inr apart ↦ stands_behind path i e c.loop-link-test.true (c.loop-link.invariant e below (sym (get_or-set_other marks h e false false apart) ∙ now)) apart
          ]
      | else-h-marks w ↦
          stands_behind path i e c.loop-link-test.true (c.loop-link.invariant e below (ap (λ (l : List Bool). get_or l e false) (sym w.marks-is) ∙ marked))
          (λ same. omega (arith, same, below, c.loop-link.auto.marks, w.if-h-marks.false))
    ]

pub returns : goal.returns
returns c = none_marked c.loop-link.marks (λ e below marked.
    let has = c.loop-link.invariant e (omega (arith, below, c.loop-link.auto.marks)) marked in
    false≢true (sym (ap (λ (l : List _). has_number l e) (drop_all c.loop-link.link-index c.args.path.now c.loop-link-test.false)) ∙ has))
