use Rattle.std.proofs.Common.{inl, inr, ◌≡◌, ℕ, ◌+◌, ◌<◌, Bool, true, false, ◌||◌, List, length, get_or, take, slice_index, slice_set, ◌==◌, arith, refl, ap, sym, ◌∙◌}
use Rattle.std.specs.Prelude.{if◌then◌else◌}
use Rattle.std.proofs.lemmas.Bool.{cases_eq, eq-eqb, ne_eqb}
use Rattle.std.proofs.lemmas.List.{get_or-set_same, get_or-set_other}
use Rattle.std.proofs.lemmas.List.Folds.{list_any_more}
use Rattle.te_model.specs.Path.{has_number}
use Rattle.routing.proofs.loads.add_along.Goals as goal
use Rattle.routing.proofs.loads.add_along.Goals.{then-h-loads+then-not-marks-h, else-h-loads, else-h-loads-via-then-h-loads+else-not-marks-h, else-h-loads-via-else-h-loads}

-- the numbers of one link more: at another number they stay, and at its own it is there
other_has : (path : List ℕ) (i e : ℕ) → i < length path → (slice_index path i ≡ e → ⊥) → has_number (take (i + 1) path) e ≡ has_number (take i path) e
other_has path i e below apart =
    list_any_more (λ y. y == e) path i 0 below ∙ (ap (λ b. has_number (take i path) e || b) (ne_eqb (slice_index path i) e apart) ∙ or_false (has_number (take i path) e))
  where
    or_false : (b : Bool) → (b || false) ≡ b
    or_false true = refl
    or_false false = refl

own_has : (path : List ℕ) (i e : ℕ) → i < length path → slice_index path i ≡ e → has_number (take (i + 1) path) e ≡ true
own_has path i e below same =
    list_any_more (λ y. y == e) path i 0 below ∙ (ap (λ b. has_number (take i path) e || b) (eq-eqb (slice_index path i) e same) ∙ or_true (has_number (take i path) e))
  where
    or_true : (b : Bool) → (b || true) ≡ true
    or_true true = refl
    or_true false = refl

pub loop-link-preserved : goal.loop-link-preserved
loop-link-preserved c =
    let path = c.args.path.now in
    let amount = c.args.amount in
    let i = c.loop-link.link-index in
    let loads = c.loop-link.loads in
    let marks = c.loop-link.marks in
    let h = slice_index path i in
    let inside = c.loop-link-test.true in
    let other : (e : ℕ) → (e ≡ h → ⊥) → has_number (take (i + 1) path) e ≡ has_number (take i path) e = λ e apart. other_has path i e inside (λ same. apart (sym same)) in
    let puts : (b : Bool) → ℕ = λ b. if b then amount else 0 in
    elim c.if-h-loads.branch [
      | then-h-loads+then-not-marks-h w ↦ (
        λ e below.
            let now = ap (λ (l : List ℕ). slice_index l e) w.loads-is in
            elim (cases_eq e h) [
              | inl same ↦
                  let none = ap puts (sym (c.loop-link.invariant.1 e (omega (arith, below, c.requires.count))) ∙ (ap (λ k. get_or marks k false) same ∙ w.if-not-marks-h.true)) in
                  let own = ap puts (own_has path i e inside (sym same)) in
                  let at = ap (λ k. slice_index (slice_set loads h (slice_index loads h + amount)) k) same in
                  let set = get_or-set_same loads h (slice_index loads h + amount) 0 w.if-h-loads.true in
                  omega (arith, now, none, own, at, set, ap (slice_index loads) same, c.loop-link.invariant.0 e below)
              | inr apart ↦
                  omega (arith, now, get_or-set_other loads h e (slice_index loads h + amount) 0 apart, ap puts (other e apart), c.loop-link.invariant.0 e below)
            ],
        λ e below.
            ap (λ (l : List Bool). get_or l e false) w.marks-is
            ∙ elim (cases_eq e h) [
              | inl same ↦
                  ap (λ k. get_or (slice_set marks h true) k false) same
                  ∙ (get_or-set_same marks h true false (omega (arith, same, below, c.loop-link.auto.marks)) ∙ sym (own_has path i e inside (sym same)))
              | inr apart ↦ get_or-set_other marks h e true false apart ∙ (c.loop-link.invariant.1 e below ∙ sym (other e apart))
            ],
      )
      | else-h-loads w ↦
          let marked : (e : ℕ) → e ≡ h → e < length c.args.loads.now → get_or marks e false ≡ true = λ e same below. elim w.else-h-loads.branch [
            | else-h-loads-via-then-h-loads+else-not-marks-h v ↦ ap (λ k. get_or marks k false) same ∙ v.if-not-marks-h.false
            | else-h-loads-via-else-h-loads v ↦ absurd (omega (arith, same, below, c.loop-link.auto.loads, v.if-h-loads.false))
          ]
          in
          let kept : (e : ℕ) → e < length c.args.loads.now → has_number (take (i + 1) path) e ≡ has_number (take i path) e = λ e below. elim (cases_eq e h) [
            | inl same ↦ own_has path i e inside (sym same) ∙ (sym (marked e same below) ∙ c.loop-link.invariant.1 e (omega (arith, below, c.requires.count)))
            | inr apart ↦ other e apart
          ]
          in (
            λ e below. omega (arith, ap (λ (l : List ℕ). slice_index l e) w.loads-is, c.loop-link.invariant.0 e below, ap puts (kept e below)),
            λ e below.
                ap (λ (l : List Bool). get_or l e false) w.marks-is
                ∙ (c.loop-link.invariant.1 e below ∙ sym (kept e (omega (arith, below, c.requires.count)))),
          )
    ]
