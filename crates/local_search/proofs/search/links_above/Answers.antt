use Rattle.std.proofs.Common.{inl, inr, ◌≡◌, ℕ, ◌*◌, ◌<◌, true, List, [], ◌∷◌, ◌++◌, get_or, slice_index, arith, refl, ap, sym, ◌∙◌, subst, ◌==◌}
use Rattle.std.proofs.lemmas.Bool.{cases_lt, eq-eqb, or_left, or_right}
use Rattle.std.proofs.lemmas.List.Folds.{list_any-append}
use Rattle.std.proofs.lemmas.Nat.{mul-le}
use Rattle.te_model.specs.declared.network.Link.{Link}
use Rattle.te_model.specs.Network.{capacity_of, no_link}
use Rattle.te_model.specs.Path.{has_number}
use Rattle.te_model.proofs.WellFormed.{capacities_small}
use Rattle.local_search.proofs.search.links_above.Goals as goal
use Rattle.local_search.proofs.search.links_above.Goals.{then-times-from+in_ok-push, else-times-from}

pub overflow_mul-times : goal.overflow_mul-times
overflow_mul-times c =
    let net = c.args.net.now in
    let h = c.loop-h.h in
    let is : c.from.result ≡ capacity_of net h = c.from.ensures ∙ ap (λ (ls : List Link). (get_or ls h no_link).capacity) c.as_slice-links.ensures in
    omega (
      arith,
      mul-le c.args.times c.from.result 38685626227668133590597632 4294967296 (omega (arith, c.requires.times))
          (omega (arith, is, capacities_small net c.requires.network h)),
    )

-- one link more in the list
has_pushed : (xs : List ℕ) (h : ℕ) → has_number (xs ++ h ∷ []) h ≡ true
has_pushed xs h =
    list_any-append (λ y. y == h) xs (h ∷ []) ∙ or_right (has_number xs h) (has_number (h ∷ []) h) (or_left (h == h) (has_number [] h) (eq-eqb h h refl))

has_still : (xs : List ℕ) (h e : ℕ) → has_number xs e ≡ true → has_number (xs ++ h ∷ []) e ≡ true
has_still xs h e has = list_any-append (λ y. y == e) xs (h ∷ []) ∙ or_left (has_number xs e) (has_number (h ∷ []) e) has

pub loop-h-preserved : goal.loop-h-preserved
loop-h-preserved c = λ e below over.
    let net = c.args.net.now in
    let h = c.loop-h.h in
    let old = c.loop-h.above.items in
    let is : c.from.result ≡ capacity_of net h = c.from.ensures ∙ ap (λ (ls : List Link). (get_or ls h no_link).capacity) c.as_slice-links.ensures in
    let product : c.args.times * c.from.result ≡ c.args.times * capacity_of net h = ap (λ x. c.args.times * x) is in
    elim c.if-times-from.branch [
      | then-times-from+in_ok-push w ↦
          let items : c.if-times-from.above.items ≡ old ++ h ∷ [] = ap (λ v. v.items) w.above-is ∙ w.in_ok-push.ensures.items in
          subst (λ (l : List ℕ). has_number l e ≡ true) (sym items) (elim (cases_lt e h) [
            | inl lt ↦ has_still old h e (c.loop-h.invariant e lt over)
            | inr ge ↦ let same : h ≡ e = omega (arith, below, ge) in subst (λ x. has_number (old ++ h ∷ []) x ≡ true) same (has_pushed old h)
          ])
      | else-times-from w ↦
          let items : c.if-times-from.above.items ≡ old = ap (λ v. v.items) w.above-is in
          subst (λ (l : List ℕ). has_number l e ≡ true) (sym items) (elim (cases_lt e h) [
            | inl lt ↦ c.loop-h.invariant e lt over
            | inr ge ↦
                let same : e ≡ h = omega (arith, below, ge) in
                let here = subst (λ x. c.args.times * capacity_of net x < slice_index c.args.loads.now x) same over in
                absurd (omega (arith, here, product, w.if-times-from.false))
          ])
    ]
