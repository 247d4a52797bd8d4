-- Loads after an amount more on a link, or on the links of a way.
use Rattle.std.proofs.Common.{◌≡◌, ◌≢◌, ℕ, ◌+◌, ◌*◌, ◌^◌, ◌<◌, ◌≤◌, Bool, true, false, cond, ◌==◌, List, ◌∷◌, length, min, set, get_or, get_or-set_same, get_or-set_other, arith, refl, ap, sym, ◌∙◌, subst}
use Rattle.std.proofs.lemmas.Bool.{eq-eqb, eqb-true, false≢true}
use Rattle.std.proofs.lemmas.List.Sums.{sum_by-cons}
use Rattle.centred_steps.specs.Loads.{times_on}

-- a link more
pub times_more : (h : ℕ) (links : List ℕ) (e : ℕ) → times_on (h ∷ links) e ≡ cond (h == e) 1 0 + times_on links e
times_more h links e = sum_by-cons (λ k. cond (k == e) 1 0) h links

-- the amount more on link h, and on those of the links that follow
pub added_first : (loads links : List ℕ) (h amount e : ℕ) → h < length loads → get_or loads e 0 ≤ 2 ^ 66 →
    min (2 ^ 66) (get_or (set loads h (min (get_or loads h 0 + amount) (2 ^ 66))) e 0 + amount * times_on links e)
    ≡ min (2 ^ 66) (get_or loads e 0 + amount * times_on (h ∷ links) e)
added_first loads links h amount e inside small = go (h == e) refl
  where
    put : ℕ
    put = min (get_or loads h 0 + amount) (2 ^ 66)

    go : (b : Bool) → (h == e) ≡ b →
        min (2 ^ 66) (get_or (set loads h put) e 0 + amount * times_on links e) ≡ min (2 ^ 66) (get_or loads e 0 + amount * times_on (h ∷ links) e)
    go true is =
        let same : h ≡ e = eqb-true h e is in
        let here : get_or (set loads h put) e 0 ≡ put = subst (λ n. get_or (set loads h put) n 0 ≡ put) same (get_or-set_same loads h put 0 inside) in
        let was : get_or loads h 0 ≡ get_or loads e 0 = ap (λ n. get_or loads n 0) same in
        let more : amount * times_on (h ∷ links) e ≡ amount + amount * times_on links e =
        ap (λ t. amount * t) (times_more h links e ∙ ap (λ b. cond b 1 0 + times_on links e) is) ∙ omega arith
        in
        omega (arith, here, was, more)
    go false is =
        let apart : e ≢ h = λ same. false≢true (sym is ∙ eq-eqb h e (sym same)) in
        let kept : get_or (set loads h put) e 0 ≡ get_or loads e 0 = get_or-set_other loads h e put 0 apart in
        let as_often : times_on (h ∷ links) e ≡ times_on links e = times_more h links e ∙ ap (λ b. cond b 1 0 + times_on links e) is ∙ omega arith in
        ap (λ x. min (2 ^ 66) (x + amount * times_on links e)) kept ∙ ap (λ t. min (2 ^ 66) (get_or loads e 0 + amount * t)) (sym as_often)
