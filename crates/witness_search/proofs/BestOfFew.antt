-- The best of one attempt or two.
use Rattle.std.proofs.Common.{◌≡◌, inl, inr, ℕ, List, [], ◌∷◌, ◌++◌, Option, Some, None, arith, refl, sym, subst, All}
use Rattle.std.specs.Prelude.{Contains, IfSome}
use Rattle.std.proofs.lemmas.List.Elements.{All-cons, All-head, All-nil}
use Rattle.te_model.specs.declared.certificate.Head.{Head}
use Rattle.te_model.specs.declared.route.PairRoutes.{PairRoutes}
use Rattle.witness_search.specs.declared.attempt.Attempt.{Attempt}
use Rattle.witness_search.specs.declared.attempt.Tried.{Tried}
use Rattle.witness_search.specs.Attempts.{AreAttempts, GivesBest, IsAttempt, IsBestAttempt, IsBetter, IsBetterOfTwo, IsDone}
use Rattle.witness_search.specs.Candidates.{as_list, tried_of, IsUpToAt}
use Rattle.witness_search.proofs.BestSoFar.{attempt_no_better}

-- what can be tried, if anything is tried
pub if_tried : (P : Tried → Type 0) (o : Option Tried) (ts : List Tried) → as_list o ≡ ts → All P ts → IfSome o P
if_tried P None ts same all = tt
if_tried P (Some t) ts same all = All-head P t [] (subst (All P) (sym same) all)

pub one_best : (h : Head) (Routes : List ℕ → List PairRoutes → Type 0) (t : Tried) (a : Attempt) → tried_of h h.set ≡ t ∷ [] → IsAttempt h Routes t a → IsBestAttempt h Routes a
one_best h Routes t a all is =
    let Done : Tried → Type 0 = IsDone h Routes t a.ratio in
    let here : Contains (t ∷ []) t = (0, omega arith, refl) in
    record {
      tried = t;
      is_tried = subst (λ (ts : List Tried). Contains ts t) (sym all) here;
      attempt = is;
      best = subst (All Done) (sym all) (All-cons Done t [] (inl refl) (All-nil Done));
    }

-- the better of two, of which this one is the matrix
two_best : (h : Head) (Routes : List ℕ → List PairRoutes → Type 0) (t u : Tried) (a b better : Attempt) → tried_of h h.set ≡ t ∷ u ∷ [] → IsAttempt h Routes t a →
    IsAttempt h Routes u b → IsBetter a b better → IsBestAttempt h Routes better
two_best h Routes t u a b better all is also choice = elim choice.0 [
  | inl same ↦
      let up = subst (λ (x : Attempt). IsUpToAt b.place x.place b.ratio x.ratio) same choice.2 in
      let here = subst (λ (k : ℕ). IsUpToAt b.place k b.ratio a.ratio) is.place up in
      let Done : Tried → Type 0 = IsDone h Routes t a.ratio in
      let first : Contains (t ∷ u ∷ []) t = (0, omega arith, refl) in
      subst (IsBestAttempt h Routes) (sym same) (record {
        tried = t;
        is_tried = subst (λ (ts : List Tried). Contains ts t) (sym all) first;
        attempt = is;
        best = subst (All Done) (sym all) (All-cons Done t (u ∷ []) (inl refl) (All-cons Done u [] (inr (attempt_no_better h Routes u b t.place a.ratio also here)) (All-nil Done)));
      })
  | inr same ↦
      let up = subst (λ (x : Attempt). IsUpToAt a.place x.place a.ratio x.ratio) same choice.1 in
      let here = subst (λ (k : ℕ). IsUpToAt a.place k a.ratio b.ratio) also.place up in
      let Done : Tried → Type 0 = IsDone h Routes u b.ratio in
      let second : Contains (t ∷ u ∷ []) u = (1, omega arith, refl) in
      subst (IsBestAttempt h Routes) (sym same) (record {
        tried = u;
        is_tried = subst (λ (ts : List Tried). Contains ts u) (sym all) second;
        attempt = also;
        best = subst (All Done) (sym all) (All-cons Done t (u ∷ []) (inr (attempt_no_better h Routes t a u.place b.ratio is here)) (All-cons Done u [] (inl refl) (All-nil Done)));
      })
]

pub few_best : (h : Head) (Routes : List ℕ → List PairRoutes → Type 0) (o p : Option Tried) (a b better : Option Attempt) → tried_of h h.set ≡ as_list o ++ as_list p →
    AreAttempts h Routes o a → AreAttempts h Routes p b → IsBetterOfTwo a b better → GivesBest h Routes better
few_best h Routes None None None None better all is also choice = subst (GivesBest h Routes) (sym choice) all
few_best h Routes None None None (Some b) better all is also choice = absurd also
few_best h Routes None None (Some a) b better all is also choice = absurd is
few_best h Routes None (Some u) None None better all is also choice = absurd also
few_best h Routes None (Some u) None (Some b) better all is also choice = subst (GivesBest h Routes) (sym choice) (one_best h Routes u b all also)
few_best h Routes None (Some u) (Some a) b better all is also choice = absurd is
few_best h Routes (Some t) p None b better all is also choice = absurd is
few_best h Routes (Some t) None (Some a) None better all is also choice = subst (GivesBest h Routes) (sym choice) (one_best h Routes t a all is)
few_best h Routes (Some t) None (Some a) (Some b) better all is also choice = absurd also
few_best h Routes (Some t) (Some u) (Some a) None better all is also choice = absurd also
few_best h Routes (Some t) (Some u) (Some a) (Some b) None all is also choice = absurd choice
few_best h Routes (Some t) (Some u) (Some a) (Some b) (Some better) all is also choice = two_best h Routes t u a b better all is also choice
