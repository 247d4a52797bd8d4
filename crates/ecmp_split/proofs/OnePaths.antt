-- A flow comes apart into one list of paths.
use Rattle.std.proofs.Common.{◌≡◌, inl, inr, ℕ, ◌<◌, ◌≤◌, List, [], ◌∷◌, arith, refl, ap, sym, ◌∙◌, subst}
use Rattle.std.proofs.lemmas.Bool.{cases_order}
use Rattle.te_model.specs.declared.network.Network.{Network}
use Rattle.te_model.specs.declared.route.PathShare.{PathShare}
use Rattle.te_model.specs.Network.{link_count, head_of}
use Rattle.te_model.specs.Path.{amount_on}
use Rattle.routing.specs.Decomposition.{IsDecomposition, IsLeastOn, IsLowestLink, IsLowestPath}
use Rattle.routing.proofs.LowestPaths.{lowest_flows}
use Rattle.ecmp_split.specs.Laws.{MultipathSplitsAreOne}
use Rattle.ecmp_split.proofs.OneFlow.{equal_splits_one}

-- two flows are the same on each link
abbrev SameFlow : Network → (ℕ → ℕ) → (ℕ → ℕ) → Type 0
SameFlow net f g = (h : ℕ) → h < link_count net → f h ≡ g h

not_lower : (net : Network) (f g : ℕ → ℕ) (v h k : ℕ) → SameFlow net f g → IsLowestLink net f v h → IsLowestLink net g v k → h < k → ⊥
not_lower net f g v h k same one two less =
    omega (arith, one.some, same h one.inside, two.lowest h less one.leaves)

one_link : (net : Network) (f g : ℕ → ℕ) (v h k : ℕ) → SameFlow net f g → IsLowestLink net f v h → IsLowestLink net g v k → h ≡ k
one_link net f g v h k same one two = elim (cases_order h k) [
  | inl e ↦ e
  | inr other ↦ elim other [
    | inl less ↦ absurd (not_lower net f g v h k same one two less)
    | inr more ↦ absurd (not_lower net g f v k h (λ j inside. sym (same j inside)) two one more)
  ]
]

one_path : (net : Network) (f g : ℕ → ℕ) (v t : ℕ) (p q : List ℕ) → SameFlow net f g → IsLowestPath net f v t p → IsLowestPath net g v t q → p ≡ q
one_path net f g v t [] [] same one two = refl
one_path net f g v t [] (k ∷ ks) same one two = absurd (two.0 one)
one_path net f g v t (h ∷ hs) [] same one two = absurd (one.0 two)
one_path net f g v t (h ∷ hs) (k ∷ ks) same one two =
    let e = one_link net f g v h k same one.1 two.1 in
    ap (λ j. j ∷ hs) e ∙ ap (λ l. k ∷ l) (one_path net f g (head_of net k) t hs ks same (subst (λ j. IsLowestPath net f (head_of net j) t hs) e one.2) two.2)

weight-le : (net : Network) (f g : ℕ → ℕ) (s t : ℕ) (path : List ℕ) (x y : ℕ) → SameFlow net f g → IsLowestPath net g s t path → IsLeastOn f path x → IsLeastOn g path y →
    x ≤ y
weight-le net f g s t path x y same lowest one two =
    let (h, on, at) = two.reached in
    let inside = (lowest_flows net g s t h path lowest on).0 in
    omega (arith, one.least h on, same h inside, at)

none_more : (net : Network) (f g : ℕ → ℕ) (s t : ℕ) (p : PathShare) → SameFlow net f g → ((h : ℕ) → h < link_count net → f h ≡ 0) →
    IsLowestPath net g s t p.links → IsLeastOn g p.links p.weight → ⊥
none_more net f g s t p same none lowest least =
    let (h, on, at) = least.reached in
    let flows = lowest_flows net g s t h p.links lowest on in
    omega (arith, flows.1, same h flows.0, none h flows.0)

one_decomposition : (net : Network) (s t : ℕ) (f g : ℕ → ℕ) (ps qs : List PathShare) → SameFlow net f g → IsDecomposition net s t f ps → IsDecomposition net s t g qs →
    ps ≡ qs
one_decomposition net s t f g [] [] same one two = refl
one_decomposition net s t f g [] (q ∷ qs) same one two = absurd (none_more net f g s t q same one two.1.path two.1.weight)
one_decomposition net s t f g (p ∷ ps) [] same one two =
    absurd (none_more net g f s t p (λ h inside. sym (same h inside)) two one.1.path one.1.weight)
one_decomposition net s t f g (p ∷ ps) (q ∷ qs) same (left, off, rest) (left', off', rest') =
    let links = one_path net f g s t p.links q.links same off.path off'.path in
    let least = subst (λ l. IsLeastOn f l p.weight) links off.weight in
    let path = subst (λ l. IsLowestPath net f s t l) links off.path in
    let low = weight-le net f g s t q.links p.weight q.weight same off'.path least off'.weight in
    let high = weight-le net g f s t q.links q.weight p.weight (λ h inside. sym (same h inside)) path off'.weight least in
    let weight : p.weight ≡ q.weight = omega (arith, low, high) in
    let left_same : SameFlow net left left' = λ h inside.
    let takes = ap (λ l. amount_on l p.weight h) links ∙ ap (λ w. amount_on q.links w h) weight in
    omega (arith, off.rest h inside, off'.rest h inside, same h inside, takes)
    in
    let first : p ≡ q = ap (λ l. record { links = l; weight = p.weight }) links ∙ ap (λ w. record { links = q.links; weight = w }) weight in
    ap (λ x. x ∷ ps) first ∙ ap (λ l. q ∷ l) (one_decomposition net s t left left' ps qs left_same rest rest')

pub multipath_splits_one : MultipathSplitsAreOne
multipath_splits_one net formed pair one two (f, split_f, apart_f) (g, split_g, apart_g) =
    one_decomposition net pair.src pair.dst f g one two (equal_splits_one net formed pair.src pair.dst f g split_f split_g) apart_f apart_g
