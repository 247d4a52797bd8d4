-- A walk without its loops is a path.
use Rattle.std.proofs.Common.{◌⊎◌, inl, inr, ◌≡◌, ℕ, zero, suc, ◌<◌, ◌≤◌, Bool, true, false, not, ◌&&◌, ◌||◌, List, [], ◌∷◌, ◌++◌, length, drop, arith, refl, ap, sym, ◌∙◌, subst, slice_index, ◌==◌, nat_lt, if◌then◌else◌, All}
use Rattle.std.specs.List.{list_any}
use Rattle.std.proofs.lemmas.Bool.{and_from, and_parts, or_cases, eqb-true, eq-eqb, or_parts}
use Rattle.std.proofs.lemmas.List.{append-nil, append_assoc}
use Rattle.std.proofs.lemmas.List.Elements.{All-tail}
use Rattle.te_model.specs.declared.network.Network.{Network}
use Rattle.te_model.specs.Network.{link_count, tail_of, head_of}
use Rattle.te_model.specs.Path.{has_number, is_distinct, chains, nodes_visited, is_path}
use Rattle.te_model.proofs.Chains.{first_link}
use Rattle.routing.specs.Loops.{after_last, end_of, IsCut}

-- whether a link of the walk leads to node s
abbrev pub leads_to : Network → ℕ → List ℕ → Bool
leads_to net s walk = list_any (λ k. head_of net k == s) walk

-- where the walk visits s no more, nothing is cut
pub after_none : (net : Network) (s : ℕ) (walk : List ℕ) → leads_to net s walk ≡ false → after_last net s walk ≡ walk
after_none net s [] none = refl
after_none net s (h ∷ hs) none = ap (λ b. if b then after_last net s hs else h ∷ hs) none

-- behind the last link that leads to s
pub after_found : (net : Network) (s : ℕ) (walk : List ℕ) (i : ℕ) → i < length walk → head_of net (slice_index walk i) ≡ s →
    leads_to net s (drop (suc i) walk) ≡ false → after_last net s walk ≡ drop (suc i) walk
after_found net s [] i below at none = absurd (omega arith)
after_found net s (h ∷ hs) zero below at none =
    let here : leads_to net s (h ∷ hs) ≡ true = ap (λ b. b || leads_to net s hs) (eq-eqb (head_of net h) s at) in
    ap (λ b. if b then after_last net s hs else h ∷ hs) here ∙ after_none net s hs none
after_found net s (h ∷ hs) (suc i) below at none =
    let later : leads_to net s hs ≡ true = found hs i (omega arith) at in
    let here : leads_to net s (h ∷ hs) ≡ true = or_right (head_of net h == s) (leads_to net s hs) later in
    ap (λ b. if b then after_last net s hs else h ∷ hs) here ∙ after_found net s hs i (omega arith) at none
  where
    or_right : (a b : Bool) → b ≡ true → (a || b) ≡ true
    or_right true b e = refl
    or_right false b e = e

    found : (xs : List ℕ) (j : ℕ) → j < length xs → head_of net (slice_index xs j) ≡ s → leads_to net s xs ≡ true
    found [] j below at = absurd (omega arith)
    found (x ∷ xs) zero below at = ap (λ b. b || leads_to net s xs) (eq-eqb (head_of net x) s at)
    found (x ∷ xs) (suc j) below at = or_right (head_of net x == s) (leads_to net s xs) (found xs j (omega arith) at)

-- what follows the last visit visits s no more
after_leads_to : (net : Network) (s : ℕ) (walk : List ℕ) → leads_to net s (after_last net s walk) ≡ false
after_leads_to net s [] = refl
after_leads_to net s (h ∷ hs) = go (leads_to net s (h ∷ hs)) (after_leads_to net s hs) refl
  where
    go : (b : Bool) → leads_to net s (after_last net s hs) ≡ false → leads_to net s (h ∷ hs) ≡ b →
        leads_to net s (if b then after_last net s hs else h ∷ hs) ≡ false
    go true later e = later
    go false later e = e

-- what a walk does not lead to, no part of it leads to
after_kept : (net : Network) (s u : ℕ) (walk : List ℕ) → leads_to net s walk ≡ false → leads_to net s (after_last net u walk) ≡ false
after_kept net s u [] none = none
after_kept net s u (h ∷ hs) none = go (leads_to net u (h ∷ hs)) (after_kept net s u hs (or_parts (head_of net h == s) (leads_to net s hs) none).1)
  where
    go : (b : Bool) → leads_to net s (after_last net u hs) ≡ false → leads_to net s (if b then after_last net u hs else h ∷ hs) ≡ false
    go true later = later
    go false later = none

-- from a last visit the walk goes on to its end
after_chains : (net : Network) (v s t : ℕ) (walk : List ℕ) → chains net v t walk ≡ true → (v ≡ s) ⊎ (leads_to net s walk ≡ true) →
    chains net s t (after_last net s walk) ≡ true
after_chains net v s t [] chain here = elim here [
  | inl e ↦ subst (λ u. (u == t) ≡ true) e chain
  | inr later ↦ cc
]
after_chains net v s t (h ∷ hs) chain here =
    let rest = (and_parts (nat_lt h (link_count net) && tail_of net h == v) (chains net (head_of net h) t hs) chain).1 in
    go (after_chains net (head_of net h) s t hs rest) (leads_to net s (h ∷ hs)) refl
  where
    go : ((head_of net h ≡ s) ⊎ (leads_to net s hs ≡ true) → chains net s t (after_last net s hs) ≡ true) →
        (b : Bool) → leads_to net s (h ∷ hs) ≡ b → chains net s t (if b then after_last net s hs else h ∷ hs) ≡ true
    go on true e = elim (or_cases (head_of net h == s) (leads_to net s hs) e) [
      | inl at ↦ on (inl (eqb-true (head_of net h) s at))
      | inr later ↦ on (inr later)
    ]
    go on false e = elim here [
      | inl same ↦ subst (λ u. chains net u t (h ∷ hs) ≡ true) same chain
      | inr later ↦ cc
    ]

-- the cut visits no node that the walk does not lead to
cut_avoids : (net : Network) (s v : ℕ) (walk cut : List ℕ) → IsCut net v walk cut → leads_to net s walk ≡ false → (v == s) ≡ false →
    has_number (nodes_visited net v cut) s ≡ false
cut_avoids net s v walk [] is none apart = ap (λ b. b || false) apart
cut_avoids net s v walk (h ∷ cut) (rest, at, more) none apart =
    let kept : leads_to net s (h ∷ rest) ≡ false = subst (λ w. leads_to net s w ≡ false) at (after_kept net s v walk none) in
    let parts = or_parts (head_of net h == s) (leads_to net s rest) kept in
    let later = cut_avoids net s (head_of net h) rest cut more parts.1 parts.0 in
    ap (λ b. b || has_number (nodes_visited net (head_of net h) cut) s) apart ∙ later

-- the cut of a walk is a path to its end
pub cut_is_path : (net : Network) (s t : ℕ) (walk cut : List ℕ) → chains net s t walk ≡ true → IsCut net s walk cut → is_path net s t cut ≡ true
cut_is_path net s t walk [] chain is =
    let on : chains net s t [] ≡ true = subst (λ w. chains net s t w ≡ true) is (after_chains net s s t walk chain (inl refl)) in
    and_from (s == t) true on refl
cut_is_path net s t walk (h ∷ cut) chain (rest, at, more) =
    let on : chains net s t (h ∷ rest) ≡ true = subst (λ w. chains net s t w ≡ true) at (after_chains net s s t walk chain (inl refl)) in
    let outer = and_parts (nat_lt h (link_count net) && tail_of net h == s) (chains net (head_of net h) t rest) on in
    let path = cut_is_path net (head_of net h) t rest cut outer.1 more in
    let parts = and_parts (chains net (head_of net h) t cut) (is_distinct (nodes_visited net (head_of net h) cut)) path in
    let kept : leads_to net s (h ∷ rest) ≡ false = subst (λ w. leads_to net s w ≡ false) at (after_leads_to net s walk) in
    let none = or_parts (head_of net h == s) (leads_to net s rest) kept in
    let apart : has_number (nodes_visited net (head_of net h) cut) s ≡ false = cut_avoids net s (head_of net h) rest cut more none.1 none.0 in
    and_from (chains net s t (h ∷ cut)) (is_distinct (nodes_visited net s (h ∷ cut)))
    (and_from (nat_lt h (link_count net) && tail_of net h == s) (chains net (head_of net h) t cut) outer.0 parts.0)
    (and_from (not (has_number (nodes_visited net (head_of net h) cut) s)) (is_distinct (nodes_visited net (head_of net h) cut)) (ap not apart) parts.1)

-- what may follow once the rest of the walk is reached
abbrev pub GoesOn : Network → List ℕ → List ℕ → Type 0
GoesOn net [] cut = cut ≡ []
GoesOn net (h ∷ hs) cut = (more : List ℕ) × (cut ≡ h ∷ more) × IsCut net (head_of net h) hs more

pub cut_goes_on : (net : Network) (s : ℕ) (walk cut : List ℕ) → GoesOn net (after_last net s walk) cut → IsCut net s walk cut
cut_goes_on net s walk cut on = go (after_last net s walk) refl on
  where
    go : (rest : List ℕ) → after_last net s walk ≡ rest → GoesOn net rest cut → IsCut net s walk cut
    go [] e is = subst (IsCut net s walk) (sym is) e
    go (h ∷ hs) e (more, is, cut') = subst (IsCut net s walk) (sym is) (hs, e, cut')

after_links : (net : Network) (s : ℕ) (walk : List ℕ) → All (λ h. h < link_count net) walk → All (λ h. h < link_count net) (after_last net s walk)
after_links net s [] all = all
after_links net s (h ∷ hs) all = go (leads_to net s (h ∷ hs)) (after_links net s hs (All-tail (λ k. k < link_count net) h hs all))
  where
    go : (b : Bool) → All (λ k. k < link_count net) (after_last net s hs) → All (λ k. k < link_count net) (if b then after_last net s hs else h ∷ hs)
    go true later = later
    go false later = all

pub after-le : (net : Network) (s : ℕ) (walk : List ℕ) → length (after_last net s walk) ≤ length walk
after-le net s [] = omega arith
after-le net s (h ∷ hs) = go (leads_to net s (h ∷ hs)) (after-le net s hs)
  where
    go : (b : Bool) → length (after_last net s hs) ≤ length hs → length (if b then after_last net s hs else h ∷ hs) ≤ length (h ∷ hs)
    go true later = omega arith
    go false later = omega arith

-- how far the cut has come
pub record CutSoFar (net : Network) (s : ℕ) (walk cut rest : List ℕ) : Type 0 where
  pub links : All (λ h. h < link_count net) rest
  pub extends : (more : List ℕ) → GoesOn net rest more → IsCut net s walk (cut ++ more)

pub cut_begin : (net : Network) (s : ℕ) (walk : List ℕ) → All (λ h. h < link_count net) walk → CutSoFar net s walk [] (after_last net s walk)
cut_begin net s walk links = record {
  links = after_links net s walk links;
  extends = λ more on. cut_goes_on net s walk more on;
}

pub cut_more : (net : Network) (s : ℕ) (walk cut : List ℕ) (h : ℕ) (hs : List ℕ) → CutSoFar net s walk cut (h ∷ hs) →
    CutSoFar net s walk (cut ++ h ∷ []) (after_last net (head_of net h) hs)
cut_more net s walk cut h hs far = record {
  links = after_links net (head_of net h) hs (All-tail (λ k. k < link_count net) h hs far.links);
  extends = λ more on.
      subst (IsCut net s walk) (sym (append_assoc cut (h ∷ []) more)) (far.extends (h ∷ more) (more, refl, cut_goes_on net (head_of net h) hs more on));
}

pub cut_end : (net : Network) (s : ℕ) (walk cut : List ℕ) → CutSoFar net s walk cut [] → IsCut net s walk cut
cut_end net s walk cut far = subst (IsCut net s walk) (append-nil cut) (far.extends [] refl)

-- a walk has one form without its loops
pub cut_only : (net : Network) (s : ℕ) (walk cut cut' : List ℕ) → IsCut net s walk cut → IsCut net s walk cut' → cut ≡ cut'
cut_only net s walk [] [] one two = refl
cut_only net s walk [] (k ∷ cut') one (rest, at, more) = cc
cut_only net s walk (h ∷ cut) [] (rest, at, more) two = cc
cut_only net s walk (h ∷ cut) (k ∷ cut') (rest, at, more) (rest', at', more') =
    let both : ◌≡◌ {A = List ℕ} (h ∷ rest) (k ∷ rest') = sym at ∙ at' in
    let first : h ≡ k = cc in
    let later : rest ≡ rest' = cc in
    let on = subst (λ l. IsCut net (head_of net k) l cut) later (subst (λ j. IsCut net (head_of net j) rest cut) first more) in
    ap (λ j. j ∷ cut) first ∙ ap (λ l. k ∷ l) (cut_only net (head_of net k) rest' cut cut' on more')

-- a walk ends where its links lead
pub chains_end : (net : Network) (s t : ℕ) (walk : List ℕ) → chains net s t walk ≡ true → end_of net s walk ≡ t
chains_end net s t [] chain = eqb-true s t chain
chains_end net s t (h ∷ hs) chain = chains_end net (head_of net h) t hs (first_link net s t h hs chain).rest

pub chains_to_end : (net : Network) (s t : ℕ) (walk : List ℕ) → chains net s t walk ≡ true → chains net s (end_of net s walk) walk ≡ true
chains_to_end net s t walk chain = subst (λ v. chains net s v walk ≡ true) (sym (chains_end net s t walk chain)) chain
