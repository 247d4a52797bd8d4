-- The least path of a class is a least walk over the links that its prefix leaves open.
use Rattle.std.proofs.Common.{inl, inr, ◌≡◌, ℕ, ◌<◌, ◌≤◌, Bool, true, false, not, ◌&&◌, List, [], ◌∷◌, ◌++◌, Some, None, length, take, arith, refl, ap, sym, ◌∙◌, subst, ◌==◌, slice_index, nat_lt}
use Rattle.std.proofs.lemmas.Bool.{cases_Bool, and_from, and_parts, and_left, and_right, and_cases, or_cases, or_left, or_right, ltb-true, eq-eqb, eqb-true, not-true, not_from_false}
use Rattle.std.proofs.lemmas.List.{length-append, map-append}
use Rattle.std.proofs.Math.Seq.{take-append_seam}
use Rattle.te_model.specs.declared.network.Network.{Network}
use Rattle.te_model.specs.Network.{link_count, tail_of, head_of}
use Rattle.te_model.specs.Path.{chains, is_distinct, has_number, nodes_visited, heads}
use Rattle.te_model.proofs.Chains.{chains-append}
use Rattle.shortest_path.specs.Links.{Walk, is_open}
use Rattle.shortest_path.specs.Least.{IsLeastWalk}
use Rattle.shortest_path.proofs.Walks.{chains_of_walk}
use Rattle.shortest_path.proofs.Tight.{least_walk_apart}
use Rattle.k_paths.specs.Classes.{InClass, IsLeastOfClass, AreClassMarks}
use Rattle.shortest_path.specs.Costs.{costs_of, IsBefore}
use Rattle.k_paths.proofs.Ordering.{below-append}
use Rattle.te_model.proofs.Marks.{nodes_visited-is}
use Rattle.k_paths.proofs.Visits.{distinct-apart, distinct-append, distinct-right, chains-before, chains-end}

pub chains-same_end : (net : Network) (s v w : ℕ) (p : List ℕ) → chains net s v p ≡ true → chains net s w p ≡ true → v ≡ w
chains-same_end net s v w [] one two = sym (eqb-true s v one) ∙ eqb-true s w two
chains-same_end net s v w (h ∷ hs) one two =
    chains-same_end net (head_of net h) v w hs (and_parts _ (chains net (head_of net h) v hs) one).1 (and_parts _ (chains net (head_of net h) w hs) two).1

pub visited-append : (net : Network) (s : ℕ) (p q : List ℕ) → nodes_visited net s (p ++ q) ≡ nodes_visited net s p ++ heads net q
visited-append net s p q =
    nodes_visited-is net s (p ++ q) ∙ (ap (λ l. s ∷ l) (map-append (head_of net) p q) ∙ ap (λ l. l ++ heads net q) (sym (nodes_visited-is net s p)))

visited-end : (net : Network) (s v : ℕ) (p : List ℕ) → chains net s v p ≡ true → has_number (nodes_visited net s p) v ≡ true
visited-end net s v p chain = subst (λ l. has_number l v ≡ true) (sym (nodes_visited-is net s p)) (chains-end net s v p chain)

pub walk_of_member : (net : Network) (marks : List Bool) (s t v : ℕ) (prefix excluded q : List ℕ) →
    AreClassMarks net s v prefix excluded marks → chains net s v prefix ≡ true → (m : InClass net s t prefix excluded q) →
    Walk net marks v t (m.next ∷ m.rest)
walk_of_member net marks s t v prefix excluded q are chain m =
    let links = m.next ∷ m.rest in
    let path = and_parts (chains net s t q) (is_distinct (nodes_visited net s q)) m.sound in
    let whole : chains net s t (prefix ++ links) ≡ true = subst (λ l. chains net s t l ≡ true) m.is path.0 in
    let apart : is_distinct (nodes_visited net s prefix ++ heads net links) ≡ true =
    subst (λ l. is_distinct l ≡ true) (visited-append net s prefix links) (subst (λ l. is_distinct (nodes_visited net s l) ≡ true) m.is path.1)
    in
    let parts = chains-before net s t m.next prefix m.rest whole in
    let v_is : v ≡ tail_of net m.next = chains-same_end net s v (tail_of net m.next) prefix chain parts.0 in
    go v links (subst (λ k. chains net k t links ≡ true) (sym v_is) parts.1)
    (λ x one two. distinct-apart (nodes_visited net s prefix) (heads net links) x apart one two)
    (λ h hs e same. let is : m.next ≡ h = cc in subst (λ k. has_number excluded k ≡ false) is m.allowed)
  where
    not_on : (h : ℕ) (links : List ℕ) → ((x : ℕ) → has_number (nodes_visited net s prefix) x ≡ true → has_number (heads net links) x ≡ true → ⊥) →
        has_number (heads net links) (head_of net h) ≡ true → has_number (nodes_visited net s prefix) (head_of net h) ≡ false
    not_on h links apart has = elim (cases_Bool (has_number (nodes_visited net s prefix) (head_of net h))) [
      | inl on ↦ absurd (apart (head_of net h) on has)
      | inr off ↦ off
    ]

    not_excluded : (h u : ℕ) → tail_of net h ≡ u → (u ≡ v → has_number excluded h ≡ false) → (tail_of net h == v && has_number excluded h) ≡ false
    not_excluded h u starts first = elim (cases_Bool (tail_of net h == v)) [
      | inl e ↦ and_right (tail_of net h == v) (has_number excluded h) (first (sym starts ∙ eqb-true (tail_of net h) v e))
      | inr ne ↦ and_left (tail_of net h == v) (has_number excluded h) ne
    ]

    go : (u : ℕ) (links : List ℕ) → chains net u t links ≡ true →
        ((x : ℕ) → has_number (nodes_visited net s prefix) x ≡ true → has_number (heads net links) x ≡ true → ⊥) →
        ((h : ℕ) (hs : List ℕ) → links ≡ h ∷ hs → u ≡ v → has_number excluded h ≡ false) → Walk net marks u t links
    go u [] ends apart first = eqb-true u t ends
    go u (h ∷ hs) ends apart first =
        let outer = and_parts (nat_lt h (link_count net) && tail_of net h == u) (chains net (head_of net h) t hs) ends in
        let inner = and_parts (nat_lt h (link_count net)) (tail_of net h == u) outer.0 in
        let below = ltb-true h (link_count net) inner.0 in
        let starts = eqb-true (tail_of net h) u inner.1 in
        let here : has_number (heads net (h ∷ hs)) (head_of net h) ≡ true = or_left (head_of net h == head_of net h) (has_number (heads net hs) (head_of net h)) (eq-eqb (head_of net h) (head_of net h) refl) in
        let open_h : is_open marks h ≡ true = are h below ∙
        and_from (not (has_number (nodes_visited net s prefix) (head_of net h))) (not (tail_of net h == v && has_number excluded h))
        (not_from_false _ (not_on h (h ∷ hs) apart here)) (not_from_false _ (not_excluded h u starts (λ same. first h hs refl same)))
        in (
          below,
          starts,
          open_h,
          go (head_of net h) hs outer.1 (λ x one two. apart x one (or_right (head_of net h == x) (has_number (heads net hs) x) two))
              (λ k ks e same. absurd (apart v (visited-end net s v prefix chain)
              (or_left (head_of net h == v) (has_number (heads net hs) v) (eq-eqb (head_of net h) v same)))),
        )

-- the nodes of an open walk are not those of the prefix
open_apart : (net : Network) (marks : List Bool) (s t v : ℕ) (prefix excluded : List ℕ) → AreClassMarks net s v prefix excluded marks →
    (u : ℕ) (links : List ℕ) → Walk net marks u t links → (x : ℕ) → has_number (nodes_visited net s prefix) x ≡ true → has_number (heads net links) x ≡ false
open_apart net marks s t v prefix excluded are u [] walk x on = refl
open_apart net marks s t v prefix excluded are u (h ∷ hs) (below, starts, open_h, walk) x on =
    let parts = and_parts (not (has_number (nodes_visited net s prefix) (head_of net h))) (not (tail_of net h == v && has_number excluded h)) (sym (are h below) ∙ open_h) in
    let off = not-true (has_number (nodes_visited net s prefix) (head_of net h)) parts.0 in
    elim (cases_Bool (has_number (heads net (h ∷ hs)) x)) [
      | inl has ↦ absurd (elim (or_cases (head_of net h == x) (has_number (heads net hs) x) has) [
        | inl e ↦ let also = subst (λ k. has_number (nodes_visited net s prefix) k ≡ true) (sym (eqb-true (head_of net h) x e)) on in cc
        | inr later ↦ let never = open_apart net marks s t v prefix excluded are (head_of net h) hs walk x on in cc
      ])
      | inr none ↦ none
    ]

pub member_of_walk : (net : Network) (marks : List Bool) (s t v : ℕ) (prefix excluded r : List ℕ) →
    AreClassMarks net s v prefix excluded marks → chains net s v prefix ≡ true → is_distinct (nodes_visited net s prefix) ≡ true → (v ≡ t → ⊥) →
    Walk net marks v t r → is_distinct (nodes_visited net v r) ≡ true → InClass net s t prefix excluded (prefix ++ r)
member_of_walk net marks s t v prefix excluded [] are chain apart differ walk apart_r = absurd (differ walk)
member_of_walk net marks s t v prefix excluded (h ∷ hs) are chain apart differ walk apart_r =
    let parts = and_parts (not (has_number (nodes_visited net s prefix) (head_of net h))) (not (tail_of net h == v && has_number excluded h)) (sym (are h walk.0) ∙ walk.2) in
    let apart_heads : is_distinct (heads net (h ∷ hs)) ≡ true =
    distinct-right (v ∷ []) (heads net (h ∷ hs)) (subst (λ l. is_distinct l ≡ true) (nodes_visited-is net v (h ∷ hs)) apart_r)
    in
    record {
      sound = and_from (chains net s t (prefix ++ h ∷ hs)) (is_distinct (nodes_visited net s (prefix ++ h ∷ hs)))
          (chains-append net s v t prefix (h ∷ hs) chain (chains_of_walk net marks v t (h ∷ hs) walk))
          (subst (λ l. is_distinct l ≡ true) (sym (visited-append net s prefix (h ∷ hs)))
          (distinct-append (nodes_visited net s prefix) (heads net (h ∷ hs)) apart apart_heads
          (open_apart net marks s t v prefix excluded are v (h ∷ hs) walk)));
      next = h;
      rest = hs;
      is = refl;
      allowed = elim (and_cases (tail_of net h == v) (has_number excluded h) (not-true (tail_of net h == v && has_number excluded h) parts.1)) [
        | inl ne ↦ let e = eq-eqb (tail_of net h) v walk.1 in cc
        | inr none ↦ none
      ];
    }

pub class_least : (net : Network) (marks : List Bool) (s t v : ℕ) (prefix excluded r : List ℕ) →
    AreClassMarks net s v prefix excluded marks → chains net s v prefix ≡ true → is_distinct (nodes_visited net s prefix) ≡ true → (v ≡ t → ⊥) →
    ((h : ℕ) → h < link_count net → 1 ≤ slice_index (costs_of net) h) →
    IsLeastWalk net (costs_of net) marks v t (Some r) → IsLeastOfClass net s t (prefix ++ r) (length prefix) excluded
class_least net marks s t v prefix excluded r are chain apart differ long least =
    let seam : take (length prefix) (prefix ++ r) ≡ prefix = take-append_seam prefix r in
    let member = member_of_walk net marks s t v prefix excluded r are chain apart differ least.0 (least_walk_apart net (costs_of net) marks v t r long least) in
    record {
      inside = omega (arith, length-append prefix r, some r least.0);
      member = subst (λ p. InClass net s t p excluded (prefix ++ r)) (sym seam) member;
      least = λ q in'.
          let m = subst (λ p. InClass net s t p excluded q) seam in' in
          elim (least.1 (m.next ∷ m.rest) (walk_of_member net marks s t v prefix excluded q are chain m)) [
            | inl e ↦ inl (m.is ∙ ap (λ l. prefix ++ l) e)
            | inr below ↦ inr (subst (λ l. IsBefore net (prefix ++ r) l) (sym m.is) (below-append (costs_of net) prefix r (m.next ∷ m.rest) below))
          ];
    }
  where
    some : (r : List ℕ) → Walk net marks v t r → 1 ≤ length r
    some [] walk = absurd (differ walk)
    some (h ∷ hs) walk = omega arith

pub class_none : (net : Network) (marks : List Bool) (s t v : ℕ) (prefix excluded : List ℕ) →
    AreClassMarks net s v prefix excluded marks → chains net s v prefix ≡ true →
    IsLeastWalk net (costs_of net) marks v t None → (q : List ℕ) → InClass net s t prefix excluded q → ⊥
class_none net marks s t v prefix excluded are chain none q m = none (m.next ∷ m.rest) (walk_of_member net marks s t v prefix excluded q are chain m)
