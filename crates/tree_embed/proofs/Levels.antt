-- The levels that two nodes share, and the centers on the way up and down.
use Rattle.std.proofs.Common.{inl, inr, ◌≡◌, ℕ, ◌+◌, ◌-◌, ◌≤◌, List, [], ◌∷◌, ◌++◌, reverse, arith, ap, sym, ◌∙◌, subst}
use Rattle.std.proofs.lemmas.Bool.{cases_eq}
use Rattle.std.proofs.lemmas.List.{append_assoc, reverse-append}
use Rattle.std.proofs.lemmas.List.FromFn.{map-range_with_len_more}
use Rattle.tree_embed.specs.declared.centers.TheConstants.{TOP_LEVEL}
use Rattle.tree_embed.specs.Chains.{IsLowestShared, Share, centers_down, centers_up}

pub share_top : (center : ℕ → ℕ → ℕ) (v w : ℕ) → center TOP_LEVEL v ≡ center TOP_LEVEL w → Share center v w TOP_LEVEL
share_top center v w agree l low high =
    let e : TOP_LEVEL ≡ l = omega arith in
    subst (λ k. center k v ≡ center k w) e agree

-- one level more below those that are shared
pub share_more : (center : ℕ → ℕ → ℕ) (v w level : ℕ) → Share center v w level → 1 ≤ level → center (level - 1) v ≡ center (level - 1) w →
    Share center v w (level - 1)
share_more center v w level share some agree l low high = elim (cases_eq (level - 1) l) [
  | inl e ↦ subst (λ k. center k v ≡ center k w) e agree
  | inr other ↦ share l (omega arith) high
]

pub lowest_here : (center : ℕ → ℕ → ℕ) (v w level : ℕ) → level ≤ TOP_LEVEL → Share center v w level → 1 ≤ level →
    (center (level - 1) v ≡ center (level - 1) w → ⊥) → IsLowestShared center v w (level - 1 + 1)
lowest_here center v w level high share some differ =
    let e : level ≡ level - 1 + 1 = omega arith in
    subst (IsLowestShared center v w) e (record {
      level = high;
      shared = share;
      lowest = λ b lt all. differ (all (level - 1) (omega arith) (omega arith));
    })

pub lowest_zero : (center : ℕ → ℕ → ℕ) (v w level : ℕ) → Share center v w level → level ≡ 0 → IsLowestShared center v w 0
lowest_zero center v w level share e = record {
  level = omega arith;
  shared = subst (Share center v w) e share;
  lowest = λ b lt all. absurd (omega arith);
}

up_more : (center : ℕ → ℕ → ℕ) (v k : ℕ) → centers_up center v (k + 1) ≡ centers_up center v k ++ center (k + 1) v ∷ []
up_more center v k = map-range_with_len_more (λ l. center l v) 1 k (k + 1) (omega arith)

down_more : (center : ℕ → ℕ → ℕ) (w k : ℕ) → centers_down center w (k + 1) ≡ center (k + 1) w ∷ centers_down center w k
down_more center w k = ap reverse (up_more center w k) ∙ reverse-append (centers_up center w k) (center (k + 1) w ∷ [])

-- a step up
pub climb_more : (center : ℕ → ℕ → ℕ) (v level x : ℕ) (start now new : List ℕ) → 1 ≤ level → now ≡ start ++ centers_up center v (level - 1) →
    x ≡ center level v → new ≡ now ++ x ∷ [] → new ≡ start ++ centers_up center v (level + 1 - 1)
climb_more center v level x start now new some is at pushed =
    let one : level ≡ level - 1 + 1 = omega arith in
    let two : level - 1 + 1 ≡ level + 1 - 1 = omega arith in
    let last : x ≡ center (level - 1 + 1) v = at ∙ ap (λ l. center l v) one in
    pushed ∙ ap (λ l. l ++ x ∷ []) is ∙ append_assoc start (centers_up center v (level - 1)) (x ∷ [])
    ∙ ap (λ y. start ++ (centers_up center v (level - 1) ++ y ∷ [])) last
    ∙ ap (λ l. start ++ l) (sym (up_more center v (level - 1)))
    ∙ ap (λ n. start ++ centers_up center v n) two

-- a step down
pub descend_more : (center : ℕ → ℕ → ℕ) (w level x : ℕ) (all now new : List ℕ) → 2 ≤ level → now ++ centers_down center w (level - 1) ≡ all →
    x ≡ center (level - 1) w → new ≡ now ++ x ∷ [] → new ++ centers_down center w (level - 1 - 1) ≡ all
descend_more center w level x all now new some is at pushed =
    let one : level - 1 ≡ level - 1 - 1 + 1 = omega arith in
    let first : x ≡ center (level - 1 - 1 + 1) w = at ∙ ap (λ l. center l w) one in
    ap (λ l. l ++ centers_down center w (level - 1 - 1)) pushed
    ∙ append_assoc now (x ∷ []) (centers_down center w (level - 1 - 1))
    ∙ ap (λ y. now ++ y ∷ centers_down center w (level - 1 - 1)) first
    ∙ ap (λ l. now ++ l) (sym (down_more center w (level - 1 - 1)))
    ∙ ap (λ n. now ++ centers_down center w n) (sym one)
    ∙ is
