-- A chain leads from its first node to its last, over nodes of the network.
use Rattle.std.proofs.Common.{◌≡◌, ℕ, zero, suc, ◌<◌, ◌≤◌, Bool, true, false, cond, List, [], ◌∷◌, ◌++◌, get_or, nat_eq, All, arith, refl, ap, sym, ◌∙◌, subst}
use Rattle.std.specs.List.{dedup_from, range_with_len}
use Rattle.std.proofs.lemmas.Bool.{eqb-true}
use Rattle.std.proofs.lemmas.List.Elements.{All-append, All-cons, All-nil, All-map, All-from_get_or}
use Rattle.std.proofs.lemmas.List.Filters.{All-dedup}
use Rattle.std.proofs.lemmas.List.Sorted.{All-permutation, IsPermutation-reverse}
use Rattle.std.proofs.lemmas.List.FromFn.{get_or-range_with_len, length-range_with_len}
use Rattle.tree_embed.specs.declared.centers.TheConstants.{TOP_LEVEL}
use Rattle.tree_embed.specs.Chains.{IsChainOf, centers_between, centers_down, centers_up}
use Rattle.tree_embed.specs.Tables.{IsCenterTable, center_in}
use Rattle.tree_embed.proofs.Joining.{last_of}

last_of-append : (u w : ℕ) (xs : List ℕ) → last_of u (xs ++ w ∷ []) ≡ w
last_of-append u w [] = refl
last_of-append u w (x ∷ xs) = last_of-append x w xs

-- what is kept begins and ends as before
pub record Kept (k : ℕ) (xs kept : List ℕ) : Type 0 where
  pub rest : List ℕ
  pub begins : kept ≡ k ∷ rest
  pub ends : last_of k rest ≡ last_of k xs

kept_of : (k : ℕ) (xs : List ℕ) → Kept k xs (dedup_from nat_eq k xs)
kept_of k [] = record { rest = []; begins = refl; ends = refl }
kept_of k (x ∷ xs) = go (kept_of k xs) (kept_of x xs) (nat_eq x k) refl
  where
    go : Kept k xs (dedup_from nat_eq k xs) → Kept x xs (dedup_from nat_eq x xs) → (b : Bool) → nat_eq x k ≡ b → Kept k (x ∷ xs) (cond b (dedup_from nat_eq k xs) (k ∷ dedup_from nat_eq x xs))
    go r next true e =
        let same : x ≡ k = eqb-true x k e in
        record { rest = r.rest; begins = r.begins; ends = r.ends ∙ ap (λ y. last_of y xs) (sym same) }
    go same r false e =
        record { rest = x ∷ r.rest; begins = ap (λ l. k ∷ l) r.begins; ends = r.ends }

-- a chain from v to w
pub record LeadsTo (v w : ℕ) (chain : List ℕ) : Type 0 where
  pub rest : List ℕ
  pub begins : chain ≡ v ∷ rest
  pub ends : last_of v rest ≡ w

pub chain_leads : (center : ℕ → ℕ → ℕ) (v w : ℕ) (chain : List ℕ) → IsChainOf center v w chain → LeadsTo v w chain
chain_leads center v w chain (a, lowest, is) =
    let r = kept_of v (centers_between center v w a ++ w ∷ []) in
    record { rest = r.rest; begins = is ∙ r.begins; ends = r.ends ∙ last_of-append v w (centers_between center v w a) }

up_inside : (n : ℕ) (centers : List (List ℕ)) → IsCenterTable n centers → (v a : ℕ) → v < n → a ≤ TOP_LEVEL →
    All (λ u. u < n) (centers_up (center_in centers) v a)
up_inside n centers table v a below few =
    All-map (λ u. u < n) (λ l. center_in centers l v) (range_with_len 1 a)
    (All-from_get_or (λ l. center_in centers l v < n) (range_with_len 1 a) 0 (λ k lt.
    let in_range : k < a = omega (arith, lt, length-range_with_len 1 a) in
    let level : get_or (range_with_len 1 a) k 0 ≤ TOP_LEVEL = omega (arith, get_or-range_with_len 1 a k 0 in_range) in
    table.inside (get_or (range_with_len 1 a) k 0) v level below
    ))

between_inside : (n : ℕ) (centers : List (List ℕ)) → IsCenterTable n centers → (v w a : ℕ) → v < n → w < n → a ≤ TOP_LEVEL →
    All (λ u. u < n) (centers_between (center_in centers) v w a)
between_inside n centers table v w zero below_v below_w few =
    All-cons (λ u. u < n) (center_in centers 0 v) [] (table.inside 0 v few below_v) (All-nil (λ u. u < n))
between_inside n centers table v w (suc a) below_v below_w few =
    All-append (λ u. u < n) (centers_up (center_in centers) v (suc a)) (centers_down (center_in centers) w a)
    (up_inside n centers table v (suc a) below_v few)
    (All-permutation (λ u. u < n) (centers_up (center_in centers) w a) (centers_down (center_in centers) w a)
    (IsPermutation-reverse (centers_up (center_in centers) w a)) (up_inside n centers table w a below_w (omega arith)))

pub chain_inside : (n : ℕ) (centers : List (List ℕ)) → IsCenterTable n centers → (v w : ℕ) → v < n → w < n →
    (chain : List ℕ) → IsChainOf (center_in centers) v w chain → All (λ u. u < n) chain
chain_inside n centers table v w below_v below_w chain (a, lowest, is) =
    subst (All (λ u. u < n)) (sym is)
    (All-dedup nat_eq (λ u. u < n) (v ∷ (centers_between (center_in centers) v w a ++ w ∷ []))
    (All-cons (λ u. u < n) v (centers_between (center_in centers) v w a ++ w ∷ []) below_v
    (All-append (λ u. u < n) (centers_between (center_in centers) v w a) (w ∷ [])
    (between_inside n centers table v w a below_v below_w lowest.level) (All-cons (λ u. u < n) w [] below_w (All-nil (λ u. u < n))))))
