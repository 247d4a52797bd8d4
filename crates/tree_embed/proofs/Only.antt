-- An embedding and two nodes have one tree path.
use Rattle.std.proofs.Common.{inl, inr, ◌≡◌, ℕ, zero, suc, ◌<◌, ◌≤◌, Bool, true, false, List, [], ◌∷◌, ◌++◌, Option, Some, None, reverse, nat_eq, nat_lt, slice_index, arith, refl, ap, sym, ◌∙◌, subst}
use Rattle.std.specs.Prelude.{MatchBool}
use Rattle.std.specs.List.{dedup}
use Rattle.std.proofs.lemmas.Bool.{cases_order}
use Rattle.te_model.specs.declared.network.Network.{Network}
use Rattle.te_model.specs.Network.{node_count}
use Rattle.te_model.proofs.Choices.{made_same}
use Rattle.shortest_path.proofs.Unique.{least_path_only}
use Rattle.routing.proofs.Cutting.{cut_only}
use Rattle.tree_embed.specs.declared.centers.TheConstants.{TOP_LEVEL}
use Rattle.tree_embed.specs.Embedding.{Embedding}
use Rattle.tree_embed.specs.Centers.{AreCenters, IsCenter, IsFirst, IsInRadius, radius}
use Rattle.tree_embed.specs.Chains.{IsChain, IsLowestShared, Share, centers_between, centers_down, centers_up}
use Rattle.tree_embed.specs.TreePaths.{AreJoined, IsJoin, IsPathFor, IsTreePath}

first_only : (P : ℕ → Type 0) (order : List ℕ) (c d : ℕ) → IsFirst P order c → IsFirst P order d → c ≡ d
first_only P order c d (has_c, (k, in_k, is_k, before_k)) (has_d, (j, in_j, is_j, before_j)) = elim (cases_order k j) [
  | inl e ↦ sym is_k ∙ ap (slice_index order) e ∙ is_j
  | inr other ↦ elim other [
    | inl lt ↦ absurd (before_j k lt (subst P (sym is_k) has_c))
    | inr gt ↦ absurd (before_k j gt (subst P (sym is_j) has_d))
  ]
]

center_only : (e : Embedding) (level v c d : ℕ) → IsCenter e level v c → IsCenter e level v d → c ≡ d
center_only e level v c d one two = go (nat_lt level TOP_LEVEL) one two
  where
    go : (b : Bool) → MatchBool b (IsFirst (λ u. IsInRadius e.network e.lengths (radius e.scale level) u v) e.order c) (c ≡ slice_index e.order 0) →
        MatchBool b (IsFirst (λ u. IsInRadius e.network e.lengths (radius e.scale level) u v) e.order d) (d ≡ slice_index e.order 0) → c ≡ d
    go true one' two' = first_only (λ u. IsInRadius e.network e.lengths (radius e.scale level) u v) e.order c d one' two'
    go false one' two' = one' ∙ sym two'

-- two choices of centers agree at node v
abbrev AgreeAt : (ℕ → ℕ → ℕ) → (ℕ → ℕ → ℕ) → ℕ → Type 0
AgreeAt center other v = (level : ℕ) → level ≤ TOP_LEVEL → center level v ≡ other level v

agree_at : (e : Embedding) (center other : ℕ → ℕ → ℕ) → AreCenters e center → AreCenters e other → (v : ℕ) → v < node_count e.network → AgreeAt center other v
agree_at e center other one two v below level few =
    center_only e level v (center level v) (other level v) (one level v few below) (two level v few below)

share_agree : (center other : ℕ → ℕ → ℕ) (v w level : ℕ) → AgreeAt center other v → AgreeAt center other w → Share center v w level → Share other v w level
share_agree center other v w level at_v at_w share l low high = sym (at_v l high) ∙ share l low high ∙ at_w l high

agree_back : (center other : ℕ → ℕ → ℕ) (v : ℕ) → AgreeAt center other v → AgreeAt other center v
agree_back center other v at level few = sym (at level few)

lowest_only : (center other : ℕ → ℕ → ℕ) (v w a b : ℕ) → AgreeAt center other v → AgreeAt center other w →
    IsLowestShared center v w a → IsLowestShared other v w b → a ≡ b
lowest_only center other v w a b at_v at_w one two = elim (cases_order a b) [
  | inl e ↦ e
  | inr differ ↦ elim differ [
    | inl lt ↦ absurd (two.lowest a lt (share_agree center other v w a at_v at_w one.shared))
    | inr gt ↦ absurd (one.lowest b gt (share_agree other center v w b (agree_back center other v at_v) (agree_back center other w at_w) two.shared))
  ]
]

up_agree : (center other : ℕ → ℕ → ℕ) (v a : ℕ) → AgreeAt center other v → a ≤ TOP_LEVEL → centers_up center v a ≡ centers_up other v a
up_agree center other v a at few = made_same 1 a (λ l. center l v) (λ l. other l v) (λ i below. at i (omega arith))

between_agree : (center other : ℕ → ℕ → ℕ) (v w a : ℕ) → AgreeAt center other v → AgreeAt center other w → a ≤ TOP_LEVEL →
    centers_between center v w a ≡ centers_between other v w a
between_agree center other v w zero at_v at_w few = ap (λ x. x ∷ []) (at_v 0 few)
between_agree center other v w (suc a) at_v at_w few =
    ap (λ l. l ++ centers_down center w a) (up_agree center other v (suc a) at_v few)
    ∙ ap (λ l. centers_up other v (suc a) ++ reverse l) (up_agree center other w a at_w (omega arith))

pub chain_only : (e : Embedding) (v w : ℕ) → v < node_count e.network → w < node_count e.network → (chain chain' : List ℕ) →
    IsChain e v w chain → IsChain e v w chain' → chain ≡ chain'
chain_only e v w below_v below_w chain chain' (center, are, (a, lowest, is)) (other, are', (b, lowest', is')) =
    let at_v : AgreeAt center other v = agree_at e center other are are' v below_v in
    let at_w : AgreeAt center other w = agree_at e center other are are' w below_w in
    let same : a ≡ b = lowest_only center other v w a b at_v at_w lowest lowest' in
    is
    ∙ ap (λ l. dedup nat_eq (v ∷ (l ++ w ∷ []))) (between_agree center other v w a at_v at_w lowest.level ∙ ap (centers_between other v w) same)
    ∙ sym is'

joined_only : (net : Network) (lengths chain walk walk' : List ℕ) → AreJoined net lengths chain walk → AreJoined net lengths chain walk' → walk ≡ walk'
joined_only net lengths [] walk walk' one two = one ∙ sym two
joined_only net lengths (u ∷ []) walk walk' one two = one ∙ sym two
joined_only net lengths (u ∷ v ∷ chain) walk walk' (p, r, least, more, is) (p', r', least', more', is') =
    let some : ◌≡◌ {A = Option (List ℕ)} (Some p) (Some p') = least_path_only net lengths u v (Some p) (Some p') least least' in
    let same : p ≡ p' = cc in
    is ∙ ap (λ l. l ++ r) same ∙ ap (λ l. p' ++ l) (joined_only net lengths (v ∷ chain) r r' more more') ∙ sym is'

join_only : (net : Network) (lengths chain : List ℕ) (walk walk' : Option (List ℕ)) → IsJoin net lengths chain walk → IsJoin net lengths chain walk' → walk ≡ walk'
join_only net lengths chain None None one two = refl
join_only net lengths chain None (Some w) one two = absurd (one w two)
join_only net lengths chain (Some w) None one two = absurd (two w one)
join_only net lengths chain (Some w) (Some w') one two = ap Some (joined_only net lengths chain w w' one two)

path_only : (net : Network) (lengths : List ℕ) (s t : ℕ) (walk p q : Option (List ℕ)) → IsPathFor net lengths s t walk p → IsPathFor net lengths s t walk q → p ≡ q
path_only net lengths s t None p q one two = least_path_only net lengths s t p q one two
path_only net lengths s t (Some walk) p q (cut, is, e) (cut', is', e') = e ∙ ap Some (cut_only net s walk cut cut' is is') ∙ sym e'

pub tree_path_only : (e : Embedding) (s t : ℕ) → s < node_count e.network → t < node_count e.network → (p q : Option (List ℕ)) →
    IsTreePath e s t p → IsTreePath e s t q → p ≡ q
tree_path_only e s t below_s below_t p q (chain, walk, is, join, path) (chain', walk', is', join', path') =
    let same : chain ≡ chain' = chain_only e s t below_s below_t chain chain' is is' in
    let joined : IsJoin e.network e.lengths chain' walk = subst (λ c. IsJoin e.network e.lengths c walk) same join in
    let walks : walk ≡ walk' = join_only e.network e.lengths chain' walk walk' joined join' in
    path_only e.network e.lengths s t walk' p q (subst (λ w. IsPathFor e.network e.lengths s t w p) walks path) path'
