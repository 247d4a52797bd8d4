-- What networks of the same links have in common: paths, the first three inequalities, and the counts.
use Rattle.std.proofs.Common.{◌≡◌, ◌∙◌, ℕ, ◌+◌, ◌*◌, ◌<◌, true, None, List, [], ◌∷◌, length, ap, nat_le, refl, subst, sym}
use Rattle.std.specs.Prelude.{All}
use Rattle.std.proofs.lemmas.Bool.{and_from, and_parts}
use Rattle.std.proofs.lemmas.List.Elements.{All-head, All-tail}
use Rattle.te_model.specs.declared.certificate.Block.{Block}
use Rattle.te_model.specs.declared.certificate.Head.{Head}
use Rattle.te_model.specs.declared.network.Network.{Network}
use Rattle.te_model.specs.Certificate.{potential, weight_of}
use Rattle.te_model.specs.Counting.{first_below, or_else, unless}
use Rattle.te_model.specs.Feasible.{infeasibility}
use Rattle.te_model.specs.Inequalities.{failure_at, keeps_bounds, potentials_failure, rises_within_weight, row_failure, shares_failure, starts_at_zero}
use Rattle.te_model.specs.Network.{head_of, link_count, node_count, tail_of}
use Rattle.te_model.specs.Path.{chains, is_distinct, is_path, nodes_visited}
use Rattle.link_bounds.specs.SameLinks.{AreSameLinks}
use Rattle.te_model.proofs.Chains.{chain_from, first_link, walk_links}
use Rattle.te_model.proofs.Searches.{first_below-same}

module _ (a b : Network) (same : AreSameLinks a b) where
  pub nodes_same : node_count a ≡ node_count b
  nodes_same = ap length same.names

  -- a walk of the one is a walk of the other
  pub walk_same : (s t : ℕ) (links : List ℕ) → chains a s t links ≡ true → chains b s t links ≡ true
  walk_same s t [] walk = walk
  walk_same s t (h ∷ hs) walk =
      let first = first_link a s t h hs walk in
      chain_from b s t h hs (subst (λ n. h < n) same.count first.inside) (sym (same.tails h first.inside) ∙ first.from)
      (subst (λ v. chains b v t hs ≡ true) (same.heads h first.inside) (walk_same (head_of a h) t hs first.rest))

  visits_same : (s : ℕ) (links : List ℕ) → All (λ h. h < link_count a) links → nodes_visited a s links ≡ nodes_visited b s links
  visits_same s [] within = refl
  visits_same s (h ∷ hs) within =
      let inside = All-head (λ k. k < link_count a) h hs within in
      let rest = visits_same (head_of a h) hs (All-tail (λ k. k < link_count a) h hs within) in
      ap (λ xs. s ∷ xs) (rest ∙ ap (λ v. nodes_visited b v hs) (same.heads h inside))

  -- and so is a path
  pub path_same : (s t : ℕ) (links : List ℕ) → is_path a s t links ≡ true → is_path b s t links ≡ true
  path_same s t links path =
      let parts = and_parts (chains a s t links) (is_distinct (nodes_visited a s links)) path in
      and_from (chains b s t links) (is_distinct (nodes_visited b s links)) (walk_same s t links parts.0)
      (subst (λ xs. is_distinct xs ≡ true) (visits_same s links (walk_links a s t links parts.0)) parts.1)

  -- where the row of a source fails first
  row_same : (block : Block) (i : ℕ) → row_failure a block i ≡ row_failure b block i
  row_same block i =
      ap (λ m. or_else (unless (starts_at_zero block i) (failure_at 1 (i * (m + 1))))
      (first_below m (λ h. unless (rises_within_weight a block i h) (failure_at 1 (i * (m + 1) + 1 + h))))) same.count
      ∙ ap (or_else (unless (starts_at_zero block i) (failure_at 1 (i * (link_count b + 1)))))
      (first_below-same (link_count b) (λ h. unless (rises_within_weight a block i h) (failure_at 1 (i * (link_count b + 1) + 1 + h)))
      (λ h. unless (rises_within_weight b block i h) (failure_at 1 (i * (link_count b + 1) + 1 + h)))
      (λ h below. let inside : h < link_count a = subst (λ n. h < n) (sym same.count) below in
      ap (λ t. unless t (failure_at 1 (i * (link_count b + 1) + 1 + h)))
      (ap (λ v. nat_le (potential block i v) (potential block i (tail_of a h) + weight_of block h)) (same.heads h inside)
      ∙ ap (λ v. nat_le (potential block i (head_of b h)) (potential block i v + weight_of block h)) (same.tails h inside))))

  pub potentials_same : (block : Block) → potentials_failure a block ≡ potentials_failure b block
  potentials_same block =
      ap (λ n. first_below n (row_failure a block)) nodes_same
      ∙ first_below-same (node_count b) (row_failure a block) (row_failure b block) (λ i below. row_same block i)

-- so the same of I1 to I3 fails first of a block, whatever capacities, costs and ratio are
pub infeasibility_same : (x y : Head) → AreSameLinks x.network y.network → x.routes ≡ y.routes → x.set ≡ y.set → (block : Block) →
    infeasibility x block ≡ infeasibility y block
infeasibility_same x y same routes set block =
    ap (λ o. or_else o (or_else (shares_failure x.routes block) (or_else (unless (keeps_bounds x.set (length x.routes) block) (failure_at 3 0)) None)))
    (potentials_same x.network y.network same block)
    ∙ ap (λ r. or_else (potentials_failure y.network block) (or_else (shares_failure r block) (or_else (unless (keeps_bounds x.set (length r) block) (failure_at 3 0)) None))) routes
    ∙ ap (λ s. or_else (potentials_failure y.network block) (or_else (shares_failure y.routes block) (or_else (unless (keeps_bounds s (length y.routes) block) (failure_at 3 0)) None))) set
