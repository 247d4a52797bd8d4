-- What is known of the first links of a path.
use Rattle.std.proofs.Common.{◌≡◌, ℕ, ◌<◌, ◌≤◌, Bool, true, List, ◌∷◌, ◌++◌, Some, None, length, take, arith, sym, subst, slice_index}
use Rattle.std.proofs.lemmas.Bool.{and_parts}
use Rattle.std.proofs.lemmas.List.Elements.{All-get_or}
use Rattle.std.proofs.Math.Seq.{take-append_seam}
use Rattle.te_model.specs.declared.network.Network.{Network}
use Rattle.te_model.specs.Network.{link_count, tail_of, head_of}
use Rattle.te_model.specs.Path.{chains, is_path, is_distinct, has_number, nodes_visited, heads}
use Rattle.shortest_path.specs.Least.{IsLeastWalk}
use Rattle.k_paths.specs.Classes.{InClass, IsLeastOfClass, IsPrefix, AreClassMarks}
use Rattle.shortest_path.specs.Costs.{costs_of, HasCosts}
use Rattle.te_model.proofs.Marks.{nodes_visited-is}
use Rattle.k_paths.proofs.Visits.{distinct-left, distinct-apart, chains-before, chains-end}
use Rattle.k_paths.proofs.ClassLeast.{visited-append, class_least, class_none}
use Rattle.k_paths.proofs.Deviating.{split_at}

pub prefix_of_path : (net : Network) (s t : ℕ) (links : List ℕ) (i : ℕ) → is_path net s t links ≡ true → i < length links →
    IsPrefix net s t (tail_of net (slice_index links i)) (take i links)
prefix_of_path net s t links i path below =
    let (after, is) = split_at i links below in
    let h = slice_index links i in
    let parts = and_parts (chains net s t links) (is_distinct (nodes_visited net s links)) path in
    let both = chains-before net s t h (take i links) after (subst (λ l. chains net s t l ≡ true) is parts.0) in
    let apart : is_distinct (nodes_visited net s (take i links) ++ heads net (h ∷ after)) ≡ true =
    subst (λ l. is_distinct l ≡ true) (visited-append net s (take i links) (h ∷ after)) (subst (λ l. is_distinct (nodes_visited net s l) ≡ true) is parts.1)
    in
    let v = tail_of net h in
    let on : has_number (nodes_visited net s (take i links)) v ≡ true =
    subst (λ l. has_number l v ≡ true) (sym (nodes_visited-is net s (take i links))) (chains-end net s v (take i links) both.0)
    in
    let back = (and_parts _ (chains net (head_of net h) t after) both.1).1 in
    record {
      chain = both.0;
      apart = distinct-left (nodes_visited net s (take i links)) (heads net (h ∷ after)) apart;
      differ = λ e. distinct-apart (nodes_visited net s (take i links)) (heads net (h ∷ after)) v apart on
          (subst (λ k. has_number (heads net (h ∷ after)) k ≡ true) (sym e) (chains-end net (head_of net h) t after back));
    }

pub deviation_none : (net : Network) (marks : List Bool) (s t v : ℕ) (costs prefix excluded : List ℕ) →
    HasCosts net costs → IsPrefix net s t v prefix → AreClassMarks net s v prefix excluded marks →
    IsLeastWalk net costs marks v t None → (q : List ℕ) → InClass net s t prefix excluded q → ⊥
deviation_none net marks s t v costs prefix excluded has pre are none q in' =
    class_none net marks s t v prefix excluded are pre.chain (subst (λ c. IsLeastWalk net c marks v t None) has.are none) q in'

pub deviation_some : (net : Network) (marks : List Bool) (s t v : ℕ) (costs prefix excluded r : List ℕ) →
    HasCosts net costs → IsPrefix net s t v prefix → AreClassMarks net s v prefix excluded marks →
    IsLeastWalk net costs marks v t (Some r) →
    IsLeastOfClass net s t (prefix ++ r) (length prefix) excluded × (take (length prefix) (prefix ++ r) ≡ prefix)
deviation_some net marks s t v costs prefix excluded r has pre are least =
    let long : (h : ℕ) → h < link_count net → 1 ≤ slice_index (costs_of net) h = λ h in'.
    subst (λ c. 1 ≤ slice_index c h) has.are (All-get_or (λ c. 1 ≤ c) costs h 0 (omega (arith, has.count)) has.positive)
    in (
      class_least net marks s t v prefix excluded r are pre.chain pre.apart pre.differ long (subst (λ c. IsLeastWalk net c marks v t (Some r)) has.are least),
      take-append_seam prefix r,
    )
