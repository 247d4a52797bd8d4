-- The links that leave each node: one more of them, and the least sum over those of one node.
use Rattle.std.proofs.Common.{◌≡◌, ℕ, ◌+◌, ◌^◌, ◌<◌, ◌≤◌, ◌&&◌, ◌==◌, false, Option, None, List, arith, refl, subst, slice_index}
use Rattle.std.specs.Prelude.{IfSome}
use Rattle.std.proofs.lemmas.Bool.{and_left, ne_eqb}
use Rattle.te_model.specs.declared.network.Network.{Network}
use Rattle.te_model.specs.Network.{node_count, link_count, tail_of}
use Rattle.shortest_path.specs.declared.ways.Ways.{Ways}
use Rattle.k_paths.specs.declared.outgoing.Outgoing.{Outgoing}
use Rattle.k_paths.specs.Classes.{is_allowed_link}
use Rattle.k_paths.specs.Outgoing.{IsNextLink, AreOutgoing}
use Rattle.k_paths.specs.Ways.{IsFirstLeast, sum_over}
use Rattle.k_paths.proofs.FirstLeast.{so_far_jump}

-- no path goes on from v over a link that leaves another node
sum_elsewhere : (net : Network) (ways : Ways) (s : ℕ) (prefix excluded : List ℕ) (v k : ℕ) → (tail_of net k ≡ v → ⊥) → sum_over net ways s prefix excluded v k ≡ None
sum_elsewhere net ways s prefix excluded v k ne =
    let off : (tail_of net k == v && is_allowed_link net.links s prefix excluded v k) ≡ false = and_left (tail_of net k == v) (is_allowed_link net.links s prefix excluded v k) (ne_eqb (tail_of net k) v ne) in
    rw off refl

-- what is found among the links below h that leave v, where h is the next that does
pub record IsScanned (net : Network) (ways : Ways) (s : ℕ) (prefix excluded : List ℕ) (v h : ℕ) (best : Option (ℕ × ℕ)) : Type 0 where
  pub inside : h ≤ link_count net
  pub leaves : h < link_count net → tail_of net h ≡ v
  pub first : IsFirstLeast (sum_over net ways s prefix excluded v) h best
  pub small : IfSome best (λ r. r.1 ≤ 2 ^ 65)

pub scan_start : (net : Network) (ways : Ways) (outgoing : Outgoing) (s : ℕ) (prefix excluded : List ℕ) (v : ℕ) → AreOutgoing net outgoing → v < node_count net →
    IsScanned net ways s prefix excluded v (slice_index outgoing.firsts v) None
scan_start net ways outgoing s prefix excluded v are inside =
    let next = are.first v inside in
    record {
      inside = next.high;
      leaves = next.leaves;
      first = λ k below. sum_elsewhere net ways s prefix excluded v k (next.none k (omega arith) below);
      small = tt;
    }

pub scan_step : (net : Network) (ways : Ways) (outgoing : Outgoing) (s : ℕ) (prefix excluded : List ℕ) (v h : ℕ) (best new : Option (ℕ × ℕ)) → AreOutgoing net outgoing →
    IsScanned net ways s prefix excluded v h best → h < link_count net → IsFirstLeast (sum_over net ways s prefix excluded v) (h + 1) new → IfSome new (λ r. r.1 ≤ 2 ^ 65) →
    IsScanned net ways s prefix excluded v (slice_index outgoing.nexts h) new
scan_step net ways outgoing s prefix excluded v h best new are so below first small =
    let next = subst (λ u. IsNextLink net u (h + 1) (slice_index outgoing.nexts h)) (so.leaves below) (are.next h (omega arith) below) in
    record {
      inside = next.high;
      leaves = next.leaves;
      first = so_far_jump (sum_over net ways s prefix excluded v) (h + 1) (slice_index outgoing.nexts h) new first next.low
          (λ k le lt. sum_elsewhere net ways s prefix excluded v k (next.none k le lt));
      small = small;
    }

pub scan_end : (net : Network) (ways : Ways) (s : ℕ) (prefix excluded : List ℕ) (v h : ℕ) (best : Option (ℕ × ℕ)) → IsScanned net ways s prefix excluded v h best →
    link_count net ≤ h → IsFirstLeast (sum_over net ways s prefix excluded v) (link_count net) best
scan_end net ways s prefix excluded v h best so past =
    let e : h ≡ link_count net = omega (arith, so.inside, past) in
    subst (λ n. IsFirstLeast (sum_over net ways s prefix excluded v) n best) e so.first
