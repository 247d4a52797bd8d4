-- The equal split between two nodes exists: the parts of the links are shared out again and again, until they change no more.
use Rattle.std.proofs.Common.{◌≡◌, inl, inr, ℕ, zero, suc, ◌+◌, ◌<◌, Bool, true, false, List, Option, Some, None, arith, refl, ap, sym, ◌∙◌, ◌==◌}
use Rattle.std.specs.Prelude.{if◌then◌else◌}
use Rattle.std.proofs.lemmas.Bool.{cases_Bool, eqb-true}
use Rattle.te_model.specs.declared.network.Network.{Network}
use Rattle.te_model.specs.declared.units.TheConstants.{SHARE_UNIT}
use Rattle.te_model.specs.Network.{is_well_formed, node_count, link_count, tail_of, head_of}
use Rattle.te_model.specs.Flow.{amount_at}
use Rattle.te_model.proofs.Counts.{count_below-bound}
use Rattle.te_model.proofs.SoundLinks.{costs_small}
use Rattle.te_model.proofs.Sums.{sum_below-same}
use Rattle.te_model.proofs.WellFormed.{few_links, links_join}
use Rattle.routing.proofs.Decomposing.{decomposition_splits}
use Rattle.routing.proofs.DecompositionsMade.{decomposition_exists}
use Rattle.shortest_path.specs.Graph.{distance_at}
use Rattle.shortest_path.specs.Paths.{HasPath}
use Rattle.ecmp_split.specs.Equal.{AreCostsTo, IsEqualSplit, is_next, next_part, arrivals_at}
use Rattle.ecmp_split.specs.Laws.{MultipathSplitsExist}
use Rattle.ecmp_split.proofs.Balance.{acyclic, is_farther, rank, rank_rises}
use Rattle.ecmp_split.proofs.CostsMade.{costs_exist}
use Rattle.ecmp_split.proofs.CostsTo.{no_cost_no_path}
use Rattle.ecmp_split.proofs.NodeSums.{next_part-kept, next_part-none}

-- what the links have when their parts have been shared out so often
abbrev shared_out : Network → List (Option ℕ) → ℕ → ℕ → ℕ → ℕ
shared_out net sums s zero = λ h. 0
shared_out net sums s (suc k) = next_part net sums (shared_out net sums s k) s

-- what arrives hangs on the links into the node
arriving-same : (net : Network) (f g : ℕ → ℕ) (s v : ℕ) → ((h : ℕ) → h < link_count net → head_of net h ≡ v → f h ≡ g h) →
    arrivals_at net f s v ≡ arrivals_at net g s v
arriving-same net f g s v same =
    ap (λ x. x + amount_at s SHARE_UNIT v)
    (sum_below-same (link_count net) (λ h. if head_of net h == v then f h else 0) (λ h. if head_of net h == v then g h else 0)
    (λ h inside. go h inside (head_of net h == v) refl))
  where
    go : (h : ℕ) → h < link_count net → (b : Bool) → (head_of net h == v) ≡ b → (if b then f h else 0) ≡ (if b then g h else 0)
    go h inside false e = refl
    go h inside true e = same h inside (eqb-true (head_of net h) v e)

part_stays : (net : Network) (sums : List (Option ℕ)) (s k h : ℕ) →
    (is_next net sums h ≡ true → arrivals_at net (shared_out net sums s (suc k)) s (tail_of net h) ≡ arrivals_at net (shared_out net sums s k) s (tail_of net h)) →
    shared_out net sums s (suc (suc k)) h ≡ shared_out net sums s (suc k) h
part_stays net sums s k h same = elim (cases_Bool (is_next net sums h)) [
  | inl next ↦ next_part-kept net sums (shared_out net sums s k) (shared_out net sums s (suc k)) s h (same next)
  | inr misses ↦
      next_part-none net sums (shared_out net sums s (suc k)) s h misses ∙ sym (next_part-none net sums (shared_out net sums s k) s h misses)
]

-- what arrives at a node changes no more, by its rank
arriving_stays : (net : Network) (sums : List (Option ℕ)) (s : ℕ) → is_well_formed net ≡ true → (k v : ℕ) → rank net sums v < suc k →
    arrivals_at net (shared_out net sums s (suc k)) s v ≡ arrivals_at net (shared_out net sums s k) s v
arriving_stays net sums s formed zero v low =
    arriving-same net (shared_out net sums s 1) (shared_out net sums s 0) s v (λ h inside to. go h inside to)
  where
    go : (h : ℕ) → h < link_count net → head_of net h ≡ v → shared_out net sums s 1 h ≡ 0
    go h inside to = elim (cases_Bool (is_next net sums h)) [
      | inl next ↦
          let rises = rank_rises net sums h (links_join net formed h inside).0 (costs_small net formed h inside).0 next in
          absurd (omega (arith, rises, ap (rank net sums) to, low))
      | inr misses ↦ next_part-none net sums (shared_out net sums s 0) s h misses
    ]
arriving_stays net sums s formed (suc k) v low =
    arriving-same net (shared_out net sums s (suc (suc k))) (shared_out net sums s (suc k)) s v
    (λ h inside to. part_stays net sums s k h
    (λ next.
    let rises = rank_rises net sums h (links_join net formed h inside).0 (costs_small net formed h inside).0 next in
    arriving_stays net sums s formed k (tail_of net h) (omega (arith, rises, ap (rank net sums) to, low))))

-- the flow in which each link has its part
pub equal_split_of : (net : Network) (s t : ℕ) (sums : List (Option ℕ)) → is_well_formed net ≡ true → AreCostsTo net t sums →
    (flow : ℕ → ℕ) × ((h : ℕ) → h < link_count net → flow h ≡ next_part net sums flow s h)
equal_split_of net s t sums formed costs =
    let n = node_count net in (
      shared_out net sums s (suc n),
      λ h inside. sym (part_stays net sums s n h (λ _. arriving_stays net sums s formed n (tail_of net h)
          (let most = count_below-bound n (is_farther sums (tail_of net h)) in omega (arith, most)))),
    )

known_cost : (net : Network) (s t : ℕ) (sums : List (Option ℕ)) → AreCostsTo net t sums → s < node_count net → HasPath net s t →
    (x : ℕ) × (distance_at sums s ≡ Some x)
known_cost net s t sums costs s_in has = go (distance_at sums s) refl
  where
    go : (o : Option ℕ) → distance_at sums s ≡ o → (x : ℕ) × (distance_at sums s ≡ Some x)
    go None at = absurd (no_cost_no_path net s t sums costs s_in at has)
    go (Some x) at = (x, at)

pub multipath_splits_exist : MultipathSplitsExist
multipath_splits_exist net formed pair among has =
    let s = pair.src in
    let t = pair.dst in
    let (sums, costs) = costs_exist net formed t among.dst_inside in
    let (flow, parts) = equal_split_of net s t sums formed costs in
    let is = acyclic net sums flow s t (record {
      ends = links_join net formed;
      long = λ h inside. (costs_small net formed h inside).0;
      costs = costs;
      parts = parts;
      s_in = among.src_inside;
      t_in = among.dst_inside;
      apart = among.apart;
      known = known_cost net s t sums costs among.src_inside has;
    })
    in
    let (paths, made, few) = decomposition_exists net formed flow s t among.src_inside among.dst_inside among.apart is in
    let equal : IsEqualSplit net s t flow = record { sums = sums; costs = costs; parts = parts } in (
      paths,
      record {
        split = decomposition_splits net pair flow paths among.src_inside among.apart is made;
        few = omega (arith, few, few_links net formed);
        by_rule = (flow, equal, made);
      },
    )
