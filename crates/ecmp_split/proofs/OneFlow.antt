-- The equal split between two nodes is one flow.
use Rattle.std.proofs.Common.{◌≡◌, inl, inr, ℕ, zero, suc, ◌+◌, ◌<◌, Bool, true, false, List, Option, None, length, get_or, arith, refl, ap, sym, ◌∙◌, subst, ◌==◌}
use Rattle.std.specs.Prelude.{if◌then◌else◌}
use Rattle.std.proofs.lemmas.Bool.{cases_Bool, eqb-true}
use Rattle.std.proofs.lemmas.List.{get_or_default, same_lists}
use Rattle.te_model.specs.declared.network.Network.{Network}
use Rattle.te_model.specs.declared.units.TheConstants.{SHARE_UNIT}
use Rattle.te_model.specs.Network.{is_well_formed, node_count, link_count, tail_of, head_of}
use Rattle.te_model.specs.Flow.{amount_at}
use Rattle.te_model.proofs.SoundLinks.{costs_small}
use Rattle.te_model.proofs.Sums.{sum_below-same}
use Rattle.te_model.proofs.WellFormed.{links_join}
use Rattle.shortest_path.specs.Costs.{costs_of}
use Rattle.shortest_path.specs.Graph.{distance_at}
use Rattle.shortest_path.proofs.Unique.{distance_only}
use Rattle.ecmp_split.specs.Equal.{AreCostsTo, is_next, next_part, arrivals_at}
use Rattle.ecmp_split.specs.Laws.{EqualSplitsAreOne}
use Rattle.ecmp_split.proofs.Balance.{rank, rank_rises}
use Rattle.ecmp_split.proofs.NodeSums.{next_part-kept, next_part-none}

one_costs : (net : Network) (t : ℕ) (sums other : List (Option ℕ)) → AreCostsTo net t sums → AreCostsTo net t other → sums ≡ other
one_costs net t sums other are also = same_lists sums other (are.count ∙ sym also.count) each
  where
    each : (v : ℕ) (d : Option ℕ) → v < length sums → get_or sums v d ≡ get_or other v d
    each v d below =
        let inside : v < node_count net = omega (arith, are.count, below) in
        get_or_default sums v d None below
        ∙ (distance_only net (costs_of net) v t (distance_at sums v) (distance_at other v) (are.each v inside) (also.each v inside)
        ∙ get_or_default other v None d (omega (arith, also.count, inside)))

-- links of which what arrives at the tail is the same have the same flow
same_part : (net : Network) (sums : List (Option ℕ)) (f g : ℕ → ℕ) (s h : ℕ) → f h ≡ next_part net sums f s h → g h ≡ next_part net sums g s h →
    (is_next net sums h ≡ true → arrivals_at net f s (tail_of net h) ≡ arrivals_at net g s (tail_of net h)) → f h ≡ g h
same_part net sums f g s h part_f part_g same = elim (cases_Bool (is_next net sums h)) [
  | inl next ↦ part_f ∙ (next_part-kept net sums g f s h (same next) ∙ sym part_g)
  | inr misses ↦ part_f ∙ (next_part-none net sums f s h misses ∙ sym (part_g ∙ next_part-none net sums g s h misses))
]

-- by the ranks of nodes, what arrives is the same
arrives : (net : Network) (sums : List (Option ℕ)) (f g : ℕ → ℕ) (s : ℕ) → is_well_formed net ≡ true →
    ((h : ℕ) → h < link_count net → f h ≡ next_part net sums f s h) → ((h : ℕ) → h < link_count net → g h ≡ next_part net sums g s h) →
    (k v : ℕ) → rank net sums v < k → arrivals_at net f s v ≡ arrivals_at net g s v
arrives net sums f g s formed parts_f parts_g zero v below = absurd (omega arith)
arrives net sums f g s formed parts_f parts_g (suc k) v below =
    ap (λ x. x + amount_at s SHARE_UNIT v)
    (sum_below-same (link_count net) (λ h. if head_of net h == v then f h else 0) (λ h. if head_of net h == v then g h else 0)
    (λ h inside. go (λ w less. arrives net sums f g s formed parts_f parts_g k w less) h inside (head_of net h == v) refl))
  where
    go : ((w : ℕ) → rank net sums w < k → arrivals_at net f s w ≡ arrivals_at net g s w) → (h : ℕ) → h < link_count net → (b : Bool) → (head_of net h == v) ≡ b →
        (if b then f h else 0) ≡ (if b then g h else 0)
    go earlier h inside false e = refl
    go earlier h inside true e =
        same_part net sums f g s h (parts_f h inside) (parts_g h inside)
        (λ next.
        let rises = rank_rises net sums h (links_join net formed h inside).0 (costs_small net formed h inside).0 next in
        let same = ap (rank net sums) (eqb-true (head_of net h) v e) in
        earlier (tail_of net h) (omega (arith, rises, same, below)))

pub equal_splits_one : EqualSplitsAreOne
equal_splits_one net formed s t f g split_f split_g h inside =
    let parts_g = λ (k : ℕ) (below : k < link_count net).
    subst (λ l. g k ≡ next_part net l g s k) (one_costs net t split_g.sums split_f.sums split_g.costs split_f.costs) (split_g.parts k below)
    in
    same_part net split_f.sums f g s h (split_f.parts h inside) (parts_g h inside)
    (λ next. arrives net split_f.sums f g s formed split_f.parts parts_g (suc (rank net split_f.sums (tail_of net h))) (tail_of net h) (omega arith))
