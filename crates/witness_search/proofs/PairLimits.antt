-- What no rival of a pair alone can pass.
use Rattle.std.proofs.Common.{◌≡◌, inl, inr, ℕ, zero, suc, ◌*◌, ◌<◌, ◌≤◌, Bool, true, List, [], ◌∷◌, length, arith, ap, sym, subst, ◌==◌}
use Rattle.std.specs.Prelude.{◌⊎◌, if◌then◌else◌}
use Rattle.std.proofs.lemmas.Bool.{cases_eq, eq-eqb, eqb-true}
use Rattle.std.proofs.Math.Nat.{mul-le-mul_left}
use Rattle.te_model.specs.declared.network.Network.{Network}
use Rattle.te_model.specs.declared.route.PathShare.{PathShare}
use Rattle.te_model.specs.declared.route.PairRoutes.{PairRoutes}
use Rattle.te_model.specs.declared.units.TheConstants.{RATIO_UNIT, SHARE_UNIT}
use Rattle.te_model.specs.Flow.{load}
use Rattle.te_model.specs.Laws.{LinksJoinNodes, PairsJoinNodes}
use Rattle.te_model.specs.LowerBound.{IsLowerBound}
use Rattle.te_model.specs.Network.{link_count, capacity_of, tail_of, head_of}
use Rattle.te_model.specs.Path.{chains, share, source_of, destination_of}
use Rattle.te_model.proofs.Chains.{first_link}
use Rattle.te_model.proofs.Sums.{sum_below-term, sum_below-zero}
use Rattle.te_model.proofs.Conditionals.{if_true}
use Rattle.ratio_witness.specs.Witness.{capacity_from, capacity_into, performance_ratio, IsRivalOf}
use Rattle.ratio_witness.proofs.Ends.{ends_bound}
use Rattle.ratio_witness.proofs.Lower.{limit_rivals}

-- ---- the ends of a path

-- some link of a walk leads to its end
last_head : (net : Network) (hs : List ℕ) (s t h : ℕ) → chains net s t (h ∷ hs) ≡ true → (k : ℕ) × (k < link_count net) × (head_of net k ≡ t)
last_head net [] s t h chain =
    let first = first_link net s t h [] chain in
    (h, first.inside, eqb-true (head_of net h) t first.rest)
last_head net (k ∷ ks) s t h chain = last_head net ks (head_of net h) t k (first_link net s t h (k ∷ ks) chain).rest

-- a walk leaves its start by a link, and enters its end by one
pub some_from : (net : Network) (s t h : ℕ) (hs : List ℕ) → ((k : ℕ) → k < link_count net → 1 ≤ capacity_of net k) → chains net s t (h ∷ hs) ≡ true →
    1 ≤ capacity_from net s
some_from net s t h hs some chain =
    let first = first_link net s t h hs chain in
    let term = sum_below-term (link_count net) h (λ k. if tail_of net k == s then capacity_of net k else 0) first.inside in
    let here = if_true (tail_of net h == s) (capacity_of net h) (eq-eqb (tail_of net h) s first.from) in
    omega (arith, term, here, some h first.inside)

pub some_into : (net : Network) (s t h : ℕ) (hs : List ℕ) → ((k : ℕ) → k < link_count net → 1 ≤ capacity_of net k) → chains net s t (h ∷ hs) ≡ true →
    1 ≤ capacity_into net t
some_into net s t h hs some chain =
    let last = last_head net hs s t h chain in
    let term = sum_below-term (link_count net) last.0 (λ k. if head_of net k == t then capacity_of net k else 0) last.1 in
    let here = if_true (head_of net last.0 == t) (capacity_of net last.0) (eq-eqb (head_of net last.0) t last.2) in
    omega (arith, term, here, some last.0 last.1)

-- ---- the load of a pair alone

pub load_alone : (n p e : ℕ) (demand : ℕ → ℕ) (flows : ℕ → ℕ → ℕ) → p < n → ((q : ℕ) → q < n → (q ≡ p → ⊥) → demand q ≡ 0) → load n demand flows e ≡ demand p * flows p e
load_alone zero p e demand flows below others = absurd (omega arith)
load_alone (suc n) p e demand flows below others =
    elim (cases_eq n p) [
      | inl same ↦
          let none : load n demand flows e ≡ 0 = sum_below-zero n (λ q. demand q * flows q e) (λ q lt.
          let no : demand q ≡ 0 = others q (omega arith) (λ is. omega arith) in
          rw no (omega arith))
          in
          let here = ap (λ k. demand k * flows k e) same in
          omega (arith, none, here)
      | inr apart ↦
          let no : demand n ≡ 0 = others n (omega arith) apart in
          let last : demand n * flows n e ≡ 0 = rw no (omega arith) in
          omega (arith, last, load_alone n p e demand flows (omega arith) (λ q lt other. others q (omega arith) other))
    ]

-- by the demand d of the pair and its share s on a link of capacity c
scaled : (room limit d s c : ℕ) → 1000000 * (room * s) ≤ limit * (1000000 * c) → 1000000 * (room * (d * s)) ≤ limit * (d * (1000000 * c))
scaled room limit d s c fits =
    let more = mul-le-mul_left {m = 1000000 * (room * s)} {n = limit * (1000000 * c)} d fits in
    omega (arith, more)

-- no rival of the pair alone passes the limit, which is stated by what the links at one of its ends carry
pub limit_holds : (net : Network) (routes : List PairRoutes) (p room limit : ℕ) → LinksJoinNodes net → PairsJoinNodes net routes → p < length routes →
    (source_of routes p ≡ destination_of routes p → ⊥) → 1 ≤ room →
    (room ≡ capacity_from net (source_of routes p)) ⊎ (room ≡ capacity_into net (destination_of routes p)) →
    ((h : ℕ) → h < link_count net → 1 ≤ capacity_of net h) →
    ((e : ℕ) → e < link_count net → RATIO_UNIT * (room * share routes p e) ≤ limit * (SHARE_UNIT * capacity_of net e)) →
    (demand : ℕ → ℕ) (rival : List (List PathShare)) → ((q : ℕ) → q < length routes → (q ≡ p → ⊥) → demand q ≡ 0) →
    IsRivalOf net routes demand rival → performance_ratio net routes demand rival ≤ limit
limit_holds net routes p room limit links pairs below apart some_room at_end some fits demand rival others is =
    let n = length routes in
    let bounds = ends_bound net routes links pairs demand p below apart in
    let bound : IsLowerBound net routes demand (demand p) room = elim at_end [
      | inl from ↦ subst (IsLowerBound net routes demand (demand p)) (sym from) bounds.0
      | inr into ↦ subst (IsLowerBound net routes demand (demand p)) (sym into) bounds.1
    ]
    in
    limit_rivals net routes demand rival (demand p) room limit some_room bound is some (λ e inside.
    let on = load_alone n p e demand (share routes) below others in
    let more = scaled room limit (demand p) (share routes p e) (capacity_of net e) (fits e inside) in
    let whole = ap (λ k. 1000000 * (room * k)) on in
    omega (arith, whole, more))
