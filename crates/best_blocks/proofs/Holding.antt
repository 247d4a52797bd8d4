-- The inequalities hold of a best block whose need is paid for.
use Rattle.std.proofs.Common.{◌≡◌, ℕ, ◌+◌, ◌-◌, ◌*◌, ◌<◌, ◌≤◌, ◌⊎◌, Bool, true, false, ◌||◌, cond, List, [], ◌∷◌, Some, length, arith, refl, ap, sym, subst, ◌∙◌, inl, inr, ◌==◌, nat_le, slice_index}
use Rattle.std.specs.Prelude.{All, IsTrue, find, unwrap_or}
use Rattle.std.specs.List.{list_any}
use Rattle.std.proofs.lemmas.Bool.{cases_lt, eqb-true, le-leb, leb-true, lt-ltb}
use Rattle.std.proofs.lemmas.List.Elements.{All-head, All-tail, All-get_or}
use Rattle.te_model.specs.declared.network.Network.{Network}
use Rattle.te_model.specs.declared.route.PairRoutes.{PairRoutes}
use Rattle.te_model.specs.declared.certificate.Row.{Row}
use Rattle.te_model.specs.declared.certificate.Block.{Block}
use Rattle.te_model.specs.declared.certificate.Head.{Head}
use Rattle.te_model.specs.declared.demand.DemandSet.{DemandSet}
use Rattle.te_model.specs.declared.demand.DemandSet.TheVariants.{All as AllMatrices, Margin, Box}
use Rattle.te_model.specs.declared.units.TheConstants.{SHARE_UNIT}
use Rattle.te_model.specs.Network.{link_count, tail_of, head_of}
use Rattle.te_model.specs.Path.{share, source_of, destination_of, routes_at, no_routes}
use Rattle.te_model.specs.PathRouting.{IsPathSplit}
use Rattle.te_model.specs.Certificate.{row_of, empty_row, potential, plus_of, minus_of}
use Rattle.te_model.specs.Inequalities.{covers_share, keeps_bounds, pays_weights, weigh, BlockHolds}
use Rattle.te_model.proofs.Sums.{sum_below-same}
use Rattle.shortest_path.specs.Paths.{ArePotentials}
use Rattle.te_model.proofs.Quotients.{quotient_up-enough}
use Rattle.best_blocks.specs.Best.{weighed_share, plus_amount, minus_amount, needs_row, AreBalanced, IsBestBlock, IsScaleBetween}
use Rattle.best_blocks.specs.Conditions.{IsRoutingWithin}
use Rattle.shortest_path.proofs.PairDistances.{distance_known, path_of_pair}
use Rattle.shortest_path.proofs.Unique.{distance_unique}

-- a source has a row with its potentials, or none, which is read as zeros
row_or_none : (net : Network) (weights : List ℕ) (i : ℕ) (rows : List Row) → All (λ r. ArePotentials net weights r.source r.potential) rows →
    ArePotentials net weights i (row_of rows i).potential ⊎ ((row_of rows i).potential ≡ [])
row_or_none net weights i [] all = inr refl
row_or_none net weights i (r ∷ rs) all =
    go (r.source == i) refl (row_or_none net weights i rs (All-tail (λ r. ArePotentials net weights r.source r.potential) r rs all))
  where
    go : (b : Bool) → (r.source == i) ≡ b → ArePotentials net weights i (row_of rs i).potential ⊎ ((row_of rs i).potential ≡ []) →
        ArePotentials net weights i (unwrap_or (cond b (Some r) (find (λ r. r.source == i) rs)) (empty_row i)).potential
        ⊎ ((unwrap_or (cond b (Some r) (find (λ r. r.source == i) rs)) (empty_row i)).potential ≡ [])
    go true is rest = inl (subst (λ j. ArePotentials net weights j r.potential) (eqb-true r.source i is)
        (All-head (λ r. ArePotentials net weights r.source r.potential) r rs all))
    go false is rest = rest

-- a source that is among the rows has a row with its potentials
row_there : (net : Network) (weights : List ℕ) (i : ℕ) (rows : List Row) → All (λ r. ArePotentials net weights r.source r.potential) rows →
    list_any (λ r. r.source == i) rows ≡ true → ArePotentials net weights i (row_of rows i).potential
row_there net weights i [] all any = cc
row_there net weights i (r ∷ rs) all any =
    go (r.source == i) refl any (row_there net weights i rs (All-tail (λ r. ArePotentials net weights r.source r.potential) r rs all))
  where
    go : (b : Bool) → (r.source == i) ≡ b → (b || list_any (λ r. r.source == i) rs) ≡ true →
        (list_any (λ r. r.source == i) rs ≡ true → ArePotentials net weights i (row_of rs i).potential) →
        ArePotentials net weights i (unwrap_or (cond b (Some r) (find (λ r. r.source == i) rs)) (empty_row i)).potential
    go true is any rest = subst (λ j. ArePotentials net weights j r.potential) (eqb-true r.source i is)
        (All-head (λ r. ArePotentials net weights r.source r.potential) r rs all)
    go false is any rest = rest any

starts_of : (net : Network) (weights : List ℕ) (i : ℕ) (potentials : List ℕ) → ArePotentials net weights i potentials ⊎ (potentials ≡ []) → slice_index potentials i ≡ 0
starts_of net weights i potentials (inl are) = are.start
starts_of net weights i potentials (inr none) = ap (λ (xs : List ℕ). slice_index xs i) none

rises_of : (net : Network) (weights : List ℕ) (i h : ℕ) (potentials : List ℕ) → ArePotentials net weights i potentials ⊎ (potentials ≡ []) → h < link_count net →
    slice_index potentials (head_of net h) ≤ slice_index potentials (tail_of net h) + slice_index weights h
rises_of net weights i h potentials (inl are) below = are.rises h below
rises_of net weights i h potentials (inr none) below =
    let zero : slice_index potentials (head_of net h) ≡ 0 = ap (λ (xs : List ℕ). slice_index xs (head_of net h)) none in
    omega (arith, zero)

-- the potential of a pair that needs a row is its distance
potential_is : (net : Network) (routes : List PairRoutes) (wanted : DemandSet) (e : ℕ) (weights : List ℕ) (block : Block) → IsRoutingWithin net routes →
    (best : IsBestBlock net routes wanted e weights block) → (p : ℕ) → p < length routes → needs_row wanted (best.shares p) ≡ true →
    potential block (source_of routes p) (destination_of routes p) ≡ best.distance p
potential_is net routes wanted e weights block routing best p below needs =
    let s = source_of routes p in
    let t = destination_of routes p in
    let there = row_there net weights s block.rows best.rows_are.potentials (best.rows_are.complete s (p, below, refl, needs)) in
    let (links, chain) = path_of_pair net (routes_at routes p) (All-get_or (IsPathSplit net) routes p no_routes below routing.splits) in
    distance_unique net weights s t (potential block s t) (best.distance p)
    (distance_known net weights s t (row_of block.rows s).potential links there (routing.nodes p below).1 chain)
    (best.distances_are p below needs)

covered_for_all : (s b a d q m r : ℕ) → m ≡ 0 → r ≡ 0 → q ≡ d → s * b ≤ a * d → s * b + a * m ≤ a * (q + r)
covered_for_all s b a d q m r none_m none_r is less =
    let left : s * b + a * m ≡ s * b = rw none_m (omega arith) in
    let right : a * (q + r) ≡ a * d = rw (none_r, is) (omega arith) in
    omega (arith, left, right, less)

covered_for_none : (s b a q m r : ℕ) → m ≡ 0 → s ≡ 0 → s * b + a * m ≤ a * (q + r)
covered_for_none s b a q m r none_m none_s = let left : s * b + a * m ≡ 0 = rw (none_m, none_s) (omega arith) in omega (arith, left)

covered_between : (s b a d q m r x : ℕ) → a ≡ 1000000 → q ≡ d → r ≡ x - d → m ≡ d - x → b * s ≤ x * 1000000 → s * b + a * m ≤ a * (q + r)
covered_between s b a d q m r x unit is more less enough =
    let left : s * b + a * m ≡ s * b + 1000000 * (d - x) = rw (unit, less) refl in
    let right : a * (q + r) ≡ 1000000 * (d + (x - d)) = rw (unit, is, more) refl in
    omega (arith, left, right, enough)

covers_between : (net : Network) (routes : List PairRoutes) (wanted : DemandSet) (e : ℕ) (weights : List ℕ) (block : Block) → IsRoutingWithin net routes →
    (best : IsBestBlock net routes wanted e weights block) → (p : ℕ) → p < length routes → needs_row wanted (best.shares p) ≡ true →
    block.a ≡ SHARE_UNIT → AreBalanced (length routes) best.shares best.distance block.b block.plus block.minus → IsTrue (covers_share routes block p)
covers_between net routes wanted e weights block routing best p below needs unit balance =
    let same : best.shares p ≡ share routes p block.link = best.shares_are p below ∙ ap (share routes p) (sym best.link_is) in
    let is = potential_is net routes wanted e weights block routing best p below needs in
    let x = weighed_share block.b (best.shares p) in
    let enough : block.b * share routes p block.link ≤ x * 1000000 =
    subst (λ s. block.b * s ≤ x * 1000000) same (quotient_up-enough (block.b * best.shares p) SHARE_UNIT (omega arith))
    in
    le-leb _ _ (covered_between (share routes p block.link) block.b block.a (best.distance p)
    (potential block (source_of routes p) (destination_of routes p)) (minus_of block p) (plus_of block p) x unit is
    (balance.added_is.each p below) (balance.taken_is.each p below) enough)

covers : (net : Network) (routes : List PairRoutes) (wanted : DemandSet) (e : ℕ) (weights : List ℕ) (block : Block) → IsRoutingWithin net routes →
    IsBestBlock net routes wanted e weights block → (p : ℕ) → p < length routes → IsTrue (covers_share routes block p)
covers net routes AllMatrices e weights block routing best p below =
    let same : best.shares p ≡ share routes p block.link = best.shares_are p below ∙ ap (share routes p) (sym best.link_is) in
    let none_minus : minus_of block p ≡ 0 = ap (λ (xs : List ℕ). slice_index xs p) best.balance.1 in
    let none_plus : plus_of block p ≡ 0 = ap (λ (xs : List ℕ). slice_index xs p) best.balance.0 in
    le-leb _ _ (elim (cases_lt 0 (best.shares p)) [
      | inl some ↦
          let is = potential_is net routes AllMatrices e weights block routing best p below (lt-ltb 0 (best.shares p) some) in
          let greatest : share routes p block.link * block.b ≤ block.a * best.distance p =
          subst (λ x. x * block.b ≤ block.a * best.distance p) same (best.scale.quotient.greatest p below)
          in
          covered_for_all (share routes p block.link) block.b block.a (best.distance p)
          (potential block (source_of routes p) (destination_of routes p)) (minus_of block p) (plus_of block p) none_minus none_plus is greatest
      | inr none ↦
          covered_for_none (share routes p block.link) block.b block.a (potential block (source_of routes p) (destination_of routes p))
          (minus_of block p) (plus_of block p) none_minus (omega (arith, none, same))
    ])
covers net routes (Margin num den base) e weights block routing best p below =
    covers_between net routes (Margin num den base) e weights block routing best p below refl best.scale.unit best.balance
covers net routes (Box lower upper) e weights block routing best p below =
    covers_between net routes (Box lower upper) e weights block routing best p below refl best.scale.unit best.balance

keeps_between : (lower upper : ℕ → ℕ) (n : ℕ) (shares distance : ℕ → ℕ) (block : Block) → IsScaleBetween lower upper n shares distance block.a block.b →
    AreBalanced n shares distance block.b block.plus block.minus → nat_le (weigh n upper (plus_of block)) (weigh n lower (minus_of block)) ≡ true
keeps_between lower upper n shares distance block scale balance =
    let gain =
    sum_below-same n (λ p. upper p * plus_of block p) (λ p. upper p * plus_amount shares distance block.b p)
    (λ p below. ap (λ x. upper p * x) (balance.added_is.each p below))
    in
    let loss =
    sum_below-same n (λ p. lower p * minus_of block p) (λ p. lower p * minus_amount shares distance block.b p)
    (λ p below. ap (λ x. lower p * x) (balance.taken_is.each p below))
    in
    let between = leb-true _ _ scale.balance.balanced in
    le-leb _ _ (omega (arith, gain, loss, between))

keeps : (net : Network) (routes : List PairRoutes) (wanted : DemandSet) (e : ℕ) (weights : List ℕ) (block : Block) →
    IsBestBlock net routes wanted e weights block → IsTrue (keeps_bounds wanted (length routes) block)
keeps net routes AllMatrices e weights block best = refl
keeps net routes (Margin num den base) e weights block best = keeps_between _ _ (length routes) best.shares best.distance block best.scale best.balance
keeps net routes (Box lower upper) e weights block best = keeps_between _ _ (length routes) best.shares best.distance block best.scale best.balance

pub best_holds : (head : Head) (e : ℕ) (weights : List ℕ) (block : Block) → IsRoutingWithin head.network head.routes →
    IsBestBlock head.network head.routes head.set e weights block → IsTrue (pays_weights head.network block head.ratio) → BlockHolds head block
best_holds head e weights block routing best pays =
    let net = head.network in
    let row : (i : ℕ) → ArePotentials net weights i (row_of block.rows i).potential ⊎ ((row_of block.rows i).potential ≡ []) =
    λ i. row_or_none net weights i block.rows best.rows_are.potentials
    in
    record {
      starts = λ i below. starts_of net weights i (row_of block.rows i).potential (row i);
      rises = λ i h below in'.
          subst (λ (ws : List ℕ). potential block i (head_of net h) ≤ potential block i (tail_of net h) + slice_index ws h) (sym best.weights_are)
          (rises_of net weights i h (row_of block.rows i).potential (row i) in');
      covers = covers net head.routes head.set e weights block routing best;
      bounds = keeps net head.routes head.set e weights block best;
      pays = pays;
    }
