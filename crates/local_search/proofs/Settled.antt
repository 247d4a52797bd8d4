-- Moves that help, one after another.
use Rattle.std.proofs.Common.{inl, inr, ◌≡◌, ℕ, ◌-◌, ◌*◌, ◌^◌, ◌<◌, ◌≤◌, true, List, length, map, slice_index, arith, refl, ap, sym, ◌∙◌, subst, All, min}
use Rattle.std.specs.Prelude.{IfNone, Option, None, Some}
use Rattle.std.proofs.lemmas.Bool.{cases_lt}
use Rattle.std.proofs.lemmas.Nat.{mul-le}
use Rattle.std.proofs.lemmas.List.Elements.{All-get_or, All-from_get_or}
use Rattle.te_model.specs.declared.network.Network.{Network}
use Rattle.te_model.specs.declared.route.PairRoutes.{PairRoutes}
use Rattle.te_model.specs.Network.{capacity_of, is_well_formed, link_count}
use Rattle.te_model.specs.Path.{no_routes, routes_at}
use Rattle.te_model.specs.PathRouting.{IsPathRouting, IsPathSplit}
use Rattle.routing.specs.Merge.{links_at, path_at}
use Rattle.routing.specs.Routes.{AreLoads, HasFewPaths, load_on}
use Rattle.routing.specs.Utilisation.{parts}
use Rattle.local_search.specs.Loads.{IsPeakBelow, load_after}
use Rattle.local_search.specs.Moves.{CanMove, HaveFewTogether, ImprovesBy1024th, IsMoved, IsStable, UsesOnly}
use Rattle.local_search.specs.Search.{FitsAt, loads_moved}
use Rattle.local_search.specs.Settling.{SettledSoFar}
use Rattle.routing.proofs.FewPaths.{few_among}
use Rattle.local_search.proofs.MovedLoads.{moved_load}
use Rattle.routing.proofs.InOrder.{same_count}
use Rattle.local_search.proofs.MovedRoutings.{moved_only, moved_routing}
use Rattle.local_search.proofs.Searching.{fits_other}
use Rattle.te_model.proofs.WellFormed.{capacities_positive}
use Rattle.local_search.proofs.Within.{parts_from_peak, parts_from_within, within_from_parts}

-- the loads after a move, by those before
pub loads_of_move : (net : Network) (demand : List ℕ) (routes moved : List PairRoutes) (loads : List ℕ) (p k : ℕ) (to : List ℕ) (size : ℕ) →
    AreLoads net demand routes loads → p < length routes → IsMoved routes p k to size moved → (e : ℕ) → e < link_count net →
    load_on moved demand e ≡ loads_moved loads (slice_index demand p) (path_at (routes_at routes p).paths k) to size e
loads_of_move net demand routes moved loads p k to size are below is e inside =
    moved_load routes moved demand p k to size e below is
    ∙ ap (λ x. load_after x (links_at (routes_at routes p).paths k) to (slice_index demand p * min size (path_at (routes_at routes p).paths k).weight) e)
    (sym (are.each e inside))

-- a move that fits lowers the parts
pub fits_lower : (net : Network) (demand : List ℕ) (routes candidates moved : List PairRoutes) (loads : List ℕ) (times p k j size : ℕ) →
    is_well_formed net ≡ true → AreLoads net demand routes loads → FitsAt net loads times demand routes candidates p k j size →
    IsMoved routes p k (links_at (routes_at candidates p).paths j) size moved → parts net moved demand ≤ times
fits_lower net demand routes candidates moved loads times p k j size formed are fit is =
    let to = links_at (routes_at candidates p).paths j in
    parts_from_within net moved demand times formed (λ e inside.
    subst (λ x. x ≤ times * capacity_of net e) (sym (loads_of_move net demand routes moved loads p k to size are fit.pair is e inside)) (fit.fits.within e inside))

-- a move that fits is one that can be made
pub fits_can : (net : Network) (demand : List ℕ) (routes candidates : List PairRoutes) (loads : List ℕ) (times p k j size link : ℕ) →
    FitsAt net loads times demand routes candidates p k j size → link < link_count net → times * capacity_of net link < slice_index loads link →
    CanMove routes candidates p k (links_at (routes_at candidates p).paths j) size
fits_can net demand routes candidates loads times p k j size link fit inside above = record {
  pair = fit.pair;
  path = fit.path;
  candidate = (j, fit.fits.candidate, refl);
  other = fits_other net loads times (slice_index demand p) (path_at (routes_at routes p).paths k) (routes_at candidates p).paths j size link fit.fits inside above;
  allowed = fit.fits.allowed;
}

-- where no move fits, the routing is stable
pub stable_from_none : (net : Network) (demand : List ℕ) (routes candidates : List PairRoutes) (loads : List ℕ) (x times : ℕ) →
    is_well_formed net ≡ true → AreLoads net demand routes loads → parts net routes demand ≡ x →
    ((y : ℕ) → ImprovesBy1024th x y → y ≤ times) →
    ((p k j size : ℕ) → FitsAt net loads times demand routes candidates p k j size → ⊥) → IsStable net demand candidates routes
stable_from_none net demand routes candidates loads x times formed are is_x improved none p k to size moved can is improves =
    let (j, inside, at) = can.candidate in
    let le = improved (parts net moved demand) (subst (λ n. ImprovesBy1024th n (parts net moved demand)) is_x improves) in
    let within = within_from_parts net moved demand times formed le in
    none p k j size (record {
      pair = can.pair;
      path = can.path;
      fits = record {
        candidate = inside;
        allowed = can.allowed;
        within = λ e below.
            subst (λ n. n ≤ times * capacity_of net e)
            (loads_of_move net demand routes moved loads p k to size are can.pair is e below
            ∙ ap (λ l. loads_moved loads (slice_index demand p) (path_at (routes_at routes p).paths k) l size e) (sym at))
            (within e below);
      };
    })

pub settled_more : (net : Network) (demand : List ℕ) (before candidates routes moved : List PairRoutes) (loads carried : List ℕ) (p k : ℕ) (to : List ℕ) (size : ℕ) →
    IsPathRouting net candidates → map (λ r. r.pair) candidates ≡ map (λ r. r.pair) before → SettledSoFar net demand before candidates routes loads →
    CanMove routes candidates p k to size → IsMoved routes p k to size moved → parts net moved demand < parts net routes demand →
    length carried ≡ length loads →
    ((e : ℕ) → e < length loads → slice_index carried e ≡ loads_moved loads (slice_index demand p) (path_at (routes_at routes p).paths k) to size e) →
    SettledSoFar net demand before candidates moved carried
settled_more net demand before candidates routes moved loads carried p k to size others pairs so can is less count each = record {
  routing = moved_routing net routes candidates moved p k to size so.routing others (pairs ∙ sym so.pairs) can is;
  pairs = is.pairs ∙ so.pairs;
  lower = omega (arith, so.lower, less);
  only = moved_only before routes candidates moved p k to size so.only can is;
  are_loads = record {
    count = count ∙ so.are_loads.count;
    each = λ e below.
        each e (omega (arith, below, so.are_loads.count))
        ∙ sym (loads_of_move net demand routes moved loads p k to size so.are_loads can.pair is e below);
  };
}

-- the same of routes that were lent, and of those that come back
pub settled_back : (net : Network) (demand : List ℕ) (before lent candidates others back routes : List PairRoutes) (loads : List ℕ) → lent ≡ before → others ≡ candidates →
    back ≡ routes → SettledSoFar net demand lent others routes loads → SettledSoFar net demand before candidates back loads
settled_back net demand before lent candidates others back routes loads start same whole so =
    subst (λ (l : List PairRoutes). SettledSoFar net demand before candidates l loads) (sym whole)
    (subst (λ (l : List PairRoutes). SettledSoFar net demand before l routes loads) same
    (subst (λ (l : List PairRoutes). SettledSoFar net demand l others routes loads) start so))

-- no pair has more paths than it had together with its candidates
pub settled_few : (net : Network) (before candidates routes : List PairRoutes) (limit : ℕ) → HaveFewTogether limit before candidates →
    IsPathRouting net routes → map (λ r. r.pair) routes ≡ map (λ r. r.pair) before → UsesOnly before candidates routes → HasFewPaths limit routes
settled_few net before candidates routes limit together routing pairs only =
    All-from_get_or (λ r. length r.paths ≤ limit) routes no_routes (λ p below.
    let (all, few, has) = together p (omega (arith, below, same_count routes before pairs)) in
    let split = All-get_or (IsPathSplit net) routes p no_routes below routing in
    omega (arith, few, few_among (routes_at routes p).paths all split.distinct (λ links there. has links (only p links there))))

-- the greatest utilisation of the loads is the parts
pub parts_of_loads : (net : Network) (demand : List ℕ) (routes : List PairRoutes) (loads : List ℕ) (link x : ℕ) → is_well_formed net ≡ true →
    AreLoads net demand routes loads → IsPeakBelow net (slice_index loads) (link_count net) link x → parts net routes demand ≡ x
parts_of_loads net demand routes loads link x formed are peak =
    parts_from_peak net routes demand link x formed (record {
      within = λ e below. subst (λ l. l ≤ x * capacity_of net e) (are.each e below) (peak.within e below);
      reached = λ some.
          let (inside, over) = peak.reached some in
          (inside, subst (λ l. (x - 1) * capacity_of net link < l) (are.each link inside) over);
    })

-- the link of the greatest utilisation carries more than any lower value allows
pub aim_above : (net : Network) (loads : List ℕ) (link x times : ℕ) → IsPeakBelow net (slice_index loads) (link_count net) link x → times < x →
    (link < link_count net) × (times * capacity_of net link < slice_index loads link)
aim_above net loads link x times peak below =
    let (inside, over) = peak.reached (omega (arith, below)) in
    let less = mul-le times (capacity_of net link) (x - 1) (capacity_of net link) (omega (arith, below)) (omega arith) in
    (inside, omega (arith, over, less))

-- the greatest utilisation is no more than 2^84
pub peak_small : (net : Network) (loads : List ℕ) (link x : ℕ) → is_well_formed net ≡ true → length loads ≡ link_count net →
    All (λ l. l < 2 ^ 84) loads → IsPeakBelow net (slice_index loads) (link_count net) link x → x ≤ 2 ^ 84
peak_small net loads link x formed count small peak = elim (cases_lt 0 x) [
  | inr none ↦ omega (arith, none)
  | inl some ↦
      let (inside, over) = peak.reached some in
      let more = mul-le (x - 1) 1 (x - 1) (capacity_of net link) (omega arith) (capacities_positive net formed link inside) in
      let load = All-get_or (λ l. l < 2 ^ 84) loads link 0 (omega (arith, inside, count)) small in
      omega (arith, over, more, load)
]

pub none_then : {X : Type 0} (r : Option X) {P Q : Type 0} → IfNone r P → (P → Q) → IfNone r Q
none_then None has then = then has
none_then (Some x) has then = has
