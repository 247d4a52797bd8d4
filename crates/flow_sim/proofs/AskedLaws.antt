-- What a step asks of each link, pair by pair, and how near that is to the loads.
use Rattle.std.proofs.Common.{◌≡◌, ℕ, zero, suc, ◌+◌, ◌*◌, ◌<◌, ◌≤◌, ◌^◌, Bool, true, false, List, [], ◌∷◌, ◌++◌, length, sum, sum_by, slice_index, get_or, add-one, arith, refl, ap, sym, subst, ◌∙◌, inl, inr, length-append, ◌==◌, ◌||◌, All}
use Rattle.std.specs.Prelude.{slice_index_or, if◌then◌else◌}
use Rattle.std.proofs.Math.Nat.{div-add-mod}
use Rattle.std.proofs.lemmas.Bool.{cases_lt}
use Rattle.std.proofs.lemmas.Bool.Decides.{nat_tests}
use Rattle.std.proofs.lemmas.Nat.{mod_below}
use Rattle.std.proofs.lemmas.List.{get_or_append_left, get_or-append-add, get_or-map, length-map}
use Rattle.std.proofs.lemmas.List.FromFn.{get_or-map-range_with_len}
use Rattle.std.proofs.lemmas.List.Elements.{All-get_or, All-weaker}
use Rattle.std.proofs.lemmas.List.Sums.{sum_by-cons, sum-map}
use Rattle.te_model.specs.declared.network.Network.{Network}
use Rattle.te_model.specs.declared.route.PairRoutes.{PairRoutes}
use Rattle.te_model.specs.declared.route.PathShare.{PathShare}
use Rattle.te_model.specs.declared.units.TheConstants.{SHARE_UNIT}
use Rattle.te_model.specs.Apportion.{apportion, floor_part, is_among_first, part, remainder, units_left_over}
use Rattle.te_model.specs.Counting.{sum_below}
use Rattle.te_model.specs.Path.{amount_on, has_number, is_distinct, is_path, no_routes, weight_on}
use Rattle.te_model.proofs.ApportionLaws.{sum_below-first, sum_below-more, sum_is_below}
use Rattle.te_model.proofs.LentRoutes.{below_pairs, lent_paths}
use Rattle.te_model.proofs.SimplePaths.{path_links_once}
use Rattle.te_model.proofs.Sums.{sum_below-add, sum_below-le, sum_below-mul, sum_below-same}
use Rattle.te_model.proofs.Tests.{list_all_at}
use Rattle.te_model.proofs.Conditionals.{if_le-self}
use Rattle.routing.specs.Merge.{no_path}
use Rattle.routing.specs.Split.{total_weight}
use Rattle.local_recovery.specs.Rates.{IsRates, has_rates, have_rates}
use Rattle.flow_sim.specs.Asked.{AsksNearLoad, asked_by, asked_from, asked_units_on, paths_on}
use Rattle.flow_sim.specs.Traffic.{concat_below, flow_paths, flow_starts, paths_of, starts_of, weights}
use Rattle.flow_sim.proofs.PairLaws.{concat_same, starts-flows, starts-length}

-- a sum in two parts
pub sum_below-parts : (m n : ℕ) (f : ℕ → ℕ) → sum_below (m + n) f ≡ sum_below m f + sum_below n (λ i. f (m + i))
sum_below-parts m zero f = let e : m + 0 ≡ m = omega arith in rw e (omega arith)
sum_below-parts m (suc n) f = let e : m + suc n ≡ suc (m + n) = omega arith in rw e (omega (arith, sum_below-parts m n f))

-- a piece stands inside the list of all pieces
pub concat_within : {A : Type 0} (n p : ℕ) (piece : ℕ → List A) → p < n → length (concat_below p piece) + length (piece p) ≤ length (concat_below n piece)
concat_within zero p piece below = absurd (omega arith)
concat_within (suc n) p piece below =
    let whole = length-append (concat_below n piece) (piece n) in
    elim (cases_lt p n) [
      | inl lt ↦ omega (arith, whole, concat_within n p piece lt)
      | inr ge ↦
          let e : n ≡ p = omega arith in
          omega (arith, whole, ap (λ q. length (concat_below q piece) + length (piece q)) e)
    ]

-- and is read there
pub concat_read : {A : Type 0} (d : A) (n p i : ℕ) (piece : ℕ → List A) → p < n → i < length (piece p) →
    get_or (concat_below n piece) (length (concat_below p piece) + i) d ≡ get_or (piece p) i d
concat_read d zero p i piece below inside = absurd (omega arith)
concat_read d (suc n) p i piece below inside =
    elim (cases_lt p n) [
      | inl lt ↦
          get_or_append_left (concat_below n piece) (piece n) d (length (concat_below p piece) + i) (omega (arith, inside, concat_within n p piece lt))
          ∙ concat_read d n p i piece lt inside
      | inr ge ↦
          let e : p ≡ n = omega arith in
          subst (λ q. get_or (concat_below n piece ++ piece n) (length (concat_below q piece) + i) d ≡ get_or (piece q) i d) (sym e)
          (get_or-append-add (concat_below n piece) (piece n) i d)
    ]

-- a sum over all places of the list, piece by piece
pub sum_pieces : {A : Type 0} (n : ℕ) (piece : ℕ → List A) (f : ℕ → ℕ) →
    sum_below (length (concat_below n piece)) f ≡ sum_below n (λ p. sum_below (length (piece p)) (λ i. f (length (concat_below p piece) + i)))
sum_pieces zero piece f = refl
sum_pieces (suc n) piece f =
    ap (λ m. sum_below m f) (length-append (concat_below n piece) (piece n))
    ∙ (sum_below-parts (length (concat_below n piece)) (length (piece n)) f
    ∙ ap (λ x. x + sum_below (length (piece n)) (λ i. f (length (concat_below n piece) + i))) (sum_pieces n piece f))

-- where the flows of pair p begin
pub first_flow : List PairRoutes → ℕ → ℕ
first_flow rates p = length (concat_below p (paths_of rates))

-- the path of a flow is that of its pair
pub path_read : (rates : List PairRoutes) (p i : ℕ) → p < length rates → i < length (paths_of rates p) →
    slice_index_or (flow_paths rates) (first_flow rates p + i) no_path ≡ slice_index_or (paths_of rates p) i no_path
unfolding first_flow
path_read rates p i below inside = concat_read no_path (length rates) p i (paths_of rates) below inside

-- and so are its units
start_read : (rates : List PairRoutes) (demand : List ℕ) (p i : ℕ) → p < length rates → i < length (paths_of rates p) →
    slice_index (flow_starts rates demand) (first_flow rates p + i) ≡ slice_index (starts_of rates demand p) i
unfolding first_flow
start_read rates demand p i below inside =
    let same : length (concat_below p (starts_of rates demand)) ≡ length (concat_below p (paths_of rates)) =
    concat_same p (starts_of rates demand) (paths_of rates) (λ k lt. starts-length rates demand k)
    in
    ap (λ n. slice_index (flow_starts rates demand) (n + i)) (sym same)
    ∙ concat_read 0 (length rates) p i (starts_of rates demand) below (omega (arith, inside, starts-length rates demand p))

-- what the flows of the first p pairs ask of a link
pub asked_before : List PairRoutes → List ℕ → ℕ → ℕ → ℕ
asked_before rates units e p = sum_below (first_flow rates p) (asked_by (flow_paths rates) units e)

pub asked_none : (rates : List PairRoutes) (units : List ℕ) (e : ℕ) → asked_before rates units e 0 ≡ 0
unfolding asked_before first_flow
asked_none rates units e = refl

-- those of one pair more
pub asked_more : (rates : List PairRoutes) (units : List ℕ) (e p : ℕ) → p < length rates →
    asked_before rates units e (p + 1)
    ≡ asked_before rates units e p + asked_from (paths_of rates p) units (first_flow rates p) (length (paths_of rates p)) e
unfolding asked_before first_flow
asked_more rates units e p below =
    let paths = concat_below p (paths_of rates) in
    let piece = paths_of rates p in
    let f = asked_by (flow_paths rates) units e in
    rw add-one (
    ap (λ n. sum_below n f) (length-append paths piece)
    ∙ (sum_below-parts (length paths) (length piece) f
    ∙ ap (λ x. sum_below (length paths) f + x) (sum_below-same (length piece) (λ i. f (length paths + i))
    (λ i. amount_on (slice_index_or piece i no_path).links (slice_index units (length paths + i)) e)
    (λ i inside. ap (λ (s : PathShare). amount_on s.links (slice_index units (length paths + i)) e)
    (concat_read no_path (length rates) p i (paths_of rates) below inside))))
    )

pub flows_more : (rates : List PairRoutes) (p : ℕ) → first_flow rates (p + 1) ≡ first_flow rates p + length (paths_of rates p)
unfolding first_flow
flows_more rates p = rw add-one (length-append (concat_below p (paths_of rates)) (paths_of rates p))

pub flows_none : (rates : List PairRoutes) → 0 ≡ first_flow rates 0
unfolding first_flow
flows_none rates = refl

-- all flows are those of all pairs
pub asked_all : (rates : List PairRoutes) (demand : List ℕ) (e : ℕ) →
    asked_before rates (flow_starts rates demand) e (length rates) ≡ asked_units_on rates demand e
unfolding asked_before first_flow
asked_all rates demand e = refl

pub flows_within : (rates : List PairRoutes) (demand : List ℕ) (p : ℕ) → p < length rates →
    first_flow rates p + length (paths_of rates p) ≤ length (flow_starts rates demand)
unfolding first_flow
flows_within rates demand p below = omega (arith, concat_within (length rates) p (paths_of rates) below, starts-flows rates demand)

-- .. of paths that are lent
pub lent_within : (rates list : List PairRoutes) (demand : List ℕ) (p first : ℕ) (item : PairRoutes) (paths : List PathShare) → list ≡ rates → p < length list →
    paths ≡ (get_or list p item).paths → first ≡ first_flow rates p → first + length paths ≤ length (flow_starts rates demand)
lent_within rates list demand p first item paths same below is at =
    omega (
      arith,
      at,
      ap (λ (ss : List PathShare). length ss) (lent_paths rates list p item paths same below is),
      flows_within rates demand p (below_pairs rates list p same below),
    )

-- what the pairs before have asked, with the units of this one, is within the units of all flows
pub asked_fits : (rates : List PairRoutes) (units : List ℕ) (e p : ℕ) → first_flow rates p + length (paths_of rates p) ≤ length units →
    asked_before rates units e p + sum_below (length (paths_of rates p)) (λ i. slice_index units (first_flow rates p + i)) ≤ sum units
unfolding asked_before
asked_fits rates units e p within =
    omega (
      arith,
      sum_below-le (first_flow rates p) (asked_by (flow_paths rates) units e) (slice_index units)
          (λ f below. if_le-self (has_number (slice_index_or (flow_paths rates) f no_path).links e) (slice_index units f)),
      sum_below-parts (first_flow rates p) (length (paths_of rates p)) (slice_index units),
      sum_below-more (first_flow rates p + length (paths_of rates p)) (length units) (slice_index units) within,
      sum_is_below units,
    )

-- what the flows ask is at most their units
pub asked_from_le : (paths : List PathShare) (units : List ℕ) (first n e : ℕ) →
    asked_from paths units first n e ≤ sum_below n (λ i. slice_index units (first + i))
asked_from_le paths units first n e =
    sum_below-le n (λ i. amount_on (slice_index_or paths i no_path).links (slice_index units (first + i)) e) (λ i. slice_index units (first + i))
    (λ i below. if_le-self (has_number (slice_index_or paths i no_path).links e) (slice_index units (first + i)))

-- the same of what the code holds
pub asked_room : (rates : List PairRoutes) (demand units lent asked : List ℕ) (paths : List PathShare) (first p e : ℕ) → paths ≡ paths_of rates p →
    lent ≡ units → units ≡ flow_starts rates demand → first ≡ first_flow rates p → slice_index asked e ≡ asked_before rates units e p →
    p < length rates → sum (flow_starts rates demand) < 2 ^ 64 →
    slice_index asked e + sum_below (length paths) (λ i. slice_index lent (first + i)) < 2 ^ 64
asked_room rates demand units lent asked paths first p e paths_are same units_are first_is asked_is below small =
    rw (paths_are, same, first_is) (omega (
      arith,
      asked_is,
      asked_fits rates units e p (omega (arith, ap (λ (l : List ℕ). length l) units_are, flows_within rates demand p below)),
      ap (λ (l : List ℕ). sum l) units_are,
      small,
    ))

pub asked_next : (rates : List PairRoutes) (units lent asked new : List ℕ) (paths : List PathShare) (first p e : ℕ) → paths ≡ paths_of rates p →
    lent ≡ units → first ≡ first_flow rates p → slice_index asked e ≡ asked_before rates units e p → p < length rates →
    slice_index new e ≡ slice_index asked e + asked_from paths lent first (length paths) e → slice_index new e ≡ asked_before rates units e (p + 1)
asked_next rates units lent asked new paths first p e paths_are same first_is asked_is below added =
    omega (arith, rw (paths_are, same, first_is) at added, asked_is, asked_more rates units e p below)

pub asked_done : (rates : List PairRoutes) (demand units : List ℕ) (e p : ℕ) → units ≡ flow_starts rates demand → p ≡ length rates →
    asked_before rates units e p ≡ asked_units_on rates demand e
asked_done rates demand units e p units_are done = rw (units_are, done) (asked_all rates demand e)

-- no path holds a link twice
pub links_distinct : (net : Network) (rates : List PairRoutes) → IsRates net rates → (p : ℕ) → p < length rates →
    All (λ (s : PathShare). is_distinct s.links ≡ true) (paths_of rates p)
links_distinct net rates is p below =
    let routes = slice_index_or rates p no_routes in
    All-weaker (λ (s : PathShare). is_path net routes.pair.src routes.pair.dst s.links ≡ true) (λ (s : PathShare). is_distinct s.links ≡ true)
    (λ s path. path_links_once net routes.pair.src routes.pair.dst s.links path) routes.paths
    (All-get_or (λ (r : PairRoutes). All (λ (s : PathShare). is_path net r.pair.src r.pair.dst s.links ≡ true) r.paths) rates p no_routes below is.paths)

-- How near the units are to the loads.

-- a part is the share of the total, rounded down, or one more
part_near : (total : ℕ) (ws : List ℕ) (i unit : ℕ) → sum ws ≡ unit → 1 ≤ unit →
    (part total ws i * unit ≤ total * slice_index ws i + unit) × (total * slice_index ws i ≤ part total ws i * unit + unit)
part_near total ws i unit is some =
    near (is_among_first (length ws) (remainder total ws) (units_left_over total ws) i)
  where
    quotient : floor_part total ws i * unit + remainder total ws i ≡ total * slice_index ws i
    quotient = omega (arith, div-add-mod (total * slice_index ws i) (sum ws), ap (λ u. floor_part total ws i * u) is)

    small : remainder total ws i < unit
    small = omega (arith, is, mod_below (total * slice_index ws i) (sum ws) (omega (arith, is, some)))

    near : (b : Bool) →
        ((floor_part total ws i + (if b then 1 else 0)) * unit ≤ total * slice_index ws i + unit)
        × (total * slice_index ws i ≤ (floor_part total ws i + (if b then 1 else 0)) * unit + unit)
    near true = (omega (arith, quotient, small), omega (arith, quotient, small))
    near false = (omega (arith, quotient, small), omega (arith, quotient, small))

-- the same on a link that the path holds or not
term_near : (holds : Bool) (d w q unit : ℕ) → (q * unit ≤ d * w + unit) × (d * w ≤ q * unit + unit) →
    (unit * (if holds then q else 0) ≤ d * (if holds then w else 0) + unit * (if holds then 1 else 0))
    × (d * (if holds then w else 0) ≤ unit * (if holds then q else 0) + unit * (if holds then 1 else 0))
term_near true d w q unit near = (omega (arith, near.0), omega (arith, near.1))
term_near false d w q unit near = (omega arith, omega arith)

-- a sum over a list, by its places
sum_places : {A : Type 0} (f : A → ℕ) (d : A) (xs : List A) → sum_by f xs ≡ sum_below (length xs) (λ i. f (get_or xs i d))
sum_places f d [] = refl
sum_places f d (x ∷ xs) =
    omega (
      arith,
      sum_by-cons f x xs,
      sum_places f d xs,
      sum_below-first (length xs) (λ i. f (get_or (x ∷ xs) i d)),
    )

-- what the paths of a pair are asked to carry on a link, and on how many of them it is
pair_asked : ℕ → List PathShare → ℕ → ℕ
pair_asked d paths e =
    sum_below (length paths) (λ i. amount_on (slice_index_or paths i no_path).links (slice_index (apportion d (weights paths)) i) e)

pair_count : List PathShare → ℕ → ℕ
pair_count paths e = sum_below (length paths) (λ i. amount_on (slice_index_or paths i no_path).links 1 e)

PairIsNear : ℕ → List PathShare → ℕ → Type 0
PairIsNear d paths e =
    (SHARE_UNIT * pair_asked d paths e ≤ d * weight_on paths e + SHARE_UNIT * pair_count paths e)
    × (d * weight_on paths e ≤ SHARE_UNIT * pair_asked d paths e + SHARE_UNIT * pair_count paths e)

near_where_whole : (d : ℕ) (paths : List PathShare) (e : ℕ) → total_weight paths ≡ SHARE_UNIT → PairIsNear d paths e
unfolding PairIsNear pair_asked pair_count
near_where_whole d paths e whole =
    let n = length paths in
    let ws = weights paths in
    let asked = λ (i : ℕ). amount_on (slice_index_or paths i no_path).links (slice_index (apportion d ws) i) e in
    let weight = λ (i : ℕ). amount_on (slice_index_or paths i no_path).links (slice_index_or paths i no_path).weight e in
    let one = λ (i : ℕ). amount_on (slice_index_or paths i no_path).links 1 e in
    let is : sum ws ≡ SHARE_UNIT = sum-map (λ (s : PathShare). s.weight) paths ∙ whole in
    let near : (i : ℕ) → i < n → (SHARE_UNIT * asked i ≤ d * weight i + SHARE_UNIT * one i) × (d * weight i ≤ SHARE_UNIT * asked i + SHARE_UNIT * one i) = λ i below.
    let size : length ws ≡ n = length-map paths (λ (s : PathShare). s.weight) in
    let q : slice_index (apportion d ws) i ≡ part d ws i = get_or-map-range_with_len (part d ws) 0 (length ws) i i 0 (omega (arith, below, size)) (omega arith) in
    let w : slice_index ws i ≡ (slice_index_or paths i no_path).weight = get_or-map (λ (s : PathShare). s.weight) paths i no_path 0 below in
    term_near (has_number (slice_index_or paths i no_path).links e) d (slice_index_or paths i no_path).weight (slice_index (apportion d ws) i) SHARE_UNIT
    (subst (λ x. (x * SHARE_UNIT ≤ d * (slice_index_or paths i no_path).weight + SHARE_UNIT) × (d * (slice_index_or paths i no_path).weight ≤ x * SHARE_UNIT + SHARE_UNIT)) (sym q)
    (subst (λ x. (part d ws i * SHARE_UNIT ≤ d * x + SHARE_UNIT) × (d * x ≤ part d ws i * SHARE_UNIT + SHARE_UNIT)) w (part_near d ws i SHARE_UNIT is (omega arith))))
    in
    let weighed : weight_on paths e ≡ sum_below n weight = sum_places (λ (s : PathShare). amount_on s.links s.weight e) no_path paths in
    let asks = sum_below-mul n SHARE_UNIT asked in
    let ones = sum_below-mul n SHARE_UNIT one in
    let loads = sum_below-mul n d weight in
    let product : d * weight_on paths e ≡ d * sum_below n weight = ap (λ x. d * x) weighed in (
      omega (
        arith,
        asks,
        ones,
        loads,
        product,
        sum_below-add n (λ i. d * weight i) (λ i. SHARE_UNIT * one i),
        sum_below-le n (λ i. SHARE_UNIT * asked i) (λ i. d * weight i + SHARE_UNIT * one i) (λ i below. (near i below).0),
      ),
      omega (
        arith,
        asks,
        ones,
        loads,
        product,
        sum_below-add n (λ i. SHARE_UNIT * asked i) (λ i. SHARE_UNIT * one i),
        sum_below-le n (λ i. d * weight i) (λ i. SHARE_UNIT * asked i + SHARE_UNIT * one i) (λ i below. (near i below).1),
      ),
    )

near_where_none : (d e : ℕ) → PairIsNear d [] e
unfolding PairIsNear pair_asked pair_count
near_where_none d e = (omega arith, omega arith)

pair_is_near : (d : ℕ) (paths : List PathShare) (e : ℕ) → (length paths == 0 || total_weight paths == SHARE_UNIT) ≡ true → PairIsNear d paths e
pair_is_near d [] e test = near_where_none d e
pair_is_near d (s ∷ ss) e test =
    let whole : total_weight (s ∷ ss) ≡ SHARE_UNIT = grind (arith, nat_tests) in near_where_whole d (s ∷ ss) e whole

-- a sum over the flows, pair by pair
asked_by_pairs : (rates : List PairRoutes) (demand : List ℕ) (e : ℕ) →
    asked_units_on rates demand e ≡ sum_below (length rates) (λ p. pair_asked (slice_index demand p) (paths_of rates p) e)
unfolding pair_asked first_flow
asked_by_pairs rates demand e =
    sum_pieces (length rates) (paths_of rates) (asked_by (flow_paths rates) (flow_starts rates demand) e)
    ∙ sum_below-same (length rates)
    (λ p. sum_below (length (paths_of rates p)) (λ i. asked_by (flow_paths rates) (flow_starts rates demand) e (first_flow rates p + i)))
    (λ p. sum_below (length (paths_of rates p)) (λ i. amount_on (slice_index_or (paths_of rates p) i no_path).links (slice_index (starts_of rates demand p) i) e))
    (λ p below. sum_below-same (length (paths_of rates p)) (λ i. asked_by (flow_paths rates) (flow_starts rates demand) e (first_flow rates p + i))
    (λ i. amount_on (slice_index_or (paths_of rates p) i no_path).links (slice_index (starts_of rates demand p) i) e)
    (λ i inside.
    ap (λ (s : PathShare). amount_on s.links (slice_index (flow_starts rates demand) (first_flow rates p + i)) e) (path_read rates p i below inside)
    ∙ ap (λ x. amount_on (slice_index_or (paths_of rates p) i no_path).links x e) (start_read rates demand p i below inside)))

count_by_pairs : (rates : List PairRoutes) (e : ℕ) → paths_on rates e ≡ sum_below (length rates) (λ p. pair_count (paths_of rates p) e)
unfolding pair_count first_flow
count_by_pairs rates e =
    sum_pieces (length rates) (paths_of rates) (λ f. amount_on (slice_index_or (flow_paths rates) f no_path).links 1 e)
    ∙ sum_below-same (length rates)
    (λ p. sum_below (length (paths_of rates p)) (λ i. amount_on (slice_index_or (flow_paths rates) (first_flow rates p + i) no_path).links 1 e))
    (λ p. sum_below (length (paths_of rates p)) (λ i. amount_on (slice_index_or (paths_of rates p) i no_path).links 1 e))
    (λ p below. sum_below-same (length (paths_of rates p)) (λ i. amount_on (slice_index_or (flow_paths rates) (first_flow rates p + i) no_path).links 1 e)
    (λ i. amount_on (slice_index_or (paths_of rates p) i no_path).links 1 e)
    (λ i inside. ap (λ (s : PathShare). amount_on s.links 1 e) (path_read rates p i below inside)))

pub asked_near_load : (rates : List PairRoutes) (demand : List ℕ) → have_rates rates ≡ true → AsksNearLoad rates demand
unfolding PairIsNear
asked_near_load rates demand split e =
    let n = length rates in
    let asked = λ (p : ℕ). pair_asked (slice_index demand p) (paths_of rates p) e in
    let count = λ (p : ℕ). pair_count (paths_of rates p) e in
    let loads = λ (p : ℕ). slice_index demand p * weight_on (paths_of rates p) e in
    let near : (p : ℕ) → p < n → PairIsNear (slice_index demand p) (paths_of rates p) e = λ p below.
    pair_is_near (slice_index demand p) (paths_of rates p) e (list_all_at has_rates rates p no_routes split refl) in
    let asks = sum_below-mul n SHARE_UNIT asked in
    let counts = sum_below-mul n SHARE_UNIT count in
    record {
      above = omega (
        arith,
        asks,
        counts,
        asked_by_pairs rates demand e,
        count_by_pairs rates e,
        sum_below-add n loads (λ p. SHARE_UNIT * count p),
        sum_below-le n (λ p. SHARE_UNIT * asked p) (λ p. loads p + SHARE_UNIT * count p) (λ p below. (near p below).0),
      );
      below = omega (
        arith,
        asks,
        counts,
        asked_by_pairs rates demand e,
        count_by_pairs rates e,
        sum_below-add n (λ p. SHARE_UNIT * asked p) (λ p. SHARE_UNIT * count p),
        sum_below-le n loads (λ p. SHARE_UNIT * asked p + SHARE_UNIT * count p) (λ p below. (near p below).1),
      );
    }
