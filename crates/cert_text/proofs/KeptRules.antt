-- A number that is too wide for its field is refused by the same rule, at the same place, as the greatest number that the
-- field holds.
use Rattle.std.proofs.Common.{◌≡◌, ℕ, zero, suc, ◌+◌, ◌-◌, ◌^◌, ◌<◌, ◌≤◌, Bool, true, false, ◌&&◌, ◌||◌, not, cond, List, [], ◌∷◌, length, map, get_or, Option, Some, None, refl, sym, ap, ◌∙◌, arith, eqb, ltb, leb, inl, inr}
use Rattle.std.specs.List.{list_all}
use Rattle.std.proofs.Math.ListN.{get_or-map}
use Rattle.std.proofs.lemmas.List.{length-map}
use Rattle.std.proofs.lemmas.List.Folds.{list_all-map}
use Rattle.std.proofs.lemmas.Bool.{cases_lt, ltb-true, le-leb}
use Rattle.std.proofs.lemmas.Bool.Decides.{nat_tests}
use Rattle.te_model.specs.declared.limits.TheConstants.{FORMAT_1, FORMAT_2}
use Rattle.te_model.specs.declared.network.Link.{Link}
use Rattle.te_model.specs.declared.network.Network.{Network}
use Rattle.te_model.specs.declared.route.PathShare.{PathShare}
use Rattle.te_model.specs.declared.route.PairRoutes.{PairRoutes}
use Rattle.te_model.specs.declared.certificate.Row.{Row}
use Rattle.te_model.specs.declared.certificate.Block.{Block}
use Rattle.te_model.specs.declared.certificate.Head.{Head}
use Rattle.te_model.specs.declared.certificate.Certificate.{Certificate}
use Rattle.te_model.specs.declared.certificate.RuleFault.{RuleFault}
use Rattle.te_model.specs.Counting.{or_else, unless}
use Rattle.te_model.specs.Network.{node_count, link_count, no_link, link_at, tail_of, head_of, is_new_name, is_sound_link}
use Rattle.te_model.specs.Path.{chains, nodes_visited, is_distinct, is_path, no_routes, routes_at, source_of, destination_of}
use Rattle.te_model.specs.Certificate.{empty_block}
use Rattle.te_model.specs.Shape.{is_count}
use Rattle.te_model.specs.Validity.{pair_below, follows_previous, is_sound_pair, has_sound_paths, has_ascending_paths, has_whole_weight, with_first, has_margin_numbers, has_pair_bounds, has_ratio, block_at, has_block_numbers, follows, link_before, is_sound_block, sound_at, rows_ascend, is_small, has_small_numbers, small_at, fault_at, rule_fault, first_rule}
use Rattle.te_model.proofs.Tests.{and_true, or_else_none, first_failing_none_at}
use Rattle.te_model.proofs.Searches.{first_below-same}
use Rattle.cert_text.specs.Reading.{narrow_number}
use Rattle.cert_text.specs.Kept.{keep_link, keep_network, keep_path, keep_pair, keep_head, keep_row, keep_block, keep_certificate}
use Rattle.cert_text.specs.Fits.{FitsFormat}

-- what a field of 32 bits holds at most
abbrev pub widest : ℕ
widest = 2 ^ 32 - 1

-- ---- numbers

-- a number up to the widest is kept as it is
pub kept_whole : (n : ℕ) → n ≤ widest → narrow_number n ≡ n
kept_whole n le = omega arith

kept_wide : (n : ℕ) → widest ≤ n → narrow_number n ≡ widest
kept_wide n ge = omega arith

not_below : (a b : ℕ) → b ≤ a → ltb a b ≡ false
not_below a b le = grind (arith, nat_tests)

-- a test against a number that the field can hold comes out the same
kept_below : (n m : ℕ) → m ≤ widest → ltb (narrow_number n) m ≡ ltb n m
kept_below n m le = elim (cases_lt n widest) [
  | inl lt ↦ ap (λ (k : ℕ). ltb k m) (kept_whole n (omega arith))
  | inr ge ↦ ap (λ (k : ℕ). ltb k m) (kept_wide n ge) ∙ not_below widest m (omega arith) ∙ sym (not_below n m (omega arith))
]

kept_equals : (n m : ℕ) → m < widest → eqb (narrow_number n) m ≡ eqb n m
kept_equals n m lt = elim (cases_lt n widest) [
  | inl lt ↦ ap (λ (k : ℕ). eqb k m) (kept_whole n (omega arith))
  | inr ge ↦ ap (λ (k : ℕ). eqb k m) (kept_wide n ge) ∙ differs widest m (omega arith) ∙ sym (differs n m (omega arith))
]
  where
    differs : (a b : ℕ) → b < a → eqb a b ≡ false
    differs a b lt = grind (arith, nat_tests)

-- ---- tests of two parts

and_false : (a b : Bool) → b ≡ false → (a && b) ≡ false
and_false true b e = e
and_false false b e = refl

-- where the first part decides, the second matters only where the first holds
and_same : (a b c : Bool) → (a ≡ true → b ≡ c) → (a && b) ≡ (a && c)
and_same true b c e = e refl
and_same false b c e = refl

-- what a test is, where the parts that bound some numbers decide
pub bounded_same : (a b c d : Bool) → a ≡ b → (b ≡ true → c ≡ d) → (a && c) ≡ (b && d)
bounded_same a b c d e f = ap (λ (x : Bool). x && c) e ∙ and_same b c d f

kept_upto : (n m : ℕ) → m < widest → leb (narrow_number n) m ≡ leb n m
kept_upto n m lt = elim (cases_lt n widest) [
  | inl low ↦ ap (λ (k : ℕ). leb k m) (kept_whole n (omega arith))
  | inr ge ↦ ap (λ (k : ℕ). leb k m) (kept_wide n ge) ∙ above widest m (omega arith) ∙ sym (above n m (omega arith))
]
  where
    above : (a b : ℕ) → b < a → leb a b ≡ false
    above a b lt = grind (arith, nat_tests)

kept_from_one : (n : ℕ) → leb 1 (narrow_number n) ≡ leb 1 n
kept_from_one n = elim (cases_lt n widest) [
  | inl low ↦ ap (λ (k : ℕ). leb 1 k) (kept_whole n (omega arith))
  | inr ge ↦ ap (λ (k : ℕ). leb 1 k) (kept_wide n ge) ∙ le-leb 1 widest (omega arith) ∙ sym (le-leb 1 n (omega arith))
]

-- two different numbers below a bound
two_kept : (s t n : ℕ) → n ≤ widest → (ltb (narrow_number s) n && ltb (narrow_number t) n && not (eqb (narrow_number s) (narrow_number t))) ≡ (ltb s n && ltb t n && not (eqb s t))
two_kept s t n le =
    let bounds : (ltb (narrow_number s) n && ltb (narrow_number t) n) ≡ (ltb s n && ltb t n) = rw (kept_below s n le, kept_below t n le) refl in
    bounded_same (ltb (narrow_number s) n && ltb (narrow_number t) n) (ltb s n && ltb t n) (not (eqb (narrow_number s) (narrow_number t))) (not (eqb s t)) bounds
    (λ both.
    let f = and_true (ltb s n) (ltb t n) both in
    let low : s < n = ltb-true s n f.0 in
    let high : t < n = ltb-true t n f.1 in
    rw (kept_whole s (omega arith), kept_whole t (omega arith)) refl)

-- ---- lists

list_all_same : {X : Type 0} (p q : X → Bool) → ((x : X) → p x ≡ q x) → (xs : List X) → list_all p xs ≡ list_all q xs
list_all_same p q same [] = refl
list_all_same p q same (x ∷ xs) = rw (same x, list_all_same p q same xs) refl

-- what changes no item changes no list
pub map_whole : {X : Type 0} (f : X → X) (xs : List X) (d : X) → ((k : ℕ) → k < length xs → f (get_or xs k d) ≡ get_or xs k d) → map f xs ≡ xs
map_whole f [] d each = refl
map_whole f (x ∷ xs) d each = rw (each 0 (omega arith), map_whole f xs d (λ k lt. each (suc k) (omega arith))) refl

map_whole_all : {X : Type 0} (f : X → X) (test : X → Bool) → ((x : X) → test x ≡ true → f x ≡ x) → (xs : List X) → list_all test xs ≡ true → map f xs ≡ xs
map_whole_all f test each [] all = refl
map_whole_all f test each (x ∷ xs) all = let both = and_true (test x) (list_all test xs) all in rw (each x both.0, map_whole_all f test each xs both.1) refl

-- ---- links

link_kept : (net : Network) (h : ℕ) → link_at (keep_network net) h ≡ keep_link (link_at net h)
link_kept net h = get_or-map keep_link net.links h no_link

sound_numbers : ℕ → ℕ → ℕ → ℕ → ℕ → Bool
sound_numbers t h capacity cost n = ltb t n && ltb h n && not (eqb t h) && leb 1 capacity && leb capacity (2 ^ 32) && leb 1 cost && leb cost 65535

sound_numbers_kept : (t h capacity cost n : ℕ) → n ≤ widest → sound_numbers (narrow_number t) (narrow_number h) capacity (narrow_number cost) n ≡ sound_numbers t h capacity cost n
unfolding sound_numbers
sound_numbers_kept t h capacity cost n le =
    ap (λ (x : Bool). x && leb 1 capacity && leb capacity (2 ^ 32) && leb 1 (narrow_number cost) && leb (narrow_number cost) 65535) (two_kept t h n le)
    ∙ rw (kept_from_one cost, kept_upto cost 65535 (omega arith)) refl

sound_link_kept : (net : Network) (h : ℕ) → node_count net ≤ widest → is_sound_link (keep_network net) h ≡ is_sound_link net h
unfolding sound_numbers
sound_link_kept net h le =
    ap (λ (l : Link). sound_numbers l.tail l.head l.capacity l.cost (node_count net)) (link_kept net h)
    ∙ sound_numbers_kept (tail_of net h) (head_of net h) (link_at net h).capacity (link_at net h).cost (node_count net) le

sound_link_whole : (net : Network) (h : ℕ) → node_count net ≤ widest → is_sound_link net h ≡ true → keep_link (link_at net h) ≡ link_at net h
sound_link_whole net h le sound =
    let l = link_at net h in
    let t : l.tail < node_count net = grind (arith, nat_tests) in
    let e : l.head < node_count net = grind (arith, nat_tests) in
    let c : l.cost ≤ 65535 = grind (arith, nat_tests) in
    let tail : narrow_number l.tail ≡ l.tail = kept_whole l.tail (omega arith) in
    let head : narrow_number l.head ≡ l.head = kept_whole l.head (omega arith) in
    let cost : narrow_number l.cost ≡ l.cost = kept_whole l.cost (omega arith) in
    made l (narrow_number l.tail) (narrow_number l.head) (narrow_number l.cost) tail head cost
  where
    made : (l : Link) (t h c : ℕ) → t ≡ l.tail → h ≡ l.head → c ≡ l.cost → ◌≡◌ {A = Link} (record { tail = t; head = h; capacity = l.capacity; cost = c }) l
    made l t h c e f g = rw (e, f, g) refl

network_whole : (net : Network) → node_count net ≤ widest → ((h : ℕ) → h < link_count net → is_sound_link net h ≡ true) → keep_network net ≡ net
network_whole net le sound =
    ap (λ (links : List Link). record { names = net.names; links = links })
    (map_whole keep_link net.links no_link (λ k lt. sound_link_whole net k le (sound k lt)))

-- ---- pairs

routes_kept : (routes : List PairRoutes) (p : ℕ) → routes_at (map keep_pair routes) p ≡ keep_pair (routes_at routes p)
routes_kept routes p = get_or-map keep_pair routes p no_routes

order_kept : (s' d' s d : ℕ) → s < widest → d < widest → (ltb (narrow_number s') (narrow_number s) || (eqb (narrow_number s') (narrow_number s) && ltb (narrow_number d') (narrow_number d))) ≡ (ltb s' s || (eqb s' s && ltb d' d))
order_kept s' d' s d low high =
    rw (kept_whole s (omega arith), kept_whole d (omega arith)) (rw (kept_below s' s (omega arith), kept_equals s' s low, kept_below d' d (omega arith)) refl)

order_at : (routes : List PairRoutes) (p : ℕ) → source_of routes p < widest → destination_of routes p < widest → follows_previous (pair_below (map keep_pair routes)) p ≡ follows_previous (pair_below routes) p
order_at routes zero low high = refl
order_at routes (suc k) low high =
    both (routes_at (map keep_pair routes) k) (routes_at (map keep_pair routes) (suc k)) (routes_kept routes k) (routes_kept routes (suc k))
  where
    below : PairRoutes → PairRoutes → Bool
    below r q = ltb r.pair.src q.pair.src || (eqb r.pair.src q.pair.src && ltb r.pair.dst q.pair.dst)

    both : (r q : PairRoutes) → r ≡ keep_pair (routes_at routes k) → q ≡ keep_pair (routes_at routes (suc k))
        → (ltb r.pair.src q.pair.src || (eqb r.pair.src q.pair.src && ltb r.pair.dst q.pair.dst)) ≡ pair_below routes k (suc k)
    both r q e f =
        rw (e, f) (order_kept (source_of routes k) (destination_of routes k) (source_of routes (suc k)) (destination_of routes (suc k)) low high)

sound_pair_kept : (h : Head) (p : ℕ) → node_count h.network ≤ widest → is_sound_pair (keep_head h) p ≡ is_sound_pair h p
sound_pair_kept h p le =
    let n = node_count h.network in
    let r = routes_at h.routes p in
    let s = r.pair.src in
    let d = r.pair.dst in
    let ends : (ltb (source_of (map keep_pair h.routes) p) n && ltb (destination_of (map keep_pair h.routes) p) n && not (eqb (source_of (map keep_pair h.routes) p) (destination_of (map keep_pair h.routes) p)))
    ≡ (ltb s n && ltb d n && not (eqb s d)) =
    ap (λ (q : PairRoutes). ltb q.pair.src n && ltb q.pair.dst n && not (eqb q.pair.src q.pair.dst)) (routes_kept h.routes p) ∙ two_kept s d n le in
    bounded_same _ (ltb s n && ltb d n && not (eqb s d)) (follows_previous (pair_below (map keep_pair h.routes)) p) (follows_previous (pair_below h.routes) p) ends
    (λ both.
    let f = and_true (ltb s n && ltb d n) (not (eqb s d)) both in
    let g = and_true (ltb s n) (ltb d n) f.0 in
    let low : s < n = ltb-true s n g.0 in
    let high : d < n = ltb-true d n g.1 in
    order_at h.routes p (omega arith) (omega arith))

-- the numbers of a sound pair are kept whole
pair_whole : (h : Head) (p : ℕ) → node_count h.network ≤ widest → is_sound_pair h p ≡ true → (narrow_number (source_of h.routes p) ≡ source_of h.routes p) × (narrow_number (destination_of h.routes p) ≡ destination_of h.routes p)
pair_whole h p le sound =
    let s : source_of h.routes p < node_count h.network = grind (arith, nat_tests) in
    let d : destination_of h.routes p < node_count h.network = grind (arith, nat_tests) in
    (kept_whole (source_of h.routes p) (omega arith), kept_whole (destination_of h.routes p) (omega arith))

-- ---- paths

pub chains_kept : (net : Network) (t : ℕ) → link_count net ≤ widest → (hs : List ℕ) (s : ℕ) → chains net s t (map narrow_number hs) ≡ chains net s t hs
chains_kept net t le [] s = refl
chains_kept net t le (h ∷ hs) s = elim (cases_lt h widest) [
  | inl lt ↦
      ap (λ (k : ℕ). ltb k (link_count net) && eqb (tail_of net k) s && chains net (head_of net k) t (map narrow_number hs)) (kept_whole h (omega arith))
      ∙ ap (λ (b : Bool). ltb h (link_count net) && eqb (tail_of net h) s && b) (chains_kept net t le hs (head_of net h))
  | inr ge ↦
      past (narrow_number h) (map narrow_number hs) (omega arith) ∙ sym (past h hs (omega arith))
]
  where
    past : (k : ℕ) (rest : List ℕ) → link_count net ≤ k → (ltb k (link_count net) && eqb (tail_of net k) s && chains net (head_of net k) t rest) ≡ false
    past k rest above = let no : ltb k (link_count net) ≡ false = not_below k (link_count net) above in rw no refl

pub chained_whole : (net : Network) (t : ℕ) → link_count net ≤ widest → (hs : List ℕ) (s : ℕ) → chains net s t hs ≡ true → map narrow_number hs ≡ hs
chained_whole net t le [] s e = refl
chained_whole net t le (h ∷ hs) s e =
    let f = and_true (ltb h (link_count net) && eqb (tail_of net h) s) (chains net (head_of net h) t hs) e in
    let g = and_true (ltb h (link_count net)) (eqb (tail_of net h) s) f.0 in
    let low : h < link_count net = ltb-true h (link_count net) g.0 in
    rw (kept_whole h (omega arith), chained_whole net t le hs (head_of net h) f.1) refl

pub path_test_kept : (net : Network) (s t : ℕ) (hs : List ℕ) → link_count net ≤ widest → is_path net s t (map narrow_number hs) ≡ is_path net s t hs
path_test_kept net s t hs le =
    bounded_same (chains net s t (map narrow_number hs)) (chains net s t hs) (is_distinct (nodes_visited net s (map narrow_number hs))) (is_distinct (nodes_visited net s hs)) (chains_kept net t le hs s)
    (λ chained. ap (λ (ks : List ℕ). is_distinct (nodes_visited net s ks)) (chained_whole net t le hs s chained))

sound_paths_kept : (h : Head) (p : ℕ) → link_count h.network ≤ widest → keep_network h.network ≡ h.network
    → (narrow_number (source_of h.routes p) ≡ source_of h.routes p) × (narrow_number (destination_of h.routes p) ≡ destination_of h.routes p) → has_sound_paths (keep_head h) p ≡ has_sound_paths h p
sound_paths_kept h p le net pair =
    let r = routes_at h.routes p in
    ap (λ (q : PairRoutes). list_all (λ s. is_path (keep_network h.network) q.pair.src q.pair.dst s.links) q.paths) (routes_kept h.routes p)
    ∙ ap (λ (n : Network). list_all (λ s. is_path n (narrow_number r.pair.src) (narrow_number r.pair.dst) s.links) (map keep_path r.paths)) net
    ∙ ap (λ (k : ℕ). list_all (λ s. is_path h.network k (narrow_number r.pair.dst) s.links) (map keep_path r.paths)) pair.0
    ∙ ap (λ (k : ℕ). list_all (λ s. is_path h.network r.pair.src k s.links) (map keep_path r.paths)) pair.1
    ∙ list_all-map (λ s. is_path h.network r.pair.src r.pair.dst s.links) keep_path r.paths
    ∙ list_all_same (λ s. is_path h.network r.pair.src r.pair.dst (map narrow_number s.links)) (λ s. is_path h.network r.pair.src r.pair.dst s.links) (λ s. path_test_kept h.network r.pair.src r.pair.dst s.links le) r.paths

made_pair : (r : PairRoutes) (s d : ℕ) (paths : List PathShare) → s ≡ r.pair.src → d ≡ r.pair.dst → paths ≡ r.paths → ◌≡◌ {A = PairRoutes} (record { pair = record { src = s; dst = d }; paths = paths }) r
made_pair r s d paths e f g = rw (e, f, g) refl

routes_whole : (h : Head) → node_count h.network ≤ widest → link_count h.network ≤ widest
    → ((p : ℕ) → p < length h.routes → is_sound_pair h p ≡ true) → ((p : ℕ) → p < length h.routes → has_sound_paths h p ≡ true) → map keep_pair h.routes ≡ h.routes
routes_whole h nodes links pairs paths = map_whole keep_pair h.routes no_routes (λ p lt. one p (pair_whole h p nodes (pairs p lt)) (paths p lt))
  where
    one : (p : ℕ) → (narrow_number (source_of h.routes p) ≡ source_of h.routes p) × (narrow_number (destination_of h.routes p) ≡ destination_of h.routes p) → has_sound_paths h p ≡ true → keep_pair (routes_at h.routes p) ≡ routes_at h.routes p
    one p pair sound =
        let r = routes_at h.routes p in
        let whole : map keep_path r.paths ≡ r.paths =
        map_whole_all keep_path (λ s. is_path h.network r.pair.src r.pair.dst s.links)
        (λ s ok. ap (λ (ks : List ℕ). record { links = ks; weight = s.weight })
        (chained_whole h.network r.pair.dst links s.links r.pair.src (and_true (chains h.network r.pair.src r.pair.dst s.links) (is_distinct (nodes_visited h.network r.pair.src s.links)) ok).0)) r.paths sound in
        made_pair r (narrow_number r.pair.src) (narrow_number r.pair.dst) (map keep_path r.paths) pair.0 pair.1 whole

-- ---- rows and blocks

small_rows_kept : (n : ℕ) → n ≤ widest → (rows : List Row) → list_all (λ r. ltb r.source n && list_all is_small r.potential) (map keep_row rows) ≡ list_all (λ r. ltb r.source n && list_all is_small r.potential) rows
small_rows_kept n le rows =
    list_all-map (λ r. ltb r.source n && list_all is_small r.potential) keep_row rows
    ∙ list_all_same (λ r. ltb (narrow_number r.source) n && list_all is_small r.potential) (λ r. ltb r.source n && list_all is_small r.potential)
    (λ r. ap (λ (b : Bool). b && list_all is_small r.potential) (kept_below r.source n le)) rows

rows_whole : (n : ℕ) → n ≤ widest → (rows : List Row) → list_all (λ r. ltb r.source n && list_all is_small r.potential) rows ≡ true → map keep_row rows ≡ rows
rows_whole n le rows all = map_whole_all keep_row (λ r. ltb r.source n && list_all is_small r.potential)
    (λ r ok. let low : r.source < n = ltb-true r.source n (and_true (ltb r.source n) (list_all is_small r.potential) ok).0 in
    ap (λ (s : ℕ). record { source = s; potential = r.potential }) (kept_whole r.source (omega arith))) rows all

small_numbers_kept : (net : Network) (b : Block) → node_count net ≤ widest → has_small_numbers net (keep_block b) ≡ has_small_numbers net b
small_numbers_kept net b le =
    let n = node_count net in
    let weights = list_all (λ w. leb w (2 ^ 28)) b.weights in
    let rows = list_all (λ r. ltb r.source n && list_all is_small r.potential) b.rows in
    let both : (weights && list_all (λ r. ltb r.source n && list_all is_small r.potential) (map keep_row b.rows)) ≡ (weights && rows) = ap (λ (x : Bool). weights && x) (small_rows_kept n le b.rows) in
    ap (λ (x : Bool). x && list_all is_small b.plus && list_all is_small b.minus)
    (bounded_same (weights && list_all (λ r. ltb r.source n && list_all is_small r.potential) (map keep_row b.rows)) (weights && rows) (rows_ascend (map keep_row b.rows)) (rows_ascend b.rows) both
    (λ ok. ap rows_ascend (rows_whole n le b.rows (and_true weights rows ok).1)))

blocks_kept : (blocks : List Block) (k : ℕ) → block_at (map keep_block blocks) k ≡ keep_block (block_at blocks k)
blocks_kept blocks k = get_or-map keep_block blocks k (empty_block 0)

follows_kept : (blocks : List Block) (k link : ℕ) → link ≤ widest → follows (link_before (map keep_block blocks) k) link ≡ follows (link_before blocks k) link
follows_kept blocks zero link le = refl
follows_kept blocks (suc k) link le = ap (λ (b : Block). ltb b.link link) (blocks_kept blocks k) ∙ kept_below (block_at blocks k).link link le

sound_block_kept : (net : Network) (blocks : List Block) (k : ℕ) → link_count net ≤ widest
    → is_sound_block net (link_before (map keep_block blocks) k) (keep_block (block_at blocks k)) ≡ is_sound_block net (link_before blocks k) (block_at blocks k)
sound_block_kept net blocks k le =
    let b = block_at blocks k in
    let numbers : has_block_numbers net (keep_block b) ≡ has_block_numbers net b = ap (λ (x : Bool). x && leb b.a (2 ^ 36) && leb 1 b.b && leb b.b (2 ^ 36)) (kept_below b.link (link_count net) le) in
    bounded_same (has_block_numbers net (keep_block b)) (has_block_numbers net b) (follows (link_before (map keep_block blocks) k) (narrow_number b.link)) (follows (link_before blocks k) b.link) numbers
    (λ ok.
    let low : b.link < link_count net = grind (arith, nat_tests) in
    ap (λ (l : ℕ). follows (link_before (map keep_block blocks) k) l) (kept_whole b.link (omega arith)) ∙ follows_kept blocks k b.link (omega arith))

block_whole : (net : Network) (before : Option ℕ) (b : Block) → node_count net ≤ widest → link_count net ≤ widest → is_sound_block net before b ≡ true → has_small_numbers net b ≡ true → keep_block b ≡ b
block_whole net before b nodes links sound small =
    let low : b.link < link_count net = grind (arith, nat_tests) in
    let rows : list_all (λ r. ltb r.source (node_count net) && list_all is_small r.potential) b.rows ≡ true = grind (arith, nat_tests) in
    made b (narrow_number b.link) (map keep_row b.rows) (kept_whole b.link (omega arith)) (rows_whole (node_count net) nodes b.rows rows)
  where
    made : (b : Block) (link : ℕ) (rows : List Row) → link ≡ b.link → rows ≡ b.rows → ◌≡◌ {A = Block} (record { link = link; a = b.a; b = b.b; weights = b.weights; rows = rows; plus = b.plus; minus = b.minus }) b
    made b link rows e f = rw (e, f) refl

-- ---- the first rule

rule_same : (r n m : ℕ) (f g : ℕ → Bool) → n ≡ m → ((k : ℕ) → k < m → f k ≡ g k) → rule_fault r n f ≡ rule_fault r m g
rule_same r n m f g e each =
    ap (λ (i : ℕ). rule_fault r i f) e
    ∙ first_below-same m (λ k. unless (f k) (fault_at r k)) (λ k. unless (g k) (fault_at r k)) (λ k lt. ap (λ (b : Bool). unless b (fault_at r k)) (each k lt))

-- the faults of single rules
fault_2 : Head → Option RuleFault
fault_2 h = rule_fault 2 (link_count h.network) (is_sound_link h.network)

fault_3 : Head → Option RuleFault
fault_3 h = rule_fault 3 (length h.routes) (is_sound_pair h)

fault_4 : Head → Option RuleFault
fault_4 h = rule_fault 4 (length h.routes) (has_sound_paths h)

fault_8 : Certificate → Option RuleFault
fault_8 c = rule_fault 8 (1 + length c.blocks) (with_first (has_ratio c.head) (sound_at c))

fault_9 : Certificate → Option RuleFault
fault_9 c = rule_fault 9 (length c.blocks) (small_at c)

-- the faults of V5 to V7 and then of the last two, whose faults these are
later_faults : Head → Option RuleFault → Option RuleFault → Option RuleFault
later_faults h eight nine =
    or_else (rule_fault 5 (length h.routes) (has_ascending_paths h)) (or_else (rule_fault 6 (length h.routes) (has_whole_weight h))
    (or_else (rule_fault 7 (1 + length h.routes) (with_first (has_margin_numbers h.set) (has_pair_bounds h.set))) (or_else eight (or_else nine None))))

all_faults : Certificate → Option RuleFault
all_faults c =
    or_else (rule_fault 1 (node_count c.head.network) (is_new_name c.head.network))
    (or_else (fault_2 c.head) (or_else (fault_3 c.head) (or_else (fault_4 c.head) (later_faults c.head (fault_8 c) (fault_9 c)))))

all_faults_are : (c : Certificate) → first_rule c ≡ all_faults c
unfolding all_faults fault_2 fault_3 fault_4 later_faults fault_8 fault_9
all_faults_are c = refl

-- where the first of two answers says nothing, the second decides
same_then : {A : Type 0} (x y r s : Option A) → x ≡ y → (y ≡ None → r ≡ s) → or_else x r ≡ or_else y s
same_then (Some x) (Some y) r s e later = e
same_then (Some x) None r s e later = absurd cc
same_then None (Some y) r s e later = absurd cc
same_then None None r s e later = later refl

module _ (h : Head) (nodes : node_count h.network ≤ widest) (links : link_count h.network ≤ widest) where
  fault_2_kept : fault_2 (keep_head h) ≡ fault_2 h
  unfolding fault_2
  fault_2_kept = rule_same 2 (length (map keep_link h.network.links)) (link_count h.network) (is_sound_link (keep_network h.network)) (is_sound_link h.network)
      (length-map h.network.links keep_link) (λ k lt. sound_link_kept h.network k nodes)

  fault_3_kept : fault_3 (keep_head h) ≡ fault_3 h
  unfolding fault_3
  fault_3_kept = rule_same 3 (length (map keep_pair h.routes)) (length h.routes) (is_sound_pair (keep_head h)) (is_sound_pair h)
      (length-map h.routes keep_pair) (λ k lt. sound_pair_kept h k nodes)

  links_sound : fault_2 h ≡ None → (k : ℕ) → k < link_count h.network → is_sound_link h.network k ≡ true
  unfolding fault_2
  links_sound none k lt = first_failing_none_at (link_count h.network) (is_sound_link h.network) (fault_at 2) k none lt

  pairs_sound : fault_3 h ≡ None → (k : ℕ) → k < length h.routes → is_sound_pair h k ≡ true
  unfolding fault_3
  pairs_sound none k lt = first_failing_none_at (length h.routes) (is_sound_pair h) (fault_at 3) k none lt

  paths_sound : fault_4 h ≡ None → (k : ℕ) → k < length h.routes → has_sound_paths h k ≡ true
  unfolding fault_4
  paths_sound none k lt = first_failing_none_at (length h.routes) (has_sound_paths h) (fault_at 4) k none lt

  fault_4_kept : fault_2 h ≡ None → fault_3 h ≡ None → fault_4 (keep_head h) ≡ fault_4 h
  unfolding fault_4
  fault_4_kept two three = rule_same 4 (length (map keep_pair h.routes)) (length h.routes) (has_sound_paths (keep_head h)) (has_sound_paths h)
      (length-map h.routes keep_pair)
      (λ k lt. sound_paths_kept h k links (network_whole h.network nodes (links_sound two)) (pair_whole h k nodes (pairs_sound three k lt)))

  head_whole : fault_2 h ≡ None → fault_3 h ≡ None → fault_4 h ≡ None → keep_head h ≡ h
  head_whole two three four =
      made h (keep_network h.network) (map keep_pair h.routes) (network_whole h.network nodes (links_sound two)) (routes_whole h nodes links (pairs_sound three) (paths_sound four))
    where
      made : (h : Head) (net : Network) (routes : List PairRoutes) → net ≡ h.network → routes ≡ h.routes → ◌≡◌ {A = Head} (record { format = h.format; network = net; routes = routes; set = h.set; ratio = h.ratio }) h
      made h net routes e f = rw (e, f) refl

  fault_8_kept : (blocks : List Block) → fault_8 (record { head = h; blocks = map keep_block blocks }) ≡ fault_8 (record { head = h; blocks = blocks })
  unfolding fault_8
  fault_8_kept blocks =
      let kept_blocks : Certificate = record { head = h; blocks = map keep_block blocks } in
      let raw : Certificate = record { head = h; blocks = blocks } in
      rule_same 8 (1 + length (map keep_block blocks)) (1 + length blocks) (with_first (has_ratio h) (sound_at kept_blocks)) (with_first (has_ratio h) (sound_at raw))
      (ap (λ (n : ℕ). 1 + n) (length-map blocks keep_block)) each
    where
      each : (k : ℕ) → k < 1 + length blocks → with_first (has_ratio h) (sound_at (record { head = h; blocks = map keep_block blocks })) k ≡ with_first (has_ratio h) (sound_at (record { head = h; blocks = blocks })) k
      each zero lt = refl
      each (suc k) lt =
          ap (λ (b : Block). is_sound_block h.network (link_before (map keep_block blocks) k) b) (blocks_kept blocks k)
          ∙ sound_block_kept h.network blocks k links

  fault_9_kept : (blocks : List Block) → fault_9 (record { head = h; blocks = map keep_block blocks }) ≡ fault_9 (record { head = h; blocks = blocks })
  unfolding fault_9
  fault_9_kept blocks = rule_same 9 (length (map keep_block blocks)) (length blocks) (small_at (record { head = h; blocks = map keep_block blocks })) (small_at (record { head = h; blocks = blocks }))
      (length-map blocks keep_block)
      (λ k lt. ap (λ (b : Block). has_small_numbers h.network b) (blocks_kept blocks k) ∙ small_numbers_kept h.network (block_at blocks k) nodes)

  later_kept : (blocks : List Block) → keep_head h ≡ h
      → later_faults (keep_head h) (fault_8 (record { head = keep_head h; blocks = map keep_block blocks })) (fault_9 (record { head = keep_head h; blocks = map keep_block blocks }))
      ≡ later_faults h (fault_8 (record { head = h; blocks = blocks })) (fault_9 (record { head = h; blocks = blocks }))
  later_kept blocks whole =
      ap (λ (i : Head). later_faults i (fault_8 (record { head = i; blocks = map keep_block blocks })) (fault_9 (record { head = i; blocks = map keep_block blocks }))) whole
      ∙ ap (λ (x : Option RuleFault). later_faults h x (fault_9 (record { head = h; blocks = map keep_block blocks }))) (fault_8_kept blocks)
      ∙ ap (λ (x : Option RuleFault). later_faults h (fault_8 (record { head = h; blocks = blocks })) x) (fault_9_kept blocks)

  all_faults_kept : (blocks : List Block) → all_faults (record { head = keep_head h; blocks = map keep_block blocks }) ≡ all_faults (record { head = h; blocks = blocks })
  unfolding all_faults
  all_faults_kept blocks =
      let raw : Certificate = record { head = h; blocks = blocks } in
      let wide : Certificate = record { head = keep_head h; blocks = map keep_block blocks } in
      let after : Option RuleFault = later_faults (keep_head h) (fault_8 wide) (fault_9 wide) in
      let due : Option RuleFault = later_faults h (fault_8 raw) (fault_9 raw) in
      ap (λ (r : Option RuleFault). or_else (rule_fault 1 (node_count h.network) (is_new_name h.network)) r)
      (same_then (fault_2 (keep_head h)) (fault_2 h) (or_else (fault_3 (keep_head h)) (or_else (fault_4 (keep_head h)) after)) (or_else (fault_3 h) (or_else (fault_4 h) due)) fault_2_kept
      (λ two. same_then (fault_3 (keep_head h)) (fault_3 h) (or_else (fault_4 (keep_head h)) after) (or_else (fault_4 h) due) fault_3_kept
      (λ three. same_then (fault_4 (keep_head h)) (fault_4 h) after due (fault_4_kept two three)
      (λ four. later_kept blocks (head_whole two three four)))))

few_nodes : (c : Certificate) → FitsFormat c → node_count c.head.network ≤ widest
few_nodes c fits = either (eqb c.head.format 2) fits.head.network.nodes
  where
    either : (t : Bool) → is_count 2 (cond t FORMAT_2 FORMAT_1).nodes (node_count c.head.network) ≡ true → node_count c.head.network ≤ widest
    either true within = let few : node_count c.head.network ≤ FORMAT_2.nodes = grind (arith, nat_tests) in omega arith
    either false within = let few : node_count c.head.network ≤ FORMAT_1.nodes = grind (arith, nat_tests) in omega arith

few_links : (c : Certificate) → FitsFormat c → link_count c.head.network ≤ widest
few_links c fits = either (eqb c.head.format 2) fits.head.network.links
  where
    either : (t : Bool) → is_count 1 (cond t FORMAT_2 FORMAT_1).links (link_count c.head.network) ≡ true → link_count c.head.network ≤ widest
    either true within = let few : link_count c.head.network ≤ FORMAT_2.links = grind (arith, nat_tests) in omega arith
    either false within = let few : link_count c.head.network ≤ FORMAT_1.links = grind (arith, nat_tests) in omega arith

-- what is kept of a certificate fails first where the certificate does
pub first_rule_kept : (c : Certificate) → FitsFormat c → first_rule (keep_certificate c) ≡ first_rule c
first_rule_kept c fits =
    all_faults_are (keep_certificate c) ∙ all_faults_kept c.head (few_nodes c fits) (few_links c fits) c.blocks ∙ sym (all_faults_are c)

-- the rules one by one, where none fails
none_fails : (c : Certificate) → all_faults c ≡ None → (fault_2 c.head ≡ None) × (fault_3 c.head ≡ None) × (fault_4 c.head ≡ None) × (fault_8 c ≡ None) × (fault_9 c ≡ None)
unfolding all_faults later_faults
none_fails c none =
    let h = c.head in
    let a = or_else_none _ _ none in
    let b = or_else_none (fault_2 h) _ a.1 in
    let d = or_else_none (fault_3 h) _ b.1 in
    let e = or_else_none (fault_4 h) _ d.1 in
    let f = or_else_none (rule_fault 5 (length h.routes) (has_ascending_paths h)) _ e.1 in
    let g = or_else_none (rule_fault 6 (length h.routes) (has_whole_weight h)) _ f.1 in
    let i = or_else_none (rule_fault 7 (1 + length h.routes) (with_first (has_margin_numbers h.set) (has_pair_bounds h.set))) _ g.1 in
    let j = or_else_none (fault_8 c) _ i.1 in
    (b.0, d.0, e.0, j.0, (or_else_none (fault_9 c) None j.1).0)

blocks_sound : (c : Certificate) → fault_8 c ≡ None → (k : ℕ) → k < length c.blocks → sound_at c k ≡ true
unfolding fault_8
blocks_sound c none k lt = first_failing_none_at (1 + length c.blocks) (with_first (has_ratio c.head) (sound_at c)) (fault_at 8) (suc k) none (omega arith)

blocks_small : (c : Certificate) → fault_9 c ≡ None → (k : ℕ) → k < length c.blocks → small_at c k ≡ true
unfolding fault_9
blocks_small c none k lt = first_failing_none_at (length c.blocks) (small_at c) (fault_at 9) k none lt

-- a valid certificate is kept as it is
pub valid_kept : (c : Certificate) → FitsFormat c → first_rule c ≡ None → keep_certificate c ≡ c
valid_kept c fits valid =
    let none = none_fails c (sym (all_faults_are c) ∙ valid) in
    let nodes = few_nodes c fits in
    let links = few_links c fits in
    let head : keep_head c.head ≡ c.head = head_whole c.head nodes links none.0 none.1 none.2 in
    let blocks : map keep_block c.blocks ≡ c.blocks =
    map_whole keep_block c.blocks (empty_block 0)
    (λ k lt. block_whole c.head.network (link_before c.blocks k) (block_at c.blocks k) nodes links (blocks_sound c none.3 k lt) (blocks_small c none.4 k lt)) in
    made (keep_head c.head) (map keep_block c.blocks) head blocks
  where
    made : (h : Head) (bs : List Block) → h ≡ c.head → bs ≡ c.blocks → ◌≡◌ {A = Certificate} (record { head = h; blocks = bs }) c
    made h bs e f = rw (e, f) refl
