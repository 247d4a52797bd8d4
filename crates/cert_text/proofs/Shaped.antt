-- What te_model's test of shape says, piece by piece: a certificate is rightly shaped exactly where it fits its format.
use Rattle.std.proofs.Common.{◌≡◌, ℕ, ◌^◌, ◌⊎◌, Bool, true, false, ◌&&◌, cond, List, [], ◌∷◌, length, refl, sym, ap, subst, ◌∙◌, inl, inr, eqb, eq-eqb}
use Rattle.std.specs.List.{list_all, AllByRecursion}
use Rattle.std.proofs.lemmas.Bool.{ltb-true, lt-ltb, eqb-true}
use Rattle.std.proofs.lemmas.List.{nil_from_length}
use Rattle.te_model.specs.declared.limits.Limits.{Limits}
use Rattle.te_model.specs.declared.limits.TheConstants.{FORMAT_1, FORMAT_2}
use Rattle.te_model.specs.Formats.{limits_of}
use Rattle.te_model.specs.declared.network.Link.{Link}
use Rattle.te_model.specs.declared.network.Network.{Network}
use Rattle.te_model.specs.declared.route.PathShare.{PathShare}
use Rattle.te_model.specs.declared.route.PairRoutes.{PairRoutes}
use Rattle.te_model.specs.declared.demand.DemandSet.{DemandSet}
use Rattle.te_model.specs.declared.demand.DemandSet.TheVariants.{All, Margin, Box}
use Rattle.te_model.specs.declared.certificate.Row.{Row}
use Rattle.te_model.specs.declared.certificate.Block.{Block}
use Rattle.te_model.specs.declared.certificate.Head.{Head}
use Rattle.te_model.specs.declared.certificate.Certificate.{Certificate}
use Rattle.te_model.specs.Network.{node_count, link_count, is_name}
use Rattle.te_model.specs.Shape.{is_count, is_word, are_words, is_row_of, is_shaped_link, is_shaped_network, is_shaped_path, is_shaped_pair, is_shaped_set, is_shaped_head, is_shaped_row, has_one_each, is_shaped_block, is_shaped}
use Rattle.te_model.proofs.Tests.{and_true, and_three}
use Rattle.cert_text.specs.Grammar.{counts_of, has_boxes, has_bounds}
use Rattle.cert_text.specs.Fits.{IsWord, AreWords, IsNamed, FitsLink, FitsNetwork, FitsPath, FitsPair, FitsList, FitsSet, FitsHead, FitsRow, FitsSides, FitsBlock, FitsFormat}

-- ---- tests of several parts

and_four : (a b c d : Bool) → (a && b && c && d) ≡ true → (a ≡ true) × (b ≡ true) × (c ≡ true) × (d ≡ true)
and_four a b c d e = let f = and_true (a && b && c) d e in let g = and_three a b c f.0 in (g.0, g.1, g.2, f.1)

all_of : {X : Type 0} (test : X → Bool) (P : X → Type 0) → ((x : X) → test x ≡ true → P x) → (xs : List X) → list_all test xs ≡ true → AllByRecursion P xs
all_of test P each [] all = tt
all_of test P each (x ∷ xs) all = let both = and_true (test x) (list_all test xs) all in (each x both.0, all_of test P each xs both.1)

test_all : {X : Type 0} (test : X → Bool) (P : X → Type 0) → ((x : X) → P x → test x ≡ true) → (xs : List X) → AllByRecursion P xs → list_all test xs ≡ true
test_all test P each [] all = refl
test_all test P each (x ∷ xs) all = rw (each x all.0) (test_all test P each xs all.1)

-- ---- numbers

word_of : (n : ℕ) → is_word n ≡ true → IsWord n
word_of n e = ltb-true n (2 ^ 64) e

test_word : (n : ℕ) → IsWord n → is_word n ≡ true
test_word n small = lt-ltb n (2 ^ 64) small

pub words_of : (ns : List ℕ) → are_words ns ≡ true → AreWords ns
words_of ns e = all_of is_word IsWord word_of ns e

pub test_words : (ns : List ℕ) → AreWords ns → are_words ns ≡ true
test_words ns all = test_all is_word IsWord test_word ns all

list_of : (n : ℕ) (ns : List ℕ) → is_row_of n ns ≡ true → FitsList n ns
list_of n ns e = let f = and_true (eqb (length ns) n) (are_words ns) e in record { count = eqb-true (length ns) n f.0; words = words_of ns f.1 }

test_list : (n : ℕ) (ns : List ℕ) → FitsList n ns → is_row_of n ns ≡ true
test_list n ns fits = rw (eq-eqb (length ns) n fits.count, test_words ns fits.words) refl

-- ---- the network and the routes

link_of : (l : Link) → is_shaped_link l ≡ true → FitsLink l
link_of l e =
    let f = and_four (is_word l.tail) (is_word l.head) (is_word l.capacity) (is_word l.cost) e in
    record { tail = word_of l.tail f.0; head = word_of l.head f.1; capacity = word_of l.capacity f.2; cost = word_of l.cost f.3 }

test_link : (l : Link) → FitsLink l → is_shaped_link l ≡ true
test_link l fits = rw (test_word l.tail fits.tail, test_word l.head fits.head, test_word l.capacity fits.capacity, test_word l.cost fits.cost) refl

network_of : (limits : Limits) (net : Network) → is_shaped_network limits net ≡ true → FitsNetwork limits net
network_of limits net e =
    let f = and_four (is_count 2 limits.nodes (node_count net)) (list_all is_name net.names) (is_count 1 limits.links (link_count net)) (list_all is_shaped_link net.links) e in
    record { nodes = f.0; names = all_of is_name IsNamed (λ n h. h) net.names f.1; links = f.2; each_link = all_of is_shaped_link FitsLink link_of net.links f.3 }

test_network : (limits : Limits) (net : Network) → FitsNetwork limits net → is_shaped_network limits net ≡ true
test_network limits net fits =
    rw (fits.nodes, test_all is_name IsNamed (λ n h. h) net.names fits.names, fits.links, test_all is_shaped_link FitsLink test_link net.links fits.each_link) refl

path_of : (limits : Limits) (s : PathShare) → is_shaped_path limits s ≡ true → FitsPath limits s
path_of limits s e =
    let f = and_three (is_word s.weight) (is_count 1 limits.hops (length s.links)) (are_words s.links) e in
    record { weight = word_of s.weight f.0; hops = f.1; links = words_of s.links f.2 }

test_path : (limits : Limits) (s : PathShare) → FitsPath limits s → is_shaped_path limits s ≡ true
test_path limits s fits = rw (test_word s.weight fits.weight, fits.hops, test_words s.links fits.links) refl

pair_of : (limits : Limits) (r : PairRoutes) → is_shaped_pair limits r ≡ true → FitsPair limits r
pair_of limits r e =
    let f = and_four (is_word r.pair.src) (is_word r.pair.dst) (is_count 1 limits.paths (length r.paths)) (list_all (is_shaped_path limits) r.paths) e in
    record { src = word_of r.pair.src f.0; dst = word_of r.pair.dst f.1; paths = f.2; each_path = all_of (is_shaped_path limits) (FitsPath limits) (path_of limits) r.paths f.3 }

test_pair : (limits : Limits) (r : PairRoutes) → FitsPair limits r → is_shaped_pair limits r ≡ true
test_pair limits r fits =
    rw (test_word r.pair.src fits.src, test_word r.pair.dst fits.dst, fits.paths, test_all (is_shaped_path limits) (FitsPath limits) (test_path limits) r.paths fits.each_path) refl

-- a format's number is 1 or 2
number_of_format : (f : ℕ) → f ≡ (limits_of f).format → (f ≡ 1) ⊎ (f ≡ 2)
number_of_format f known = either (eqb f 2) known
  where
    either : (t : Bool) → f ≡ (cond t FORMAT_2 FORMAT_1).format → (f ≡ 1) ⊎ (f ≡ 2)
    either true is = inr is
    either false is = inl is

set_of : (limits : Limits) (pairs : ℕ) (s : DemandSet) → is_shaped_set limits pairs s ≡ true → FitsSet limits pairs s
set_of limits pairs All e = tt
set_of limits pairs (Margin num den base) e =
    let f = and_four (eqb limits.format 1) (is_word num) (is_word den) (is_row_of pairs base.demand) e in
    let first : limits.format ≡ 1 = eqb-true limits.format 1 f.0 in
    (ap (λ (n : ℕ). eqb n 2) first, word_of num f.1, word_of den f.2, list_of pairs base.demand f.3)
set_of limits pairs (Box lower upper) e =
    let f = and_three (has_boxes limits) (is_row_of pairs lower.demand) (is_row_of pairs upper.demand) e in
    (f.0, list_of pairs lower.demand f.1, list_of pairs upper.demand f.2)

test_set : (limits : Limits) (pairs : ℕ) (s : DemandSet) → (limits.format ≡ 1) ⊎ (limits.format ≡ 2) → FitsSet limits pairs s → is_shaped_set limits pairs s ≡ true
test_set limits pairs All known fits = refl
test_set limits pairs (Margin num den base) (inl first) fits = rw (eq-eqb limits.format 1 first, test_word num fits.1, test_word den fits.2, test_list pairs base.demand fits.3) refl
test_set limits pairs (Margin num den base) (inr second) fits = absurd (let no : true ≡ false = sym (eq-eqb limits.format 2 second) ∙ fits.0 in cc)
test_set limits pairs (Box lower upper) known fits = rw (fits.0, test_list pairs lower.demand fits.1, test_list pairs upper.demand fits.2) refl

head_of : (limits : Limits) (h : Head) → is_shaped_head limits h ≡ true → FitsHead limits h
head_of limits h e =
    let format = eqb h.format limits.format in
    let net = is_shaped_network limits h.network in
    let pairs = is_count 0 limits.pairs (length h.routes) in
    let each = list_all (is_shaped_pair limits) h.routes in
    let set = is_shaped_set limits (length h.routes) h.set in
    let f = and_three (format && net && pairs && each) set (is_word h.ratio) e in
    let g = and_four format net pairs each f.0 in
    record {
      format = eqb-true h.format limits.format g.0;
      network = network_of limits h.network g.1;
      routes = record { pairs = g.2; each_pair = all_of (is_shaped_pair limits) (FitsPair limits) (pair_of limits) h.routes g.3 };
      set = set_of limits (length h.routes) h.set f.1;
      ratio = word_of h.ratio f.2;
    }

test_head : (limits : Limits) (h : Head) → (limits.format ≡ 1) ⊎ (limits.format ≡ 2) → FitsHead limits h → is_shaped_head limits h ≡ true
test_head limits h known fits =
    rw (
      eq-eqb h.format limits.format fits.format,
      test_network limits h.network fits.network,
      fits.routes.pairs,
      test_all (is_shaped_pair limits) (FitsPair limits) (test_pair limits) h.routes fits.routes.each_pair,
      test_set limits (length h.routes) h.set known fits.set,
      test_word h.ratio fits.ratio,
    ) refl

-- ---- blocks

row_of : (nodes : ℕ) (r : Row) → is_shaped_row nodes r ≡ true → FitsRow nodes r
row_of nodes r e = let f = and_true (is_word r.source) (is_row_of nodes r.potential) e in record { source = word_of r.source f.0; potential = list_of nodes r.potential f.1 }

test_row : (nodes : ℕ) (r : Row) → FitsRow nodes r → is_shaped_row nodes r ≡ true
test_row nodes r fits = rw (test_word r.source fits.source, test_list nodes r.potential fits.potential) refl

sides_of : (s : DemandSet) (pairs : ℕ) (plus minus : List ℕ) → has_one_each s pairs plus ≡ true → has_one_each s pairs minus ≡ true → FitsSides (has_bounds s) pairs plus minus
sides_of All pairs plus minus p m = (nil_from_length plus (eqb-true (length plus) 0 p), nil_from_length minus (eqb-true (length minus) 0 m))
sides_of (Margin num den base) pairs plus minus p m = (list_of pairs plus p, list_of pairs minus m)
sides_of (Box lower upper) pairs plus minus p m = (list_of pairs plus p, list_of pairs minus m)

test_plus : (s : DemandSet) (pairs : ℕ) (plus minus : List ℕ) → FitsSides (has_bounds s) pairs plus minus → has_one_each s pairs plus ≡ true
test_plus All pairs plus minus fits = rw fits.0 refl
test_plus (Margin num den base) pairs plus minus fits = test_list pairs plus fits.0
test_plus (Box lower upper) pairs plus minus fits = test_list pairs plus fits.0

test_minus : (s : DemandSet) (pairs : ℕ) (plus minus : List ℕ) → FitsSides (has_bounds s) pairs plus minus → has_one_each s pairs minus ≡ true
test_minus All pairs plus minus fits = rw fits.1 refl
test_minus (Margin num den base) pairs plus minus fits = test_list pairs minus fits.1
test_minus (Box lower upper) pairs plus minus fits = test_list pairs minus fits.1

block_of : (limits : Limits) (h : Head) (b : Block) → is_shaped_block limits h b ≡ true → FitsBlock limits (counts_of h) b
block_of limits h b e =
    let link = is_word b.link in
    let a = is_word b.a in
    let low = is_word b.b in
    let weights = is_row_of (link_count h.network) b.weights in
    let count = is_count 0 limits.nodes (length b.rows) in
    let rows = list_all (is_shaped_row (node_count h.network)) b.rows in
    let plus = has_one_each h.set (length h.routes) b.plus in
    let minus = has_one_each h.set (length h.routes) b.minus in
    let f = and_true (link && a && low && weights && count && rows && plus) minus e in
    let g = and_four (link && a && low && weights) count rows plus f.0 in
    let i = and_four link a low weights g.0 in
    record {
      link = word_of b.link i.0;
      a = word_of b.a i.1;
      b = word_of b.b i.2;
      count = g.1;
      weights = list_of (link_count h.network) b.weights i.3;
      rows = all_of (is_shaped_row (node_count h.network)) (FitsRow (node_count h.network)) (row_of (node_count h.network)) b.rows g.2;
      sides = sides_of h.set (length h.routes) b.plus b.minus g.3 f.1;
    }

test_block : (limits : Limits) (h : Head) (b : Block) → FitsBlock limits (counts_of h) b → is_shaped_block limits h b ≡ true
test_block limits h b fits =
    rw (
      test_word b.link fits.link,
      test_word b.a fits.a,
      test_word b.b fits.b,
      test_list (link_count h.network) b.weights fits.weights,
      fits.count,
      test_all (is_shaped_row (node_count h.network)) (FitsRow (node_count h.network)) (test_row (node_count h.network)) b.rows fits.rows,
      test_plus h.set (length h.routes) b.plus b.minus fits.sides,
      test_minus h.set (length h.routes) b.plus b.minus fits.sides,
    ) refl

pub shaped_fits : (c : Certificate) → is_shaped (limits_of c.head.format) c ≡ true → FitsFormat c
shaped_fits c e =
    let limits = limits_of c.head.format in
    let f = and_three (is_shaped_head limits c.head) (is_count 0 limits.links (length c.blocks)) (list_all (is_shaped_block limits c.head) c.blocks) e in
    record { head = head_of limits c.head f.0; count = f.1; blocks = all_of (is_shaped_block limits c.head) (FitsBlock limits (counts_of c.head)) (block_of limits c.head) c.blocks f.2 }

pub fits_shaped : (c : Certificate) → FitsFormat c → is_shaped (limits_of c.head.format) c ≡ true
fits_shaped c fits =
    let limits = limits_of c.head.format in
    let known : (limits.format ≡ 1) ⊎ (limits.format ≡ 2) = subst (λ (f : ℕ). (f ≡ 1) ⊎ (f ≡ 2)) fits.head.format (number_of_format c.head.format fits.head.format) in
    rw (test_head limits c.head known fits.head, fits.count, test_all (is_shaped_block limits c.head) (FitsBlock limits (counts_of c.head)) (test_block limits c.head) c.blocks fits.blocks) refl
