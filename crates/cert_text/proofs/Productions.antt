-- The productions of the grammar: what each takes is its text, and its text is read again.
use Rattle.std.proofs.Common.{◌≡◌, ℕ, ◌+◌, ◌≤◌, Bool, true, false, cond, List, [], ◌∷◌, ◌++◌, length, map, Ok, refl, sym, ap, subst, ◌∙◌, arith, lit<, eqb, get_or, append_assoc}
use Rattle.std.proofs.lemmas.List.{append-nil}
use Rattle.std.specs.Prelude.{codes}
use Rattle.std.specs.Fmt.{decimal}
use Rattle.std.specs.List.{flat_map, join_with_byte}
use Rattle.std.proofs.lemmas.Bool.Decides.{nat_tests}
use Rattle.std.proofs.lemmas.Fmt.{decimal_digit}
use Rattle.std.proofs.lemmas.List.Concat.{flat_map-append}
use Rattle.te_model.specs.declared.network.Link.{Link}
use Rattle.te_model.specs.declared.network.Network.{Network}
use Rattle.te_model.specs.declared.route.PathShare.{PathShare}
use Rattle.te_model.specs.declared.route.PairRoutes.{PairRoutes}
use Rattle.te_model.specs.declared.certificate.Row.{Row}
use Rattle.te_model.specs.declared.demand.DemandSet.{DemandSet}
use Rattle.te_model.specs.declared.demand.DemandSet.TheVariants.{All, Margin, Box}
use Rattle.te_model.specs.Text.{numbers, words, link_line, path_line}
use Rattle.te_model.specs.declared.limits.Limits.{Limits}
use Rattle.te_model.specs.declared.limits.TheConstants.{FORMAT_1, FORMAT_2}
use Rattle.te_model.specs.Formats.{limits_of}
use Rattle.cert_text.specs.Place.{Place, place, ◌>>=◌}
use Rattle.cert_text.specs.Reading.{read_byte, read_word, read_line_end, read_number, read_count, read_narrow, read_next_number, read_next_narrow, read_next_count, read_many, read_name}
use Rattle.cert_text.specs.Grammar.{read_counted, read_listing, read_name_line, read_link_line, read_network, read_path, read_pair, read_routes, read_row, read_ratio, read_all, read_margin, read_box, has_boxes, read_bounds, read_set, read_digit, read_format}
use Rattle.cert_text.specs.Fits.{IsWord, IsNamed, FitsLink, FitsNetwork, FitsPath, FitsPair, FitsRoutes, FitsList, FitsRow, FitsSet}
use Rattle.cert_text.specs.Pieces.{with_space, with_line_end, counted_text, listing_text, link_text, path_text, pair_text, network_text, row_text, routes_text, set_text, format_text}
use Rattle.cert_text.proofs.Decimals.{bind_ok, ok_is, name_takes, name_again, number_again, begins_with_digit}
use Rattle.cert_text.proofs.Tokens.{exact, byte_takes, word_takes, word_again, line_end_takes, line_end_again, Took, word_takes_number, narrow_takes, narrow_again, IsCount, count_takes, count_again, next_number_takes, next_number_again, next_narrow_takes, next_narrow_again, next_count_takes, next_count_again, many_takes, Again, many_again}

-- limits below 2 ^ 64 that leave something
pub record HasRoom (limits : Limits) : Type 0 where
  pub nodes : IsWord limits.nodes
  pub links : IsWord limits.links
  pub pairs : IsWord limits.pairs
  pub paths : IsWord limits.paths
  pub hops : IsWord limits.hops
  pub some_nodes : IsCount 2 limits.nodes 2
  pub some_links : IsCount 1 limits.links 1
  pub some_paths : IsCount 1 limits.paths 1
  pub some_hops : IsCount 1 limits.hops 1

-- either format has room
pub room_of : (format : ℕ) → HasRoom (limits_of format)
room_of format = either (eqb format 2)
  where
    either : (t : Bool) → HasRoom (cond t FORMAT_2 FORMAT_1)
    either true = record { nodes = lit< tt; links = lit< tt; pairs = lit< tt; paths = lit< tt; hops = lit< tt; some_nodes = refl; some_links = refl; some_paths = refl; some_hops = refl }
    either false = record { nodes = lit< tt; links = lit< tt; pairs = lit< tt; paths = lit< tt; hops = lit< tt; some_nodes = refl; some_links = refl; some_paths = refl; some_hops = refl }

pub count_word : (low high n : ℕ) → IsCount low high n → IsWord high → IsWord n
count_word low high n within room = let le : n ≤ high = grind (arith, nat_tests) in omega arith

pub spaced_stop : (xs : List ℕ) (r : List ℕ) → begins_with_digit r ≡ false → begins_with_digit (flat_map with_space xs ++ r) ≡ false
spaced_stop [] r stop = stop
spaced_stop (x ∷ xs) r stop = refl

-- a word and numbers joined by spaces
pub joined : (w : List ℕ) (xs : List ℕ) → join_with_byte 32 (w ∷ map decimal xs) ≡ w ++ flat_map with_space xs
joined w [] = sym (append-nil w)
joined w (x ∷ xs) = ap (λ (r : List ℕ). w ++ (32 ∷ r)) (joined (decimal x) xs)

pub regroup_four : (a b c d r : List ℕ) → (a ++ (b ++ (c ++ d))) ++ r ≡ a ++ (b ++ (c ++ (d ++ r)))
regroup_four a b c d r = simp append_assoc

pub flat_map_map : {X Y Z : Type 0} (f : Y → List Z) (g : X → Y) (xs : List X) → flat_map f (map g xs) ≡ flat_map (λ x. f (g x)) xs
flat_map_map f g [] = refl
flat_map_map f g (x ∷ xs) = ap (λ r. f (g x) ++ r) (flat_map_map f g xs)

pub flat_map_flat_map : {X Y Z : Type 0} (f : Y → List Z) (g : X → List Y) (xs : List X) → flat_map f (flat_map g xs) ≡ flat_map (λ x. flat_map f (g x)) xs
flat_map_flat_map f g [] = refl
flat_map_flat_map f g (x ∷ xs) = flat_map-append f (g x) (flat_map g xs) ∙ ap (λ r. flat_map f (g x) ++ r) (flat_map_flat_map f g xs)

counted_at_text : (word : List ℕ) (low high : ℕ) (x : ℕ) (r : List ℕ) → (counted_text word) x ++ r ≡ word ++ (decimal x ++ ((10 ∷ []) ++ r))
counted_at_text word low high x r = simp append_assoc

pub counted_takes : (word : List ℕ) (low high : ℕ) (p : Place) (x : ℕ) (q : Place) → read_counted word low high p ≡ Ok (x, q) → Took ((counted_text word)) ((IsCount low high)) p x q
unfolding read_counted
counted_takes word low high p x q e =
    let s0 = bind_ok (read_word word p) (λ z0. read_count low high z0 >>= λ n. read_line_end n.1 >>= λ z2. Ok (n.0, z2)) (x, q) e in
    let t0 = word_takes word p s0.0 s0.1 in
    let s1 = bind_ok (read_count low high s0.0) (λ n. read_line_end n.1 >>= λ z2. Ok (n.0, z2)) (x, q) s0.2 in
    let t1 = count_takes low high s0.0 s1.0.0 s1.0.1 s1.1 in
    let s2 = bind_ok (read_line_end s1.0.1) (λ z2. Ok (s1.0.0, z2)) (x, q) s1.2 in
    let t2 = line_end_takes s1.0.1 s2.0 s2.1 in
    let made : ℕ = s1.0.0 in
    let whole : p.rest ≡ (counted_text word) made ++ s2.0.rest = (t0 ∙ ap (λ (r : List ℕ). word ++ r) (t1.parts ∙ ap (λ (r : List ℕ). decimal s1.0.0 ++ r) (t2))) ∙ sym (counted_at_text word low high made s2.0.rest) in
    subst (λ (y : ℕ × Place). Took ((counted_text word)) ((IsCount low high)) p y.0 y.1) (ok_is {A = ℕ × Place} (made, s2.0) (x, q) s2.2)
    (record { parts = whole; good = t1.good })

pub counted_again : (word : List ℕ) (low high : ℕ) (above : IsWord high) (x : ℕ) (k : ℕ) (r : List ℕ) → (IsCount low high) x → Again (read_counted word low high) ((counted_text word) x) x r k
unfolding read_counted
counted_again word low high above x k r fits =
    let a0 = word_again word k (decimal x ++ ((10 ∷ []) ++ r)) in
    let a1 = count_again low high k x ((10 ∷ []) ++ r) fits (count_word low high x fits above) refl in
    let a2 = line_end_again k (r) in
    ((k + 1), ap (λ (bs : List ℕ). read_counted word low high (place k bs)) (counted_at_text word low high x r) ∙ rw (a0, a1) refl)

listing_at_text : (word : List ℕ) (n : ℕ) (x : List ℕ) (r : List ℕ) → (listing_text word) x ++ r ≡ word ++ (flat_map with_space x ++ ((10 ∷ []) ++ r))
listing_at_text word n x r = simp append_assoc

pub listing_takes : (word : List ℕ) (n : ℕ) (p : Place) (x : List ℕ) (q : Place) → read_listing word n p ≡ Ok (x, q) → Took ((listing_text word)) ((FitsList n)) p x q
unfolding read_listing
listing_takes word n p x q e =
    let s0 = bind_ok (read_word word p) (λ z0. read_many n read_next_number z0 >>= λ xs. read_line_end xs.1 >>= λ z2. Ok (xs.0, z2)) (x, q) e in
    let t0 = word_takes word p s0.0 s0.1 in
    let s1 = bind_ok (read_many n read_next_number s0.0) (λ xs. read_line_end xs.1 >>= λ z2. Ok (xs.0, z2)) (x, q) s0.2 in
    let t1 = many_takes (read_next_number) with_space IsWord next_number_takes n s0.0 s1.0.0 s1.0.1 s1.1 in
    let s2 = bind_ok (read_line_end s1.0.1) (λ z2. Ok (s1.0.0, z2)) (x, q) s1.2 in
    let t2 = line_end_takes s1.0.1 s2.0 s2.1 in
    let made : List ℕ = s1.0.0 in
    let whole : p.rest ≡ (listing_text word) made ++ s2.0.rest = (t0 ∙ ap (λ (r : List ℕ). word ++ r) (t1.0 ∙ ap (λ (r : List ℕ). flat_map with_space s1.0.0 ++ r) (t2))) ∙ sym (listing_at_text word n made s2.0.rest) in
    subst (λ (y : List ℕ × Place). Took ((listing_text word)) ((FitsList n)) p y.0 y.1) (ok_is {A = List ℕ × Place} (made, s2.0) (x, q) s2.2)
    (record { parts = whole; good = record { count = t1.1; words = t1.2 } })

pub listing_again : (word : List ℕ) (n : ℕ) (x : List ℕ) (k : ℕ) (r : List ℕ) → (FitsList n) x → Again (read_listing word n) ((listing_text word) x) x r k
unfolding read_listing
listing_again word n x k r fits =
    let a0 = word_again word k (flat_map with_space x ++ ((10 ∷ []) ++ r)) in
    let a1 = many_again (read_next_number) with_space IsWord (λ r. begins_with_digit r ≡ false) (λ x r. refl) (λ x k r f s. (k, next_number_again k x r f s)) x k ((10 ∷ []) ++ r) fits.words refl in
    let a2 = line_end_again a1.0 (r) in
    ((a1.0 + 1), ap (λ (bs : List ℕ). read_listing word n (place k bs)) (listing_at_text word n x r) ∙ rw (← fits.count, a0, a1.1) refl)

name_line_at_text : (x : List ℕ) (r : List ℕ) → with_line_end x ++ r ≡ x ++ ((10 ∷ []) ++ r)
name_line_at_text x r = simp append_assoc

pub name_line_takes : (p : Place) (x : List ℕ) (q : Place) → read_name_line p ≡ Ok (x, q) → Took with_line_end IsNamed p x q
unfolding read_name_line
name_line_takes p x q e =
    let s0 = bind_ok (read_name p) (λ n. read_line_end n.1 >>= λ z1. Ok (n.0, z1)) (x, q) e in
    let t0 = name_takes p s0.0.0 s0.0.1 s0.1 in
    let s1 = bind_ok (read_line_end s0.0.1) (λ z1. Ok (s0.0.0, z1)) (x, q) s0.2 in
    let t1 = line_end_takes s0.0.1 s1.0 s1.1 in
    let made : List ℕ = s0.0.0 in
    let whole : p.rest ≡ with_line_end made ++ s1.0.rest = (t0.parts ∙ ap (λ (r : List ℕ). s0.0.0 ++ r) (t1)) ∙ sym (name_line_at_text made s1.0.rest) in
    subst (λ (y : List ℕ × Place). Took with_line_end IsNamed p y.0 y.1) (ok_is {A = List ℕ × Place} (made, s1.0) (x, q) s1.2)
    (record { parts = whole; good = t0.good })

pub name_line_again : (x : List ℕ) (k : ℕ) (r : List ℕ) → IsNamed x → Again (read_name_line) (with_line_end x) x r k
unfolding read_name_line
name_line_again x k r fits =
    let a0 = name_again k x ((10 ∷ []) ++ r) fits refl in
    let a1 = line_end_again k (r) in
    ((k + 1), ap (λ (bs : List ℕ). read_name_line (place k bs)) (name_line_at_text x r) ∙ rw (a0) refl)

link_line_at_text : (x : Link) (r : List ℕ) → link_text x ++ r ≡ decimal x.tail ++ (with_space x.head ++ (with_space x.capacity ++ (with_space x.cost ++ ((10 ∷ []) ++ r))))
link_line_at_text x r = simp append_assoc

pub link_line_takes : (p : Place) (x : Link) (q : Place) → read_link_line exact p ≡ Ok (x, q) → Took link_text FitsLink p x q
unfolding read_link_line
link_line_takes p x q e =
    let s0 = bind_ok (read_narrow exact p) (λ tail. read_next_narrow exact tail.1 >>= λ head. read_next_number head.1 >>= λ capacity. read_next_narrow exact capacity.1 >>= λ cost. read_line_end cost.1 >>= λ z4. Ok (record { tail = tail.0; head = head.0; capacity = capacity.0; cost = cost.0 }, z4)) (x, q) e in
    let t0 = narrow_takes p s0.0.0 s0.0.1 s0.1 in
    let s1 = bind_ok (read_next_narrow exact s0.0.1) (λ head. read_next_number head.1 >>= λ capacity. read_next_narrow exact capacity.1 >>= λ cost. read_line_end cost.1 >>= λ z4. Ok (record { tail = s0.0.0; head = head.0; capacity = capacity.0; cost = cost.0 }, z4)) (x, q) s0.2 in
    let t1 = next_narrow_takes s0.0.1 s1.0.0 s1.0.1 s1.1 in
    let s2 = bind_ok (read_next_number s1.0.1) (λ capacity. read_next_narrow exact capacity.1 >>= λ cost. read_line_end cost.1 >>= λ z4. Ok (record { tail = s0.0.0; head = s1.0.0; capacity = capacity.0; cost = cost.0 }, z4)) (x, q) s1.2 in
    let t2 = next_number_takes s1.0.1 s2.0.0 s2.0.1 s2.1 in
    let s3 = bind_ok (read_next_narrow exact s2.0.1) (λ cost. read_line_end cost.1 >>= λ z4. Ok (record { tail = s0.0.0; head = s1.0.0; capacity = s2.0.0; cost = cost.0 }, z4)) (x, q) s2.2 in
    let t3 = next_narrow_takes s2.0.1 s3.0.0 s3.0.1 s3.1 in
    let s4 = bind_ok (read_line_end s3.0.1) (λ z4. Ok (record { tail = s0.0.0; head = s1.0.0; capacity = s2.0.0; cost = s3.0.0 }, z4)) (x, q) s3.2 in
    let t4 = line_end_takes s3.0.1 s4.0 s4.1 in
    let made : Link = record { tail = s0.0.0; head = s1.0.0; capacity = s2.0.0; cost = s3.0.0 } in
    let whole : p.rest ≡ link_text made ++ s4.0.rest = (t0.parts ∙ ap (λ (r : List ℕ). decimal s0.0.0 ++ r) (t1.parts ∙ ap (λ (r : List ℕ). with_space s1.0.0 ++ r) (t2.parts ∙ ap (λ (r : List ℕ). with_space s2.0.0 ++ r) (t3.parts ∙ ap (λ (r : List ℕ). with_space s3.0.0 ++ r) (t4))))) ∙ sym (link_line_at_text made s4.0.rest) in
    subst (λ (y : Link × Place). Took link_text FitsLink p y.0 y.1) (ok_is {A = Link × Place} (made, s4.0) (x, q) s4.2)
    (record { parts = whole; good = record { tail = t0.good; head = t1.good; capacity = t2.good; cost = t3.good } })

pub link_line_again : (x : Link) (k : ℕ) (r : List ℕ) → FitsLink x → Again (read_link_line exact) (link_text x) x r k
unfolding read_link_line
link_line_again x k r fits =
    let a0 = narrow_again k x.tail (with_space x.head ++ (with_space x.capacity ++ (with_space x.cost ++ ((10 ∷ []) ++ r)))) fits.tail refl in
    let a1 = next_narrow_again k x.head (with_space x.capacity ++ (with_space x.cost ++ ((10 ∷ []) ++ r))) fits.head refl in
    let a2 = next_number_again k x.capacity (with_space x.cost ++ ((10 ∷ []) ++ r)) fits.capacity refl in
    let a3 = next_narrow_again k x.cost ((10 ∷ []) ++ r) fits.cost refl in
    let a4 = line_end_again k (r) in
    ((k + 1), ap (λ (bs : List ℕ). read_link_line exact (place k bs)) (link_line_at_text x r) ∙ rw (a0, a1, a2, a3) refl)

pub network_at_text : (limits : Limits) (x : Network) (r : List ℕ) → network_text x ++ r ≡ counted_text (codes "nodes ") (length x.names) ++ (flat_map with_line_end x.names ++ (counted_text (codes "links ") (length x.links) ++ (flat_map link_text x.links ++ r)))
network_at_text limits x r =
    let links : flat_map with_line_end (map link_line x.links) ≡ flat_map link_text x.links = flat_map_map with_line_end link_line x.links in
    let count = words (codes "links") (length x.links ∷ []) in
    let after : flat_map with_line_end (x.names ++ (count ∷ map link_line x.links)) ≡ flat_map with_line_end x.names ++ (with_line_end count ++ flat_map link_text x.links) =
    flat_map-append with_line_end x.names (count ∷ map link_line x.links) ∙ ap (λ (y : List ℕ). flat_map with_line_end x.names ++ (with_line_end count ++ y)) links in
    ap (λ (y : List ℕ). (with_line_end (words (codes "nodes") (length x.names ∷ [])) ++ y) ++ r) after ∙ regroup_four (counted_text (codes "nodes ") (length x.names)) (flat_map with_line_end x.names) (counted_text (codes "links ") (length x.links)) (flat_map link_text x.links) r

pub network_takes : (limits : Limits) (p : Place) (x : Network) (q : Place) → read_network limits exact p ≡ Ok (x, q) → Took network_text ((FitsNetwork limits)) p x q
unfolding read_network
network_takes limits p x q e =
    let s0 = bind_ok (read_counted (codes "nodes ") 2 limits.nodes p) (λ n. read_many n.0 read_name_line n.1 >>= λ names. read_counted (codes "links ") 1 limits.links names.1 >>= λ m. read_many m.0 (read_link_line exact) m.1 >>= λ links. Ok (record { names = names.0; links = links.0 }, links.1)) (x, q) e in
    let t0 = counted_takes (codes "nodes ") 2 limits.nodes p s0.0.0 s0.0.1 s0.1 in
    let s1 = bind_ok (read_many s0.0.0 read_name_line s0.0.1) (λ names. read_counted (codes "links ") 1 limits.links names.1 >>= λ m. read_many m.0 (read_link_line exact) m.1 >>= λ links. Ok (record { names = names.0; links = links.0 }, links.1)) (x, q) s0.2 in
    let t1 = many_takes read_name_line with_line_end IsNamed name_line_takes s0.0.0 s0.0.1 s1.0.0 s1.0.1 s1.1 in
    let s2 = bind_ok (read_counted (codes "links ") 1 limits.links s1.0.1) (λ m. read_many m.0 (read_link_line exact) m.1 >>= λ links. Ok (record { names = s1.0.0; links = links.0 }, links.1)) (x, q) s1.2 in
    let t2 = counted_takes (codes "links ") 1 limits.links s1.0.1 s2.0.0 s2.0.1 s2.1 in
    let s3 = bind_ok (read_many s2.0.0 (read_link_line exact) s2.0.1) (λ links. Ok (record { names = s1.0.0; links = links.0 }, links.1)) (x, q) s2.2 in
    let t3 = many_takes (read_link_line exact) link_text FitsLink link_line_takes s2.0.0 s2.0.1 s3.0.0 s3.0.1 s3.1 in
    let made : Network = record { names = s1.0.0; links = s3.0.0 } in
    let whole : p.rest ≡ network_text made ++ s3.0.1.rest = ((t0.parts ∙ ap (λ (m : ℕ). counted_text (codes "nodes ") m ++ s0.0.1.rest) (sym t1.1)) ∙ ap (λ (r : List ℕ). counted_text (codes "nodes ") (length s1.0.0) ++ r) (t1.0 ∙ ap (λ (r : List ℕ). flat_map with_line_end s1.0.0 ++ r) ((t2.parts ∙ ap (λ (m : ℕ). counted_text (codes "links ") m ++ s2.0.1.rest) (sym t3.1)) ∙ ap (λ (r : List ℕ). counted_text (codes "links ") (length s3.0.0) ++ r) (t3.0)))) ∙ sym (network_at_text limits made s3.0.1.rest) in
    subst (λ (y : Network × Place). Took network_text ((FitsNetwork limits)) p y.0 y.1) (ok_is {A = Network × Place} (made, s3.0.1) (x, q) s3.2)
    (record { parts = whole; good = record { nodes = subst (IsCount 2 limits.nodes) (sym t1.1) t0.good; names = t1.2; links = subst (IsCount 1 limits.links) (sym t3.1) t2.good; each_link = t3.2 } })

pub network_again : (limits : Limits) (room : HasRoom limits) (x : Network) (k : ℕ) (r : List ℕ) → (FitsNetwork limits) x → Again (read_network limits exact) (network_text x) x r k
unfolding read_network
network_again limits room x k r fits =
    let a0 = counted_again (codes "nodes ") 2 limits.nodes room.nodes (length x.names) k (flat_map with_line_end x.names ++ (counted_text (codes "links ") (length x.links) ++ (flat_map link_text x.links ++ r))) fits.nodes in
    let a1 = many_again read_name_line with_line_end IsNamed (λ r. Unit {0}) (λ x r. tt) (λ x k r f s. name_line_again x k r f) x.names a0.0 (counted_text (codes "links ") (length x.links) ++ (flat_map link_text x.links ++ r)) fits.names tt in
    let a2 = counted_again (codes "links ") 1 limits.links room.links (length x.links) a1.0 (flat_map link_text x.links ++ r) fits.links in
    let a3 = many_again (read_link_line exact) link_text FitsLink (λ r. Unit {0}) (λ x r. tt) (λ x k r f s. link_line_again x k r f) x.links a2.0 (r) fits.each_link tt in
    (a3.0, ap (λ (bs : List ℕ). read_network limits exact (place k bs)) (network_at_text limits x r) ∙ rw (a0.1, a1.1, a2.1, a3.1) refl)

path_at_text : (limits : Limits) (x : PathShare) (r : List ℕ) → path_text x ++ r ≡ decimal x.weight ++ (with_space (length x.links) ++ (flat_map with_space x.links ++ ((10 ∷ []) ++ r)))
path_at_text limits x r = rw (joined (decimal (length x.links)) x.links) (simp append_assoc)

pub path_takes : (limits : Limits) (p : Place) (x : PathShare) (q : Place) → read_path limits exact p ≡ Ok (x, q) → Took path_text ((FitsPath limits)) p x q
unfolding read_path
path_takes limits p x q e =
    let s0 = bind_ok (read_number p) (λ weight. read_next_count 1 limits.hops weight.1 >>= λ n. read_many n.0 (read_next_narrow exact) n.1 >>= λ links. read_line_end links.1 >>= λ z3. Ok (record { links = links.0; weight = weight.0 }, z3)) (x, q) e in
    let t0 = word_takes_number p s0.0.0 s0.0.1 s0.1 in
    let s1 = bind_ok (read_next_count 1 limits.hops s0.0.1) (λ n. read_many n.0 (read_next_narrow exact) n.1 >>= λ links. read_line_end links.1 >>= λ z3. Ok (record { links = links.0; weight = s0.0.0 }, z3)) (x, q) s0.2 in
    let t1 = next_count_takes 1 limits.hops s0.0.1 s1.0.0 s1.0.1 s1.1 in
    let s2 = bind_ok (read_many s1.0.0 (read_next_narrow exact) s1.0.1) (λ links. read_line_end links.1 >>= λ z3. Ok (record { links = links.0; weight = s0.0.0 }, z3)) (x, q) s1.2 in
    let t2 = many_takes (read_next_narrow exact) with_space IsWord next_narrow_takes s1.0.0 s1.0.1 s2.0.0 s2.0.1 s2.1 in
    let s3 = bind_ok (read_line_end s2.0.1) (λ z3. Ok (record { links = s2.0.0; weight = s0.0.0 }, z3)) (x, q) s2.2 in
    let t3 = line_end_takes s2.0.1 s3.0 s3.1 in
    let made : PathShare = record { links = s2.0.0; weight = s0.0.0 } in
    let whole : p.rest ≡ path_text made ++ s3.0.rest = (t0.parts ∙ ap (λ (r : List ℕ). decimal s0.0.0 ++ r) ((t1.parts ∙ ap (λ (m : ℕ). with_space m ++ s1.0.1.rest) (sym t2.1)) ∙ ap (λ (r : List ℕ). with_space (length s2.0.0) ++ r) (t2.0 ∙ ap (λ (r : List ℕ). flat_map with_space s2.0.0 ++ r) (t3)))) ∙ sym (path_at_text limits made s3.0.rest) in
    subst (λ (y : PathShare × Place). Took path_text ((FitsPath limits)) p y.0 y.1) (ok_is {A = PathShare × Place} (made, s3.0) (x, q) s3.2)
    (record { parts = whole; good = record { weight = t0.good; hops = subst (IsCount 1 limits.hops) (sym t2.1) t1.good; links = t2.2 } })

pub path_again : (limits : Limits) (room : HasRoom limits) (x : PathShare) (k : ℕ) (r : List ℕ) → (FitsPath limits) x → Again (read_path limits exact) (path_text x) x r k
unfolding read_path
path_again limits room x k r fits =
    let a0 = number_again k x.weight (with_space (length x.links) ++ (flat_map with_space x.links ++ ((10 ∷ []) ++ r))) fits.weight refl in
    let a1 = next_count_again 1 limits.hops k (length x.links) (flat_map with_space x.links ++ ((10 ∷ []) ++ r)) fits.hops (count_word 1 limits.hops (length x.links) fits.hops room.hops) (spaced_stop x.links _ refl) in
    let a2 = many_again (read_next_narrow exact) with_space IsWord (λ r. begins_with_digit r ≡ false) (λ x r. refl) (λ x k r f s. (k, next_narrow_again k x r f s)) x.links k ((10 ∷ []) ++ r) fits.links refl in
    let a3 = line_end_again a2.0 (r) in
    ((a2.0 + 1), ap (λ (bs : List ℕ). read_path limits exact (place k bs)) (path_at_text limits x r) ∙ rw (a0, a1, a2.1) refl)

pair_at_text : (limits : Limits) (x : PairRoutes) (r : List ℕ) → pair_text x ++ r ≡ decimal x.pair.src ++ (with_space x.pair.dst ++ (with_space (length x.paths) ++ ((10 ∷ []) ++ (flat_map path_text x.paths ++ r))))
pair_at_text limits x r =
    let paths : flat_map with_line_end (map path_line x.paths) ≡ flat_map path_text x.paths = flat_map_map with_line_end path_line x.paths in
    ap (λ (y : List ℕ). (with_line_end (numbers (x.pair.src ∷ x.pair.dst ∷ length x.paths ∷ [])) ++ y) ++ r) paths ∙ simp append_assoc

pub pair_takes : (limits : Limits) (p : Place) (x : PairRoutes) (q : Place) → read_pair limits exact p ≡ Ok (x, q) → Took pair_text ((FitsPair limits)) p x q
unfolding read_pair
pair_takes limits p x q e =
    let s0 = bind_ok (read_narrow exact p) (λ src. read_next_narrow exact src.1 >>= λ dst. read_next_count 1 limits.paths dst.1 >>= λ n. read_line_end n.1 >>= λ z3. read_many n.0 (read_path limits exact) z3 >>= λ paths. Ok (record { pair = record { src = src.0; dst = dst.0 }; paths = paths.0 }, paths.1)) (x, q) e in
    let t0 = narrow_takes p s0.0.0 s0.0.1 s0.1 in
    let s1 = bind_ok (read_next_narrow exact s0.0.1) (λ dst. read_next_count 1 limits.paths dst.1 >>= λ n. read_line_end n.1 >>= λ z3. read_many n.0 (read_path limits exact) z3 >>= λ paths. Ok (record { pair = record { src = s0.0.0; dst = dst.0 }; paths = paths.0 }, paths.1)) (x, q) s0.2 in
    let t1 = next_narrow_takes s0.0.1 s1.0.0 s1.0.1 s1.1 in
    let s2 = bind_ok (read_next_count 1 limits.paths s1.0.1) (λ n. read_line_end n.1 >>= λ z3. read_many n.0 (read_path limits exact) z3 >>= λ paths. Ok (record { pair = record { src = s0.0.0; dst = s1.0.0 }; paths = paths.0 }, paths.1)) (x, q) s1.2 in
    let t2 = next_count_takes 1 limits.paths s1.0.1 s2.0.0 s2.0.1 s2.1 in
    let s3 = bind_ok (read_line_end s2.0.1) (λ z3. read_many s2.0.0 (read_path limits exact) z3 >>= λ paths. Ok (record { pair = record { src = s0.0.0; dst = s1.0.0 }; paths = paths.0 }, paths.1)) (x, q) s2.2 in
    let t3 = line_end_takes s2.0.1 s3.0 s3.1 in
    let s4 = bind_ok (read_many s2.0.0 (read_path limits exact) s3.0) (λ paths. Ok (record { pair = record { src = s0.0.0; dst = s1.0.0 }; paths = paths.0 }, paths.1)) (x, q) s3.2 in
    let t4 = many_takes (read_path limits exact) path_text ((FitsPath limits)) (path_takes limits) s2.0.0 s3.0 s4.0.0 s4.0.1 s4.1 in
    let made : PairRoutes = record { pair = record { src = s0.0.0; dst = s1.0.0 }; paths = s4.0.0 } in
    let whole : p.rest ≡ pair_text made ++ s4.0.1.rest = (t0.parts ∙ ap (λ (r : List ℕ). decimal s0.0.0 ++ r) (t1.parts ∙ ap (λ (r : List ℕ). with_space s1.0.0 ++ r) ((t2.parts ∙ ap (λ (m : ℕ). with_space m ++ s2.0.1.rest) (sym t4.1)) ∙ ap (λ (r : List ℕ). with_space (length s4.0.0) ++ r) (t3 ∙ ap (λ (r : List ℕ). (10 ∷ []) ++ r) (t4.0))))) ∙ sym (pair_at_text limits made s4.0.1.rest) in
    subst (λ (y : PairRoutes × Place). Took pair_text ((FitsPair limits)) p y.0 y.1) (ok_is {A = PairRoutes × Place} (made, s4.0.1) (x, q) s4.2)
    (record { parts = whole; good = record { src = t0.good; dst = t1.good; paths = subst (IsCount 1 limits.paths) (sym t4.1) t2.good; each_path = t4.2 } })

pub pair_again : (limits : Limits) (room : HasRoom limits) (x : PairRoutes) (k : ℕ) (r : List ℕ) → (FitsPair limits) x → Again (read_pair limits exact) (pair_text x) x r k
unfolding read_pair
pair_again limits room x k r fits =
    let a0 = narrow_again k x.pair.src (with_space x.pair.dst ++ (with_space (length x.paths) ++ ((10 ∷ []) ++ (flat_map path_text x.paths ++ r)))) fits.src refl in
    let a1 = next_narrow_again k x.pair.dst (with_space (length x.paths) ++ ((10 ∷ []) ++ (flat_map path_text x.paths ++ r))) fits.dst refl in
    let a2 = next_count_again 1 limits.paths k (length x.paths) ((10 ∷ []) ++ (flat_map path_text x.paths ++ r)) fits.paths (count_word 1 limits.paths (length x.paths) fits.paths room.paths) refl in
    let a3 = line_end_again k (flat_map path_text x.paths ++ r) in
    let a4 = many_again (read_path limits exact) path_text ((FitsPath limits)) (λ r. Unit {0}) (λ x r. tt) (λ x k r f s. path_again limits room x k r f) x.paths (k + 1) (r) fits.each_path tt in
    (a4.0, ap (λ (bs : List ℕ). read_pair limits exact (place k bs)) (pair_at_text limits x r) ∙ rw (a0, a1, a2, a4.1) refl)

row_at_text : (nodes : ℕ) (x : Row) (r : List ℕ) → row_text x ++ r ≡ decimal x.source ++ (flat_map with_space x.potential ++ ((10 ∷ []) ++ r))
row_at_text nodes x r = rw (joined (decimal x.source) x.potential) (simp append_assoc)

pub row_takes : (nodes : ℕ) (p : Place) (x : Row) (q : Place) → read_row exact nodes p ≡ Ok (x, q) → Took row_text ((FitsRow nodes)) p x q
unfolding read_row
row_takes nodes p x q e =
    let s0 = bind_ok (read_narrow exact p) (λ source. read_many nodes read_next_number source.1 >>= λ potential. read_line_end potential.1 >>= λ z2. Ok (record { source = source.0; potential = potential.0 }, z2)) (x, q) e in
    let t0 = narrow_takes p s0.0.0 s0.0.1 s0.1 in
    let s1 = bind_ok (read_many nodes read_next_number s0.0.1) (λ potential. read_line_end potential.1 >>= λ z2. Ok (record { source = s0.0.0; potential = potential.0 }, z2)) (x, q) s0.2 in
    let t1 = many_takes (read_next_number) with_space IsWord next_number_takes nodes s0.0.1 s1.0.0 s1.0.1 s1.1 in
    let s2 = bind_ok (read_line_end s1.0.1) (λ z2. Ok (record { source = s0.0.0; potential = s1.0.0 }, z2)) (x, q) s1.2 in
    let t2 = line_end_takes s1.0.1 s2.0 s2.1 in
    let made : Row = record { source = s0.0.0; potential = s1.0.0 } in
    let whole : p.rest ≡ row_text made ++ s2.0.rest = (t0.parts ∙ ap (λ (r : List ℕ). decimal s0.0.0 ++ r) (t1.0 ∙ ap (λ (r : List ℕ). flat_map with_space s1.0.0 ++ r) (t2))) ∙ sym (row_at_text nodes made s2.0.rest) in
    subst (λ (y : Row × Place). Took row_text ((FitsRow nodes)) p y.0 y.1) (ok_is {A = Row × Place} (made, s2.0) (x, q) s2.2)
    (record { parts = whole; good = record { source = t0.good; potential = record { count = t1.1; words = t1.2 } } })

pub row_again : (nodes : ℕ) (x : Row) (k : ℕ) (r : List ℕ) → (FitsRow nodes) x → Again (read_row exact nodes) (row_text x) x r k
unfolding read_row
row_again nodes x k r fits =
    let a0 = narrow_again k x.source (flat_map with_space x.potential ++ ((10 ∷ []) ++ r)) fits.source (spaced_stop x.potential _ refl) in
    let a1 = many_again (read_next_number) with_space IsWord (λ r. begins_with_digit r ≡ false) (λ x r. refl) (λ x k r f s. (k, next_number_again k x r f s)) x.potential k ((10 ∷ []) ++ r) fits.potential.words refl in
    let a2 = line_end_again a1.0 (r) in
    ((a1.0 + 1), ap (λ (bs : List ℕ). read_row exact nodes (place k bs)) (row_at_text nodes x r) ∙ rw (← fits.potential.count, a0, a1.1) refl)

-- ---- routes

pub routes_takes : (limits : Limits) (p : Place) (x : List PairRoutes) (q : Place) → read_routes limits exact p ≡ Ok (x, q) → Took routes_text (FitsRoutes limits) p x q
unfolding read_routes
routes_takes limits p x q e =
    let a = bind_ok (read_counted (codes "pairs ") 0 limits.pairs p) (λ n. read_many n.0 (read_pair limits exact) n.1) (x, q) e in
    let t0 = counted_takes (codes "pairs ") 0 limits.pairs p a.0.0 a.0.1 a.1 in
    let t1 = many_takes (read_pair limits exact) pair_text (FitsPair limits) (pair_takes limits) a.0.0 a.0.1 x q a.2 in
    let count : p.rest ≡ counted_text (codes "pairs ") (length x) ++ a.0.1.rest = t0.parts ∙ ap (λ (m : ℕ). counted_text (codes "pairs ") m ++ a.0.1.rest) (sym t1.1) in
    record {
      parts = count ∙ ap (λ (r : List ℕ). counted_text (codes "pairs ") (length x) ++ r) t1.0 ∙ sym (append_assoc (counted_text (codes "pairs ") (length x)) (flat_map pair_text x) q.rest);
      good = record { pairs = subst (IsCount 0 limits.pairs) (sym t1.1) t0.good; each_pair = t1.2 };
    }

pub routes_again : (limits : Limits) (room : HasRoom limits) (x : List PairRoutes) (k : ℕ) (r : List ℕ) → FitsRoutes limits x → Again (read_routes limits exact) (routes_text x) x r k
unfolding read_routes
routes_again limits room x k r fits =
    let a0 = counted_again (codes "pairs ") 0 limits.pairs room.pairs (length x) k (flat_map pair_text x ++ r) fits.pairs in
    let a1 = many_again (read_pair limits exact) pair_text (FitsPair limits) (λ r. Unit {0}) (λ x r. tt) (λ x k r f s. pair_again limits room x k r f) x a0.0 r fits.each_pair tt in
    (a1.0, ap (λ (bs : List ℕ). read_routes limits exact (place k bs)) (append_assoc (counted_text (codes "pairs ") (length x)) (flat_map pair_text x) r) ∙ rw (a0.1, a1.1) refl)

-- ---- the set

pub ratio_takes : (p : Place) (x : ℕ) (q : Place) → read_ratio p ≡ Ok (x, q) → Took (counted_text (codes "ratio ")) IsWord p x q
unfolding read_ratio
ratio_takes p x q e =
    let s0 = bind_ok (read_word (codes "ratio ") p) (λ a. read_number a >>= λ n. read_line_end n.1 >>= λ e. Ok (n.0, e)) (x, q) e in
    let t0 = word_takes (codes "ratio ") p s0.0 s0.1 in
    let s1 = bind_ok (read_number s0.0) (λ n. read_line_end n.1 >>= λ e. Ok (n.0, e)) (x, q) s0.2 in
    let t1 = word_takes_number s0.0 s1.0.0 s1.0.1 s1.1 in
    let s2 = bind_ok (read_line_end s1.0.1) (λ e. Ok (s1.0.0, e)) (x, q) s1.2 in
    let t2 = line_end_takes s1.0.1 s2.0 s2.1 in
    let whole : p.rest ≡ counted_text (codes "ratio ") s1.0.0 ++ s2.0.rest =
    (t0 ∙ ap (λ (r : List ℕ). codes "ratio " ++ r) (t1.parts ∙ ap (λ (r : List ℕ). decimal s1.0.0 ++ r) t2)) ∙ sym (counted_at_text (codes "ratio ") 0 0 s1.0.0 s2.0.rest) in
    subst (λ (y : ℕ × Place). Took (counted_text (codes "ratio ")) IsWord p y.0 y.1) (ok_is {A = ℕ × Place} (s1.0.0, s2.0) (x, q) s2.2) (record { parts = whole; good = t1.good })

pub ratio_again : (x k : ℕ) (r : List ℕ) → IsWord x → Again read_ratio (counted_text (codes "ratio ") x) x r k
unfolding read_ratio
ratio_again x k r small =
    let a1 = number_again k x (10 ∷ r) small refl in
    (k + 1, ap (λ (bs : List ℕ). read_ratio (place k bs)) (counted_at_text (codes "ratio ") 0 0 x r) ∙ rw a1 refl)

pub all_takes : (p : Place) (x : DemandSet) (q : Place) → read_all p ≡ Ok (x, q) → (p.rest ≡ (codes "all" ++ 10 ∷ []) ++ q.rest) × (All ≡ x)
unfolding read_all
all_takes p x q e =
    let s0 = bind_ok (read_word (codes "all") p) (λ a. read_line_end a >>= λ e. Ok (All, e)) (x, q) e in
    let t0 = word_takes (codes "all") p s0.0 s0.1 in
    let s1 = bind_ok (read_line_end s0.0) (λ e. Ok (All, e)) (x, q) s0.2 in
    let t1 = line_end_takes s0.0 s1.0 s1.1 in
    let made : DemandSet = All in
    let whole : p.rest ≡ (codes "all" ++ 10 ∷ []) ++ s1.0.rest = t0 ∙ ap (λ (r : List ℕ). codes "all" ++ r) t1 in
    subst (λ (y : DemandSet × Place). (p.rest ≡ (codes "all" ++ 10 ∷ []) ++ y.1.rest) × (All ≡ y.0)) (ok_is {A = DemandSet × Place} (made, s1.0) (x, q) s1.2) (whole, refl)

abbrev pub after_set : DemandSet → List ℕ
after_set All = codes "all" ++ 10 ∷ []
after_set (Margin num den base) = codes "margin " ++ (decimal num ++ (with_space den ++ ((10 ∷ []) ++ listing_text (codes "base") base.demand)))
after_set (Box lower upper) = codes "box" ++ ((10 ∷ []) ++ (listing_text (codes "lower") lower.demand ++ listing_text (codes "upper") upper.demand))

margin_text : (num den : ℕ) (xs r : List ℕ) → (codes "margin " ++ (decimal num ++ (with_space den ++ ((10 ∷ []) ++ listing_text (codes "base") xs)))) ++ r
    ≡ codes "margin " ++ (decimal num ++ (with_space den ++ ((10 ∷ []) ++ (listing_text (codes "base") xs ++ r))))
margin_text num den xs r = simp append_assoc

margin_takes : (limits : Limits) (no_boxes : has_boxes limits ≡ false) (pairs : ℕ) (p : Place) (x : DemandSet) (q : Place) → read_margin pairs p ≡ Ok (x, q) → Took after_set (FitsSet limits pairs) p x q
unfolding read_margin
margin_takes limits no_boxes pairs p x q e =
    let s0 = bind_ok (read_word (codes "margin ") p) (λ a. read_number a >>= λ num. read_next_number num.1 >>= λ den. read_line_end den.1 >>= λ e. read_listing (codes "base") pairs e >>= λ base. Ok (Margin num.0 den.0 (record { demand = base.0 }), base.1)) (x, q) e in
    let t0 = word_takes (codes "margin ") p s0.0 s0.1 in
    let s1 = bind_ok (read_number s0.0) (λ num. read_next_number num.1 >>= λ den. read_line_end den.1 >>= λ e. read_listing (codes "base") pairs e >>= λ base. Ok (Margin num.0 den.0 (record { demand = base.0 }), base.1)) (x, q) s0.2 in
    let t1 = word_takes_number s0.0 s1.0.0 s1.0.1 s1.1 in
    let s2 = bind_ok (read_next_number s1.0.1) (λ den. read_line_end den.1 >>= λ e. read_listing (codes "base") pairs e >>= λ base. Ok (Margin s1.0.0 den.0 (record { demand = base.0 }), base.1)) (x, q) s1.2 in
    let t2 = next_number_takes s1.0.1 s2.0.0 s2.0.1 s2.1 in
    let s3 = bind_ok (read_line_end s2.0.1) (λ e. read_listing (codes "base") pairs e >>= λ base. Ok (Margin s1.0.0 s2.0.0 (record { demand = base.0 }), base.1)) (x, q) s2.2 in
    let t3 = line_end_takes s2.0.1 s3.0 s3.1 in
    let s4 = bind_ok (read_listing (codes "base") pairs s3.0) (λ base. Ok (Margin s1.0.0 s2.0.0 (record { demand = base.0 }), base.1)) (x, q) s3.2 in
    let t4 = listing_takes (codes "base") pairs s3.0 s4.0.0 s4.0.1 s4.1 in
    let made : DemandSet = Margin s1.0.0 s2.0.0 (record { demand = s4.0.0 }) in
    let whole : p.rest ≡ after_set made ++ s4.0.1.rest =
    t0 ∙ ap (λ (r : List ℕ). codes "margin " ++ r) (t1.parts ∙ ap (λ (r : List ℕ). decimal s1.0.0 ++ r) (t2.parts ∙ ap (λ (r : List ℕ). with_space s2.0.0 ++ r) (t3 ∙ ap (λ (r : List ℕ). (10 ∷ []) ++ r) t4.parts)))
    ∙ sym (margin_text s1.0.0 s2.0.0 s4.0.0 s4.0.1.rest) in
    subst (λ (y : DemandSet × Place). Took after_set (FitsSet limits pairs) p y.0 y.1) (ok_is {A = DemandSet × Place} (made, s4.0.1) (x, q) s4.2)
    (record { parts = whole; good = (no_boxes, t1.good, t2.good, t4.good) })

box_takes : (limits : Limits) (boxes : has_boxes limits ≡ true) (pairs : ℕ) (p : Place) (x : DemandSet) (q : Place) → read_box pairs p ≡ Ok (x, q) → Took after_set (FitsSet limits pairs) p x q
unfolding read_box
box_takes limits boxes pairs p x q e =
    let s0 = bind_ok (read_word (codes "box") p) (λ a. read_line_end a >>= λ e. read_listing (codes "lower") pairs e >>= λ lower. read_listing (codes "upper") pairs lower.1 >>= λ upper. Ok (Box (record { demand = lower.0 }) (record { demand = upper.0 }), upper.1)) (x, q) e in
    let t0 = word_takes (codes "box") p s0.0 s0.1 in
    let s1 = bind_ok (read_line_end s0.0) (λ e. read_listing (codes "lower") pairs e >>= λ lower. read_listing (codes "upper") pairs lower.1 >>= λ upper. Ok (Box (record { demand = lower.0 }) (record { demand = upper.0 }), upper.1)) (x, q) s0.2 in
    let t1 = line_end_takes s0.0 s1.0 s1.1 in
    let s2 = bind_ok (read_listing (codes "lower") pairs s1.0) (λ lower. read_listing (codes "upper") pairs lower.1 >>= λ upper. Ok (Box (record { demand = lower.0 }) (record { demand = upper.0 }), upper.1)) (x, q) s1.2 in
    let t2 = listing_takes (codes "lower") pairs s1.0 s2.0.0 s2.0.1 s2.1 in
    let s3 = bind_ok (read_listing (codes "upper") pairs s2.0.1) (λ upper. Ok (Box (record { demand = s2.0.0 }) (record { demand = upper.0 }), upper.1)) (x, q) s2.2 in
    let t3 = listing_takes (codes "upper") pairs s2.0.1 s3.0.0 s3.0.1 s3.1 in
    let made : DemandSet = Box (record { demand = s2.0.0 }) (record { demand = s3.0.0 }) in
    let whole : p.rest ≡ after_set made ++ s3.0.1.rest =
    t0 ∙ ap (λ (r : List ℕ). codes "box" ++ r) (t1 ∙ ap (λ (r : List ℕ). (10 ∷ []) ++ r) (t2.parts ∙ ap (λ (r : List ℕ). listing_text (codes "lower") s2.0.0 ++ r) t3.parts))
    ∙ sym (regroup_four (codes "box") (10 ∷ []) (listing_text (codes "lower") s2.0.0) (listing_text (codes "upper") s3.0.0) s3.0.1.rest) in
    subst (λ (y : DemandSet × Place). Took after_set (FitsSet limits pairs) p y.0 y.1) (ok_is {A = DemandSet × Place} (made, s3.0.1) (x, q) s3.2)
    (record { parts = whole; good = (boxes, t2.good, t3.good) })

bounds_takes : (limits : Limits) (pairs : ℕ) (p : Place) (x : DemandSet) (q : Place) (t : Bool) → has_boxes limits ≡ t → cond t (read_box pairs p) (read_margin pairs p) ≡ Ok (x, q) → Took after_set (FitsSet limits pairs) p x q
bounds_takes limits pairs p x q true is e = box_takes limits is pairs p x q e
bounds_takes limits pairs p x q false is e = margin_takes limits is pairs p x q e

chosen_set : (limits : Limits) (pairs : ℕ) (p : Place) (x : DemandSet) (q : Place) (t : Bool) → cond t (read_all p) (read_bounds limits pairs p) ≡ Ok (x, q) → Took after_set (FitsSet limits pairs) p x q
chosen_set limits pairs p x q true e =
    let t = all_takes p x q e in
    subst (λ (y : DemandSet). Took after_set (FitsSet limits pairs) p y q) t.1 (record { parts = t.0; good = tt })
chosen_set limits pairs p x q false e = bounds_takes limits pairs p x q (has_boxes limits) refl e

set_is : (x : DemandSet) → set_text x ≡ codes "set " ++ after_set x
set_is All = refl
set_is (Margin num den base) = refl
set_is (Box lower upper) = refl

pub set_takes : (limits : Limits) (pairs : ℕ) (p : Place) (x : DemandSet) (q : Place) → read_set limits pairs p ≡ Ok (x, q) → Took set_text (FitsSet limits pairs) p x q
unfolding read_set
set_takes limits pairs p x q e =
    let s0 = bind_ok (read_word (codes "set ") p) (λ a. cond (eqb (get_or a.rest 0 0) 97) (read_all a) (read_bounds limits pairs a)) (x, q) e in
    let t0 = word_takes (codes "set ") p s0.0 s0.1 in
    let t1 = chosen_set limits pairs s0.0 x q (eqb (get_or s0.0.rest 0 0) 97) s0.2 in
    record { parts = t0 ∙ ap (λ (r : List ℕ). codes "set " ++ r) t1.parts ∙ ap (λ (t : List ℕ). t ++ q.rest) (sym (set_is x)); good = t1.good }

pub set_again : (limits : Limits) (pairs : ℕ) (x : DemandSet) (k : ℕ) (r : List ℕ) → FitsSet limits pairs x → Again (read_set limits pairs) (set_text x) x r k
unfolding read_set read_all read_margin read_box
set_again limits pairs All k r fits = (k + 1, refl)
set_again limits pairs (Margin num den base) k r fits =
    let rest = listing_text (codes "base") base.demand ++ r in
    let a1 = number_again k num (with_space den ++ (10 ∷ rest)) fits.1 refl in
    let a2 = next_number_again k den (10 ∷ rest) fits.2 refl in
    let a3 = listing_again (codes "base") pairs base.demand (k + 1) r fits.3 in
    (a3.0, ap (λ (bs : List ℕ). read_set limits pairs (place k (codes "set " ++ bs))) (margin_text num den base.demand r) ∙ rw (fits.0, a1, a2, a3.1) refl)
set_again limits pairs (Box lower upper) k r fits =
    let a1 = listing_again (codes "lower") pairs lower.demand (k + 1) (listing_text (codes "upper") upper.demand ++ r) fits.1 in
    let a2 = listing_again (codes "upper") pairs upper.demand a1.0 r fits.2 in
    (a2.0, ap (λ (bs : List ℕ). read_set limits pairs (place k (codes "set " ++ bs))) (regroup_four (codes "box") (10 ∷ []) (listing_text (codes "lower") lower.demand) (listing_text (codes "upper") upper.demand) r) ∙ rw (fits.0, a1.1, a2.1) refl)

-- ---- the first line

-- the number of a format
abbrev pub IsFormat : ℕ → Type 0
IsFormat format = (limits_of format).format ≡ format

digit_takes : (format : ℕ) → decimal format ≡ (48 + format) ∷ [] → IsFormat format → (p : Place) (x : ℕ) (q : Place) → read_digit format p ≡ Ok (x, q) → Took (λ f. decimal f ++ 10 ∷ []) IsFormat p x q
unfolding read_digit
digit_takes format digit known p x q e =
    let s0 = bind_ok (read_byte (48 + format) p) (λ a. read_line_end a >>= λ e. Ok (format, e)) (x, q) e in
    let t0 = byte_takes (48 + format) p s0.0 s0.1 in
    let s1 = bind_ok (read_line_end s0.0) (λ e. Ok (format, e)) (x, q) s0.2 in
    let t1 = line_end_takes s0.0 s1.0 s1.1 in
    let whole : p.rest ≡ (decimal format ++ 10 ∷ []) ++ s1.0.rest =
    t0 ∙ ap (λ (r : List ℕ). (48 + format) ∷ r) t1 ∙ ap (λ (d : List ℕ). (d ++ 10 ∷ []) ++ s1.0.rest) (sym digit) in
    subst (λ (y : ℕ × Place). Took (λ f. decimal f ++ 10 ∷ []) IsFormat p y.0 y.1) (ok_is {A = ℕ × Place} (format, s1.0) (x, q) s1.2)
    (record { parts = whole; good = known })

pub format_takes : (p : Place) (x : ℕ) (q : Place) → read_format p ≡ Ok (x, q) → Took format_text IsFormat p x q
unfolding read_format
format_takes p x q e =
    let s0 = bind_ok (read_word (codes "yates-ratio ") p) (λ a. cond (eqb (get_or a.rest 0 0) 50) (read_digit 2 a) (read_digit 1 a)) (x, q) e in
    let t0 = word_takes (codes "yates-ratio ") p s0.0 s0.1 in
    let t1 = chosen s0.0 (eqb (get_or s0.0.rest 0 0) 50) s0.2 in
    record { parts = t0 ∙ ap (λ (r : List ℕ). codes "yates-ratio " ++ r) t1.parts ∙ sym (append_assoc (codes "yates-ratio ") (decimal x ++ 10 ∷ []) q.rest); good = t1.good }
  where
    chosen : (a : Place) (t : Bool) → cond t (read_digit 2 a) (read_digit 1 a) ≡ Ok (x, q) → Took (λ f. decimal f ++ 10 ∷ []) IsFormat a x q
    chosen a true h = digit_takes 2 (decimal_digit 2 (lit< tt)) refl a x q h
    chosen a false h = digit_takes 1 (decimal_digit 1 (lit< tt)) refl a x q h

pub format_again : (x k : ℕ) (r : List ℕ) → IsFormat x → Again read_format (format_text x) x r k
unfolding read_format read_digit
format_again x k r known = either (eqb x 2) known
  where
    either : (t : Bool) → (cond t FORMAT_2 FORMAT_1).format ≡ x → Again read_format (format_text x) x r k
    either true is = subst (λ (y : ℕ). Again read_format (format_text y) y r k) is (k + 1, rw (decimal_digit 2 (lit< tt)) refl)
    either false is = subst (λ (y : ℕ). Again read_format (format_text y) y r k) is (k + 1, rw (decimal_digit 1 (lit< tt)) refl)
