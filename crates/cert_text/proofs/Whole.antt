-- The head, a block and the whole: what each takes is its text, and its text is read again.
use Rattle.std.proofs.Common.{◌≡◌, ℕ, ◌+◌, ◌-◌, ◌≤◌, Bool, true, false, cond, List, [], ◌∷◌, ◌++◌, length, Result, Ok, Err, refl, sym, ap, subst, ◌∙◌, arith, eqb, append_assoc}
use Rattle.std.proofs.lemmas.List.{nil_from_length}
use Rattle.std.specs.Prelude.{codes}
use Rattle.std.specs.Fmt.{decimal}
use Rattle.std.specs.List.{flat_map, AllByRecursion}
use Rattle.std.proofs.lemmas.Bool.{eqb-true}
use Rattle.std.proofs.lemmas.Bool.Decides.{nat_tests}
use Rattle.te_model.specs.declared.certificate.Row.{Row}
use Rattle.te_model.specs.declared.certificate.Block.{Block}
use Rattle.te_model.specs.declared.certificate.Head.{Head}
use Rattle.te_model.specs.declared.certificate.Certificate.{Certificate}
use Rattle.te_model.specs.declared.limits.Limits.{Limits}
use Rattle.te_model.specs.Formats.{limits_of}
use Rattle.cert_text.specs.declared.limits.Counts.{Counts}
use Rattle.cert_text.specs.Place.{Place, place, ◌>>=◌}
use Rattle.cert_text.specs.Reading.{read_word, read_line_end, read_number, read_narrow, read_next_number, read_next_count, read_many}
use Rattle.cert_text.specs.Grammar.{read_counted, read_listing, read_network, read_routes, read_number_line, read_row, read_ratio, read_set, read_head, read_sides, read_block, read_format, read_opening, read_closing, read_certificate, counts_of}
use Rattle.cert_text.specs.Fits.{IsWord, FitsList, FitsRow, FitsHead, FitsSides, FitsBlock, FitsFormat}
use Rattle.cert_text.specs.Pieces.{with_space, counted_text, listing_text, network_text, row_text, routes_text, set_text, head_text, number_line, sides_text, block_text, format_text, opening_text, certificate_text}
use Rattle.cert_text.proofs.Decimals.{bind_ok, where_ok, ok_is, number_again, begins_with_digit}
use Rattle.cert_text.proofs.Tokens.{exact, word_takes, line_end_takes, line_end_again, Took, word_takes_number, narrow_takes, narrow_again, IsCount, next_number_takes, next_number_again, next_count_takes, next_count_again, many_takes, Again, many_again}
use Rattle.cert_text.proofs.Productions.{HasRoom, room_of, count_word, spaced_stop, joined, regroup_four, counted_takes, counted_again, listing_takes, listing_again, network_takes, network_again, routes_takes, routes_again, set_takes, set_again, format_takes, format_again, ratio_takes, ratio_again, row_takes, row_again}

first_line : (f : ℕ) (os r : List ℕ) → number_line (f ∷ os) ++ r ≡ decimal f ++ (flat_map with_space os ++ ((10 ∷ []) ++ r))
first_line f os r = rw (joined (decimal f) os) (simp append_assoc)

pub number_line_takes : (n : ℕ) (low : 1 ≤ n) (p : Place) (x : List ℕ) (q : Place) → read_number_line n p ≡ Ok (x, q) → Took number_line (FitsList n) p x q
unfolding read_number_line
number_line_takes n low p x q e =
    let s0 = bind_ok (read_number p) (λ first. read_many (n - 1) read_next_number first.1 >>= λ others. read_line_end others.1 >>= λ e. Ok (first.0 ∷ others.0, e)) (x, q) e in
    let t0 = word_takes_number p s0.0.0 s0.0.1 s0.1 in
    let s1 = bind_ok (read_many (n - 1) read_next_number s0.0.1) (λ others. read_line_end others.1 >>= λ e. Ok (s0.0.0 ∷ others.0, e)) (x, q) s0.2 in
    let t1 = many_takes read_next_number with_space IsWord next_number_takes (n - 1) s0.0.1 s1.0.0 s1.0.1 s1.1 in
    let s2 = bind_ok (read_line_end s1.0.1) (λ e. Ok (s0.0.0 ∷ s1.0.0, e)) (x, q) s1.2 in
    let t2 = line_end_takes s1.0.1 s2.0 s2.1 in
    let made : List ℕ = s0.0.0 ∷ s1.0.0 in
    let whole : p.rest ≡ number_line made ++ s2.0.rest =
    (t0.parts ∙ ap (λ (r : List ℕ). decimal s0.0.0 ++ r) (t1.0 ∙ ap (λ (r : List ℕ). flat_map with_space s1.0.0 ++ r) t2)) ∙ sym (first_line s0.0.0 s1.0.0 s2.0.rest) in
    let count : length made ≡ n = omega (arith, t1.1) in
    subst (λ (y : List ℕ × Place). Took number_line (FitsList n) p y.0 y.1) (ok_is {A = List ℕ × Place} (made, s2.0) (x, q) s2.2)
    (record { parts = whole; good = record { count = count; words = (t0.good, t1.2) } })

pub number_line_again : (n : ℕ) (low : 1 ≤ n) (x : List ℕ) (k : ℕ) (r : List ℕ) → FitsList n x → Again (read_number_line n) (number_line x) x r k
unfolding read_number_line
number_line_again n low [] k r fits = absurd (let none = fits.count in omega arith)
number_line_again n low (f ∷ os) k r fits =
    let rest : length os ≡ n - 1 = let all = fits.count in omega arith in
    let a0 = number_again k f (flat_map with_space os ++ ((10 ∷ []) ++ r)) fits.words.0 (spaced_stop os _ refl) in
    let a1 = many_again read_next_number with_space IsWord (λ r. begins_with_digit r ≡ false) (λ x r. refl) (λ x k r f s. (k, next_number_again k x r f s)) os k ((10 ∷ []) ++ r) fits.words.1 refl in
    (a1.0 + 1, ap (λ (bs : List ℕ). read_number_line n (place k bs)) (first_line f os r) ∙ rw (a0, ← rest, a1.1) refl)

abbrev pub FitsOpening : Head × ℕ → Type 0
FitsOpening x = FitsHead (limits_of x.0.format) x.0 × IsCount 0 (limits_of x.0.format).links x.1

regroup_three : (a b c r : List ℕ) → (a ++ (b ++ c)) ++ r ≡ a ++ (b ++ (c ++ r))
regroup_three a b c r = simp append_assoc

block_regroup : (a b c d e f g h r : List ℕ) → (((a ++ (b ++ (c ++ d))) ++ e) ++ (f ++ (g ++ h))) ++ r ≡ a ++ (b ++ (c ++ (d ++ (e ++ (f ++ (g ++ (h ++ r)))))))
block_regroup a b c d e f g h r = simp append_assoc

block_whole : (bounded : Bool) (link a b n : ℕ) (weights : List ℕ) (rows : List Row) (sides : List ℕ × List ℕ) (r r0 r1 r2 r3 r4 r5 r6 r7 : List ℕ)
    → length rows ≡ n → r ≡ decimal link ++ r0 → r0 ≡ with_space a ++ r1 → r1 ≡ with_space b ++ r2 → r2 ≡ with_space n ++ r3 → r3 ≡ (10 ∷ []) ++ r4
    → r4 ≡ number_line weights ++ r5 → r5 ≡ flat_map row_text rows ++ r6 → r6 ≡ sides_text bounded sides ++ r7
    → r ≡ block_text bounded (record { link = link; a = a; b = b; weights = weights; rows = rows; plus = sides.0; minus = sides.1 }) ++ r7
block_whole bounded link a b n weights rows sides r r0 r1 r2 r3 r4 r5 r6 r7 len e0 e1 e2 e3 e4 e5 e6 e7 =
    let count : r2 ≡ with_space (length rows) ++ r3 = e3 ∙ ap (λ (m : ℕ). with_space m ++ r3) (sym len) in
    let tail : r3 ≡ (10 ∷ []) ++ (number_line weights ++ (flat_map row_text rows ++ (sides_text bounded sides ++ r7))) =
    e4 ∙ ap (λ (x : List ℕ). 10 ∷ x) (e5 ∙ ap (λ (x : List ℕ). number_line weights ++ x) (e6 ∙ ap (λ (x : List ℕ). flat_map row_text rows ++ x) e7)) in
    let front : r ≡ decimal link ++ (with_space a ++ (with_space b ++ (with_space (length rows) ++ r3))) =
    e0 ∙ ap (λ (x : List ℕ). decimal link ++ x) (e1 ∙ ap (λ (x : List ℕ). with_space a ++ x) (e2 ∙ ap (λ (x : List ℕ). with_space b ++ x) count)) in
    front ∙ ap (λ (x : List ℕ). decimal link ++ (with_space a ++ (with_space b ++ (with_space (length rows) ++ x)))) tail
    ∙ sym (block_regroup (decimal link) (with_space a) (with_space b) (with_space (length rows)) (10 ∷ []) (number_line weights) (flat_map row_text rows) (sides_text bounded sides) r7)

pub sides_takes : (bounded : Bool) (pairs : ℕ) (p : Place) (x : List ℕ × List ℕ) (q : Place) → read_sides bounded pairs p ≡ Ok (x, q) → Took (sides_text bounded) (λ s. FitsSides bounded pairs s.0 s.1) p x q
unfolding read_sides
sides_takes false pairs p x q e =
    let none : List ℕ × List ℕ = ([], []) in
    subst (λ (y : (List ℕ × List ℕ) × Place). Took (sides_text false) (λ s. FitsSides false pairs s.0 s.1) p y.0 y.1) (ok_is {A = (List ℕ × List ℕ) × Place} (none, p) (x, q) e)
    (record { parts = refl; good = (refl, refl) })
sides_takes true pairs p x q e =
    let s0 = bind_ok (read_listing (codes "plus") pairs p) (λ plus. read_listing (codes "minus") pairs plus.1 >>= λ minus. Ok ((plus.0, minus.0), minus.1)) (x, q) e in
    let t0 = listing_takes (codes "plus") pairs p s0.0.0 s0.0.1 s0.1 in
    let s1 = bind_ok (read_listing (codes "minus") pairs s0.0.1) (λ minus. Ok ((s0.0.0, minus.0), minus.1)) (x, q) s0.2 in
    let t1 = listing_takes (codes "minus") pairs s0.0.1 s1.0.0 s1.0.1 s1.1 in
    let made : List ℕ × List ℕ = (s0.0.0, s1.0.0) in
    let whole : p.rest ≡ sides_text true made ++ s1.0.1.rest =
    t0.parts ∙ ap (λ (r : List ℕ). listing_text (codes "plus") s0.0.0 ++ r) t1.parts ∙ sym (append_assoc (listing_text (codes "plus") s0.0.0) (listing_text (codes "minus") s1.0.0) s1.0.1.rest) in
    subst (λ (y : (List ℕ × List ℕ) × Place). Took (sides_text true) (λ s. FitsSides true pairs s.0 s.1) p y.0 y.1) (ok_is {A = (List ℕ × List ℕ) × Place} (made, s1.0.1) (x, q) s1.2)
    (record { parts = whole; good = (t0.good, t1.good) })

pub sides_again : (bounded : Bool) (pairs : ℕ) (x : List ℕ × List ℕ) (k : ℕ) (r : List ℕ) → FitsSides bounded pairs x.0 x.1 → Again (read_sides bounded pairs) (sides_text bounded x) x r k
unfolding read_sides
sides_again false pairs x k r fits = (k, rw (fits.0, fits.1) refl)
sides_again true pairs x k r fits =
    let a0 = listing_again (codes "plus") pairs x.0 k (listing_text (codes "minus") x.1 ++ r) fits.0 in
    let a1 = listing_again (codes "minus") pairs x.1 a0.0 r fits.1 in
    (a1.0, ap (λ (bs : List ℕ). read_sides true pairs (place k bs)) (append_assoc (listing_text (codes "plus") x.0) (listing_text (codes "minus") x.1) r) ∙ rw (a0.1, a1.1) refl)

head_at_text : (limits : Limits) (x : Head) (r : List ℕ) → head_text x ++ r ≡ network_text x.network ++ (routes_text x.routes ++ (set_text x.set ++ (counted_text (codes "ratio ") x.ratio ++ r)))
head_at_text limits x r = regroup_four (network_text x.network) (routes_text x.routes) (set_text x.set) (counted_text (codes "ratio ") x.ratio) r

pub head_takes : (limits : Limits) (p : Place) (x : Head) (q : Place) → read_head limits exact p ≡ Ok (x, q) → Took head_text ((FitsHead limits)) p x q
unfolding read_head
head_takes limits p x q e =
    let s0 = bind_ok (read_network limits exact p) (λ network. read_routes limits exact network.1 >>= λ routes. read_set limits (length routes.0) routes.1 >>= λ set. read_ratio set.1 >>= λ ratio. Ok (record { format = limits.format; network = network.0; routes = routes.0; set = set.0; ratio = ratio.0 }, ratio.1)) (x, q) e in
    let t0 = network_takes limits p s0.0.0 s0.0.1 s0.1 in
    let s1 = bind_ok (read_routes limits exact s0.0.1) (λ routes. read_set limits (length routes.0) routes.1 >>= λ set. read_ratio set.1 >>= λ ratio. Ok (record { format = limits.format; network = s0.0.0; routes = routes.0; set = set.0; ratio = ratio.0 }, ratio.1)) (x, q) s0.2 in
    let t1 = routes_takes limits s0.0.1 s1.0.0 s1.0.1 s1.1 in
    let s2 = bind_ok (read_set limits (length s1.0.0) s1.0.1) (λ set. read_ratio set.1 >>= λ ratio. Ok (record { format = limits.format; network = s0.0.0; routes = s1.0.0; set = set.0; ratio = ratio.0 }, ratio.1)) (x, q) s1.2 in
    let t2 = set_takes limits (length s1.0.0) s1.0.1 s2.0.0 s2.0.1 s2.1 in
    let s3 = bind_ok (read_ratio s2.0.1) (λ ratio. Ok (record { format = limits.format; network = s0.0.0; routes = s1.0.0; set = s2.0.0; ratio = ratio.0 }, ratio.1)) (x, q) s2.2 in
    let t3 = ratio_takes s2.0.1 s3.0.0 s3.0.1 s3.1 in
    let made : Head = record { format = limits.format; network = s0.0.0; routes = s1.0.0; set = s2.0.0; ratio = s3.0.0 } in
    let whole : p.rest ≡ head_text made ++ s3.0.1.rest = (t0.parts ∙ ap (λ (r : List ℕ). network_text s0.0.0 ++ r) (t1.parts ∙ ap (λ (r : List ℕ). routes_text s1.0.0 ++ r) (t2.parts ∙ ap (λ (r : List ℕ). set_text s2.0.0 ++ r) (t3.parts)))) ∙ sym (head_at_text limits made s3.0.1.rest) in
    subst (λ (y : Head × Place). Took head_text ((FitsHead limits)) p y.0 y.1) (ok_is {A = Head × Place} (made, s3.0.1) (x, q) s3.2)
    (record { parts = whole; good = record { format = refl; network = t0.good; routes = t1.good; set = t2.good; ratio = t3.good } })

pub head_again : (limits : Limits) (room : HasRoom limits) (x : Head) (k : ℕ) (r : List ℕ) → (FitsHead limits) x → Again (read_head limits exact) (head_text x) x r k
unfolding read_head
head_again limits room x k r fits =
    let a0 = network_again limits room x.network k (routes_text x.routes ++ (set_text x.set ++ (counted_text (codes "ratio ") x.ratio ++ r))) fits.network in
    let a1 = routes_again limits room x.routes a0.0 (set_text x.set ++ (counted_text (codes "ratio ") x.ratio ++ r)) fits.routes in
    let a2 = set_again limits (length x.routes) x.set a1.0 (counted_text (codes "ratio ") x.ratio ++ r) fits.set in
    let a3 = ratio_again x.ratio a2.0 (r) fits.ratio in
    let read : ℕ → Result (Head × Place) ℕ = λ format. Ok (record { format = format; network = x.network; routes = x.routes; set = x.set; ratio = x.ratio }, place a3.0 r) in
    (a3.0, ap (λ (bs : List ℕ). read_head limits exact (place k bs)) (head_at_text limits x r) ∙ rw (a0.1, a1.1, a2.1, a3.1) (ap read (sym fits.format)))

block_at_text : (limits : Limits) (counts : Counts) (x : Block) (r : List ℕ) → (block_text counts.bounded) x ++ r ≡ decimal x.link ++ (with_space x.a ++ (with_space x.b ++ (with_space (length x.rows) ++ ((10 ∷ []) ++ (number_line x.weights ++ (flat_map row_text x.rows ++ (sides_text counts.bounded (x.plus, x.minus) ++ r)))))))
block_at_text limits counts x r = simp append_assoc

-- what is still read after each number of a block's first line
abbrev K4 : Counts → ℕ → ℕ → ℕ → ℕ → Place → Result (Block × Place) ℕ
K4 counts link a b n e = read_number_line counts.links e >>= λ weights. read_many n (read_row exact counts.nodes) weights.1 >>= λ rows. read_sides counts.bounded counts.pairs rows.1 >>= λ sides. Ok (record { link = link; a = a; b = b; weights = weights.0; rows = rows.0; plus = sides.0.0; minus = sides.0.1 }, sides.1)

abbrev K3 : Counts → ℕ → ℕ → ℕ → ℕ → Place → Result (Block × Place) ℕ
K3 counts link a b n r = read_line_end r >>= λ e. K4 counts link a b n e

abbrev K2 : Limits → Counts → ℕ → ℕ → ℕ → Place → Result (Block × Place) ℕ
K2 limits counts link a b r = read_next_count 0 limits.nodes r >>= λ n. K3 counts link a b n.0 n.1

abbrev K1 : Limits → Counts → ℕ → ℕ → Place → Result (Block × Place) ℕ
K1 limits counts link a r = read_next_number r >>= λ b. K2 limits counts link a b.0 b.1

abbrev K0 : Limits → Counts → ℕ → Place → Result (Block × Place) ℕ
K0 limits counts link r = read_next_number r >>= λ a. K1 limits counts link a.0 a.1

-- the lines of a block after the first
record BlockTail (limits : Limits) (counts : Counts) (link a b n : ℕ) (p : Place) (x : Block) (q : Place) : Type 0 where
  parts : p.rest ≡ number_line x.weights ++ (flat_map row_text x.rows ++ (sides_text counts.bounded (x.plus, x.minus) ++ q.rest))
  link_is : link ≡ x.link
  a_is : a ≡ x.a
  b_is : b ≡ x.b
  rows_are : length x.rows ≡ n
  weights : FitsList counts.links x.weights
  rows : AllByRecursion (FitsRow counts.nodes) x.rows
  sides : FitsSides counts.bounded counts.pairs x.plus x.minus

block_tail : (limits : Limits) (counts : Counts) (low : 1 ≤ counts.links) (link a b n : ℕ) (p : Place) (x : Block) (q : Place)
    → K4 counts link a b n p ≡ Ok (x, q)
    → BlockTail limits counts link a b n p x q
block_tail limits counts low link a b n p x q e =
    let s0 = bind_ok (read_number_line counts.links p) (λ weights. read_many n (read_row exact counts.nodes) weights.1 >>= λ rows. read_sides counts.bounded counts.pairs rows.1 >>= λ sides. Ok (record { link = link; a = a; b = b; weights = weights.0; rows = rows.0; plus = sides.0.0; minus = sides.0.1 }, sides.1)) (x, q) e in
    let t0 = number_line_takes counts.links low p s0.0.0 s0.0.1 s0.1 in
    let s1 = bind_ok (read_many n (read_row exact counts.nodes) s0.0.1) (λ rows. read_sides counts.bounded counts.pairs rows.1 >>= λ sides. Ok (record { link = link; a = a; b = b; weights = s0.0.0; rows = rows.0; plus = sides.0.0; minus = sides.0.1 }, sides.1)) (x, q) s0.2 in
    let t1 = many_takes (read_row exact counts.nodes) row_text (FitsRow counts.nodes) (row_takes counts.nodes) n s0.0.1 s1.0.0 s1.0.1 s1.1 in
    let s2 = bind_ok (read_sides counts.bounded counts.pairs s1.0.1) (λ sides. Ok (record { link = link; a = a; b = b; weights = s0.0.0; rows = s1.0.0; plus = sides.0.0; minus = sides.0.1 }, sides.1)) (x, q) s1.2 in
    let t2 = sides_takes counts.bounded counts.pairs s1.0.1 s2.0.0 s2.0.1 s2.1 in
    let made : Block = record { link = link; a = a; b = b; weights = s0.0.0; rows = s1.0.0; plus = s2.0.0.0; minus = s2.0.0.1 } in
    subst (λ (y : Block × Place). BlockTail limits counts link a b n p y.0 y.1) (ok_is {A = Block × Place} (made, s2.0.1) (x, q) s2.2)
    (record {
      parts = t0.parts ∙ ap (λ (r : List ℕ). number_line s0.0.0 ++ r) (t1.0 ∙ ap (λ (r : List ℕ). flat_map row_text s1.0.0 ++ r) t2.parts);
      link_is = refl;
      a_is = refl;
      b_is = refl;
      rows_are = t1.1;
      weights = t0.good;
      rows = t1.2;
      sides = t2.good;
    })

block_front : (limits : Limits) (counts : Counts) (link a b n : ℕ) (p p0 p1 p2 p3 p4 : Place) (x : Block) (q : Place)
    → Took decimal IsWord p link p0 → Took with_space IsWord p0 a p1 → Took with_space IsWord p1 b p2 → Took with_space (IsCount 0 limits.nodes) p2 n p3 → p3.rest ≡ (10 ∷ []) ++ p4.rest
    → BlockTail limits counts link a b n p4 x q → Took (block_text counts.bounded) (FitsBlock limits counts) p x q
block_front limits counts link a b n p p0 p1 p2 p3 p4 x q t0 t1 t2 t3 t4 t =
    let e0 : p.rest ≡ decimal x.link ++ p0.rest = t0.parts ∙ ap (λ (m : ℕ). decimal m ++ p0.rest) t.link_is in
    let e1 : p0.rest ≡ with_space x.a ++ p1.rest = t1.parts ∙ ap (λ (m : ℕ). with_space m ++ p1.rest) t.a_is in
    let e2 : p1.rest ≡ with_space x.b ++ p2.rest = t2.parts ∙ ap (λ (m : ℕ). with_space m ++ p2.rest) t.b_is in
    let e3 : p2.rest ≡ with_space (length x.rows) ++ p3.rest = t3.parts ∙ ap (λ (m : ℕ). with_space m ++ p3.rest) (sym t.rows_are) in
    let e4 : p3.rest ≡ (10 ∷ []) ++ (number_line x.weights ++ (flat_map row_text x.rows ++ (sides_text counts.bounded (x.plus, x.minus) ++ q.rest))) = t4 ∙ ap (λ (r : List ℕ). 10 ∷ r) t.parts in
    record {
      parts = e0 ∙ ap (λ (r : List ℕ). decimal x.link ++ r) (e1 ∙ ap (λ (r : List ℕ). with_space x.a ++ r) (e2 ∙ ap (λ (r : List ℕ). with_space x.b ++ r) (e3 ∙ ap (λ (r : List ℕ). with_space (length x.rows) ++ r) e4)))
          ∙ sym (block_regroup (decimal x.link) (with_space x.a) (with_space x.b) (with_space (length x.rows)) (10 ∷ []) (number_line x.weights) (flat_map row_text x.rows) (sides_text counts.bounded (x.plus, x.minus)) q.rest);
      good = record {
        link = subst IsWord t.link_is t0.good;
        a = subst IsWord t.a_is t1.good;
        b = subst IsWord t.b_is t2.good;
        count = subst (IsCount 0 limits.nodes) (sym t.rows_are) t3.good;
        weights = t.weights;
        rows = t.rows;
        sides = t.sides;
      };
    }

pub block_takes : (limits : Limits) (counts : Counts) (low : 1 ≤ counts.links) (p : Place) (x : Block) (q : Place) → read_block limits exact counts p ≡ Ok (x, q) → Took (block_text counts.bounded) (FitsBlock limits counts) p x q
unfolding read_block
block_takes limits counts low p x q e =
    let s0 = bind_ok (read_narrow exact p) (λ link. K0 limits counts link.0 link.1) (x, q) e in
    let s1 = bind_ok (read_next_number s0.0.1) (λ a. K1 limits counts s0.0.0 a.0 a.1) (x, q) s0.2 in
    let s2 = bind_ok (read_next_number s1.0.1) (λ b. K2 limits counts s0.0.0 s1.0.0 b.0 b.1) (x, q) s1.2 in
    let s3 = bind_ok (read_next_count 0 limits.nodes s2.0.1) (λ n. K3 counts s0.0.0 s1.0.0 s2.0.0 n.0 n.1) (x, q) s2.2 in
    let s4 = bind_ok (read_line_end s3.0.1) (λ e. K4 counts s0.0.0 s1.0.0 s2.0.0 s3.0.0 e) (x, q) s3.2 in
    block_front limits counts s0.0.0 s1.0.0 s2.0.0 s3.0.0 p s0.0.1 s1.0.1 s2.0.1 s3.0.1 s4.0 x q
    (narrow_takes p s0.0.0 s0.0.1 s0.1) (next_number_takes s0.0.1 s1.0.0 s1.0.1 s1.1) (next_number_takes s1.0.1 s2.0.0 s2.0.1 s2.1)
    (next_count_takes 0 limits.nodes s2.0.1 s3.0.0 s3.0.1 s3.1) (line_end_takes s3.0.1 s4.0 s4.1)
    (block_tail limits counts low s0.0.0 s1.0.0 s2.0.0 s3.0.0 s4.0 x q s4.2)

pub block_again : (limits : Limits) (counts : Counts) (room : HasRoom limits) (low : 1 ≤ counts.links) (x : Block) (k : ℕ) (r : List ℕ) → (FitsBlock limits counts) x → Again (read_block limits exact counts) ((block_text counts.bounded) x) x r k
unfolding read_block
block_again limits counts room low x k r fits =
    let a0 = narrow_again k x.link (with_space x.a ++ (with_space x.b ++ (with_space (length x.rows) ++ ((10 ∷ []) ++ (number_line x.weights ++ (flat_map row_text x.rows ++ (sides_text counts.bounded (x.plus, x.minus) ++ r))))))) fits.link refl in
    let a1 = next_number_again k x.a (with_space x.b ++ (with_space (length x.rows) ++ ((10 ∷ []) ++ (number_line x.weights ++ (flat_map row_text x.rows ++ (sides_text counts.bounded (x.plus, x.minus) ++ r)))))) fits.a refl in
    let a2 = next_number_again k x.b (with_space (length x.rows) ++ ((10 ∷ []) ++ (number_line x.weights ++ (flat_map row_text x.rows ++ (sides_text counts.bounded (x.plus, x.minus) ++ r))))) fits.b refl in
    let a3 = next_count_again 0 limits.nodes k (length x.rows) ((10 ∷ []) ++ (number_line x.weights ++ (flat_map row_text x.rows ++ (sides_text counts.bounded (x.plus, x.minus) ++ r)))) fits.count (count_word 0 limits.nodes (length x.rows) fits.count room.nodes) refl in
    let a4 = line_end_again k (number_line x.weights ++ (flat_map row_text x.rows ++ (sides_text counts.bounded (x.plus, x.minus) ++ r))) in
    let a5 = number_line_again counts.links low x.weights (k + 1) (flat_map row_text x.rows ++ (sides_text counts.bounded (x.plus, x.minus) ++ r)) fits.weights in
    let a6 = many_again (read_row exact counts.nodes) row_text ((FitsRow counts.nodes)) (λ r. Unit {0}) (λ x r. tt) (λ x k r f s. row_again counts.nodes x k r f) x.rows a5.0 (sides_text counts.bounded (x.plus, x.minus) ++ r) fits.rows tt in
    let a7 = sides_again counts.bounded counts.pairs (x.plus, x.minus) a6.0 (r) fits.sides in
    (a7.0, ap (λ (bs : List ℕ). read_block limits exact counts (place k bs)) (block_at_text limits counts x r) ∙ rw (a0, a1, a2, a3, a5.1, a6.1, a7.1) refl)

opening_at_text : (x : Head × ℕ) (r : List ℕ) → opening_text x ++ r ≡ format_text x.0.format ++ (head_text x.0 ++ (counted_text (codes "blocks ") x.1 ++ r))
opening_at_text x r = regroup_three (format_text x.0.format) (head_text x.0) (counted_text (codes "blocks ") x.1) r

pub opening_takes : (p : Place) (x : Head × ℕ) (q : Place) → read_opening exact p ≡ Ok (x, q) → Took opening_text FitsOpening p x q
unfolding read_opening
opening_takes p x q e =
    let s0 = bind_ok (read_format p) (λ format. read_head (limits_of format.0) exact format.1 >>= λ head. read_counted (codes "blocks ") 0 (limits_of format.0).links head.1 >>= λ n. Ok ((head.0, n.0), n.1)) (x, q) e in
    let t0 = format_takes p s0.0.0 s0.0.1 s0.1 in
    let limits = limits_of s0.0.0 in
    let s1 = bind_ok (read_head limits exact s0.0.1) (λ head. read_counted (codes "blocks ") 0 limits.links head.1 >>= λ n. Ok ((head.0, n.0), n.1)) (x, q) s0.2 in
    let t1 = head_takes limits s0.0.1 s1.0.0 s1.0.1 s1.1 in
    let s2 = bind_ok (read_counted (codes "blocks ") 0 limits.links s1.0.1) (λ n. Ok ((s1.0.0, n.0), n.1)) (x, q) s1.2 in
    let t2 = counted_takes (codes "blocks ") 0 limits.links s1.0.1 s2.0.0 s2.0.1 s2.1 in
    let made : Head × ℕ = (s1.0.0, s2.0.0) in
    let named : s0.0.0 ≡ s1.0.0.format = sym (t1.good.format ∙ t0.good) in
    let whole : p.rest ≡ opening_text made ++ s2.0.1.rest =
    (t0.parts ∙ ap (λ (r : List ℕ). format_text s0.0.0 ++ r) (t1.parts ∙ ap (λ (r : List ℕ). head_text s1.0.0 ++ r) t2.parts))
    ∙ ap (λ (f : ℕ). format_text f ++ (head_text s1.0.0 ++ (counted_text (codes "blocks ") s2.0.0 ++ s2.0.1.rest))) named ∙ sym (opening_at_text made s2.0.1.rest) in
    let good : FitsOpening made = subst (λ (f : ℕ). FitsHead (limits_of f) s1.0.0 × IsCount 0 (limits_of f).links s2.0.0) named (t1.good, t2.good) in
    subst (λ (y : (Head × ℕ) × Place). Took opening_text FitsOpening p y.0 y.1) (ok_is {A = (Head × ℕ) × Place} (made, s2.0.1) (x, q) s2.2)
    (record { parts = whole; good = good })

pub opening_again : (x : Head × ℕ) (k : ℕ) (r : List ℕ) → FitsOpening x → Again (read_opening exact) (opening_text x) x r k
unfolding read_opening
opening_again x k r fits =
    let limits = limits_of x.0.format in
    let room = room_of x.0.format in
    let a0 = format_again x.0.format k (head_text x.0 ++ (counted_text (codes "blocks ") x.1 ++ r)) (sym fits.0.format) in
    let a1 = head_again limits room x.0 a0.0 (counted_text (codes "blocks ") x.1 ++ r) fits.0 in
    let a2 = counted_again (codes "blocks ") 0 limits.links room.links x.1 a1.0 r fits.1 in
    (a2.0, ap (λ (bs : List ℕ). read_opening exact (place k bs)) (opening_at_text x r) ∙ rw (a0.1, a1.1, a2.1) refl)

closing_whole : (p q : Place) → read_closing p ≡ Ok q → (p.rest ≡ codes "end" ++ 10 ∷ []) × (q.rest ≡ [])
unfolding read_closing
closing_whole p q e =
    let s0 = bind_ok (read_word (codes "end") p) (λ a. read_line_end a >>= λ e. cond (eqb (length e.rest) 0) (Ok e) (Err e.line)) q e in
    let t0 = word_takes (codes "end") p s0.0 s0.1 in
    let s1 = bind_ok (read_line_end s0.0) (λ e. cond (eqb (length e.rest) 0) (Ok e) (Err e.line)) q s0.2 in
    let t1 = line_end_takes s0.0 s1.0 s1.1 in
    let g = where_ok (eqb (length s1.0.rest) 0) s1.0.line s1.0 q s1.2 in
    let none : s1.0.rest ≡ [] = nil_from_length s1.0.rest (eqb-true _ _ g.0) in
    (t0 ∙ ap (λ (r : List ℕ). codes "end" ++ r) t1 ∙ ap (λ (r : List ℕ). codes "end" ++ (10 ∷ r)) none, ap (λ (y : Place). y.rest) (sym g.1) ∙ none)

-- nothing may stand after the end
abbrev pub at_end : {X : Type 0} → X → ℕ → List ℕ → Result (X × Place) ℕ
at_end x line r = cond (eqb (length r) 0) (Ok (x, place line r)) (Err line)

abbrev read_at : {X : Type 0} → X → Place → Result (X × Place) ℕ
read_at x e = Ok (x, e)

closing_again : {X : Type 0} (x : X) (k : ℕ) (r : List ℕ) → (read_closing (place k ((codes "end" ++ 10 ∷ []) ++ r)) >>= read_at x) ≡ at_end x (k + 1) r
unfolding read_closing
closing_again x k r = chosen (eqb (length r) 0)
  where
    chosen : (t : Bool) → (cond t (Ok (place (k + 1) r)) (Err (k + 1)) >>= read_at x) ≡ cond t (Ok (x, place (k + 1) r)) (Err (k + 1))
    chosen true = refl
    chosen false = refl

-- the whole: what is read is the text of a certificate that fits, all of the bytes
pub record TookAll (bytes : List ℕ) (c : Certificate) : Type 0 where
  pub parts : bytes ≡ certificate_text c
  pub good : FitsFormat c

some_link : (limits : Limits) (h : Head) → FitsHead limits h → 1 ≤ (counts_of h).links
some_link limits h fits = let within : IsCount 1 limits.links (length h.network.links) = fits.network.links in grind (arith, nat_tests)

pub certificate_takes : (p : Place) (c : Certificate) (q : Place) → read_certificate exact p ≡ Ok (c, q) → TookAll p.rest c
unfolding read_certificate
certificate_takes p c q e =
    let s0 = bind_ok (read_opening exact p) (λ opened. read_many opened.0.1 (read_block (limits_of opened.0.0.format) exact (counts_of opened.0.0)) opened.1 >>= λ blocks. read_closing blocks.1 >>= λ e. Ok (record { head = opened.0.0; blocks = blocks.0 }, e)) (c, q) e in
    let t0 = opening_takes p s0.0.0 s0.0.1 s0.1 in
    let head = s0.0.0.0 in
    let limits = limits_of head.format in
    let low = some_link limits head t0.good.0 in
    let s1 = bind_ok (read_many s0.0.0.1 (read_block limits exact (counts_of head)) s0.0.1) (λ blocks. read_closing blocks.1 >>= λ e. Ok (record { head = head; blocks = blocks.0 }, e)) (c, q) s0.2 in
    let t1 = many_takes (read_block limits exact (counts_of head)) (block_text (counts_of head).bounded) (FitsBlock limits (counts_of head)) (block_takes limits (counts_of head) low) s0.0.0.1 s0.0.1 s1.0.0 s1.0.1 s1.1 in
    let s2 = bind_ok (read_closing s1.0.1) (λ e. Ok (record { head = head; blocks = s1.0.0 }, e)) (c, q) s1.2 in
    let t2 = closing_whole s1.0.1 s2.0 s2.1 in
    let made : Certificate = record { head = head; blocks = s1.0.0 } in
    let whole : p.rest ≡ certificate_text made =
    t0.parts ∙ ap (λ (m : ℕ). opening_text (head, m) ++ s0.0.1.rest) (sym t1.1)
    ∙ ap (λ (r : List ℕ). opening_text (head, length s1.0.0) ++ r) (t1.0 ∙ ap (λ (r : List ℕ). flat_map (block_text (counts_of head).bounded) s1.0.0 ++ r) t2.0) in
    subst (λ (y : Certificate × Place). TookAll p.rest y.0) (ok_is {A = Certificate × Place} (made, s2.0) (c, q) s2.2)
    (record { parts = whole; good = record { head = t0.good.0; count = subst (IsCount 0 limits.links) (sym t1.1) t0.good.1; blocks = t1.2 } })

pub certificate_again : (c : Certificate) (k : ℕ) (r : List ℕ) → FitsFormat c → (m : ℕ) × (read_certificate exact (place k (certificate_text c ++ r)) ≡ at_end c m r)
unfolding read_certificate
certificate_again c k r fits =
    let limits = limits_of c.head.format in
    let low = some_link limits c.head fits.head in
    let counts = counts_of c.head in
    let last = codes "end" ++ 10 ∷ [] in
    let blocks = flat_map (block_text counts.bounded) c.blocks in
    let a0 = opening_again (c.head, length c.blocks) k (blocks ++ (last ++ r)) (fits.head, fits.count) in
    let a1 = many_again (read_block limits exact counts) (block_text counts.bounded) (FitsBlock limits counts) (λ r. Unit {0}) (λ x r. tt)
    (λ x k r f s. block_again limits counts (room_of c.head.format) low x k r f) c.blocks a0.0 (last ++ r) fits.blocks tt in
    (a1.0 + 1, ap (λ (bs : List ℕ). read_certificate exact (place k bs)) (regroup_three (opening_text (c.head, length c.blocks)) blocks last r) ∙ rw (a0.1, a1.1) (closing_again c a1.0 r))
