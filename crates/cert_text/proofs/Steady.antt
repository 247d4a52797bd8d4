-- Each production of the grammar reads line by line: a fault depends on the lines up to it alone, and the lines before it
-- go on to something that is read.
use Rattle.std.proofs.Common.{◌≡◌, ℕ, zero, suc, ◌+◌, ◌-◌, ◌^◌, ◌<◌, Bool, true, false, cond, List, [], ◌∷◌, ◌++◌, length, Result, Ok, Err, refl, arith, eqb, get_or}
use Rattle.std.specs.Prelude.{codes}
use Rattle.std.specs.Char.{is_ascii_digit}
use Rattle.std.proofs.lemmas.Bool.Decides.{nat_tests}
use Rattle.te_model.specs.Network.{is_name_byte}
use Rattle.te_model.specs.declared.demand.DemandSet.{DemandSet}
use Rattle.te_model.specs.declared.demand.DemandSet.TheVariants.{All, Margin, Box}
use Rattle.te_model.specs.declared.limits.Limits.{Limits}
use Rattle.te_model.specs.Formats.{limits_of}
use Rattle.cert_text.specs.declared.limits.Counts.{Counts}
use Rattle.cert_text.specs.Place.{Place, place, ◌>>=◌}
use Rattle.cert_text.specs.Reading.{read_byte, read_word, read_line_end, read_number, read_count, read_narrow, read_next_number, read_next_narrow, read_next_count, read_many, read_name}
use Rattle.cert_text.specs.Grammar.{read_counted, read_listing, read_name_line, read_link_line, read_network, read_path, read_pair, read_routes, read_all, read_margin, read_box, has_boxes, read_bounds, read_set, read_ratio, read_head, read_number_line, read_row, read_sides, read_block, read_digit, read_format, read_opening, read_closing, read_certificate, counts_of}
use Rattle.cert_text.proofs.Tokens.{IsCount}
use Rattle.cert_text.proofs.Productions.{HasRoom, room_of}
use Rattle.cert_text.proofs.Local.{IsLocal, silent, quiet, then_local, then_silent, done_local, same_local, byte_local, line_end_local, number_local, count_local, name_local, fork_local, end_local, regroup_silent, is_one_line}
use Rattle.cert_text.proofs.Completable.{IsCompletable, no_byte, each_byte, then_completable, then_silent_completable, done_completable, same_completable, byte_completable, line_end_completable, number_completable, count_completable, name_completable, fork_completable, end_completable}

-- what may not stand before and after is told by its first byte
pub record IsSteady {X : Type 0} (before after : ℕ → Bool) (f : Place → Result (X × Place) ℕ) : Type 0 where
  pub local : IsLocal f
  pub completable : IsCompletable before after f

pub then_steady : {X Y : Type 0} {a b c : ℕ → Bool} (f : Place → Result (X × Place) ℕ) (g : X → Place → Result (Y × Place) ℕ) → IsSteady a b f → ((x : X) → IsSteady b c (g x)) → IsSteady a c (λ p. f p >>= λ x. g x.0 x.1)
then_steady f g sf sg = record { local = then_local f g sf.local (λ x. (sg x).local); completable = then_completable f g sf.completable (λ x. (sg x).completable) }

pub then_silent_steady : {Y : Type 0} {a b c : ℕ → Bool} (f : Place → Result Place ℕ) (g : Place → Result (Y × Place) ℕ) → IsSteady a b (silent f) → IsSteady b c g → IsSteady a c (λ p. f p >>= g)
then_silent_steady f g sf sg = record { local = then_silent f g sf.local sg.local; completable = then_silent_completable f g sf.completable sg.completable }

pub done_steady : {X : Type 0} {a : ℕ → Bool} (x : X) → IsSteady a a (λ p. Ok (x, p))
done_steady x = record { local = done_local x; completable = done_completable x }

same_steady : {X : Type 0} {a b : ℕ → Bool} (f g : Place → Result (X × Place) ℕ) → ((p : Place) → f p ≡ g p) → IsSteady a b f → IsSteady a b g
same_steady f g same sf = record { local = same_local f g same sf.local; completable = same_completable f g same sf.completable }

-- ---- tokens

byte_steady : {a : ℕ → Bool} (b : ℕ) → a b ≡ false → eqb b 10 ≡ false → IsSteady a no_byte (silent (read_byte b))
byte_steady b opens no_end = record { local = byte_local b no_end; completable = byte_completable b opens no_end }

line_end_steady : {a : ℕ → Bool} → a 10 ≡ false → IsSteady a no_byte (silent read_line_end)
line_end_steady opens = record { local = line_end_local; completable = line_end_completable opens }

number_steady : IsSteady no_byte is_ascii_digit read_number
number_steady = record { local = number_local; completable = number_completable }

count_steady : (low high : ℕ) → IsCount low high low → low < 2 ^ 64 → IsSteady no_byte is_ascii_digit (read_count low high)
count_steady low high some small = record { local = count_local low high; completable = count_completable low high some small }

name_steady : IsSteady no_byte is_name_byte read_name
name_steady = record { local = name_local; completable = name_completable }

end_steady : {a : ℕ → Bool} → IsSteady a each_byte (silent (λ e. cond (eqb (length e.rest) 0) (Ok e) (Err e.line)))
end_steady = record { local = end_local; completable = end_completable }

narrow_steady : (keep : ℕ → ℕ) → IsSteady no_byte is_ascii_digit (read_narrow keep)
unfolding read_narrow
narrow_steady keep = then_steady read_number (λ x p. Ok (keep x, p)) number_steady (λ x. done_steady (keep x))

next_number_steady : {a : ℕ → Bool} → a 32 ≡ false → IsSteady a is_ascii_digit read_next_number
unfolding read_next_number
next_number_steady opens = then_silent_steady (read_byte 32) read_number (byte_steady 32 opens refl) number_steady

next_narrow_steady : (keep : ℕ → ℕ) → IsSteady is_ascii_digit is_ascii_digit (read_next_narrow keep)
unfolding read_next_narrow
next_narrow_steady keep = then_silent_steady (read_byte 32) (read_narrow keep) (byte_steady 32 refl refl) (narrow_steady keep)

next_count_steady : (low high : ℕ) → IsCount low high low → low < 2 ^ 64 → IsSteady is_ascii_digit is_ascii_digit (read_next_count low high)
unfolding read_next_count
next_count_steady low high some small = then_silent_steady (read_byte 32) (read_count low high) (byte_steady 32 refl refl) (count_steady low high some small)

many_steady : {X : Type 0} {a : ℕ → Bool} (item : Place → Result (X × Place) ℕ) → IsSteady a a item → (n : ℕ) → IsSteady a a (read_many n item)
unfolding read_many
many_steady item s zero = done_steady []
many_steady item s (suc n) = then_steady item (λ x p. read_many n item p >>= λ others. Ok (x ∷ others.0, others.1)) s
    (λ x. then_steady (read_many n item) (λ xs p. Ok (x ∷ xs, p)) (many_steady item s n) (λ xs. done_steady (x ∷ xs)))

-- one item or more, of which the first stands after something else
some_steady : {X : Type 0} {a b : ℕ → Bool} (item : Place → Result (X × Place) ℕ) → IsSteady a b item → IsSteady b b item → (n : ℕ) → IsSteady a b (read_many (suc n) item)
unfolding read_many
some_steady item first next n = then_steady item (λ x p. read_many n item p >>= λ others. Ok (x ∷ others.0, others.1)) first
    (λ x. then_steady (read_many n item) (λ xs p. Ok (x ∷ xs, p)) (many_steady item next n) (λ xs. done_steady (x ∷ xs)))

word_steady : (w : List ℕ) → is_one_line w ≡ true → IsSteady no_byte no_byte (silent (read_word w))
word_steady [] one = done_steady tt
word_steady (b ∷ bs) one =
    let first : eqb b 10 ≡ false = grind (arith, nat_tests) in
    let others : is_one_line bs ≡ true = grind (arith, nat_tests) in
    same_steady (λ p. read_byte b p >>= silent (read_word bs)) (silent (read_word (b ∷ bs))) (λ p. regroup_silent (read_byte b p) (read_word bs))
    (then_silent_steady (read_byte b) (silent (read_word bs)) (byte_steady b refl first) (word_steady bs others))

none_steady : {X : Type 0} {a : ℕ → Bool} (item : Place → Result (X × Place) ℕ) → IsSteady a a (read_many zero item)
unfolding read_many
none_steady item = done_steady []

-- numbers to the end of a line that a word begins
numbers_steady : (n : ℕ) → IsSteady no_byte no_byte (λ p. read_many n read_next_number p >>= λ xs. read_line_end xs.1 >>= λ e. Ok (xs.0, e))
numbers_steady zero = then_steady (read_many zero read_next_number) (λ xs p. read_line_end p >>= λ e. Ok (xs, e)) (none_steady read_next_number)
    (λ xs. then_silent_steady read_line_end (λ e. Ok (xs, e)) (line_end_steady refl) (done_steady xs))
numbers_steady (suc n) = then_steady (read_many (suc n) read_next_number) (λ xs p. read_line_end p >>= λ e. Ok (xs, e)) (some_steady read_next_number (next_number_steady refl) (next_number_steady refl) n)
    (λ xs. then_silent_steady read_line_end (λ e. Ok (xs, e)) (line_end_steady refl) (done_steady xs))

-- a count from which a first one is taken
none_within : (high : ℕ) → IsCount 0 high 0
none_within high = grind (arith, nat_tests)

-- ---- productions

pub counted_steady : (word : List ℕ) (low high : ℕ) (one : is_one_line word ≡ true) → IsCount low high low → low < 2 ^ 64 → IsSteady no_byte no_byte (read_counted word low high)
unfolding read_counted
counted_steady word low high one some small =
    then_silent_steady (read_word word) (λ p. read_count low high p >>= λ n. read_line_end n.1 >>= λ e. Ok (n.0, e)) (word_steady word one)
    (then_steady (read_count low high) (λ n p. read_line_end p >>= λ e. Ok (n, e)) (count_steady low high some small)
    (λ n. then_silent_steady read_line_end (λ p. Ok (n, p)) (line_end_steady refl) (done_steady n)))

pub listing_steady : (word : List ℕ) (n : ℕ) (one : is_one_line word ≡ true) → IsSteady no_byte no_byte (read_listing word n)
unfolding read_listing
listing_steady word n one = then_silent_steady (read_word word) (λ a. read_many n read_next_number a >>= λ xs. read_line_end xs.1 >>= λ e. Ok (xs.0, e)) (word_steady word one) (numbers_steady n)

pub name_line_steady : IsSteady no_byte no_byte (read_name_line)
unfolding read_name_line
name_line_steady =
    then_steady read_name (λ n p. read_line_end p >>= λ e. Ok (n, e)) name_steady
    (λ n. then_silent_steady read_line_end (λ p. Ok (n, p)) (line_end_steady refl) (done_steady n))

pub link_line_steady : (keep : ℕ → ℕ) → IsSteady no_byte no_byte (read_link_line keep)
unfolding read_link_line
link_line_steady keep =
    then_steady (read_narrow keep) (λ tail p. read_next_narrow keep p >>= λ head. read_next_number head.1 >>= λ capacity. read_next_narrow keep capacity.1 >>= λ cost. read_line_end cost.1 >>= λ e. Ok (record { tail = tail; head = head.0; capacity = capacity.0; cost = cost.0 }, e)) (narrow_steady keep)
    (λ tail. then_steady (read_next_narrow keep) (λ head p. read_next_number p >>= λ capacity. read_next_narrow keep capacity.1 >>= λ cost. read_line_end cost.1 >>= λ e. Ok (record { tail = tail; head = head; capacity = capacity.0; cost = cost.0 }, e)) (next_narrow_steady keep)
    (λ head. then_steady read_next_number (λ capacity p. read_next_narrow keep p >>= λ cost. read_line_end cost.1 >>= λ e. Ok (record { tail = tail; head = head; capacity = capacity; cost = cost.0 }, e)) (next_number_steady refl)
    (λ capacity. then_steady (read_next_narrow keep) (λ cost p. read_line_end p >>= λ e. Ok (record { tail = tail; head = head; capacity = capacity; cost = cost }, e)) (next_narrow_steady keep)
    (λ cost. then_silent_steady read_line_end (λ p. Ok (record { tail = tail; head = head; capacity = capacity; cost = cost }, p)) (line_end_steady refl) (done_steady (record { tail = tail; head = head; capacity = capacity; cost = cost }))))))

pub network_steady : (limits : Limits) (room : HasRoom limits) (keep : ℕ → ℕ) → IsSteady no_byte no_byte (read_network limits keep)
unfolding read_network
network_steady limits room keep =
    then_steady (read_counted (codes "nodes ") 2 limits.nodes) (λ n p. read_many n read_name_line p >>= λ names. read_counted (codes "links ") 1 limits.links names.1 >>= λ m. read_many m.0 (read_link_line keep) m.1 >>= λ links. Ok (record { names = names.0; links = links.0 }, links.1)) (counted_steady (codes "nodes ") 2 limits.nodes refl room.some_nodes (omega arith))
    (λ n. then_steady (read_many n read_name_line) (λ names p. read_counted (codes "links ") 1 limits.links p >>= λ m. read_many m.0 (read_link_line keep) m.1 >>= λ links. Ok (record { names = names; links = links.0 }, links.1)) (many_steady read_name_line name_line_steady n)
    (λ names. then_steady (read_counted (codes "links ") 1 limits.links) (λ m p. read_many m (read_link_line keep) p >>= λ links. Ok (record { names = names; links = links.0 }, links.1)) (counted_steady (codes "links ") 1 limits.links refl room.some_links (omega arith))
    (λ m. then_steady (read_many m (read_link_line keep)) (λ links p. Ok (record { names = names; links = links }, p)) (many_steady (read_link_line keep) (link_line_steady keep) m) (λ links. done_steady (record { names = names; links = links })))))

pub path_steady : (limits : Limits) (room : HasRoom limits) (keep : ℕ → ℕ) → IsSteady no_byte no_byte (read_path limits keep)
unfolding read_path
path_steady limits room keep =
    then_steady read_number (λ weight p. read_next_count 1 limits.hops p >>= λ n. read_many n.0 (read_next_narrow keep) n.1 >>= λ links. read_line_end links.1 >>= λ e. Ok (record { links = links.0; weight = weight }, e)) number_steady
    (λ weight. then_steady (read_next_count 1 limits.hops) (λ n p. read_many n (read_next_narrow keep) p >>= λ links. read_line_end links.1 >>= λ e. Ok (record { links = links.0; weight = weight }, e)) (next_count_steady 1 limits.hops room.some_hops (omega arith))
    (λ n. then_steady (read_many n (read_next_narrow keep)) (λ links p. read_line_end p >>= λ e. Ok (record { links = links; weight = weight }, e)) (many_steady (read_next_narrow keep) (next_narrow_steady keep) n)
    (λ links. then_silent_steady read_line_end (λ p. Ok (record { links = links; weight = weight }, p)) (line_end_steady refl) (done_steady (record { links = links; weight = weight })))))

pub pair_steady : (limits : Limits) (room : HasRoom limits) (keep : ℕ → ℕ) → IsSteady no_byte no_byte (read_pair limits keep)
unfolding read_pair
pair_steady limits room keep =
    then_steady (read_narrow keep) (λ src p. read_next_narrow keep p >>= λ dst. read_next_count 1 limits.paths dst.1 >>= λ n. read_line_end n.1 >>= λ e. read_many n.0 (read_path limits keep) e >>= λ paths. Ok (record { pair = record { src = src; dst = dst.0 }; paths = paths.0 }, paths.1)) (narrow_steady keep)
    (λ src. then_steady (read_next_narrow keep) (λ dst p. read_next_count 1 limits.paths p >>= λ n. read_line_end n.1 >>= λ e. read_many n.0 (read_path limits keep) e >>= λ paths. Ok (record { pair = record { src = src; dst = dst }; paths = paths.0 }, paths.1)) (next_narrow_steady keep)
    (λ dst. then_steady (read_next_count 1 limits.paths) (λ n p. read_line_end p >>= λ e. read_many n (read_path limits keep) e >>= λ paths. Ok (record { pair = record { src = src; dst = dst }; paths = paths.0 }, paths.1)) (next_count_steady 1 limits.paths room.some_paths (omega arith))
    (λ n. then_silent_steady read_line_end (λ p. read_many n (read_path limits keep) p >>= λ paths. Ok (record { pair = record { src = src; dst = dst }; paths = paths.0 }, paths.1)) (line_end_steady refl)
    (then_steady (read_many n (read_path limits keep)) (λ paths p. Ok (record { pair = record { src = src; dst = dst }; paths = paths }, p)) (many_steady (read_path limits keep) (path_steady limits room keep) n) (λ paths. done_steady (record { pair = record { src = src; dst = dst }; paths = paths }))))))

pub routes_steady : (limits : Limits) (room : HasRoom limits) (keep : ℕ → ℕ) → IsSteady no_byte no_byte (read_routes limits keep)
unfolding read_routes
routes_steady limits room keep = then_steady (read_counted (codes "pairs ") 0 limits.pairs) (λ n p. read_many n (read_pair limits keep) p) (counted_steady (codes "pairs ") 0 limits.pairs refl (none_within limits.pairs) (omega arith)) (λ n. many_steady (read_pair limits keep) (pair_steady limits room keep) n)

pub all_steady : IsSteady no_byte no_byte read_all
unfolding read_all
all_steady = then_silent_steady (read_word (codes "all")) (λ a. read_line_end a >>= λ e. Ok (All, e)) (word_steady (codes "all") refl) (then_silent_steady read_line_end (λ e. Ok (All, e)) (line_end_steady refl) (done_steady All))

pub margin_steady : (pairs : ℕ) → IsSteady no_byte no_byte (read_margin pairs)
unfolding read_margin
margin_steady pairs =
    then_silent_steady (read_word (codes "margin ")) (λ p. read_number p >>= λ num. read_next_number num.1 >>= λ den. read_line_end den.1 >>= λ e. read_listing (codes "base") pairs e >>= λ base. Ok (Margin num.0 den.0 (record { demand = base.0 }), base.1)) (word_steady (codes "margin ") refl)
    (then_steady read_number (λ num p. read_next_number p >>= λ den. read_line_end den.1 >>= λ e. read_listing (codes "base") pairs e >>= λ base. Ok (Margin num den.0 (record { demand = base.0 }), base.1)) number_steady
    (λ num. then_steady read_next_number (λ den p. read_line_end p >>= λ e. read_listing (codes "base") pairs e >>= λ base. Ok (Margin num den (record { demand = base.0 }), base.1)) (next_number_steady refl)
    (λ den. then_silent_steady read_line_end (λ p. read_listing (codes "base") pairs p >>= λ base. Ok (Margin num den (record { demand = base.0 }), base.1)) (line_end_steady refl)
    (then_steady (read_listing (codes "base") pairs) (λ base p. Ok (Margin num den (record { demand = base }), p)) (listing_steady (codes "base") pairs refl) (λ base. done_steady (Margin num den (record { demand = base })))))))

pub box_steady : (pairs : ℕ) → IsSteady no_byte no_byte (read_box pairs)
unfolding read_box
box_steady pairs =
    then_silent_steady (read_word (codes "box")) (λ p. read_line_end p >>= λ e. read_listing (codes "lower") pairs e >>= λ lower. read_listing (codes "upper") pairs lower.1 >>= λ upper. Ok (Box (record { demand = lower.0 }) (record { demand = upper.0 }), upper.1)) (word_steady (codes "box") refl)
    (then_silent_steady read_line_end (λ p. read_listing (codes "lower") pairs p >>= λ lower. read_listing (codes "upper") pairs lower.1 >>= λ upper. Ok (Box (record { demand = lower.0 }) (record { demand = upper.0 }), upper.1)) (line_end_steady refl)
    (then_steady (read_listing (codes "lower") pairs) (λ lower p. read_listing (codes "upper") pairs p >>= λ upper. Ok (Box (record { demand = lower }) (record { demand = upper.0 }), upper.1)) (listing_steady (codes "lower") pairs refl)
    (λ lower. then_steady (read_listing (codes "upper") pairs) (λ upper p. Ok (Box (record { demand = lower }) (record { demand = upper }), p)) (listing_steady (codes "upper") pairs refl) (λ upper. done_steady (Box (record { demand = lower }) (record { demand = upper }))))))

bounds_steady : (limits : Limits) (pairs : ℕ) → IsSteady no_byte no_byte (read_bounds limits pairs)
bounds_steady limits pairs = either (has_boxes limits)
  where
    either : (t : Bool) → IsSteady no_byte no_byte (λ p. cond t (read_box pairs p) (read_margin pairs p))
    either true = box_steady pairs
    either false = margin_steady pairs

-- nothing is read where nothing stands
all_of_nothing : (n : ℕ) (x : DemandSet) (q : Place) → read_all (place n []) ≡ Ok (x, q) → ⊥
unfolding read_all
all_of_nothing n x q e = cc

bounds_of_nothing : (limits : Limits) (pairs n : ℕ) (x : DemandSet) (q : Place) → read_bounds limits pairs (place n []) ≡ Ok (x, q) → ⊥
unfolding read_margin read_box
bounds_of_nothing limits pairs n x q e = either (has_boxes limits) e
  where
    either : (t : Bool) → cond t (read_box pairs (place n [])) (read_margin pairs (place n [])) ≡ Ok (x, q) → ⊥
    either true h = cc
    either false h = cc

all_starts : (n : ℕ) (r : List ℕ) → read_all (place n (codes "all" ++ (10 ∷ r))) ≡ Ok (All, place (n + 1) r)
unfolding read_all
all_starts n r = refl

all_or_bounds_steady : (limits : Limits) (pairs : ℕ) → IsSteady no_byte no_byte (λ a. cond (eqb (get_or a.rest 0 0) 97) (read_all a) (read_bounds limits pairs a))
all_or_bounds_steady limits pairs = record {
  local = fork_local 97 read_all (read_bounds limits pairs) all_steady.local (bounds_steady limits pairs).local;
  completable = fork_completable 97 refl read_all (read_bounds limits pairs) all_steady.completable (bounds_steady limits pairs).completable all_of_nothing (bounds_of_nothing limits pairs) (codes "ll" ++ 10 ∷ []) All 1 all_starts;
}

pub set_steady : (limits : Limits) (pairs : ℕ) → IsSteady no_byte no_byte (read_set limits pairs)
unfolding read_set
set_steady limits pairs = then_silent_steady (read_word (codes "set ")) (λ a. cond (eqb (get_or a.rest 0 0) 97) (read_all a) (read_bounds limits pairs a)) (word_steady (codes "set ") refl) (all_or_bounds_steady limits pairs)

pub ratio_steady : IsSteady no_byte no_byte (read_ratio)
unfolding read_ratio
ratio_steady =
    then_silent_steady (read_word (codes "ratio ")) (λ p. read_number p >>= λ n. read_line_end n.1 >>= λ e. Ok (n.0, e)) (word_steady (codes "ratio ") refl)
    (then_steady read_number (λ n p. read_line_end p >>= λ e. Ok (n, e)) number_steady
    (λ n. then_silent_steady read_line_end (λ p. Ok (n, p)) (line_end_steady refl) (done_steady n)))

pub head_steady : (limits : Limits) (room : HasRoom limits) (keep : ℕ → ℕ) → IsSteady no_byte no_byte (read_head limits keep)
unfolding read_head
head_steady limits room keep =
    then_steady (read_network limits keep) (λ network p. read_routes limits keep p >>= λ routes. read_set limits (length routes.0) routes.1 >>= λ set. read_ratio set.1 >>= λ ratio. Ok (record { format = limits.format; network = network; routes = routes.0; set = set.0; ratio = ratio.0 }, ratio.1)) (network_steady limits room keep)
    (λ network. then_steady (read_routes limits keep) (λ routes p. read_set limits (length routes) p >>= λ set. read_ratio set.1 >>= λ ratio. Ok (record { format = limits.format; network = network; routes = routes; set = set.0; ratio = ratio.0 }, ratio.1)) (routes_steady limits room keep)
    (λ routes. then_steady (read_set limits (length routes)) (λ set p. read_ratio p >>= λ ratio. Ok (record { format = limits.format; network = network; routes = routes; set = set; ratio = ratio.0 }, ratio.1)) (set_steady limits (length routes))
    (λ set. then_steady read_ratio (λ ratio p. Ok (record { format = limits.format; network = network; routes = routes; set = set; ratio = ratio }, p)) ratio_steady (λ ratio. done_steady (record { format = limits.format; network = network; routes = routes; set = set; ratio = ratio })))))

pub number_line_steady : (n : ℕ) → IsSteady no_byte no_byte (read_number_line n)
unfolding read_number_line
number_line_steady n =
    then_steady read_number (λ first p. read_many (n - 1) read_next_number p >>= λ others. read_line_end others.1 >>= λ e. Ok (first ∷ others.0, e)) number_steady
    (λ first. then_steady (read_many (n - 1) read_next_number) (λ others p. read_line_end p >>= λ e. Ok (first ∷ others, e)) (many_steady read_next_number (next_number_steady refl) (n - 1))
    (λ others. then_silent_steady read_line_end (λ p. Ok (first ∷ others, p)) (line_end_steady refl) (done_steady (first ∷ others))))

pub row_steady : (keep : ℕ → ℕ) (nodes : ℕ) → IsSteady no_byte no_byte (read_row keep nodes)
unfolding read_row
row_steady keep nodes =
    then_steady (read_narrow keep) (λ source p. read_many nodes read_next_number p >>= λ potential. read_line_end potential.1 >>= λ e. Ok (record { source = source; potential = potential.0 }, e)) (narrow_steady keep)
    (λ source. then_steady (read_many nodes read_next_number) (λ potential p. read_line_end p >>= λ e. Ok (record { source = source; potential = potential }, e)) (many_steady read_next_number (next_number_steady refl) nodes)
    (λ potential. then_silent_steady read_line_end (λ p. Ok (record { source = source; potential = potential }, p)) (line_end_steady refl) (done_steady (record { source = source; potential = potential }))))

pub sides_steady : (bounded : Bool) (pairs : ℕ) → IsSteady no_byte no_byte (read_sides bounded pairs)
unfolding read_sides
sides_steady false pairs = done_steady ([], [])
sides_steady true pairs = then_steady (read_listing (codes "plus") pairs) (λ plus p. read_listing (codes "minus") pairs p >>= λ minus. Ok ((plus, minus.0), minus.1)) (listing_steady (codes "plus") pairs refl)
    (λ plus. then_steady (read_listing (codes "minus") pairs) (λ minus p. Ok ((plus, minus), p)) (listing_steady (codes "minus") pairs refl) (λ minus. done_steady (plus, minus)))

pub block_steady : (limits : Limits) (room : HasRoom limits) (keep : ℕ → ℕ) (counts : Counts) → IsSteady no_byte no_byte (read_block limits keep counts)
unfolding read_block
block_steady limits room keep counts =
    then_steady (read_narrow keep) (λ link p. read_next_number p >>= λ a. read_next_number a.1 >>= λ b. read_next_count 0 limits.nodes b.1 >>= λ n. read_line_end n.1 >>= λ e. read_number_line counts.links e >>= λ weights. read_many n.0 (read_row keep counts.nodes) weights.1 >>= λ rows. read_sides counts.bounded counts.pairs rows.1 >>= λ sides. Ok (record { link = link; a = a.0; b = b.0; weights = weights.0; rows = rows.0; plus = sides.0.0; minus = sides.0.1 }, sides.1)) (narrow_steady keep)
    (λ link. then_steady read_next_number (λ a p. read_next_number p >>= λ b. read_next_count 0 limits.nodes b.1 >>= λ n. read_line_end n.1 >>= λ e. read_number_line counts.links e >>= λ weights. read_many n.0 (read_row keep counts.nodes) weights.1 >>= λ rows. read_sides counts.bounded counts.pairs rows.1 >>= λ sides. Ok (record { link = link; a = a; b = b.0; weights = weights.0; rows = rows.0; plus = sides.0.0; minus = sides.0.1 }, sides.1)) (next_number_steady refl)
    (λ a. then_steady read_next_number (λ b p. read_next_count 0 limits.nodes p >>= λ n. read_line_end n.1 >>= λ e. read_number_line counts.links e >>= λ weights. read_many n.0 (read_row keep counts.nodes) weights.1 >>= λ rows. read_sides counts.bounded counts.pairs rows.1 >>= λ sides. Ok (record { link = link; a = a; b = b; weights = weights.0; rows = rows.0; plus = sides.0.0; minus = sides.0.1 }, sides.1)) (next_number_steady refl)
    (λ b. then_steady (read_next_count 0 limits.nodes) (λ n p. read_line_end p >>= λ e. read_number_line counts.links e >>= λ weights. read_many n (read_row keep counts.nodes) weights.1 >>= λ rows. read_sides counts.bounded counts.pairs rows.1 >>= λ sides. Ok (record { link = link; a = a; b = b; weights = weights.0; rows = rows.0; plus = sides.0.0; minus = sides.0.1 }, sides.1)) (next_count_steady 0 limits.nodes (none_within limits.nodes) (omega arith))
    (λ n. then_silent_steady read_line_end (λ p. read_number_line counts.links p >>= λ weights. read_many n (read_row keep counts.nodes) weights.1 >>= λ rows. read_sides counts.bounded counts.pairs rows.1 >>= λ sides. Ok (record { link = link; a = a; b = b; weights = weights.0; rows = rows.0; plus = sides.0.0; minus = sides.0.1 }, sides.1)) (line_end_steady refl)
    (then_steady (read_number_line counts.links) (λ weights p. read_many n (read_row keep counts.nodes) p >>= λ rows. read_sides counts.bounded counts.pairs rows.1 >>= λ sides. Ok (record { link = link; a = a; b = b; weights = weights; rows = rows.0; plus = sides.0.0; minus = sides.0.1 }, sides.1)) (number_line_steady counts.links)
    (λ weights. then_steady (read_many n (read_row keep counts.nodes)) (λ rows p. read_sides counts.bounded counts.pairs p >>= λ sides. Ok (record { link = link; a = a; b = b; weights = weights; rows = rows; plus = sides.0.0; minus = sides.0.1 }, sides.1)) (many_steady (read_row keep counts.nodes) (row_steady keep counts.nodes) n)
    (λ rows. then_steady (read_sides counts.bounded counts.pairs) (λ sides p. Ok (record { link = link; a = a; b = b; weights = weights; rows = rows; plus = sides.0; minus = sides.1 }, p)) (sides_steady counts.bounded counts.pairs) (λ sides. done_steady (record { link = link; a = a; b = b; weights = weights; rows = rows; plus = sides.0; minus = sides.1 })))))))))

digit_steady : (format : ℕ) → eqb (48 + format) 10 ≡ false → IsSteady no_byte no_byte (read_digit format)
unfolding read_digit
digit_steady format no_end =
    then_silent_steady (read_byte (48 + format)) (λ p. read_line_end p >>= λ e. Ok (format, e)) (byte_steady (48 + format) refl no_end)
    (then_silent_steady read_line_end (λ p. Ok (format, p)) (line_end_steady refl) (done_steady format))

digit_of_nothing : (format n x : ℕ) (q : Place) → read_digit format (place n []) ≡ Ok (x, q) → ⊥
unfolding read_digit
digit_of_nothing format n x q e = cc

digit_starts : (n : ℕ) (r : List ℕ) → read_digit 2 (place n (50 ∷ ((10 ∷ []) ++ r))) ≡ Ok (2, place (n + 1) r)
unfolding read_digit
digit_starts n r = refl

either_format_steady : IsSteady no_byte no_byte (λ a. cond (eqb (get_or a.rest 0 0) 50) (read_digit 2 a) (read_digit 1 a))
either_format_steady = record {
  local = fork_local 50 (read_digit 2) (read_digit 1) (digit_steady 2 refl).local (digit_steady 1 refl).local;
  completable = fork_completable 50 refl (read_digit 2) (read_digit 1) (digit_steady 2 refl).completable (digit_steady 1 refl).completable (digit_of_nothing 2) (digit_of_nothing 1) (10 ∷ []) 2 1 digit_starts;
}

format_steady : IsSteady no_byte no_byte read_format
unfolding read_format
format_steady = then_silent_steady (read_word (codes "yates-ratio ")) (λ a. cond (eqb (get_or a.rest 0 0) 50) (read_digit 2 a) (read_digit 1 a)) (word_steady (codes "yates-ratio ") refl) either_format_steady

pub opening_steady : (keep : ℕ → ℕ) → IsSteady no_byte no_byte (read_opening keep)
unfolding read_opening
opening_steady keep =
    then_steady read_format (λ format p. read_head (limits_of format) keep p >>= λ head. read_counted (codes "blocks ") 0 (limits_of format).links head.1 >>= λ n. Ok ((head.0, n.0), n.1)) format_steady
    (λ format. then_steady (read_head (limits_of format) keep) (λ head p. read_counted (codes "blocks ") 0 (limits_of format).links p >>= λ n. Ok ((head, n.0), n.1)) (head_steady (limits_of format) (room_of format) keep)
    (λ head. then_steady (read_counted (codes "blocks ") 0 (limits_of format).links) (λ n p. Ok ((head, n), p)) (counted_steady (codes "blocks ") 0 (limits_of format).links refl (none_within (limits_of format).links) (omega arith)) (λ n. done_steady ((head, n)))))

-- a place at which the bytes end
abbrev pub last : Place → Result Place ℕ
last e = cond (eqb (length e.rest) 0) (Ok e) (Err e.line)

pub regroup_three : (r : Result Place ℕ) (f g : Place → Result Place ℕ) → (r >>= λ a. f a >>= silent g) ≡ ((r >>= λ a. f a >>= g) >>= quiet)
regroup_three (Ok q) f g = regroup_silent (f q) g
regroup_three (Err k) f g = refl

pub closing_steady : IsSteady no_byte each_byte (silent read_closing)
unfolding read_closing
closing_steady = same_steady (λ p. read_word (codes "end") p >>= λ a. read_line_end a >>= silent last) (silent (λ p. read_word (codes "end") p >>= λ a. read_line_end a >>= last)) (λ p. regroup_three (read_word (codes "end") p) read_line_end last)
    (then_silent_steady (read_word (codes "end")) (λ a. read_line_end a >>= silent last) (word_steady (codes "end") refl) (then_silent_steady read_line_end (silent last) (line_end_steady refl) end_steady))

pub certificate_steady : (keep : ℕ → ℕ) → IsSteady no_byte each_byte (read_certificate keep)
unfolding read_certificate
certificate_steady keep =
    then_steady (read_opening keep) (λ opened p. read_many opened.1 (read_block (limits_of opened.0.format) keep (counts_of opened.0)) p >>= λ blocks. read_closing blocks.1 >>= λ e. Ok (record { head = opened.0; blocks = blocks.0 }, e)) (opening_steady keep)
    (λ opened. then_steady (read_many opened.1 (read_block (limits_of opened.0.format) keep (counts_of opened.0))) (λ blocks p. read_closing p >>= λ e. Ok (record { head = opened.0; blocks = blocks }, e)) (many_steady (read_block (limits_of opened.0.format) keep (counts_of opened.0)) (block_steady (limits_of opened.0.format) (room_of opened.0.format) keep (counts_of opened.0)) opened.1)
    (λ blocks. then_silent_steady read_closing (λ p. Ok (record { head = opened.0; blocks = blocks }, p)) closing_steady (done_steady (record { head = opened.0; blocks = blocks }))))
