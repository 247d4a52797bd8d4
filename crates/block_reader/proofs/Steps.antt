-- What reading of each part of a certificate takes from the front.
use Rattle.std.proofs.Common.{◌≡◌, ◌∙◌, ℕ, zero, suc, ◌+◌, ◌-◌, ◌*◌, ◌^◌, Bool, true, false, ◌&&◌, cond, List, [], ◌∷◌, ◌++◌, length, Result, Ok, Err, refl, sym, ap, subst, arith, eqb, ltb, get_or, append_assoc, length-append}
use Rattle.std.specs.Prelude.{codes, nat_le}
use Rattle.std.specs.Char.{is_ascii_digit}
use Rattle.te_model.specs.Network.{is_name_byte}
use Rattle.te_model.specs.declared.demand.DemandSet.TheVariants.{All, Margin, Box}
use Rattle.te_model.specs.declared.limits.Limits.{Limits}
use Rattle.cert_text.specs.declared.limits.Counts.{Counts}
use Rattle.cert_text.specs.Place.{Place, place, ◌>>=◌}
use Rattle.cert_text.specs.Reading.{byte_from, read_byte, read_word, read_line_end, read_digits, number_from, read_number, read_count, read_narrow, read_next_number, read_next_narrow, read_next_count, read_many, name_from, read_name}
use Rattle.cert_text.specs.Grammar.{read_counted, read_listing, read_name_line, read_link_line, read_network, read_path, read_pair, read_all, read_margin, read_box, has_boxes, read_bounds, read_set, read_ratio, read_number_line, read_row, read_sides, read_block, read_digit, read_format}
use Rattle.cert_text.proofs.Local.{silent, quiet, silent_bind, regroup_silent}
use Rattle.block_reader.specs.Step.{Took, StepsTo, IsForwardStep}

-- ---- one step after another

joined : (p a q : Place) (front more : List ℕ) → Took p front a → Took a more q → Took p (front ++ more) q
joined p a q front more one two = record {
  parts = one.parts ∙ ap (λ r. front ++ r) two.parts ∙ sym (append_assoc front more q.rest);
  line = omega (arith, one.line, two.line, length-append front more);
}

goes_on : {X : Type 0} (p a : Place) (front : List ℕ) (r : Result (X × Place) ℕ) → Took p front a → StepsTo a r → StepsTo p r
goes_on p a front (Ok x) took steps = (front ++ steps.0, joined p a x.1 front steps.0 took steps.1)
goes_on p a front (Err k) took steps = tt

pub then_step : {X Y : Type 0} (f : Place → Result (X × Place) ℕ) (g : X → Place → Result (Y × Place) ℕ) → IsForwardStep f → ((x : X) → IsForwardStep (g x)) → IsForwardStep (λ p. f p >>= λ x. g x.0 x.1)
then_step {X} {Y} f g sf sg = record { goes = λ p. go p (f p) (sf.goes p) }
  where
    go : (p : Place) (r : Result (X × Place) ℕ) → StepsTo p r → StepsTo p (r >>= λ x. g x.0 x.1)
    go p (Ok x) steps = goes_on p x.1 steps.0 (g x.0 x.1) steps.1 ((sg x.0).goes x.1)
    go p (Err k) steps = tt

still : (p : Place) → Took p [] p
still p = record { parts = refl; line = omega arith }

pub done_step : {X : Type 0} (x : X) → IsForwardStep (λ p. Ok (x, p))
done_step x = record { goes = λ p. ([], still p) }

pub same_step : {X : Type 0} (f g : Place → Result (X × Place) ℕ) → ((p : Place) → f p ≡ g p) → IsForwardStep f → IsForwardStep g
same_step f g same sf = record { goes = λ p. subst (StepsTo p) (same p) (sf.goes p) }

pub then_quiet_step : {Y : Type 0} (f : Place → Result Place ℕ) (g : Place → Result (Y × Place) ℕ) → IsForwardStep (silent f) → IsForwardStep g → IsForwardStep (λ p. f p >>= g)
then_quiet_step f g sf sg = same_step (λ p. silent f p >>= λ x. g x.1) (λ p. f p >>= g) (λ p. silent_bind (f p) g) (then_step (silent f) (λ _ p. g p) sf (λ _. sg))

-- ---- tokens

one_byte : (k b : ℕ) (bs : List ℕ) → Took (place k (b ∷ bs)) (b ∷ []) (place k bs)
one_byte k b bs = record { parts = refl; line = omega arith }

pub byte_step : (b : ℕ) → IsForwardStep (silent (read_byte b))
byte_step b = record { goes = λ p. from p.line p.rest }
  where
    taken : (k x : ℕ) (xs : List ℕ) (t : Bool) → StepsTo (place k (x ∷ xs)) (cond t (Ok (place k xs)) (Err k) >>= quiet)
    taken k x xs true = (x ∷ [], one_byte k x xs)
    taken k x xs false = tt

    from : (k : ℕ) (s : List ℕ) → StepsTo (place k s) (byte_from k b s >>= quiet)
    from k [] = tt
    from k (x ∷ xs) = taken k x xs (eqb x b)

pub line_end_step : IsForwardStep (silent read_line_end)
line_end_step = record { goes = λ p. from p.line p.rest }
  where
    taken : (k x : ℕ) (xs : List ℕ) (t : Bool) → StepsTo (place k (x ∷ xs)) ((cond t (Ok (place k xs)) (Err k) >>= λ q. Ok (place (q.line + 1) q.rest)) >>= quiet)
    taken k x xs true = (x ∷ [], record { parts = refl; line = omega arith })
    taken k x xs false = tt

    from : (k : ℕ) (s : List ℕ) → StepsTo (place k s) ((byte_from k 10 s >>= λ q. Ok (place (q.line + 1) q.rest)) >>= quiet)
    from k [] = tt
    from k (x ∷ xs) = taken k x xs (eqb x 10)

pub word_step : (w : List ℕ) → IsForwardStep (silent (read_word w))
word_step [] = done_step tt
word_step (b ∷ bs) =
    same_step (λ p. read_byte b p >>= silent (read_word bs)) (silent (read_word (b ∷ bs))) (λ p. regroup_silent (read_byte b p) (read_word bs))
    (then_quiet_step (read_byte b) (silent (read_word bs)) (byte_step b) (word_step bs))

digits_step : (k v : ℕ) (s : List ℕ) → StepsTo (place k s) (read_digits k v s)
digits_step k v [] = ([], still (place k []))
digits_step k v (x ∷ xs) = chosen (is_ascii_digit x) (eqb v 0) (ltb (v * 10 + (x - 48)) (2 ^ 64)) (digits_step k (v * 10 + (x - 48)) xs)
  where
    chosen : (t z f : Bool) → StepsTo (place k xs) (read_digits k (v * 10 + (x - 48)) xs) →
        StepsTo (place k (x ∷ xs)) (cond t (cond z (Err k) (cond f (read_digits k (v * 10 + (x - 48)) xs) (Err k))) (Ok (v, place k (x ∷ xs))))
    chosen false z f next = ([], still (place k (x ∷ xs)))
    chosen true true f next = tt
    chosen true false false next = tt
    chosen true false true next = goes_on (place k (x ∷ xs)) (place k xs) (x ∷ []) (read_digits k (v * 10 + (x - 48)) xs) (one_byte k x xs) next

pub number_step : IsForwardStep read_number
unfolding read_number
number_step = record { goes = λ p. from p.line p.rest }
  where
    taken : (k x : ℕ) (xs : List ℕ) (t : Bool) → StepsTo (place k (x ∷ xs)) (cond t (read_digits k (x - 48) xs) (Err k))
    taken k x xs true = goes_on (place k (x ∷ xs)) (place k xs) (x ∷ []) (read_digits k (x - 48) xs) (one_byte k x xs) (digits_step k (x - 48) xs)
    taken k x xs false = tt

    from : (k : ℕ) (s : List ℕ) → StepsTo (place k s) (number_from k s)
    from k [] = tt
    from k (x ∷ xs) = taken k x xs (is_ascii_digit x)

guard_step : {X : Type 0} (x : X) (t : Bool) → IsForwardStep (λ p. cond t (Ok (x, p)) (Err p.line))
guard_step x true = record { goes = λ p. ([], still p) }
guard_step x false = record { goes = λ p. tt }

unless_step : {X : Type 0} (x : X) (t : Bool) → IsForwardStep (λ p. cond t (Err p.line) (Ok (x, p)))
unless_step x true = record { goes = λ p. tt }
unless_step x false = record { goes = λ p. ([], still p) }

pub count_step : (low high : ℕ) → IsForwardStep (read_count low high)
unfolding read_count
count_step low high = then_step read_number (λ x p. cond (nat_le low x && nat_le x high) (Ok (x, p)) (Err p.line)) number_step (λ x. guard_step x (nat_le low x && nat_le x high))

letters_step : (k : ℕ) (front s : List ℕ) → StepsTo (place k s) (name_from k front s)
letters_step k front [] = ([], still (place k []))
letters_step k front (x ∷ xs) = chosen (is_name_byte x) (eqb (length front) 32) (letters_step k (front ++ x ∷ []) xs)
  where
    chosen : (t f : Bool) → StepsTo (place k xs) (name_from k (front ++ x ∷ []) xs) →
        StepsTo (place k (x ∷ xs)) (cond t (cond f (Err k) (name_from k (front ++ x ∷ []) xs)) (Ok (front, place k (x ∷ xs))))
    chosen false f next = ([], still (place k (x ∷ xs)))
    chosen true true next = tt
    chosen true false next = goes_on (place k (x ∷ xs)) (place k xs) (x ∷ []) (name_from k (front ++ x ∷ []) xs) (one_byte k x xs) next

pub name_step : IsForwardStep read_name
unfolding read_name
name_step = then_step (λ p. name_from p.line [] p.rest) (λ x p. cond (eqb (length x) 0) (Err p.line) (Ok (x, p))) (record { goes = λ p. letters_step p.line [] p.rest }) (λ x. unless_step x (eqb (length x) 0))

pub fork_step : {X : Type 0} (byte : ℕ) (f g : Place → Result (X × Place) ℕ) → IsForwardStep f → IsForwardStep g → IsForwardStep (λ a. cond (eqb (get_or a.rest 0 0) byte) (f a) (g a))
fork_step byte f g sf sg = record { goes = λ p. either p (eqb (get_or p.rest 0 0) byte) }
  where
    either : (p : Place) (t : Bool) → StepsTo p (cond t (f p) (g p))
    either p true = sf.goes p
    either p false = sg.goes p

pub narrow_step : (keep : ℕ → ℕ) → IsForwardStep (read_narrow keep)
unfolding read_narrow
narrow_step keep = then_step read_number (λ x p. Ok (keep x, p)) number_step (λ x. done_step (keep x))

pub next_number_step : IsForwardStep read_next_number
unfolding read_next_number
next_number_step = then_quiet_step (read_byte 32) read_number (byte_step 32) number_step

pub next_narrow_step : (keep : ℕ → ℕ) → IsForwardStep (read_next_narrow keep)
unfolding read_next_narrow
next_narrow_step keep = then_quiet_step (read_byte 32) (read_narrow keep) (byte_step 32) (narrow_step keep)

pub next_count_step : (low high : ℕ) → IsForwardStep (read_next_count low high)
unfolding read_next_count
next_count_step low high = then_quiet_step (read_byte 32) (read_count low high) (byte_step 32) (count_step low high)

pub many_step : {X : Type 0} (item : Place → Result (X × Place) ℕ) → IsForwardStep item → (n : ℕ) → IsForwardStep (read_many n item)
unfolding read_many
many_step item s zero = done_step []
many_step item s (suc n) = then_step item (λ x p. read_many n item p >>= λ others. Ok (x ∷ others.0, others.1)) s
    (λ x. then_step (read_many n item) (λ xs p. Ok (x ∷ xs, p)) (many_step item s n) (λ xs. done_step (x ∷ xs)))

pub counted_step : (word : List ℕ) (low high : ℕ) → IsForwardStep (read_counted word low high)
unfolding read_counted
counted_step word low high =
    then_quiet_step (read_word word) (λ p. read_count low high p >>= λ n. read_line_end n.1 >>= λ e. Ok (n.0, e)) (word_step word)
    (then_step (read_count low high) (λ n p. read_line_end p >>= λ e. Ok (n, e)) (count_step low high)
    (λ n. then_quiet_step read_line_end (λ p. Ok (n, p)) line_end_step (done_step n)))

pub listing_step : (word : List ℕ) (n : ℕ) → IsForwardStep (read_listing word n)
unfolding read_listing
listing_step word n = then_quiet_step (read_word word) (λ a. read_many n read_next_number a >>= λ xs. read_line_end xs.1 >>= λ e. Ok (xs.0, e)) (word_step word) (then_step (read_many n read_next_number) (λ xs p. read_line_end p >>= λ e. Ok (xs, e)) (many_step read_next_number next_number_step n)
    (λ xs. then_quiet_step read_line_end (λ e. Ok (xs, e)) line_end_step (done_step xs)))

pub name_line_step : IsForwardStep (read_name_line)
unfolding read_name_line
name_line_step =
    then_step read_name (λ n p. read_line_end p >>= λ e. Ok (n, e)) name_step
    (λ n. then_quiet_step read_line_end (λ p. Ok (n, p)) line_end_step (done_step n))

pub link_line_step : (keep : ℕ → ℕ) → IsForwardStep (read_link_line keep)
unfolding read_link_line
link_line_step keep =
    then_step (read_narrow keep) (λ tail p. read_next_narrow keep p >>= λ head. read_next_number head.1 >>= λ capacity. read_next_narrow keep capacity.1 >>= λ cost. read_line_end cost.1 >>= λ e. Ok (record { tail = tail; head = head.0; capacity = capacity.0; cost = cost.0 }, e)) (narrow_step keep)
    (λ tail. then_step (read_next_narrow keep) (λ head p. read_next_number p >>= λ capacity. read_next_narrow keep capacity.1 >>= λ cost. read_line_end cost.1 >>= λ e. Ok (record { tail = tail; head = head; capacity = capacity.0; cost = cost.0 }, e)) (next_narrow_step keep)
    (λ head. then_step read_next_number (λ capacity p. read_next_narrow keep p >>= λ cost. read_line_end cost.1 >>= λ e. Ok (record { tail = tail; head = head; capacity = capacity; cost = cost.0 }, e)) next_number_step
    (λ capacity. then_step (read_next_narrow keep) (λ cost p. read_line_end p >>= λ e. Ok (record { tail = tail; head = head; capacity = capacity; cost = cost }, e)) (next_narrow_step keep)
    (λ cost. then_quiet_step read_line_end (λ p. Ok (record { tail = tail; head = head; capacity = capacity; cost = cost }, p)) line_end_step (done_step (record { tail = tail; head = head; capacity = capacity; cost = cost }))))))

pub network_step : (limits : Limits) (keep : ℕ → ℕ) → IsForwardStep (read_network limits keep)
unfolding read_network
network_step limits keep =
    then_step (read_counted (codes "nodes ") 2 limits.nodes) (λ n p. read_many n read_name_line p >>= λ names. read_counted (codes "links ") 1 limits.links names.1 >>= λ m. read_many m.0 (read_link_line keep) m.1 >>= λ links. Ok (record { names = names.0; links = links.0 }, links.1)) (counted_step (codes "nodes ") 2 limits.nodes)
    (λ n. then_step (read_many n read_name_line) (λ names p. read_counted (codes "links ") 1 limits.links p >>= λ m. read_many m.0 (read_link_line keep) m.1 >>= λ links. Ok (record { names = names; links = links.0 }, links.1)) (many_step read_name_line name_line_step n)
    (λ names. then_step (read_counted (codes "links ") 1 limits.links) (λ m p. read_many m (read_link_line keep) p >>= λ links. Ok (record { names = names; links = links.0 }, links.1)) (counted_step (codes "links ") 1 limits.links)
    (λ m. then_step (read_many m (read_link_line keep)) (λ links p. Ok (record { names = names; links = links }, p)) (many_step (read_link_line keep) (link_line_step keep) m) (λ links. done_step (record { names = names; links = links })))))

pub path_step : (limits : Limits) (keep : ℕ → ℕ) → IsForwardStep (read_path limits keep)
unfolding read_path
path_step limits keep =
    then_step read_number (λ weight p. read_next_count 1 limits.hops p >>= λ n. read_many n.0 (read_next_narrow keep) n.1 >>= λ links. read_line_end links.1 >>= λ e. Ok (record { links = links.0; weight = weight }, e)) number_step
    (λ weight. then_step (read_next_count 1 limits.hops) (λ n p. read_many n (read_next_narrow keep) p >>= λ links. read_line_end links.1 >>= λ e. Ok (record { links = links.0; weight = weight }, e)) (next_count_step 1 limits.hops)
    (λ n. then_step (read_many n (read_next_narrow keep)) (λ links p. read_line_end p >>= λ e. Ok (record { links = links; weight = weight }, e)) (many_step (read_next_narrow keep) (next_narrow_step keep) n)
    (λ links. then_quiet_step read_line_end (λ p. Ok (record { links = links; weight = weight }, p)) line_end_step (done_step (record { links = links; weight = weight })))))

pub pair_step : (limits : Limits) (keep : ℕ → ℕ) → IsForwardStep (read_pair limits keep)
unfolding read_pair
pair_step limits keep =
    then_step (read_narrow keep) (λ src p. read_next_narrow keep p >>= λ dst. read_next_count 1 limits.paths dst.1 >>= λ n. read_line_end n.1 >>= λ e. read_many n.0 (read_path limits keep) e >>= λ paths. Ok (record { pair = record { src = src; dst = dst.0 }; paths = paths.0 }, paths.1)) (narrow_step keep)
    (λ src. then_step (read_next_narrow keep) (λ dst p. read_next_count 1 limits.paths p >>= λ n. read_line_end n.1 >>= λ e. read_many n.0 (read_path limits keep) e >>= λ paths. Ok (record { pair = record { src = src; dst = dst }; paths = paths.0 }, paths.1)) (next_narrow_step keep)
    (λ dst. then_step (read_next_count 1 limits.paths) (λ n p. read_line_end p >>= λ e. read_many n (read_path limits keep) e >>= λ paths. Ok (record { pair = record { src = src; dst = dst }; paths = paths.0 }, paths.1)) (next_count_step 1 limits.paths)
    (λ n. then_quiet_step read_line_end (λ p. read_many n (read_path limits keep) p >>= λ paths. Ok (record { pair = record { src = src; dst = dst }; paths = paths.0 }, paths.1)) line_end_step
    (then_step (read_many n (read_path limits keep)) (λ paths p. Ok (record { pair = record { src = src; dst = dst }; paths = paths }, p)) (many_step (read_path limits keep) (path_step limits keep) n) (λ paths. done_step (record { pair = record { src = src; dst = dst }; paths = paths }))))))

pub all_step : IsForwardStep read_all
unfolding read_all
all_step = then_quiet_step (read_word (codes "all")) (λ a. read_line_end a >>= λ e. Ok (All, e)) (word_step (codes "all")) (then_quiet_step read_line_end (λ e. Ok (All, e)) line_end_step (done_step All))

pub margin_step : (pairs : ℕ) → IsForwardStep (read_margin pairs)
unfolding read_margin
margin_step pairs =
    then_quiet_step (read_word (codes "margin ")) (λ p. read_number p >>= λ num. read_next_number num.1 >>= λ den. read_line_end den.1 >>= λ e. read_listing (codes "base") pairs e >>= λ base. Ok (Margin num.0 den.0 (record { demand = base.0 }), base.1)) (word_step (codes "margin "))
    (then_step read_number (λ num p. read_next_number p >>= λ den. read_line_end den.1 >>= λ e. read_listing (codes "base") pairs e >>= λ base. Ok (Margin num den.0 (record { demand = base.0 }), base.1)) number_step
    (λ num. then_step read_next_number (λ den p. read_line_end p >>= λ e. read_listing (codes "base") pairs e >>= λ base. Ok (Margin num den (record { demand = base.0 }), base.1)) next_number_step
    (λ den. then_quiet_step read_line_end (λ p. read_listing (codes "base") pairs p >>= λ base. Ok (Margin num den (record { demand = base.0 }), base.1)) line_end_step
    (then_step (read_listing (codes "base") pairs) (λ base p. Ok (Margin num den (record { demand = base }), p)) (listing_step (codes "base") pairs) (λ base. done_step (Margin num den (record { demand = base })))))))

pub box_step : (pairs : ℕ) → IsForwardStep (read_box pairs)
unfolding read_box
box_step pairs =
    then_quiet_step (read_word (codes "box")) (λ p. read_line_end p >>= λ e. read_listing (codes "lower") pairs e >>= λ lower. read_listing (codes "upper") pairs lower.1 >>= λ upper. Ok (Box (record { demand = lower.0 }) (record { demand = upper.0 }), upper.1)) (word_step (codes "box"))
    (then_quiet_step read_line_end (λ p. read_listing (codes "lower") pairs p >>= λ lower. read_listing (codes "upper") pairs lower.1 >>= λ upper. Ok (Box (record { demand = lower.0 }) (record { demand = upper.0 }), upper.1)) line_end_step
    (then_step (read_listing (codes "lower") pairs) (λ lower p. read_listing (codes "upper") pairs p >>= λ upper. Ok (Box (record { demand = lower }) (record { demand = upper.0 }), upper.1)) (listing_step (codes "lower") pairs)
    (λ lower. then_step (read_listing (codes "upper") pairs) (λ upper p. Ok (Box (record { demand = lower }) (record { demand = upper }), p)) (listing_step (codes "upper") pairs) (λ upper. done_step (Box (record { demand = lower }) (record { demand = upper }))))))

bounds_step : (limits : Limits) (pairs : ℕ) → IsForwardStep (read_bounds limits pairs)
bounds_step limits pairs = either (has_boxes limits)
  where
    either : (t : Bool) → IsForwardStep (λ p. cond t (read_box pairs p) (read_margin pairs p))
    either true = box_step pairs
    either false = margin_step pairs

all_or_bounds_step : (limits : Limits) (pairs : ℕ) → IsForwardStep (λ a. cond (eqb (get_or a.rest 0 0) 97) (read_all a) (read_bounds limits pairs a))
all_or_bounds_step limits pairs = fork_step 97 read_all (read_bounds limits pairs) all_step (bounds_step limits pairs)

pub set_step : (limits : Limits) (pairs : ℕ) → IsForwardStep (read_set limits pairs)
unfolding read_set
set_step limits pairs = then_quiet_step (read_word (codes "set ")) (λ a. cond (eqb (get_or a.rest 0 0) 97) (read_all a) (read_bounds limits pairs a)) (word_step (codes "set ")) (all_or_bounds_step limits pairs)

pub ratio_step : IsForwardStep (read_ratio)
unfolding read_ratio
ratio_step =
    then_quiet_step (read_word (codes "ratio ")) (λ p. read_number p >>= λ n. read_line_end n.1 >>= λ e. Ok (n.0, e)) (word_step (codes "ratio "))
    (then_step read_number (λ n p. read_line_end p >>= λ e. Ok (n, e)) number_step
    (λ n. then_quiet_step read_line_end (λ p. Ok (n, p)) line_end_step (done_step n)))

pub number_line_step : (n : ℕ) → IsForwardStep (read_number_line n)
unfolding read_number_line
number_line_step n =
    then_step read_number (λ first p. read_many (n - 1) read_next_number p >>= λ others. read_line_end others.1 >>= λ e. Ok (first ∷ others.0, e)) number_step
    (λ first. then_step (read_many (n - 1) read_next_number) (λ others p. read_line_end p >>= λ e. Ok (first ∷ others, e)) (many_step read_next_number next_number_step (n - 1))
    (λ others. then_quiet_step read_line_end (λ p. Ok (first ∷ others, p)) line_end_step (done_step (first ∷ others))))

pub row_step : (keep : ℕ → ℕ) (nodes : ℕ) → IsForwardStep (read_row keep nodes)
unfolding read_row
row_step keep nodes =
    then_step (read_narrow keep) (λ source p. read_many nodes read_next_number p >>= λ potential. read_line_end potential.1 >>= λ e. Ok (record { source = source; potential = potential.0 }, e)) (narrow_step keep)
    (λ source. then_step (read_many nodes read_next_number) (λ potential p. read_line_end p >>= λ e. Ok (record { source = source; potential = potential }, e)) (many_step read_next_number next_number_step nodes)
    (λ potential. then_quiet_step read_line_end (λ p. Ok (record { source = source; potential = potential }, p)) line_end_step (done_step (record { source = source; potential = potential }))))

pub sides_step : (bounded : Bool) (pairs : ℕ) → IsForwardStep (read_sides bounded pairs)
unfolding read_sides
sides_step false pairs = done_step ([], [])
sides_step true pairs = then_step (read_listing (codes "plus") pairs) (λ plus p. read_listing (codes "minus") pairs p >>= λ minus. Ok ((plus, minus.0), minus.1)) (listing_step (codes "plus") pairs)
    (λ plus. then_step (read_listing (codes "minus") pairs) (λ minus p. Ok ((plus, minus), p)) (listing_step (codes "minus") pairs) (λ minus. done_step (plus, minus)))

pub block_step : (limits : Limits) (keep : ℕ → ℕ) (counts : Counts) → IsForwardStep (read_block limits keep counts)
unfolding read_block
block_step limits keep counts =
    then_step (read_narrow keep) (λ link p. read_next_number p >>= λ a. read_next_number a.1 >>= λ b. read_next_count 0 limits.nodes b.1 >>= λ n. read_line_end n.1 >>= λ e. read_number_line counts.links e >>= λ weights. read_many n.0 (read_row keep counts.nodes) weights.1 >>= λ rows. read_sides counts.bounded counts.pairs rows.1 >>= λ sides. Ok (record { link = link; a = a.0; b = b.0; weights = weights.0; rows = rows.0; plus = sides.0.0; minus = sides.0.1 }, sides.1)) (narrow_step keep)
    (λ link. then_step read_next_number (λ a p. read_next_number p >>= λ b. read_next_count 0 limits.nodes b.1 >>= λ n. read_line_end n.1 >>= λ e. read_number_line counts.links e >>= λ weights. read_many n.0 (read_row keep counts.nodes) weights.1 >>= λ rows. read_sides counts.bounded counts.pairs rows.1 >>= λ sides. Ok (record { link = link; a = a; b = b.0; weights = weights.0; rows = rows.0; plus = sides.0.0; minus = sides.0.1 }, sides.1)) next_number_step
    (λ a. then_step read_next_number (λ b p. read_next_count 0 limits.nodes p >>= λ n. read_line_end n.1 >>= λ e. read_number_line counts.links e >>= λ weights. read_many n.0 (read_row keep counts.nodes) weights.1 >>= λ rows. read_sides counts.bounded counts.pairs rows.1 >>= λ sides. Ok (record { link = link; a = a; b = b; weights = weights.0; rows = rows.0; plus = sides.0.0; minus = sides.0.1 }, sides.1)) next_number_step
    (λ b. then_step (read_next_count 0 limits.nodes) (λ n p. read_line_end p >>= λ e. read_number_line counts.links e >>= λ weights. read_many n (read_row keep counts.nodes) weights.1 >>= λ rows. read_sides counts.bounded counts.pairs rows.1 >>= λ sides. Ok (record { link = link; a = a; b = b; weights = weights.0; rows = rows.0; plus = sides.0.0; minus = sides.0.1 }, sides.1)) (next_count_step 0 limits.nodes)
    (λ n. then_quiet_step read_line_end (λ p. read_number_line counts.links p >>= λ weights. read_many n (read_row keep counts.nodes) weights.1 >>= λ rows. read_sides counts.bounded counts.pairs rows.1 >>= λ sides. Ok (record { link = link; a = a; b = b; weights = weights.0; rows = rows.0; plus = sides.0.0; minus = sides.0.1 }, sides.1)) line_end_step
    (then_step (read_number_line counts.links) (λ weights p. read_many n (read_row keep counts.nodes) p >>= λ rows. read_sides counts.bounded counts.pairs rows.1 >>= λ sides. Ok (record { link = link; a = a; b = b; weights = weights; rows = rows.0; plus = sides.0.0; minus = sides.0.1 }, sides.1)) (number_line_step counts.links)
    (λ weights. then_step (read_many n (read_row keep counts.nodes)) (λ rows p. read_sides counts.bounded counts.pairs p >>= λ sides. Ok (record { link = link; a = a; b = b; weights = weights; rows = rows; plus = sides.0.0; minus = sides.0.1 }, sides.1)) (many_step (read_row keep counts.nodes) (row_step keep counts.nodes) n)
    (λ rows. then_step (read_sides counts.bounded counts.pairs) (λ sides p. Ok (record { link = link; a = a; b = b; weights = weights; rows = rows; plus = sides.0; minus = sides.1 }, p)) (sides_step counts.bounded counts.pairs) (λ sides. done_step (record { link = link; a = a; b = b; weights = weights; rows = rows; plus = sides.0; minus = sides.1 })))))))))

digit_step : (format : ℕ) → IsForwardStep (read_digit format)
unfolding read_digit
digit_step format =
    then_quiet_step (read_byte (48 + format)) (λ p. read_line_end p >>= λ e. Ok (format, e)) (byte_step (48 + format))
    (then_quiet_step read_line_end (λ p. Ok (format, p)) line_end_step (done_step format))

either_format_step : IsForwardStep (λ a. cond (eqb (get_or a.rest 0 0) 50) (read_digit 2 a) (read_digit 1 a))
either_format_step = fork_step 50 (read_digit 2) (read_digit 1) (digit_step 2) (digit_step 1)

pub format_step : IsForwardStep read_format
unfolding read_format
format_step = then_quiet_step (read_word (codes "yates-ratio ")) (λ a. cond (eqb (get_or a.rest 0 0) 50) (read_digit 2 a) (read_digit 1 a)) (word_step (codes "yates-ratio ")) either_format_step
