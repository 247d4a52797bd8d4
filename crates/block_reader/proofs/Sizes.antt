-- How far reading of each part of a certificate looks, in either format.
use Rattle.std.proofs.Common.{◌≡◌, ℕ, ◌+◌, ◌-◌, ◌*◌, ◌≤◌, Bool, true, false, cond, List, [], ◌∷◌, length, Ok, refl, subst, arith, eqb, get_or}
use Rattle.std.specs.Prelude.{codes}
use Rattle.te_model.specs.declared.demand.DemandSet.TheVariants.{All, Margin, Box}
use Rattle.te_model.specs.declared.limits.Limits.{Limits}
use Rattle.cert_text.specs.declared.limits.Counts.{Counts}
use Rattle.cert_text.specs.Place.{◌>>=◌}
use Rattle.cert_text.specs.Reading.{read_byte, read_word, read_line_end, read_number, read_count, read_narrow, read_next_number, read_next_narrow, read_next_count, read_many, read_name}
use Rattle.cert_text.specs.Grammar.{read_counted, read_listing, read_name_line, read_link_line, read_network, read_path, read_pair, read_all, read_margin, read_box, has_boxes, read_bounds, read_set, read_ratio, read_number_line, read_row, read_sides, read_block, read_digit, read_format, read_closing}
use Rattle.cert_text.proofs.Productions.{counted_takes}
use Rattle.cert_text.proofs.Local.{silent}
use Rattle.cert_text.proofs.Steady.{last, regroup_three}
use Rattle.block_reader.specs.Sizes.{format_size, network_size, path_size, pair_size, listing_size, set_size, ratio_size, count_size, row_size, block_size, closing_size}
use Rattle.block_reader.specs.Ahead.{IsAhead}
use Rattle.block_reader.proofs.Ahead.{Gives, then_ahead, then_any, then_quiet, done_ahead, ahead_more, ahead_same, byte_ahead, word_ahead, line_end_ahead, number_ahead, count_ahead, narrow_ahead, next_number_ahead, next_narrow_ahead, next_count_ahead, next_count_gives, count_within, many_ahead, some_ahead, name_ahead, fork_ahead, end_ahead}

pub word_of : (w : List ℕ) (n : ℕ) → length w ≡ n → IsAhead n (silent (read_word w))
word_of w n is = subst (λ k. IsAhead k (silent (read_word w))) is (word_ahead w)

pub counted_ahead : (word : List ℕ) (low high n : ℕ) → length word ≡ n → IsAhead (n + 23) (read_counted word low high)
unfolding read_counted
counted_ahead word low high n is =
    ahead_more (n + (22 + (1 + 0))) (n + 23) (read_counted word low high) (omega arith)
    (then_quiet n (22 + (1 + 0)) (read_word word) (λ p. read_count low high p >>= λ x. read_line_end x.1 >>= λ e. Ok (x.0, e)) (word_of word n is)
    (then_any 22 (1 + 0) (read_count low high) (λ x p. read_line_end p >>= λ e. Ok (x, e)) (count_ahead low high)
    (λ x. then_quiet 1 0 read_line_end (λ p. Ok (x, p)) line_end_ahead
    (done_ahead x))))

pub counted_gives : (word : List ℕ) (low high : ℕ) → Gives (λ n. n ≤ high) (read_counted word low high)
counted_gives word low high p n q is = count_within low high n ((counted_takes word low high p n q is).good)

listing_fits : (n b : ℕ) → (n + (b + (1 + 0))) ≤ n + (b + 1)
listing_fits n b = omega arith

pub listing_ahead : (word : List ℕ) (count n : ℕ) → length word ≡ n → IsAhead (listing_size n count) (read_listing word count)
unfolding read_listing
listing_ahead word count n is =
    ahead_more (n + ((count * 23) + (1 + 0))) (listing_size n count) (read_listing word count) (listing_fits n ((count * 23)))
    (then_quiet n ((count * 23) + (1 + 0)) (read_word word) (λ p. read_many count read_next_number p >>= λ xs. read_line_end xs.1 >>= λ e. Ok (xs.0, e)) (word_of word n is)
    (then_any (count * 23) (1 + 0) (read_many count read_next_number) (λ xs p. read_line_end p >>= λ e. Ok (xs, e)) (many_ahead 23 read_next_number next_number_ahead count)
    (λ xs. then_quiet 1 0 read_line_end (λ p. Ok (xs, p)) line_end_ahead
    (done_ahead xs))))

pub name_line_ahead : IsAhead 34 read_name_line
unfolding read_name_line
name_line_ahead =
    ahead_more (33 + (1 + 0)) 34 read_name_line (omega arith)
    (then_any 33 (1 + 0) read_name (λ n p. read_line_end p >>= λ e. Ok (n, e)) name_ahead
    (λ n. then_quiet 1 0 read_line_end (λ p. Ok (n, p)) line_end_ahead
    (done_ahead n)))

pub link_line_ahead : (keep : ℕ → ℕ) → IsAhead 92 (read_link_line keep)
unfolding read_link_line
link_line_ahead keep =
    ahead_more (22 + (23 + (23 + (23 + (1 + 0))))) 92 (read_link_line keep) (omega arith)
    (then_any 22 (23 + (23 + (23 + (1 + 0)))) (read_narrow keep) (λ tail p. read_next_narrow keep p >>= λ head. read_next_number head.1 >>= λ capacity. read_next_narrow keep capacity.1 >>= λ cost. read_line_end cost.1 >>= λ e. Ok (record { tail = tail; head = head.0; capacity = capacity.0; cost = cost.0 }, e)) (narrow_ahead keep)
    (λ tail. then_any 23 (23 + (23 + (1 + 0))) (read_next_narrow keep) (λ head p. read_next_number p >>= λ capacity. read_next_narrow keep capacity.1 >>= λ cost. read_line_end cost.1 >>= λ e. Ok (record { tail = tail; head = head; capacity = capacity.0; cost = cost.0 }, e)) (next_narrow_ahead keep)
    (λ head. then_any 23 (23 + (1 + 0)) read_next_number (λ capacity p. read_next_narrow keep p >>= λ cost. read_line_end cost.1 >>= λ e. Ok (record { tail = tail; head = head; capacity = capacity; cost = cost.0 }, e)) next_number_ahead
    (λ capacity. then_any 23 (1 + 0) (read_next_narrow keep) (λ cost p. read_line_end p >>= λ e. Ok (record { tail = tail; head = head; capacity = capacity; cost = cost }, e)) (next_narrow_ahead keep)
    (λ cost. then_quiet 1 0 read_line_end (λ p. Ok (record { tail = tail; head = head; capacity = capacity; cost = cost }, p)) line_end_ahead
    (done_ahead (record { tail = tail; head = head; capacity = capacity; cost = cost })))))))

network_fits : (a b : ℕ) → (29 + (a + (29 + (b + 0)))) ≤ 58 + (a + b)
network_fits a b = omega arith

pub network_ahead : (limits : Limits) (keep : ℕ → ℕ) → IsAhead (network_size limits) (read_network limits keep)
unfolding read_network
network_ahead limits keep =
    ahead_more (29 + ((limits.nodes * 34) + (29 + ((limits.links * 92) + 0)))) (network_size limits) (read_network limits keep) (network_fits ((limits.nodes * 34)) ((limits.links * 92)))
    (then_ahead 29 ((limits.nodes * 34) + (29 + ((limits.links * 92) + 0))) (λ x. x ≤ limits.nodes) (read_counted (codes "nodes ") 2 limits.nodes) (λ n p. read_many n read_name_line p >>= λ names. read_counted (codes "links ") 1 limits.links names.1 >>= λ m. read_many m.0 (read_link_line keep) m.1 >>= λ links. Ok (record { names = names.0; links = links.0 }, links.1)) (counted_ahead (codes "nodes ") 2 limits.nodes 6 refl) (counted_gives (codes "nodes ") 2 limits.nodes)
    (λ n few_n. then_any (limits.nodes * 34) (29 + ((limits.links * 92) + 0)) (read_many n read_name_line) (λ names p. read_counted (codes "links ") 1 limits.links p >>= λ m. read_many m.0 (read_link_line keep) m.1 >>= λ links. Ok (record { names = names; links = links.0 }, links.1)) (some_ahead 34 limits.nodes read_name_line name_line_ahead n few_n)
    (λ names. then_ahead 29 ((limits.links * 92) + 0) (λ x. x ≤ limits.links) (read_counted (codes "links ") 1 limits.links) (λ m p. read_many m (read_link_line keep) p >>= λ links. Ok (record { names = names; links = links.0 }, links.1)) (counted_ahead (codes "links ") 1 limits.links 6 refl) (counted_gives (codes "links ") 1 limits.links)
    (λ m few_m. then_any (limits.links * 92) 0 (read_many m (read_link_line keep)) (λ links p. Ok (record { names = names; links = links }, p)) (some_ahead 92 limits.links (read_link_line keep) (link_line_ahead keep) m few_m)
    (λ links. done_ahead (record { names = names; links = links }))))))

path_fits : (a : ℕ) → (22 + (23 + (a + (1 + 0)))) ≤ 46 + a
path_fits a = omega arith

pub path_ahead : (limits : Limits) (keep : ℕ → ℕ) → IsAhead (path_size limits) (read_path limits keep)
unfolding read_path
path_ahead limits keep =
    ahead_more (22 + (23 + ((limits.hops * 23) + (1 + 0)))) (path_size limits) (read_path limits keep) (path_fits ((limits.hops * 23)))
    (then_any 22 (23 + ((limits.hops * 23) + (1 + 0))) read_number (λ weight p. read_next_count 1 limits.hops p >>= λ n. read_many n.0 (read_next_narrow keep) n.1 >>= λ links. read_line_end links.1 >>= λ e. Ok (record { links = links.0; weight = weight }, e)) number_ahead
    (λ weight. then_ahead 23 ((limits.hops * 23) + (1 + 0)) (λ x. x ≤ limits.hops) (read_next_count 1 limits.hops) (λ n p. read_many n (read_next_narrow keep) p >>= λ links. read_line_end links.1 >>= λ e. Ok (record { links = links.0; weight = weight }, e)) (next_count_ahead 1 limits.hops) (next_count_gives 1 limits.hops)
    (λ n few_n. then_any (limits.hops * 23) (1 + 0) (read_many n (read_next_narrow keep)) (λ links p. read_line_end p >>= λ e. Ok (record { links = links; weight = weight }, e)) (some_ahead 23 limits.hops (read_next_narrow keep) (next_narrow_ahead keep) n few_n)
    (λ links. then_quiet 1 0 read_line_end (λ p. Ok (record { links = links; weight = weight }, p)) line_end_ahead
    (done_ahead (record { links = links; weight = weight }))))))

pair_fits : (a : ℕ) → (22 + (23 + (23 + (1 + (a + 0))))) ≤ 69 + a
pair_fits a = omega arith

pub pair_ahead : (limits : Limits) (keep : ℕ → ℕ) → IsAhead (pair_size limits) (read_pair limits keep)
unfolding read_pair
pair_ahead limits keep =
    ahead_more (22 + (23 + (23 + (1 + ((limits.paths * path_size limits) + 0))))) (pair_size limits) (read_pair limits keep) (pair_fits ((limits.paths * path_size limits)))
    (then_any 22 (23 + (23 + (1 + ((limits.paths * path_size limits) + 0)))) (read_narrow keep) (λ src p. read_next_narrow keep p >>= λ dst. read_next_count 1 limits.paths dst.1 >>= λ n. read_line_end n.1 >>= λ e. read_many n.0 (read_path limits keep) e >>= λ paths. Ok (record { pair = record { src = src; dst = dst.0 }; paths = paths.0 }, paths.1)) (narrow_ahead keep)
    (λ src. then_any 23 (23 + (1 + ((limits.paths * path_size limits) + 0))) (read_next_narrow keep) (λ dst p. read_next_count 1 limits.paths p >>= λ n. read_line_end n.1 >>= λ e. read_many n.0 (read_path limits keep) e >>= λ paths. Ok (record { pair = record { src = src; dst = dst }; paths = paths.0 }, paths.1)) (next_narrow_ahead keep)
    (λ dst. then_ahead 23 (1 + ((limits.paths * path_size limits) + 0)) (λ x. x ≤ limits.paths) (read_next_count 1 limits.paths) (λ n p. read_line_end p >>= λ e. read_many n (read_path limits keep) e >>= λ paths. Ok (record { pair = record { src = src; dst = dst }; paths = paths.0 }, paths.1)) (next_count_ahead 1 limits.paths) (next_count_gives 1 limits.paths)
    (λ n few_n. then_quiet 1 ((limits.paths * path_size limits) + 0) read_line_end (λ p. read_many n (read_path limits keep) p >>= λ paths. Ok (record { pair = record { src = src; dst = dst }; paths = paths.0 }, paths.1)) line_end_ahead
    (then_any (limits.paths * path_size limits) 0 (read_many n (read_path limits keep)) (λ paths p. Ok (record { pair = record { src = src; dst = dst }; paths = paths }, p)) (some_ahead (path_size limits) limits.paths (read_path limits keep) (path_ahead limits keep) n few_n)
    (λ paths. done_ahead (record { pair = record { src = src; dst = dst }; paths = paths })))))))

pub all_ahead : IsAhead 4 read_all
unfolding read_all
all_ahead =
    ahead_more (3 + (1 + 0)) 4 read_all (omega arith)
    (then_quiet 3 (1 + 0) (read_word (codes "all")) (λ p. read_line_end p >>= λ e. Ok (All, e)) (word_of (codes "all") 3 refl)
    (then_quiet 1 0 read_line_end (λ p. Ok (All, p)) line_end_ahead
    (done_ahead All)))

pub margin_ahead : (pairs : ℕ) → IsAhead (76 + (pairs * 23 + pairs * 23)) (read_margin pairs)
unfolding read_margin
margin_ahead pairs =
    ahead_more (7 + (22 + (23 + (1 + ((4 + (pairs * 23 + 1)) + 0))))) (76 + (pairs * 23 + pairs * 23)) (read_margin pairs) (omega arith)
    (then_quiet 7 (22 + (23 + (1 + ((4 + (pairs * 23 + 1)) + 0)))) (read_word (codes "margin ")) (λ p. read_number p >>= λ num. read_next_number num.1 >>= λ den. read_line_end den.1 >>= λ e. read_listing (codes "base") pairs e >>= λ base. Ok (Margin num.0 den.0 (record { demand = base.0 }), base.1)) (word_of (codes "margin ") 7 refl)
    (then_any 22 (23 + (1 + ((4 + (pairs * 23 + 1)) + 0))) read_number (λ num p. read_next_number p >>= λ den. read_line_end den.1 >>= λ e. read_listing (codes "base") pairs e >>= λ base. Ok (Margin num den.0 (record { demand = base.0 }), base.1)) number_ahead
    (λ num. then_any 23 (1 + ((4 + (pairs * 23 + 1)) + 0)) read_next_number (λ den p. read_line_end p >>= λ e. read_listing (codes "base") pairs e >>= λ base. Ok (Margin num den (record { demand = base.0 }), base.1)) next_number_ahead
    (λ den. then_quiet 1 ((4 + (pairs * 23 + 1)) + 0) read_line_end (λ p. read_listing (codes "base") pairs p >>= λ base. Ok (Margin num den (record { demand = base.0 }), base.1)) line_end_ahead
    (then_any (4 + (pairs * 23 + 1)) 0 (read_listing (codes "base") pairs) (λ base p. Ok (Margin num den (record { demand = base }), p)) (listing_ahead (codes "base") pairs 4 refl)
    (λ base. done_ahead (Margin num den (record { demand = base }))))))))

pub box_ahead : (pairs : ℕ) → IsAhead (76 + (pairs * 23 + pairs * 23)) (read_box pairs)
unfolding read_box
box_ahead pairs =
    ahead_more (3 + (1 + ((5 + (pairs * 23 + 1)) + ((5 + (pairs * 23 + 1)) + 0)))) (76 + (pairs * 23 + pairs * 23)) (read_box pairs) (omega arith)
    (then_quiet 3 (1 + ((5 + (pairs * 23 + 1)) + ((5 + (pairs * 23 + 1)) + 0))) (read_word (codes "box")) (λ p. read_line_end p >>= λ e. read_listing (codes "lower") pairs e >>= λ lower. read_listing (codes "upper") pairs lower.1 >>= λ upper. Ok (Box (record { demand = lower.0 }) (record { demand = upper.0 }), upper.1)) (word_of (codes "box") 3 refl)
    (then_quiet 1 ((5 + (pairs * 23 + 1)) + ((5 + (pairs * 23 + 1)) + 0)) read_line_end (λ p. read_listing (codes "lower") pairs p >>= λ lower. read_listing (codes "upper") pairs lower.1 >>= λ upper. Ok (Box (record { demand = lower.0 }) (record { demand = upper.0 }), upper.1)) line_end_ahead
    (then_any (5 + (pairs * 23 + 1)) ((5 + (pairs * 23 + 1)) + 0) (read_listing (codes "lower") pairs) (λ lower p. read_listing (codes "upper") pairs p >>= λ upper. Ok (Box (record { demand = lower }) (record { demand = upper.0 }), upper.1)) (listing_ahead (codes "lower") pairs 5 refl)
    (λ lower. then_any (5 + (pairs * 23 + 1)) 0 (read_listing (codes "upper") pairs) (λ upper p. Ok (Box (record { demand = lower }) (record { demand = upper }), p)) (listing_ahead (codes "upper") pairs 5 refl)
    (λ upper. done_ahead (Box (record { demand = lower }) (record { demand = upper })))))))

bounds_ahead : (limits : Limits) (pairs : ℕ) → IsAhead (76 + (pairs * 23 + pairs * 23)) (read_bounds limits pairs)
bounds_ahead limits pairs = either (has_boxes limits)
  where
    either : (t : Bool) → IsAhead (76 + (pairs * 23 + pairs * 23)) (λ p. cond t (read_box pairs p) (read_margin pairs p))
    either true = box_ahead pairs
    either false = margin_ahead pairs

all_or_bounds_ahead : (limits : Limits) (pairs : ℕ) →
    IsAhead (76 + (pairs * 23 + pairs * 23)) (λ a. cond (eqb (get_or a.rest 0 0) 97) (read_all a) (read_bounds limits pairs a))
all_or_bounds_ahead limits pairs = fork_ahead 97 (76 + (pairs * 23 + pairs * 23)) read_all (read_bounds limits pairs) (omega arith)
    (ahead_more 4 (76 + (pairs * 23 + pairs * 23)) read_all (omega arith) all_ahead) (bounds_ahead limits pairs)

pub set_ahead : (limits : Limits) (pairs : ℕ) → IsAhead (set_size pairs) (read_set limits pairs)
unfolding read_set
set_ahead limits pairs =
    ahead_more (4 + (76 + (pairs * 23 + pairs * 23))) (set_size pairs) (read_set limits pairs) (omega arith)
    (then_quiet 4 (76 + (pairs * 23 + pairs * 23)) (read_word (codes "set ")) (λ a. cond (eqb (get_or a.rest 0 0) 97) (read_all a) (read_bounds limits pairs a))
    (word_of (codes "set ") 4 refl) (all_or_bounds_ahead limits pairs))

pub ratio_ahead : IsAhead ratio_size read_ratio
unfolding read_ratio
ratio_ahead =
    ahead_more (6 + (22 + (1 + 0))) ratio_size read_ratio (omega arith)
    (then_quiet 6 (22 + (1 + 0)) (read_word (codes "ratio ")) (λ p. read_number p >>= λ n. read_line_end n.1 >>= λ e. Ok (n.0, e)) (word_of (codes "ratio ") 6 refl)
    (then_any 22 (1 + 0) read_number (λ n p. read_line_end p >>= λ e. Ok (n, e)) number_ahead
    (λ n. then_quiet 1 0 read_line_end (λ p. Ok (n, p)) line_end_ahead
    (done_ahead n))))

pub number_line_ahead : (n : ℕ) → IsAhead (23 + n * 23) (read_number_line n)
unfolding read_number_line
number_line_ahead n =
    ahead_more (22 + (((n - 1) * 23) + (1 + 0))) (23 + n * 23) (read_number_line n) (omega arith)
    (then_any 22 (((n - 1) * 23) + (1 + 0)) read_number (λ first p. read_many (n - 1) read_next_number p >>= λ others. read_line_end others.1 >>= λ e. Ok (first ∷ others.0, e)) number_ahead
    (λ first. then_any ((n - 1) * 23) (1 + 0) (read_many (n - 1) read_next_number) (λ others p. read_line_end p >>= λ e. Ok (first ∷ others, e)) (many_ahead 23 read_next_number next_number_ahead (n - 1))
    (λ others. then_quiet 1 0 read_line_end (λ p. Ok (first ∷ others, p)) line_end_ahead
    (done_ahead (first ∷ others)))))

pub row_ahead : (keep : ℕ → ℕ) (nodes : ℕ) → IsAhead (row_size nodes) (read_row keep nodes)
unfolding read_row
row_ahead keep nodes =
    ahead_more (22 + ((nodes * 23) + (1 + 0))) (row_size nodes) (read_row keep nodes) (omega arith)
    (then_any 22 ((nodes * 23) + (1 + 0)) (read_narrow keep) (λ source p. read_many nodes read_next_number p >>= λ potential. read_line_end potential.1 >>= λ e. Ok (record { source = source; potential = potential.0 }, e)) (narrow_ahead keep)
    (λ source. then_any (nodes * 23) (1 + 0) (read_many nodes read_next_number) (λ potential p. read_line_end p >>= λ e. Ok (record { source = source; potential = potential }, e)) (many_ahead 23 read_next_number next_number_ahead nodes)
    (λ potential. then_quiet 1 0 read_line_end (λ p. Ok (record { source = source; potential = potential }, p)) line_end_ahead
    (done_ahead (record { source = source; potential = potential })))))

pub both_sides_ahead : (pairs : ℕ) → IsAhead (11 + (pairs * 23 + pairs * 23)) (read_sides true pairs)
unfolding read_sides
both_sides_ahead pairs =
    ahead_more ((4 + (pairs * 23 + 1)) + ((5 + (pairs * 23 + 1)) + 0)) (11 + (pairs * 23 + pairs * 23)) (read_sides true pairs) (omega arith)
    (then_any (4 + (pairs * 23 + 1)) ((5 + (pairs * 23 + 1)) + 0) (read_listing (codes "plus") pairs) (λ plus p. read_listing (codes "minus") pairs p >>= λ minus. Ok ((plus, minus.0), minus.1)) (listing_ahead (codes "plus") pairs 4 refl)
    (λ plus. then_any (5 + (pairs * 23 + 1)) 0 (read_listing (codes "minus") pairs) (λ minus p. Ok ((plus, minus), p)) (listing_ahead (codes "minus") pairs 5 refl)
    (λ minus. done_ahead ((plus, minus)))))

no_sides_ahead : (pairs : ℕ) → IsAhead (11 + (pairs * 23 + pairs * 23)) (read_sides false pairs)
unfolding read_sides
no_sides_ahead pairs = ahead_more 0 (11 + (pairs * 23 + pairs * 23)) (read_sides false pairs) (omega arith) (done_ahead ([], []))

pub sides_ahead : (bounded : Bool) (pairs : ℕ) → IsAhead (11 + (pairs * 23 + pairs * 23)) (read_sides bounded pairs)
sides_ahead false pairs = no_sides_ahead pairs
sides_ahead true pairs = both_sides_ahead pairs

block_fits : (u v w : ℕ) → (22 + (23 + (23 + (23 + (1 + ((23 + v) + (u + ((11 + w) + 0)))))))) ≤ 126 + (v + (u + w))
block_fits u v w = omega arith

pub block_ahead : (limits : Limits) (keep : ℕ → ℕ) (counts : Counts) → IsAhead (block_size limits.nodes counts) (read_block limits keep counts)
unfolding read_block
block_ahead limits keep counts =
    ahead_more (22 + (23 + (23 + (23 + (1 + ((23 + counts.links * 23) + ((limits.nodes * row_size counts.nodes) + ((11 + (counts.pairs * 23 + counts.pairs * 23)) + 0)))))))) (block_size limits.nodes counts) (read_block limits keep counts) (block_fits ((limits.nodes * row_size counts.nodes)) (counts.links * 23) ((counts.pairs * 23 + counts.pairs * 23)))
    (then_any 22 (23 + (23 + (23 + (1 + ((23 + counts.links * 23) + ((limits.nodes * row_size counts.nodes) + ((11 + (counts.pairs * 23 + counts.pairs * 23)) + 0))))))) (read_narrow keep) (λ link p. read_next_number p >>= λ a. read_next_number a.1 >>= λ b. read_next_count 0 limits.nodes b.1 >>= λ n. read_line_end n.1 >>= λ e. read_number_line counts.links e >>= λ weights. read_many n.0 (read_row keep counts.nodes) weights.1 >>= λ rows. read_sides counts.bounded counts.pairs rows.1 >>= λ sides. Ok (record { link = link; a = a.0; b = b.0; weights = weights.0; rows = rows.0; plus = sides.0.0; minus = sides.0.1 }, sides.1)) (narrow_ahead keep)
    (λ link. then_any 23 (23 + (23 + (1 + ((23 + counts.links * 23) + ((limits.nodes * row_size counts.nodes) + ((11 + (counts.pairs * 23 + counts.pairs * 23)) + 0)))))) read_next_number (λ a p. read_next_number p >>= λ b. read_next_count 0 limits.nodes b.1 >>= λ n. read_line_end n.1 >>= λ e. read_number_line counts.links e >>= λ weights. read_many n.0 (read_row keep counts.nodes) weights.1 >>= λ rows. read_sides counts.bounded counts.pairs rows.1 >>= λ sides. Ok (record { link = link; a = a; b = b.0; weights = weights.0; rows = rows.0; plus = sides.0.0; minus = sides.0.1 }, sides.1)) next_number_ahead
    (λ a. then_any 23 (23 + (1 + ((23 + counts.links * 23) + ((limits.nodes * row_size counts.nodes) + ((11 + (counts.pairs * 23 + counts.pairs * 23)) + 0))))) read_next_number (λ b p. read_next_count 0 limits.nodes p >>= λ n. read_line_end n.1 >>= λ e. read_number_line counts.links e >>= λ weights. read_many n.0 (read_row keep counts.nodes) weights.1 >>= λ rows. read_sides counts.bounded counts.pairs rows.1 >>= λ sides. Ok (record { link = link; a = a; b = b; weights = weights.0; rows = rows.0; plus = sides.0.0; minus = sides.0.1 }, sides.1)) next_number_ahead
    (λ b. then_ahead 23 (1 + ((23 + counts.links * 23) + ((limits.nodes * row_size counts.nodes) + ((11 + (counts.pairs * 23 + counts.pairs * 23)) + 0)))) (λ x. x ≤ limits.nodes) (read_next_count 0 limits.nodes) (λ n p. read_line_end p >>= λ e. read_number_line counts.links e >>= λ weights. read_many n (read_row keep counts.nodes) weights.1 >>= λ rows. read_sides counts.bounded counts.pairs rows.1 >>= λ sides. Ok (record { link = link; a = a; b = b; weights = weights.0; rows = rows.0; plus = sides.0.0; minus = sides.0.1 }, sides.1)) (next_count_ahead 0 limits.nodes) (next_count_gives 0 limits.nodes)
    (λ n few_n. then_quiet 1 ((23 + counts.links * 23) + ((limits.nodes * row_size counts.nodes) + ((11 + (counts.pairs * 23 + counts.pairs * 23)) + 0))) read_line_end (λ p. read_number_line counts.links p >>= λ weights. read_many n (read_row keep counts.nodes) weights.1 >>= λ rows. read_sides counts.bounded counts.pairs rows.1 >>= λ sides. Ok (record { link = link; a = a; b = b; weights = weights.0; rows = rows.0; plus = sides.0.0; minus = sides.0.1 }, sides.1)) line_end_ahead
    (then_any (23 + counts.links * 23) ((limits.nodes * row_size counts.nodes) + ((11 + (counts.pairs * 23 + counts.pairs * 23)) + 0)) (read_number_line counts.links) (λ weights p. read_many n (read_row keep counts.nodes) p >>= λ rows. read_sides counts.bounded counts.pairs rows.1 >>= λ sides. Ok (record { link = link; a = a; b = b; weights = weights; rows = rows.0; plus = sides.0.0; minus = sides.0.1 }, sides.1)) (number_line_ahead counts.links)
    (λ weights. then_any (limits.nodes * row_size counts.nodes) ((11 + (counts.pairs * 23 + counts.pairs * 23)) + 0) (read_many n (read_row keep counts.nodes)) (λ rows p. read_sides counts.bounded counts.pairs p >>= λ sides. Ok (record { link = link; a = a; b = b; weights = weights; rows = rows; plus = sides.0.0; minus = sides.0.1 }, sides.1)) (some_ahead (row_size counts.nodes) limits.nodes (read_row keep counts.nodes) (row_ahead keep counts.nodes) n few_n)
    (λ rows. then_any (11 + (counts.pairs * 23 + counts.pairs * 23)) 0 (read_sides counts.bounded counts.pairs) (λ sides p. Ok (record { link = link; a = a; b = b; weights = weights; rows = rows; plus = sides.0; minus = sides.1 }, p)) (sides_ahead counts.bounded counts.pairs)
    (λ sides. done_ahead (record { link = link; a = a; b = b; weights = weights; rows = rows; plus = sides.0; minus = sides.1 }))))))))))

digit_ahead : (format : ℕ) → IsAhead 2 (read_digit format)
unfolding read_digit
digit_ahead format =
    then_quiet 1 1 (read_byte (48 + format)) (λ p. read_line_end p >>= λ e. Ok (format, e)) (byte_ahead (48 + format))
    (then_quiet 1 0 read_line_end (λ p. Ok (format, p)) line_end_ahead (done_ahead format))

pub format_ahead : IsAhead format_size read_format
unfolding read_format
format_ahead =
    then_quiet 12 2 (read_word (codes "yates-ratio ")) (λ a. cond (eqb (get_or a.rest 0 0) 50) (read_digit 2 a) (read_digit 1 a)) (word_of (codes "yates-ratio ") 12 refl)
    (fork_ahead 50 2 (read_digit 2) (read_digit 1) (omega arith) (digit_ahead 2) (digit_ahead 1))

pub closing_ahead : IsAhead closing_size (silent read_closing)
unfolding read_closing
closing_ahead =
    ahead_same 5 (λ p. read_word (codes "end") p >>= λ a. read_line_end a >>= silent last) (silent (λ p. read_word (codes "end") p >>= λ a. read_line_end a >>= last))
    (λ p. regroup_three (read_word (codes "end") p) read_line_end last)
    (then_quiet 3 2 (read_word (codes "end")) (λ a. read_line_end a >>= silent last) (word_of (codes "end") 3 refl)
    (then_quiet 1 1 read_line_end (silent last) line_end_ahead end_ahead))

-- the lines of the counts of pairs and of blocks
pub pair_count_ahead : (limits : Limits) → IsAhead count_size (read_counted (codes "pairs ") 0 limits.pairs)
pair_count_ahead limits =
    ahead_more 29 30 (read_counted (codes "pairs ") 0 limits.pairs) (omega arith) (counted_ahead (codes "pairs ") 0 limits.pairs 6 refl)

pub block_count_ahead : (limits : Limits) → IsAhead count_size (read_counted (codes "blocks ") 0 limits.links)
block_count_ahead limits = counted_ahead (codes "blocks ") 0 limits.links 7 refl
