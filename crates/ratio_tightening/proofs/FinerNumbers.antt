-- The finer form of a block has numbers within the limits, and is valid where the block is.
use Rattle.std.proofs.Common.{◌≡◌, ◌∙◌, ℕ, ◌*◌, ◌^◌, ◌<◌, ◌≤◌, true, ◌&&◌, List, [], ◌∷◌, length, map, nat_le, nat_lt, ◌==◌, ap, arith, inl, inr, refl, slice_index, subst, sym}
use Rattle.std.specs.List.{list_all}
use Rattle.std.proofs.lemmas.Bool.{and_from, and_parts, eq-eqb, eqb-true, le-leb, leb-true, lt-ltb, ltb-true, cases_lt}
use Rattle.std.proofs.lemmas.List.{get_or-map, get_or_past, length-map}
use Rattle.te_model.specs.declared.certificate.Block.{Block}
use Rattle.te_model.specs.declared.certificate.Head.{Head}
use Rattle.te_model.specs.declared.certificate.Row.{Row}
use Rattle.te_model.specs.declared.demand.DemandSet.{DemandSet}
use Rattle.te_model.specs.declared.demand.DemandSet.TheVariants.{All, Margin, Box}
use Rattle.te_model.specs.declared.limits.Limits.{Limits}
use Rattle.te_model.specs.declared.network.Network.{Network}
use Rattle.te_model.specs.declared.units.TheConstants.{SHARE_UNIT}
use Rattle.te_model.specs.Formats.{limits_of}
use Rattle.te_model.specs.Network.{link_count, node_count}
use Rattle.te_model.specs.Shape.{are_words, has_one_each, is_count, is_row_of, is_shaped_block, is_shaped_row, is_word}
use Rattle.te_model.specs.Validity.{has_block_numbers, has_small_numbers, is_small, rows_ascend, IsValidBlock}
use Rattle.te_model.proofs.Tests.{list_all_weaker}
use Rattle.best_blocks.specs.Need.{HasNumbers}
use Rattle.best_blocks.proofs.Pushed.{all_tests}
use Rattle.ratio_certificate.specs.Polished.{IsCoarse}
use Rattle.ratio_tightening.specs.Finer.{has_small_a, twice_row, twice_within, with_twice_scale, IsDoubled, IsFinerForm, IsTwiceExcess}

-- what a list reads after each number is doubled
pub twice_at : (xs : List ℕ) (k : ℕ) → slice_index (map twice_within xs) k ≡ twice_within (slice_index xs k)
twice_at xs k = elim (cases_lt k (length xs)) [
  | inl lt ↦ get_or-map twice_within xs k 0 0 lt
  | inr ge ↦
      let count = length-map xs twice_within in
      let past : slice_index xs k ≡ 0 = get_or_past xs k 0 ge in
      let also : slice_index (map twice_within xs) k ≡ 0 = get_or_past (map twice_within xs) k 0 (omega (arith, ge, count)) in
      omega (arith, past, also)
]

-- numbers within the limit can be written
small_words : (xs : List ℕ) → list_all is_small xs ≡ true → are_words xs ≡ true
small_words xs small = list_all_weaker is_small is_word (λ x is. lt-ltb x (2 ^ 64) (let most = leb-true x (2 ^ 36) is in omega (arith, most))) xs small

twice_small : (xs : List ℕ) → list_all is_small (map twice_within xs) ≡ true
twice_small xs = all_tests is_small (map twice_within xs) 0 (λ k below. let is = twice_at xs k in le-leb _ _ (omega (arith, is)))

excess_small : (xs ys new : List ℕ) → IsTwiceExcess xs ys new → list_all is_small new ≡ true
excess_small xs ys new is =
    let count = is.count in
    all_tests is_small new 0 (λ k below. let each = is.each k (omega (arith, below, count)) in le-leb _ _ (omega (arith, each)))

-- the sources stay
same_order : (rows : List Row) → rows_ascend (map twice_row rows) ≡ rows_ascend rows
same_order [] = refl
same_order (r ∷ []) = refl
same_order (r ∷ s ∷ rs) = ap (λ t. nat_lt r.source s.source && t) (same_order (s ∷ rs))

small_rows : (n : ℕ) (rows : List Row) → list_all (λ r. nat_lt r.source n && list_all is_small r.potential) rows ≡ true →
    list_all (λ r. nat_lt r.source n && list_all is_small r.potential) (map twice_row rows) ≡ true
small_rows n [] small = refl
small_rows n (r ∷ rs) small =
    let both = and_parts (nat_lt r.source n && list_all is_small r.potential) (list_all (λ r. nat_lt r.source n && list_all is_small r.potential) rs) small in
    let source = (and_parts (nat_lt r.source n) (list_all is_small r.potential) both.0).0 in
    and_from (nat_lt r.source n && list_all is_small (map twice_within r.potential)) _
    (and_from (nat_lt r.source n) (list_all is_small (map twice_within r.potential)) source (twice_small r.potential)) (small_rows n rs both.1)

shaped_rows : (n : ℕ) (rows : List Row) → list_all (is_shaped_row n) rows ≡ true → list_all (is_shaped_row n) (map twice_row rows) ≡ true
shaped_rows n [] shaped = refl
shaped_rows n (r ∷ rs) shaped =
    let both = and_parts (is_shaped_row n r) (list_all (is_shaped_row n) rs) shaped in
    let word = and_parts (is_word r.source) (is_row_of n r.potential) both.0 in
    let count = eqb-true (length r.potential) n (and_parts (length r.potential == n) (are_words r.potential) word.1).0 in
    let counted = eq-eqb (length (map twice_within r.potential)) n (length-map r.potential twice_within ∙ count) in
    and_from (is_shaped_row n (twice_row r)) _
    (and_from (is_word r.source) (is_row_of n (map twice_within r.potential)) word.0
    (and_from (length (map twice_within r.potential) == n) (are_words (map twice_within r.potential)) counted
    (small_words (map twice_within r.potential) (twice_small r.potential)))) (shaped_rows n rs both.1)

-- V8 of a block whose a and b are within the limits
block_numbers_from : (net : Network) (old new : Block) → new.link ≡ old.link → new.a ≤ 2 ^ 36 → 1 ≤ new.b → new.b ≤ 2 ^ 36 →
    has_block_numbers net old ≡ true → has_block_numbers net new ≡ true
block_numbers_from net old new link a some b numbers =
    let last = and_parts (nat_lt old.link (link_count net) && nat_le old.a (2 ^ 36) && nat_le 1 old.b) (nat_le old.b (2 ^ 36)) numbers in
    let two = and_parts (nat_lt old.link (link_count net) && nat_le old.a (2 ^ 36)) (nat_le 1 old.b) last.0 in
    let one = and_parts (nat_lt old.link (link_count net)) (nat_le old.a (2 ^ 36)) two.0 in
    let here = subst (λ e. nat_lt e (link_count net) ≡ true) (sym link) one.0 in
    and_from (nat_lt new.link (link_count net) && nat_le new.a (2 ^ 36) && nat_le 1 new.b) (nat_le new.b (2 ^ 36))
    (and_from (nat_lt new.link (link_count net) && nat_le new.a (2 ^ 36)) (nat_le 1 new.b)
    (and_from (nat_lt new.link (link_count net)) (nat_le new.a (2 ^ 36)) here (le-leb _ _ a)) (le-leb _ _ some)) (le-leb _ _ b)

-- a and b of a block within the limits
pub record HasScale (block : Block) : Type 0 where
  pub a : block.a ≤ 2 ^ 36
  pub some : 1 ≤ block.b
  pub b : block.b ≤ 2 ^ 36

pub scale_of : (net : Network) (block : Block) → has_block_numbers net block ≡ true → HasScale block
scale_of net block numbers =
    let last = and_parts (nat_lt block.link (link_count net) && nat_le block.a (2 ^ 36) && nat_le 1 block.b) (nat_le block.b (2 ^ 36)) numbers in
    let two = and_parts (nat_lt block.link (link_count net) && nat_le block.a (2 ^ 36)) (nat_le 1 block.b) last.0 in
    let one = and_parts (nat_lt block.link (link_count net)) (nat_le block.a (2 ^ 36)) two.0 in
    record { a = leb-true _ _ one.1; some = leb-true _ _ two.1; b = leb-true _ _ last.1 }

-- a is below one million where it is small
pub small_a : (block : Block) → has_small_a block ≡ true → block.a < 1000000
small_a block is = ltb-true block.a SHARE_UNIT (and_parts (nat_lt 0 (length block.plus)) (nat_lt block.a SHARE_UNIT) is).1

-- V9
small_numbers_from : (net : Network) (old new : Block) → IsCoarse old.weights old.b → IsDoubled old new → has_small_numbers net old ≡ true →
    has_small_numbers net new ≡ true
small_numbers_from net old new coarse is small =
    let weights = list_all (λ w. nat_le w (2 ^ 28)) old.weights in
    let rows = list_all (λ (r : Row). nat_lt r.source (node_count net) && list_all is_small r.potential) old.rows in
    let last = and_parts (weights && rows && rows_ascend old.rows && list_all is_small old.plus) (list_all is_small old.minus) small in
    let four = and_parts (weights && rows && rows_ascend old.rows) (list_all is_small old.plus) last.0 in
    let three = and_parts (weights && rows) (rows_ascend old.rows) four.0 in
    let two = and_parts weights rows three.0 in
    let light : list_all (λ w. nat_le w (2 ^ 28)) new.weights ≡ true =
    subst (λ ws. list_all (λ w. nat_le w (2 ^ 28)) ws ≡ true) (sym is.weights_are)
    (all_tests (λ w. nat_le w (2 ^ 28)) (map twice_within old.weights) 0 (λ k below.
    let at = twice_at old.weights k in
    let count = length-map old.weights twice_within in
    let few = coarse.0 k (omega (arith, below, count)) in
    le-leb _ _ (omega (arith, at, few))))
    in
    let near : list_all (λ (r : Row). nat_lt r.source (node_count net) && list_all is_small r.potential) new.rows ≡ true =
    subst (λ rs. list_all (λ (r : Row). nat_lt r.source (node_count net) && list_all is_small r.potential) rs ≡ true) (sym is.rows_are)
    (small_rows (node_count net) old.rows two.1)
    in
    let order : rows_ascend new.rows ≡ true = ap rows_ascend is.rows_are ∙ (same_order old.rows ∙ three.1) in
    and_from _ _ (and_from _ _ (and_from _ _ (and_from _ _ light near) order) (excess_small old.plus old.minus new.plus is.plus_is)) (excess_small old.minus old.plus new.minus is.minus_is)

pub finer_numbers : (net : Network) (old new : Block) → IsCoarse old.weights old.b → IsFinerForm old new → HasNumbers net old → HasNumbers net new
finer_numbers net old new coarse (inl (small, is)) has =
    let scale = scale_of net old has.numbers in
    let less = small_a old small in
    let room = coarse.1 in
    let some = scale.some in
    subst (HasNumbers net) (sym is) (record {
      numbers = block_numbers_from net old (with_twice_scale old) refl (omega (arith, less)) (omega (arith, some)) (omega (arith, room)) has.numbers;
      small = has.small;
      weights = has.weights;
    })
finer_numbers net old new coarse (inr (large, is)) has =
    let scale = scale_of net old has.numbers in
    let room = coarse.1 in
    let some = scale.some in
    let a = scale.a in
    let a_is = is.a_is in
    let b_is = is.b_is in
    record {
      numbers = block_numbers_from net old new is.link_is (omega (arith, a, a_is)) (omega (arith, some, b_is)) (omega (arith, room, b_is)) has.numbers;
      small = small_numbers_from net old new coarse is has.small;
      weights = ap (λ (ws : List ℕ). length ws) is.weights_are ∙ (length-map old.weights twice_within ∙ has.weights);
    }

-- a number for each pair, or none
one_each : (set : DemandSet) (n : ℕ) (old new : List ℕ) → length new ≡ length old → are_words new ≡ true → has_one_each set n old ≡ true → has_one_each set n new ≡ true
one_each All n old new same words each = eq-eqb (length new) 0 (same ∙ eqb-true (length old) 0 each)
one_each (Margin num den base) n old new same words each =
    and_from (length new == n) (are_words new) (eq-eqb (length new) n (same ∙ eqb-true (length old) n (and_parts (length old == n) (are_words old) each).0)) words
one_each (Box lower upper) n old new same words each =
    and_from (length new == n) (are_words new) (eq-eqb (length new) n (same ∙ eqb-true (length old) n (and_parts (length old == n) (are_words old) each).0)) words

-- the parts of the shape of a block
pub record HasBlockShape (limits : Limits) (h : Head) (b : Block) : Type 0 where
  pub link : is_word b.link ≡ true
  pub a : is_word b.a ≡ true
  pub b_word : is_word b.b ≡ true
  pub weights : is_row_of (link_count h.network) b.weights ≡ true
  pub count : is_count 0 limits.nodes (length b.rows) ≡ true
  pub rows : list_all (is_shaped_row (node_count h.network)) b.rows ≡ true
  pub plus : has_one_each h.set (length h.routes) b.plus ≡ true
  pub minus : has_one_each h.set (length h.routes) b.minus ≡ true

pub block_shape : (limits : Limits) (h : Head) (b : Block) → is_shaped_block limits h b ≡ true → HasBlockShape limits h b
block_shape limits h b shaped =
    let m = link_count h.network in
    let three = is_word b.link && is_word b.a && is_word b.b in
    let weights = is_row_of m b.weights in
    let rows = list_all (is_shaped_row (node_count h.network)) b.rows in
    let plus = has_one_each h.set (length h.routes) b.plus in
    let minus = has_one_each h.set (length h.routes) b.minus in
    let count = is_count 0 limits.nodes (length b.rows) in
    let last = and_parts (three && weights && count && rows && plus) minus shaped in
    let before = and_parts (three && weights && count && rows) plus last.0 in
    let at_rows = and_parts (three && weights && count) rows before.0 in
    let at_count = and_parts (three && weights) count at_rows.0 in
    let at_weights = and_parts three weights at_count.0 in
    let two = and_parts (is_word b.link && is_word b.a) (is_word b.b) at_weights.0 in
    let one = and_parts (is_word b.link) (is_word b.a) two.0 in
    record { link = one.0; a = one.1; b_word = two.1; weights = at_weights.1; count = at_count.1; rows = at_rows.1; plus = before.1; minus = last.1 }

pub shape_from : (limits : Limits) (h : Head) (b : Block) → HasBlockShape limits h b → is_shaped_block limits h b ≡ true
shape_from limits h b has =
    and_from _ _ (and_from _ _ (and_from _ _ (and_from _ _ (and_from _ _ (and_from _ _ (and_from _ _ has.link has.a) has.b_word) has.weights) has.count) has.rows) has.plus) has.minus

pub finer_valid : (h : Head) (old new : Block) → IsCoarse old.weights old.b → IsFinerForm old new → HasNumbers h.network old → IsValidBlock h old → IsValidBlock h new
finer_valid h old new coarse (inl (small, is)) has valid =
    let numbers = finer_numbers h.network old new coarse (inl (small, is)) has in
    let own = block_shape (limits_of h.format) h old valid.shaped in
    let less = small_a old small in
    let room = coarse.1 in
    let shaped = shape_from (limits_of h.format) h (with_twice_scale old) (record {
      link = own.link;
      a = lt-ltb (2 * old.a) (2 ^ 64) (omega (arith, less));
      b_word = lt-ltb (2 * old.b) (2 ^ 64) (omega (arith, room));
      weights = own.weights;
      count = own.count;
      rows = own.rows;
      plus = own.plus;
      minus = own.minus;
    })
    in
    record { shaped = subst (λ (b : Block). is_shaped_block (limits_of h.format) h b ≡ true) (sym is) shaped; numbers = numbers.numbers; small = numbers.small }
finer_valid h old new coarse (inr (large, is)) has valid =
    let numbers = finer_numbers h.network old new coarse (inr (large, is)) has in
    let own = block_shape (limits_of h.format) h old valid.shaped in
    let scale = scale_of h.network new numbers.numbers in
    let a = scale.a in
    let b = scale.b in
    let n = node_count h.network in
    let shaped = shape_from (limits_of h.format) h new (record {
      link = subst (λ e. is_word e ≡ true) (sym is.link_is) own.link;
      a = lt-ltb new.a (2 ^ 64) (omega (arith, a));
      b_word = lt-ltb new.b (2 ^ 64) (omega (arith, b));
      weights = and_from (length new.weights == link_count h.network) (are_words new.weights) (eq-eqb _ _ numbers.weights)
          (subst (λ ws. are_words ws ≡ true) (sym is.weights_are) (small_words (map twice_within old.weights) (twice_small old.weights)));
      count = subst (λ k. is_count 0 (limits_of h.format).nodes k ≡ true) (sym (ap (λ (rs : List Row). length rs) is.rows_are ∙ length-map old.rows twice_row)) own.count;
      rows = subst (λ rs. list_all (is_shaped_row n) rs ≡ true) (sym is.rows_are) (shaped_rows n old.rows own.rows);
      plus = one_each h.set (length h.routes) old.plus new.plus is.plus_is.count (small_words new.plus (excess_small old.plus old.minus new.plus is.plus_is)) own.plus;
      minus = one_each h.set (length h.routes) old.minus new.minus is.minus_is.count (small_words new.minus (excess_small old.minus old.plus new.minus is.minus_is)) own.minus;
    })
    in
    record { shaped = shaped; numbers = numbers.numbers; small = numbers.small }

-- plus and minus have as many numbers
same_count : (set : DemandSet) (n : ℕ) (plus minus : List ℕ) → has_one_each set n plus ≡ true → has_one_each set n minus ≡ true → length minus ≡ length plus
same_count All n plus minus one two = eqb-true (length minus) 0 two ∙ sym (eqb-true (length plus) 0 one)
same_count (Margin num den base) n plus minus one two =
    eqb-true (length minus) n (and_parts (length minus == n) (are_words minus) two).0 ∙ sym (eqb-true (length plus) n (and_parts (length plus == n) (are_words plus) one).0)
same_count (Box lower upper) n plus minus one two =
    eqb-true (length minus) n (and_parts (length minus == n) (are_words minus) two).0 ∙ sym (eqb-true (length plus) n (and_parts (length plus == n) (are_words plus) one).0)

pub valid_count : (h : Head) (b : Block) → IsValidBlock h b → length b.minus ≡ length b.plus
valid_count h b valid =
    let own = block_shape (limits_of h.format) h b valid.shaped in
    same_count h.set (length h.routes) b.plus b.minus own.plus own.minus

-- so they have after a finer form
pub finer_count : (old new : Block) → IsFinerForm old new → length old.minus ≡ length old.plus → length new.minus ≡ length new.plus
finer_count old new (inl (small, is)) same = ap (λ (b : Block). length b.minus) is ∙ (same ∙ sym (ap (λ (b : Block). length b.plus) is))
finer_count old new (inr (large, is)) same = is.minus_is.count ∙ (same ∙ sym is.plus_is.count)
