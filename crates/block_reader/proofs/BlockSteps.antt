-- Reading of a block, step by step.
use Rattle.std.proofs.Common.{◌≡◌, ◌∙◌, ℕ, Bool, true, List, [], Result, Ok, Err, refl, sym, ap, subst}
use Rattle.std.specs.Prelude.{codes}
use Rattle.te_model.specs.declared.certificate.Row.{Row}
use Rattle.te_model.specs.declared.certificate.Block.{Block}
use Rattle.cert_text.specs.declared.limits.BlockLine.{BlockLine}
use Rattle.cert_text.specs.declared.limits.Counts.{Counts}
use Rattle.cert_text.specs.declared.cursor.Cursor.{Ghosts}
use Rattle.cert_text.specs.declared.reader.Reader.{Reader}
use Rattle.cert_text.specs.declared.fault.Stop.{Stop}
use Rattle.cert_text.specs.declared.fault.Stop.TheVariants as stops
use Rattle.cert_text.specs.Place.{Place, place, Stops, ReadsViewed, Passes, ◌>>=◌, with_front}
use Rattle.cert_text.specs.Reading.{narrow_number, read_word, read_next_number, read_line_end, read_many}
use Rattle.cert_text.specs.Grammar.{read_listing, read_number_line, read_row, read_sides}
use Rattle.cert_text.specs.BlockRest.{read_block_rest}
use Rattle.cert_text.specs.Takes.{Takes}
use Rattle.cert_text.proofs.Steps.{one_stopped}
use Rattle.block_reader.specs.Room.{sides_of}
use Rattle.block_reader.proofs.Placing.{ended_as, none_before}

-- numbers behind a word
module _ (word : List ℕ) (n m : ℕ) (p0 p1 : Place) (same : m ≡ n) (begins : read_word word p0 ≡ Ok p1) where
  pub listing_stops : (e : Stop) → Stops e (read_many m read_next_number p1) → Stops e (read_listing word n p0)
  unfolding read_listing
  listing_stops stops.Memory at = tt
  listing_stops (stops.Shape k) at = rw (begins, sym same, at) refl

  pub listing_read : (new : List ℕ) (p2 : Place) (r : Result (Unit {0}) Stop) (after : Place) → with_front [] (read_many m read_next_number p1) ≡ Ok (new, p2) →
      Passes r after (read_line_end p2) → ReadsViewed (λ _. new) r after (read_listing word n p0)
  unfolding read_listing
  listing_read new p2 r after at passes =
      let numbers = sym (none_before (read_many m read_next_number p1)) ∙ at in
      ended_as new r after (read_line_end p2) (read_listing word n p0) (rw (begins, sym same, numbers) refl) passes

-- the sides of a set with bounds
module _ (bounded : Bool) (pairs m l : ℕ) (p0 : Place) (has : bounded ≡ true) (count : m ≡ sides_of bounded pairs) (count' : l ≡ sides_of bounded pairs) where
  plus_count : m ≡ pairs
  plus_count = rw has at count

  minus_count : l ≡ pairs
  minus_count = rw has at count'

  pub plus_stops : (e : Stop) → Stops e (read_listing (codes "plus") m p0) → Stops e (read_sides bounded pairs p0)
  unfolding read_sides
  plus_stops stops.Memory at = tt
  plus_stops (stops.Shape k) at = rw (has, rw plus_count at at) refl

  pub minus_stops : (plus : List ℕ) (p1 : Place) → read_listing (codes "plus") m p0 ≡ Ok (plus, p1) →
      (e : Stop) → Stops e (read_listing (codes "minus") l p1) → Stops e (read_sides bounded pairs p0)
  unfolding read_sides
  minus_stops plus p1 first stops.Memory at = tt
  minus_stops plus p1 first (stops.Shape k) at = rw (has, rw plus_count at first, rw minus_count at at) refl

  pub both_read : (plus minus : List ℕ) (p1 p2 : Place) → read_listing (codes "plus") m p0 ≡ Ok (plus, p1) →
      read_listing (codes "minus") l p1 ≡ Ok (minus, p2) → read_sides bounded pairs p0 ≡ Ok ((plus, minus), p2)
  unfolding read_sides
  both_read plus minus p1 p2 first second = rw (has, rw plus_count at first, rw minus_count at second) refl

-- what is read behind the weights
abbrev rows_and_sides : Counts → BlockLine → List ℕ → Place → Result (Block × Place) ℕ
rows_and_sides counts line weights p = do
  rows ← read_many line.rows (read_row narrow_number counts.nodes) p
  sides ← read_sides counts.bounded counts.pairs rows.1
  Ok (record { link = line.link; a = line.a; b = line.b; weights = weights; rows = rows.0; plus = sides.0.0; minus = sides.0.1 }, sides.1)

pub weights_stop : {C : Type 0} {cursor : Ghosts C} (counts : Counts) (m : ℕ) (line : BlockLine) (e : Stop) (r0 r1 : Reader C cursor) →
    m ≡ counts.links → Takes {R = Result (List ℕ × Place) ℕ} r0 r1 (λ after read. Stops e read) (read_number_line m) →
    Takes {R = Result (Block × Place) ℕ} r0 r1 (λ after read. Stops e read) (read_block_rest narrow_number counts line)
unfolding read_block_rest
weights_stop counts m line e r0 r1 same one =
    one_stopped e _ (subst (λ k. Takes {R = Result (List ℕ × Place) ℕ} r0 r1 (λ after read. Stops e read) (read_number_line k)) same one)

pub weights_read : {C : Type 0} {cursor : Ghosts C} (counts : Counts) (m : ℕ) (line : BlockLine) (weights : List ℕ) (u : Unit {0}) (r0 r1 : Reader C cursor) →
    m ≡ counts.links → Takes r0 r1 (ReadsViewed (λ _. weights) (Ok u)) (read_number_line m) →
    Takes r0 r1 (λ p whole. whole ≡ rows_and_sides counts line weights p) (read_block_rest narrow_number counts line)
unfolding read_block_rest
weights_read {cursor = cursor} counts m line weights u r0 r1 same one = record {
  told = one.told;
  reads = λ t.
      let first = ap (λ k. read_number_line k (place r0.line (cursor.rest r0.source))) (sym same) ∙ one.reads t in
      rw first refl;
}

module _ (counts held : Counts) (line : BlockLine) (weights : List ℕ) (p : Place) (m width : ℕ) (whole : Result (Block × Place) ℕ)
    (same : held ≡ counts) (count : m ≡ line.rows) (wide : width ≡ held.nodes) (is : whole ≡ rows_and_sides counts line weights p) where
  rows_of : read_many line.rows (read_row narrow_number counts.nodes) p ≡ read_many m (read_row narrow_number width) p
  rows_of =
      ap (λ k. read_many k (read_row narrow_number counts.nodes) p) (sym count)
      ∙ ap (λ w. read_many m (read_row narrow_number w) p) (sym (wide ∙ ap (λ (k : Counts). k.nodes) same))

  pub rows_stop : (e : Stop) → Stops e (read_many m (read_row narrow_number width) p) → Stops e whole
  rows_stop stops.Memory at = tt
  rows_stop (stops.Shape k) at = is ∙ rw (rows_of ∙ at) refl

  pub sides_read : (link' a' b' : ℕ) (weights' : List ℕ) (rows : List Row) (plus minus : List ℕ) (q : Place) (r : Result (Unit {0}) Stop) (after : Place) →
      link' ≡ line.link → a' ≡ line.a → b' ≡ line.b → weights' ≡ weights → read_many m (read_row narrow_number width) p ≡ Ok (rows, q) →
      ReadsViewed (λ _. (plus, minus)) r after (read_sides held.bounded held.pairs q) →
      ReadsViewed (λ _. record { link = link'; a = a'; b = b'; weights = weights'; rows = rows; plus = plus; minus = minus }) r after whole
  sides_read link' a' b' weights' rows plus minus q r after el ea eb ew at sides = go r (rw same at sides)
    where
      go : (r : Result (Unit {0}) Stop) → ReadsViewed (λ _. (plus, minus)) r after (read_sides counts.bounded counts.pairs q) →
          ReadsViewed (λ _. record { link = link'; a = a'; b = b'; weights = weights'; rows = rows; plus = plus; minus = minus }) r after whole
      go (Ok u) read = rw (el, ea, eb, ew) (is ∙ rw (rows_of ∙ at, read) refl)
      go (Err stops.Memory) read = tt
      go (Err (stops.Shape k)) read = is ∙ rw (rows_of ∙ at, read) refl
