-- What a read with one answer or another makes of a window.
use Rattle.std.proofs.Common.{◌≡◌, ◌∙◌, ℕ, ◌+◌, ◌-◌, ◌≤◌, ◌<◌, ◌≢◌, Bool, true, false, List, [], ◌∷◌, ◌++◌, length, take, drop, Option, Result, Ok, Err, refl, sym, ap, subst, arith, append-nil, length-take-le, vec_len}
use Rattle.std.specs.Prelude.{◌==◌, nat_lt, if◌then◌else◌, IfOk, OnOk, OnErr}
use Rattle.std.specs.Result.{result_unwrap_or}
use Rattle.std.proofs.lemmas.Bool.Decides.{nat_tests}
use Rattle.te_ports.specs.Ports.{Told}
use Rattle.te_ports.proofs.Giving.{adds_one, adds_none, piece_of_told}
use Rattle.te_ports.specs.Record.{Adds, Pass, pass, Read, read, HasGiven, IsRead, IsPiece}
use Rattle.block_reader.specs.declared.window.Window.{Window}
use Rattle.block_reader.specs.declared.window.State.{State}
use Rattle.block_reader.specs.declared.window.State.TheVariants.{Open, Ended, Failed, TooLong}
use Rattle.block_reader.specs.Fetching.{state_after}
use Rattle.block_reader.specs.Standing.{ready, fetched_of, state_of, limit_of, reads_left_in, IsGiven, IsStateOf, StandsAt, StandsIn}
use Rattle.block_reader.proofs.Going.{at_failed, at_more, in_failed, in_more}

-- the state by whether nothing was read and whether too much was
abbrev by_tests : Bool → Bool → State
by_tests none long = if none then Ended else (if long then TooLong else Open)

-- a file that is open is within its limit
open_is_short : (now : State) → now ≡ Open → now ≢ TooLong
open_is_short now is long = cc

pub open_within : (w : Window) → state_of w ≡ Open → fetched_of w ≤ limit_of w
open_within w is = w.within (open_is_short w.state is)

-- the bytes that were read fit behind those that stand ready, and are within the limit by one byte
pub fits_behind : (w : Window) (space room count : ℕ) → 1 ≤ space → w.end + space ≤ vec_len w.bytes → fetched_of w + space ≤ limit_of w + 1 → room ≡ space → count ≤ room →
    (0 < room) × (w.end + count ≤ vec_len w.bytes) × (w.fetched + count ≤ w.limit + 1)
fits_behind w space room count some inside below size fits = (omega (arith, some, size), omega (arith, inside, size, fits), omega (arith, below, size, fits))

pub inside_items : (w : Window) → w.end ≤ length w.bytes.items
inside_items w = omega (arith, w.inside)

pub ordered_more : (start end count : ℕ) → start ≤ end → start ≤ end + count
ordered_more start end count order = omega (arith, order)

pub counted_more : (start end count fetched : ℕ) → end - start ≤ fetched → (end + count) - start ≤ fetched + count
counted_more start end count fetched counted = omega (arith, counted)

-- a read that failed counts nothing
pub count_fits : {E : Type 0} (r : Result ℕ E) (count room : ℕ) → count ≡ result_unwrap_or r 0 → IfOk r (λ n. n ≤ room) → count ≤ room
count_fits (Ok n) count room is fits = omega (arith, is, fits)
count_fits (Err fault) count room is fits = omega (arith, is)

given_by : (p : Pass) (bytes : List ℕ) (limit : ℕ) (none long : Bool) → (none ≡ false → HasGiven p bytes) → (none ≡ true → IsRead p bytes) →
    (long ≡ true → length bytes ≡ limit + 1) → IsGiven p bytes limit (by_tests none long)
given_by p bytes limit true long given ended past = ended refl
given_by p bytes limit false true given ended past = (given refl, past refl)
given_by p bytes limit false false given ended past = given refl

pub at_answer : {E : Type 0} (name : List ℕ) (before old new : List Read) (w w' : Window) (passed buf : List ℕ) (r : Result ℕ E) (count : ℕ) →
    state_of w ≡ Open → count ≡ result_unwrap_or r 0 → count ≤ length buf →
    ready w' ≡ ready w ++ take count buf → fetched_of w' ≡ fetched_of w + count → fetched_of w' ≤ limit_of w' + 1 →
    state_of w' ≡ state_after r (fetched_of w') (limit_of w') → IfOk r (λ n. new ≡ old ++ read name (fetched_of w) (take n buf) ∷ []) →
    OnErr r (new ≡ old) → StandsAt (pass name before old) w passed → StandsAt (pass name before new) w' passed
at_answer name before old new w w' passed buf (Ok n) count was is_count room next at below is gave unread s =
    let given : new ≡ old ++ read name w.fetched (take count buf) ∷ [] = subst (λ k. new ≡ old ++ read name w.fetched (take k buf) ∷ []) (sym is_count) gave in
    let size : length (take count buf) ≡ count = length-take-le count buf room in
    at_more name before old new w w' passed (take count buf) was given next (omega (arith, at, size))
    (λ bytes all long_as ended.
    let none : (n == 0) ≡ true → IsRead (pass name before new) bytes = (λ e. let zero : count ≡ 0 = grind (arith, nat_tests) in ended (size ∙ zero)) in
    let past : nat_lt w'.limit w'.fetched ≡ true → length bytes ≡ w'.limit + 1 =
    (λ e. let beyond : w'.limit < w'.fetched = grind (arith, nat_tests) in omega (arith, long_as, beyond, below)) in
    let some : (n == 0) ≡ false → HasGiven (pass name before new) bytes = (λ e. let one : 1 ≤ count = grind (arith, nat_tests) in all (omega (arith, one, size))) in
    subst (IsGiven (pass name before new) bytes w'.limit) (sym is)
    (given_by (pass name before new) bytes w'.limit (n == 0) (nat_lt w'.limit w'.fetched) some none past)) s
at_answer name before old new w w' passed buf (Err fault) count was is_count room next at below is gave unread s =
    let same : ready w' ≡ ready w = next ∙ ap (λ k. ready w ++ take k buf) is_count ∙ append-nil (ready w) in
    at_failed (pass name before old) (pass name before new) w w' passed refl refl unread same (omega (arith, at, is_count)) was is s

state_by : (content : List ℕ) (limit fetched : ℕ) (none long : Bool) → (none ≡ true → length content ≤ fetched) → (long ≡ true → limit < length content) →
    IsStateOf content limit fetched (by_tests none long)
state_by content limit fetched true long ended past = ended refl
state_by content limit fetched false true ended past = past refl
state_by content limit fetched false false ended past = tt

pub in_answer : {E : Type 0} (content : List ℕ) (w w' : Window) (passed buf : List ℕ) (r : Result ℕ E) (count : ℕ) →
    count ≡ result_unwrap_or r 0 → count ≤ length buf →
    ready w' ≡ ready w ++ take count buf → fetched_of w' ≡ fetched_of w + count →
    state_of w' ≡ state_after r (fetched_of w') (limit_of w') → IfOk r (λ n. IsPiece content (fetched_of w) (take n buf)) →
    StandsIn content w passed → StandsIn content w' passed
in_answer content w w' passed buf (Ok n) count is_count room next at is pieces s =
    let piece : IsPiece content w.fetched (take count buf) = subst (λ k. IsPiece content w.fetched (take k buf)) (sym is_count) pieces in
    let size : length (take count buf) ≡ count = length-take-le count buf room in
    let ended : (n == 0) ≡ true → length content ≤ w'.fetched = (λ e.
    let zero : count ≡ 0 = grind (arith, nat_tests) in
    let short : length content ≤ w.fetched = piece.ends (size ∙ zero) in
    omega (arith, short, at)) in
    in_more content w w' passed (take count buf) next (omega (arith, at, size)) piece
    (λ fits.
    let past : nat_lt w'.limit w'.fetched ≡ true → w'.limit < length content = (λ e. grind (arith, nat_tests)) in
    subst (IsStateOf content w'.limit w'.fetched) (sym is) (state_by content w'.limit w'.fetched (n == 0) (nat_lt w'.limit w'.fetched) ended past)) s
in_answer content w w' passed buf (Err fault) count is_count room next at is pieces s =
    let same : ready w' ≡ ready w = next ∙ ap (λ k. ready w ++ take k buf) is_count ∙ append-nil (ready w) in
    in_failed content w w' passed same (omega (arith, at, is_count)) is s

-- a read gave a piece of what is told
pub told_pieces : {E : Type 0} (told buf : List ℕ) (at : ℕ) (r : Result ℕ E) → 0 < length buf → IfOk r (λ n. n ≤ length buf) →
    IfOk r (λ n. take n buf ≡ take n (drop at told)) → IfOk r (λ n. n ≡ 0 → 0 < length buf → length told ≤ at) →
    IfOk r (λ n. IsPiece told at (take n buf))
told_pieces told buf at (Ok n) some fits bytes end =
    let size : length (take n buf) ≡ n = length-take-le n buf fits in
    record { bytes_are = bytes ∙ ap (λ k. take k (drop at told)) (sym size); ends = λ none. end (sym size ∙ none) some }
told_pieces told buf at (Err fault) some fits bytes end = tt

-- and was added to the record
pub added_by : {E : Type 0} (content : List ℕ → Option (List ℕ)) (old new : List Read) (name buf : List ℕ) (at : ℕ) (r : Result ℕ E) → 0 < length buf →
    IfOk r (λ n. n ≤ length buf) → IfOk r (λ n. Told (content name) (λ told. take n buf ≡ take n (drop at told))) →
    IfOk r (λ n. Told (content name) (λ told. n ≡ 0 → 0 < length buf → length told ≤ at)) →
    IfOk r (λ n. 0 < length buf → new ≡ old ++ read name at (take n buf) ∷ []) → OnErr r (new ≡ old) → Adds content old new
added_by content old new name buf at (Ok n) some fits bytes end gave unread =
    adds_one content old new (read name at (take n buf)) (gave some) (piece_of_told content name at n buf some fits bytes end)
added_by content old new name buf at (Err fault) some fits bytes end gave unread = adds_none content old new unread

-- a read that succeeds leaves no state of failure
not_failed : (none long : Bool) → by_tests none long ≢ Failed
not_failed true long is = cc
not_failed false true is = cc
not_failed false false is = cc

pub failed_by : {E P : Type 0} (r : Result ℕ E) (limit fetched : ℕ) (now : State) → now ≡ state_after r fetched limit → OnErr r P → now ≡ Failed → P
failed_by (Ok n) limit fetched now is fault failed = absurd (not_failed (n == 0) (nat_lt limit fetched) (sym is ∙ failed))
failed_by (Err e) limit fetched now is fault failed = fault

pub steady_by : {E P : Type 0} (r : Result ℕ E) (limit fetched : ℕ) (now : State) → now ≡ state_after r fetched limit → OnOk r P → now ≢ Failed → P
steady_by (Ok n) limit fetched now is same sound = same
steady_by (Err e) limit fetched now is same sound = absurd (sound is)

module _ {E : Type 0} (limit fetched count : ℕ) (now : State) (open_still : fetched ≤ limit) (room : fetched + count ≤ limit + 1) where
  -- each read of a file that is open leaves fewer
  pub fewer_by : (r : Result ℕ E) (before : State) → before ≡ Open → now ≡ state_after r (fetched + count) limit → count ≡ result_unwrap_or r 0 →
      reads_left_in now (limit + 1 - (fetched + count)) < reads_left_in before (limit + 1 - fetched)
  fewer_by (Ok n) before at is is_count = rw (at, is) (go (n == 0) (nat_lt limit (fetched + count)) refl)
    where
      go : (none long : Bool) → (n == 0) ≡ none → reads_left_in (by_tests none long) (limit + 1 - (fetched + count)) < reads_left_in Open (limit + 1 - fetched)
      go true long e = omega arith
      go false true e = omega arith
      go false false e = let some : 1 ≤ n = grind (arith, nat_tests) in omega (arith, some, is_count)
  fewer_by (Err e) before at is is_count = rw (at, is) (omega arith)

  pub within_by : (r : Result ℕ E) → now ≡ state_after r (fetched + count) limit → count ≡ result_unwrap_or r 0 → now ≢ TooLong → fetched + count ≤ limit
  within_by (Ok n) is is_count short = go (n == 0) (nat_lt limit (fetched + count)) refl refl is
    where
      go : (none long : Bool) → (n == 0) ≡ none → nat_lt limit (fetched + count) ≡ long → now ≡ by_tests none long → fetched + count ≤ limit
      go true long e f s = let zero : n ≡ 0 = grind (arith, nat_tests) in omega (arith, zero, is_count)
      go false true e f s = absurd (short s)
      go false false e f s = grind (arith, nat_tests)
  within_by (Err e) is is_count short = omega (arith, is_count)

  pub past_by : (r : Result ℕ E) → now ≡ state_after r (fetched + count) limit → now ≡ TooLong → fetched + count ≡ limit + 1
  past_by (Ok n) is long = go (n == 0) (nat_lt limit (fetched + count)) refl (sym is ∙ long)
    where
      go : (none past : Bool) → nat_lt limit (fetched + count) ≡ past → by_tests none past ≡ TooLong → fetched + count ≡ limit + 1
      go true past f s = absurd cc
      go false true f s = let beyond : limit < fetched + count = grind (arith, nat_tests) in omega (arith, beyond)
      go false false f s = absurd cc
  past_by (Err e) is long = absurd (let no : Failed ≡ TooLong = sym is ∙ long in cc)
