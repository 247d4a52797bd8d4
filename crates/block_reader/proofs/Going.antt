-- How a window goes on in what reads gave, and in a content.
use Rattle.std.proofs.Common.{◌≡◌, ◌⊎◌, inl, inr, ◌∙◌, ℕ, ◌+◌, ◌≤◌, List, [], ◌∷◌, ◌++◌, length, take, Option, Some, drop, refl, sym, ap, subst, arith, append_assoc, append-nil, length-append, length-take, length-drop}
use Rattle.std.proofs.lemmas.List.{take_all}
use Rattle.std.proofs.Math.Seq.{take-add}
use Rattle.te_ports.specs.Record.{Pass, pass, Read, read, Adds, IsPiece, HasGiven, nothing, more, IsBegun, IsRead, IsReadInPart, IsReadPastAllowed}
use Rattle.te_ports.proofs.Giving.{front_of, read_is, given_end}
use Rattle.block_reader.specs.declared.window.Window.{Window}
use Rattle.block_reader.specs.declared.window.State.{State}
use Rattle.block_reader.specs.declared.window.State.TheVariants.{Open, Ended, Failed, TooLong}
use Rattle.block_reader.specs.Standing.{ready, fetched_of, state_of, room_of, limit_of, IsGiven, IsStateOf, StandsAt, StandsIn}

-- nothing was read yet
pub at_new : (gave : Pass) (w : Window) → gave.now ≡ gave.before → ready w ≡ [] → fetched_of w ≡ 0 → state_of w ≡ Open → StandsAt gave w []
at_new gave w unread none start is = record {
  given = subst (IsGiven gave (ready w) w.limit) (sym is) (nothing gave.now (ready w) unread none);
  count = start ∙ sym (ap length none);
}

pub in_new : (content : List ℕ) (w : Window) → ready w ≡ [] → fetched_of w ≡ 0 → state_of w ≡ Open → StandsIn content w []
in_new content w none start is = record {
  front = ap (λ k. take k content) start ∙ sym none;
  count = start ∙ sym (ap length none);
  ends = subst (IsStateOf content w.limit w.fetched) (sym is) tt;
}

-- no byte more was read
pub at_still : (old new : Pass) (w w' : Window) (passed : List ℕ) → ready w' ≡ ready w → fetched_of w' ≡ fetched_of w →
    (IsGiven old (passed ++ ready w) (limit_of w) (state_of w) → IsGiven new (passed ++ ready w) (limit_of w') (state_of w')) →
    StandsAt old w passed → StandsAt new w' passed
at_still old new w w' passed same at then s =
    let whole : passed ++ ready w' ≡ passed ++ ready w = ap (λ f. passed ++ f) same in record {
      given = subst (λ bytes. IsGiven new bytes w'.limit w'.state) (sym whole) (then s.given);
      count = at ∙ s.count ∙ sym (ap length whole);
    }

-- the same window in another form
pub at_same : (gave : Pass) (w w' : Window) (passed : List ℕ) → ready w' ≡ ready w → fetched_of w' ≡ fetched_of w → limit_of w' ≡ limit_of w →
    state_of w' ≡ state_of w → StandsAt gave w passed → StandsAt gave w' passed
at_same gave w w' passed same at limit state =
    at_still gave gave w w' passed same at
    (λ given. subst (λ k. IsGiven gave (passed ++ ready w) k w'.state) (sym limit) (subst (IsGiven gave (passed ++ ready w) w.limit) (sym state) given))

pub in_still : (content : List ℕ) (w w' : Window) (passed : List ℕ) → ready w' ≡ ready w → fetched_of w' ≡ fetched_of w →
    IsStateOf content (limit_of w') (fetched_of w') (state_of w') → StandsIn content w passed → StandsIn content w' passed
in_still content w w' passed same at state s =
    let whole : passed ++ ready w' ≡ passed ++ ready w = ap (λ f. passed ++ f) same in record {
      front = ap (λ k. take k content) at ∙ s.front ∙ sym whole;
      count = at ∙ s.count ∙ sym (ap length whole);
      ends = state;
    }

-- a read failed
pub at_failed : (old new : Pass) (w w' : Window) (passed : List ℕ) → new.name ≡ old.name → new.before ≡ old.before → new.now ≡ old.now →
    ready w' ≡ ready w → fetched_of w' ≡ fetched_of w → state_of w ≡ Open → state_of w' ≡ Failed → StandsAt old w passed → StandsAt new w' passed
at_failed old new w w' passed name before unread same at was is =
    at_still old new w w' passed same at
    (λ given.
    let open_still : HasGiven old (passed ++ ready w) = subst (IsGiven old (passed ++ ready w) w.limit) was given in
    let all : HasGiven new (passed ++ ready w) = rw (name, before, unread) open_still in
    subst (IsGiven new (passed ++ ready w) w'.limit) (sym is) all)

pub in_failed : (content : List ℕ) (w w' : Window) (passed : List ℕ) → ready w' ≡ ready w → fetched_of w' ≡ fetched_of w →
    state_of w' ≡ Failed → StandsIn content w passed → StandsIn content w' passed
in_failed content w w' passed same at is =
    in_still content w w' passed same at (subst (IsStateOf content w'.limit w'.fetched) (sym is) tt)

-- a piece more was read, which says what became of the file
pub at_more : (name : List ℕ) (before old new : List Read) (w w' : Window) (passed piece : List ℕ) → state_of w ≡ Open →
    new ≡ old ++ read name (fetched_of w) piece ∷ [] → ready w' ≡ ready w ++ piece → fetched_of w' ≡ fetched_of w + length piece →
    ((bytes : List ℕ) → (1 ≤ length piece → HasGiven (pass name before new) bytes) → length bytes ≡ fetched_of w' → (length piece ≡ 0 → IsRead (pass name before new) bytes) →
    IsGiven (pass name before new) bytes (limit_of w') (state_of w')) →
    StandsAt (pass name before old) w passed → StandsAt (pass name before new) w' passed
at_more name before old new w w' passed piece was gave next at state s =
    let whole : passed ++ ready w' ≡ (passed ++ ready w) ++ piece = ap (λ f. passed ++ f) next ∙ sym (append_assoc passed (ready w) piece) in
    let count : w'.fetched ≡ length (passed ++ ready w') =
    at ∙ ap (λ k. k + length piece) s.count ∙ sym (length-append (passed ++ ready w) piece) ∙ sym (ap length whole) in
    let given : HasGiven (pass name before old) (passed ++ ready w) = subst (IsGiven (pass name before old) (passed ++ ready w) w.limit) was s.given in
    let read_there : new ≡ old ++ read name (length (passed ++ ready w)) piece ∷ [] = subst (λ k. new ≡ old ++ read name k piece ∷ []) s.count gave in record {
      given = state (passed ++ ready w') (λ some. more old new (passed ++ ready w) (passed ++ ready w') piece given some read_there whole) (sym count)
          (λ none. given_end name (passed ++ ready w) piece (passed ++ ready w') before old new given read_there whole none);
      count = count;
    }

pub in_more : (content : List ℕ) (w w' : Window) (passed piece : List ℕ) → ready w' ≡ ready w ++ piece →
    fetched_of w' ≡ fetched_of w + length piece → IsPiece content (fetched_of w) piece →
    (fetched_of w' ≤ length content → IsStateOf content (limit_of w') (fetched_of w') (state_of w')) →
    StandsIn content w passed → StandsIn content w' passed
in_more content w w' passed piece next at is state s =
    let whole : passed ++ ready w' ≡ (passed ++ ready w) ++ piece = ap (λ f. passed ++ f) next ∙ sym (append_assoc passed (ready w) piece) in
    let front : take w'.fetched content ≡ passed ++ ready w' =
    ap (λ k. take k content) at ∙ take-add (fetched_of w) (length piece) content
    ∙ ap (λ f. f ++ take (length piece) (drop (fetched_of w) content)) s.front
    ∙ ap (λ f. (passed ++ ready w) ++ f) (sym is.bytes_are) ∙ sym whole in
    let count : w'.fetched ≡ length (passed ++ ready w') =
    at ∙ ap (λ k. k + length piece) s.count ∙ sym (length-append (passed ++ ready w) piece) ∙ sym (ap length whole) in record {
      front = front;
      count = count;
      ends = state (omega (arith, count, ap length front, length-take w'.fetched content));
    }

-- bytes were passed
pub at_pass : (gave : Pass) (w w' : Window) (passed front : List ℕ) → ready w ≡ front ++ ready w' →
    fetched_of w' ≡ fetched_of w → limit_of w' ≡ limit_of w → state_of w' ≡ state_of w → StandsAt gave w passed → StandsAt gave w' (passed ++ front)
at_pass gave w w' passed front next at limit state s =
    let whole : passed ++ ready w ≡ (passed ++ front) ++ ready w' = ap (λ f. passed ++ f) next ∙ sym (append_assoc passed front (ready w')) in record {
      given = subst (λ k. IsGiven gave ((passed ++ front) ++ ready w') k w'.state) (sym limit)
          (subst (λ bytes. IsGiven gave bytes w.limit w'.state) whole (subst (IsGiven gave (passed ++ ready w) w.limit) (sym state) s.given));
      count = at ∙ s.count ∙ ap length whole;
    }

pub in_pass : (content : List ℕ) (w w' : Window) (passed front : List ℕ) → ready w ≡ front ++ ready w' →
    fetched_of w' ≡ fetched_of w → limit_of w' ≡ limit_of w → state_of w' ≡ state_of w → StandsIn content w passed → StandsIn content w' (passed ++ front)
in_pass content w w' passed front next at limit state s =
    let whole : passed ++ ready w ≡ (passed ++ front) ++ ready w' = ap (λ f. passed ++ f) next ∙ sym (append_assoc passed front (ready w')) in record {
      front = ap (λ k. take k content) at ∙ s.front ∙ whole;
      count = at ∙ s.count ∙ ap length whole;
      ends = subst (λ k. IsStateOf content k w'.fetched w'.state) (sym limit)
          (subst (λ k. IsStateOf content w.limit k w'.state) (sym at) (subst (IsStateOf content w.limit w.fetched) (sym state) s.ends));
    }

-- all that stood ready was passed
pub at_clear : (gave : Pass) (w w' : Window) (passed : List ℕ) → ready w' ≡ [] →
    fetched_of w' ≡ fetched_of w → limit_of w' ≡ limit_of w → state_of w' ≡ state_of w → StandsAt gave w passed → StandsAt gave w' (passed ++ ready w)
at_clear gave w w' passed none at limit state =
    at_pass gave w w' passed (ready w) (sym (append-nil (ready w)) ∙ ap (λ f. ready w ++ f) (sym none)) at limit state

pub in_clear : (content : List ℕ) (w w' : Window) (passed : List ℕ) → ready w' ≡ [] →
    fetched_of w' ≡ fetched_of w → limit_of w' ≡ limit_of w → state_of w' ≡ state_of w → StandsIn content w passed → StandsIn content w' (passed ++ ready w)
in_clear content w w' passed none at limit state =
    in_pass content w w' passed (ready w) (sym (append-nil (ready w)) ∙ ap (λ f. ready w ++ f) (sym none)) at limit state

-- a greater limit, where the old one is not passed
given_raised : (gave : Pass) (bytes : List ℕ) (old new : ℕ) (state : State) → (state ≡ TooLong → ⊥) → IsGiven gave bytes old state → IsGiven gave bytes new state
given_raised gave bytes old new Open within is = is
given_raised gave bytes old new Ended within is = is
given_raised gave bytes old new Failed within is = is
given_raised gave bytes old new TooLong within is = absurd (within refl)

in_end_raised : (content : List ℕ) (old new fetched : ℕ) (state : State) → (state ≡ TooLong → ⊥) → IsStateOf content old fetched state → IsStateOf content new fetched state
in_end_raised content old new fetched Open within is = tt
in_end_raised content old new fetched Ended within is = is
in_end_raised content old new fetched Failed within is = tt
in_end_raised content old new fetched TooLong within is = absurd (within refl)

pub at_raised : (gave : Pass) (w w' : Window) (passed : List ℕ) → ready w' ≡ ready w → fetched_of w' ≡ fetched_of w →
    state_of w' ≡ state_of w → (state_of w ≡ TooLong → ⊥) → StandsAt gave w passed → StandsAt gave w' passed
at_raised gave w w' passed same at state within =
    at_still gave gave w w' passed same at
    (λ given. subst (IsGiven gave (passed ++ ready w) w'.limit) (sym state) (given_raised gave (passed ++ ready w) w.limit w'.limit w.state within given))

pub in_raised : (content : List ℕ) (w w' : Window) (passed : List ℕ) → ready w' ≡ ready w → fetched_of w' ≡ fetched_of w →
    state_of w' ≡ state_of w → (state_of w ≡ TooLong → ⊥) → StandsIn content w passed → StandsIn content w' passed
in_raised content w w' passed same at state within s =
    in_still content w w' passed same at
    (subst (λ k. IsStateOf content w'.limit k w'.state) (sym at)
    (subst (IsStateOf content w'.limit w.fetched) (sym state) (in_end_raised content w.limit w'.limit w.fetched w.state within s.ends))) s

-- where the file ended, reads gave all of it
pub at_whole : (gave : Pass) (w : Window) (passed : List ℕ) → StandsAt gave w passed → state_of w ≡ Ended → IsRead gave (passed ++ ready w)
at_whole gave w passed s is = subst (IsGiven gave (passed ++ ready w) w.limit) is s.given

pub in_whole : (content : List ℕ) (w : Window) (passed : List ℕ) → StandsIn content w passed → state_of w ≡ Ended → content ≡ passed ++ ready w
in_whole content w passed s is =
    let ends : length content ≤ w.fetched = subst (IsStateOf content w.limit w.fetched) is s.ends in
    sym (take_all w.fetched content ends) ∙ s.front

-- where it is too long, reads gave one byte more than is allowed for a file that begins with what they gave
pub at_past : (gave : Pass) (allowed : List ℕ → ℕ) (w : Window) (passed : List ℕ) → StandsAt gave w passed →
    limit_of w ≡ allowed (passed ++ ready w) → state_of w ≡ TooLong → IsReadPastAllowed gave allowed
at_past gave allowed w passed s limit is =
    let long : IsGiven gave (passed ++ ready w) w.limit TooLong = subst (IsGiven gave (passed ++ ready w) w.limit) is s.given in
    record { bytes = passed ++ ready w; given = long.0; past = long.1 ∙ ap (λ k. k + 1) limit }

-- and where a read failed, they gave a part of the file
pub at_part : (gave : Pass) (allowed : List ℕ → ℕ) (w : Window) (passed : List ℕ) → StandsAt gave w passed →
    limit_of w ≡ allowed (passed ++ ready w) → state_of w ≡ Failed → IsReadInPart gave allowed
at_part gave allowed w passed s limit is =
    let short : w.fetched ≤ w.limit = w.within (λ long. let no : Failed ≡ TooLong = sym is ∙ long in cc) in
    record {
      bytes = passed ++ ready w;
      given = subst (IsGiven gave (passed ++ ready w) w.limit) is s.given;
      within = omega (arith, short, s.count, limit);
    }

-- whatever became of the file, a pass over it was begun
pub at_begun : (gave : Pass) (w : Window) (passed : List ℕ) → StandsAt gave w passed → IsBegun gave
at_begun gave w passed s = (passed ++ ready w, go w.state s.given)
  where
    go : (state : State) → IsGiven gave (passed ++ ready w) w.limit state → HasGiven gave (passed ++ ready w) ⊎ IsRead gave (passed ++ ready w)
    go Open given = inl given
    go Ended given = inr given
    go Failed given = inl given
    go TooLong given = inl given.0

-- where the file is told, the window stands in what is told
pub at_told : (content : List ℕ → Option (List ℕ)) (gave : Pass) (w : Window) (passed told : List ℕ) → content gave.name ≡ Some told →
    Adds content gave.before gave.now → StandsAt gave w passed → StandsIn told w passed
at_told content gave w passed told at adds s =
    let known = told_by w.state s.given in record { front = ap (λ k. take k told) s.count ∙ known.0; count = s.count; ends = known.1 }
  where
    bytes : List ℕ
    bytes = passed ++ ready w

    told_by : (state : State) → IsGiven gave bytes w.limit state → (take (length bytes) told ≡ bytes) × IsStateOf told w.limit w.fetched state
    told_by Open given = (front_of content gave told bytes at adds given, tt)
    told_by Ended given =
        let same : bytes ≡ told = read_is content gave told bytes at adds given in
        (ap (λ b. take (length bytes) b) (sym same) ∙ take_all (length bytes) bytes (omega arith), omega (arith, ap length same, s.count))
    told_by Failed given = (front_of content gave told bytes at adds given, tt)
    told_by TooLong given =
        let front = front_of content gave told bytes at adds given.0 in
        (front, omega (arith, given.1, ap length front, length-take (length bytes) told))

-- how many bytes stand ready at most, and where no more were fetched, the limit is not passed
pub ready_fits : (w : Window) → length (ready w) ≤ room_of w
ready_fits w = omega (arith, w.inside, length-drop w.start (take w.end w.bytes.items), length-take w.end w.bytes.items)

pub not_long : (gave : Pass) (w : Window) → StandsAt gave w [] → room_of w ≤ limit_of w → state_of w ≡ TooLong → ⊥
not_long gave w s room is =
    let past : IsGiven gave (ready w) w.limit TooLong = subst (IsGiven gave (ready w) w.limit) is s.given in
    omega (arith, past.1, room, ready_fits w)
