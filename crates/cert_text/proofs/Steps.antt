-- What a step takes, and the steps after it.
use Rattle.std.proofs.Common.{◌≡◌, ℕ, ◌+◌, ◌<◌, List, [], ◌∷◌, ◌++◌, length, get_or, drop, Result, Ok, Err, IfOk, refl, sym, ap, ◌∙◌, add-one, drop-cons}
use Rattle.cert_text.specs.declared.fault.Stop.{Stop}
use Rattle.cert_text.specs.declared.fault.Stop.TheVariants as stops
use Rattle.cert_text.specs.declared.cursor.Cursor.{Ghosts}
use Rattle.cert_text.specs.declared.reader.Reader.{Reader}
use Rattle.cert_text.specs.Place.{Place, Stops, ◌>>=◌, with_front}
use Rattle.cert_text.specs.Reading.{read_byte, read_word, read_line_end}
use Rattle.cert_text.specs.LineEnds.{read_line_end_after}
use Rattle.cert_text.specs.Takes.{Takes}

-- a step that reads x
pub one_read : {C : Type 0} {cursor : Ghosts C} {A B : Type 0} {x : A} {old mid new : Reader C cursor} {item : Place → Result (A × Place) ℕ} {gives : Place → Result B ℕ → Type 0} (next : A × Place → Result B ℕ)
    → Takes old mid (λ after read. read ≡ Ok (x, after)) item → Takes mid new gives (λ p. next (x, p)) → Takes old new gives (λ p. item p >>= next)
one_read next one more = record {
  told = λ t. one.told (more.told t);
  reads = λ t. rw (one.reads (more.told t)) (more.reads t);
}

-- a step that passes
pub one_passed : {C : Type 0} {cursor : Ghosts C} {B : Type 0} {old mid new : Reader C cursor} {item : Place → Result Place ℕ} {gives : Place → Result B ℕ → Type 0} {next : Place → Result B ℕ}
    → Takes old mid (λ after read. read ≡ Ok after) item → Takes mid new gives next → Takes old new gives (λ p. item p >>= next)
one_passed one more = record {
  told = λ t. one.told (more.told t);
  reads = λ t. rw (one.reads (more.told t)) (more.reads t);
}

stops_then : {A B : Type 0} (e : Stop) (read : Result A ℕ) (next : A → Result B ℕ) → Stops e read → Stops e (read >>= next)
stops_then stops.Memory read next h = tt
stops_then (stops.Shape k) read next h = rw h refl

-- a step that stops
pub one_stopped : {C : Type 0} {cursor : Ghosts C} {A B : Type 0} (e : Stop) {old new : Reader C cursor} {item : Place → Result A ℕ} (next : A → Result B ℕ)
    → Takes old new (λ after read. Stops e read) item → Takes {R = Result B ℕ} old new (λ after read. Stops e read) (λ p. item p >>= next)
one_stopped e next one = record {
  told = one.told;
  reads = λ t. stops_then e _ next (one.reads t);
}

-- a step of which another reading gives the same
pub one_same : {C : Type 0} {cursor : Ghosts C} {R : Type 0} {old new : Reader C cursor} {gives : Place → R → Type 0} {first second : Place → R} → ((p : Place) → first p ≡ second p)
    → Takes old new gives first → Takes old new gives second
one_same same one = record {
  told = one.told;
  reads = λ t. rw (same _) at (one.reads t);
}

-- what holds of a value holds of what is the same
pub of_same : {A : Type 0} (P : A → Type 0) (x : A) (r : Result A Stop) → IfOk r (λ y. y ≡ x) → P x → IfOk r P
of_same P x (Ok y) is holds = rw is holds
of_same P x (Err e) is holds = tt

-- a reader that stays
pub stays : {C : Type 0} {cursor : Ghosts C} {A : Type 0} {x : A} {r : Reader C cursor} → Takes {R = Result (A × Place) ℕ} r r (λ after read. read ≡ Ok (x, after)) (λ p. Ok (x, p))
stays = record {
  told = λ t. t;
  reads = λ t. refl;
}

fronted : {A : Type 0} (xs : List A) (p : Place) (read : Result (List A × Place) ℕ) → with_front [] read ≡ Ok (xs, p) → read ≡ Ok (xs, p)
fronted xs p (Ok x) h = h
fronted xs p (Err k) h = absurd cc

-- a list that was empty
pub all_appended : {C : Type 0} {cursor : Ghosts C} {A : Type 0} {front xs : List A} {old new : Reader C cursor} {item : Place → Result (List A × Place) ℕ} → front ≡ []
    → Takes old new (λ after read. with_front front read ≡ Ok (xs, after)) item → Takes old new (λ after read. read ≡ Ok (xs, after)) item
all_appended e one = record {
  told = one.told;
  reads = λ t. fronted _ _ _ (rw e at (one.reads t));
}

-- numbers that a line ends, of which front is the first
fronted_after : {A : Type 0} (front xs : List A) (after : Place) (read : Result (List A × Place) ℕ) → with_front front read ≡ Ok (xs, after)
    → (read >>= λ x. read_line_end_after (front ++ x.0) x.1) ≡ read_line_end_after xs after
fronted_after {A = A} front xs after (Ok x) h =
    let same : ◌≡◌ {A = List A × Place} (front ++ x.0, x.1) (xs, after) = cc in
    ap (λ (y : List A × Place). read_line_end_after y.0 y.1) same
fronted_after front xs after (Err k) h = absurd cc

pub one_fronted : {C : Type 0} {cursor : Ghosts C} {A : Type 0} (front : List A) {xs : List A} {old mid new : Reader C cursor} {item : Place → Result (List A × Place) ℕ} {gives : Place → Result (List A × Place) ℕ → Type 0}
    → Takes old mid (λ after read. with_front front read ≡ Ok (xs, after)) item → Takes mid new gives (read_line_end_after xs)
    → Takes old new gives (λ p. item p >>= λ x. read_line_end_after (front ++ x.0) x.1)
one_fronted front one more = record {
  told = λ t. one.told (more.told t);
  reads = λ t. rw (fronted_after front _ _ _ (one.reads (more.told t))) (more.reads t);
}

abbrev paired : {A : Type 0} → A → Place → Result (A × Place) ℕ
paired x e = Ok (x, e)

end_then : {A B : Type 0} (next : A × Place → Result B ℕ) (x : A) (m : Result Place ℕ) → ((m >>= paired x) >>= next) ≡ (m >>= λ e. next (x, e))
end_then next x (Ok e) = refl
end_then next x (Err k) = refl

-- a list that a line ends, and what is made of it
pub list_then : {A B : Type 0} (next : List A × Place → Result B ℕ) (m : Result (List A × Place) ℕ)
    → ((m >>= λ xs. read_line_end_after xs.0 xs.1) >>= next) ≡ (m >>= λ xs. read_line_end xs.1 >>= λ e. next (xs.0, e))
unfolding read_line_end_after
list_then next (Ok xs) = end_then next xs.0 (read_line_end xs.1)
list_then next (Err k) = refl

-- a byte more of a word
pub word_more : (bs : List ℕ) (i : ℕ) (p q : Place) → i < length bs → read_byte (get_or bs i 0) p ≡ Ok q → read_word (drop (i + 1) bs) q ≡ read_word (drop i bs) p
word_more bs i p q lt h =
    let e : drop i bs ≡ get_or bs i 0 ∷ drop (i + 1) bs = rw add-one (drop-cons bs i 0 lt) in
    sym (ap (λ (l : List ℕ). read_word l p) e ∙ ap (λ (r : Result Place ℕ). r >>= read_word (drop (i + 1) bs)) h)
