-- Reading over the lines that stand ready is a step of reading each content in which they stand.
use Rattle.std.proofs.Common.{◌≡◌, ◌∙◌, ℕ, zero, suc, ◌+◌, ◌<◌, ◌≤◌, List, [], ◌∷◌, ◌++◌, length, take, drop, Result, Ok, Err, refl, sym, ap, subst, inl, inr, arith, append_assoc, append-nil, length-append}
use Rattle.te_ports.specs.Record.{Pass, IsBegun}
use Rattle.te_model.specs.FileLimit.{file_limit}
use Rattle.cert_text.specs.Place.{Place, place, ◌>>=◌}
use Rattle.cert_text.specs.Reading.{read_many}
use Rattle.cert_text.specs.declared.fault.Stop.{Stop}
use Rattle.cert_text.specs.declared.fault.Stop.TheVariants as stops
use Rattle.block_reader.specs.declared.lines.Lines.{Lines}
use Rattle.block_reader.specs.declared.window.Window.{Window}
use Rattle.block_reader.specs.declared.stream_fault.StreamFault.{StreamFault}
use Rattle.block_reader.specs.declared.stream_fault.StreamFault.TheVariants as faults
use Rattle.block_reader.specs.Standing.{ready, fetched_of, IsStateOf, StandsIn}
use Rattle.block_reader.specs.Ahead.{IsAhead}
use Rattle.block_reader.specs.Step.{Took, StepsTo, IsForwardStep}
use Rattle.block_reader.specs.Answers.{place_of, place_in, HasLimit, IsBehind, HasEnough, IsClosedBy, PassesFront, IsDrained, Gives, StopsAs, AnswersPart}
use Rattle.block_reader.proofs.Going.{at_begun, at_part, at_pass, at_past}
use Rattle.block_reader.proofs.Limits.{limit_after_pass}
use Rattle.block_reader.proofs.Items.{left_is, read_in, stops_in}

-- ---- bytes that were passed

same_bytes : (w w' : Window) (passed front : List ℕ) → PassesFront w w' front → (passed ++ front) ++ ready w' ≡ passed ++ ready w
same_bytes w w' passed front p = append_assoc passed front (ready w') ∙ ap (λ s. passed ++ s) (sym p.parts)

pub limited_after_pass : (w w' : Window) (passed front : List ℕ) → PassesFront w w' front → HasLimit w passed → HasLimit w' (passed ++ front)
limited_after_pass w w' passed front p h = record {
  limit = limit_after_pass w w' passed front p.parts p.limit h.limit;
  settled = λ is. subst (λ s. 14 ≤ length s) (sym (same_bytes w w' passed front p)) (h.settled (sym p.state ∙ is));
}

pub behind_after_pass : (gave : Pass) (l l' : Lines) (passed front : List ℕ) → PassesFront l.window l'.window front →
    IsBehind gave l passed → IsBehind gave l' (passed ++ front)
behind_after_pass gave l l' passed front p b = record {
  stands = at_pass gave l.window l'.window passed front p.parts p.fetched p.limit p.state b.stands;
  limited = limited_after_pass l.window l'.window passed front p b.limited;
}

pub stood_before_pass : (content : List ℕ) (w w' : Window) (passed front : List ℕ) → PassesFront w w' front →
    StandsIn content w' (passed ++ front) → StandsIn content w passed
stood_before_pass content w w' passed front p s =
    let whole = same_bytes w w' passed front p in record {
      front = ap (λ k. take k content) (sym p.fetched) ∙ s.front ∙ whole;
      count = sym p.fetched ∙ s.count ∙ ap length whole;
      ends = subst (λ k. IsStateOf content k w.fetched w.state) p.limit
          (subst (λ k. IsStateOf content w'.limit k w.state) p.fetched (subst (IsStateOf content w'.limit w'.fetched) p.state s.ends));
    }

-- what a step took
pub took_of : {X : Type 0} (f : Place → Result (X × Place) ℕ) → IsForwardStep f → (p q : Place) (x : X) → f p ≡ Ok (x, q) → (front : List ℕ) × Took p front q
took_of f steps p q x read = subst (StepsTo p) read (steps.goes p)

-- what is left of it stands in the bytes that stood ready, and so do as many lines
pub left_within : (p q : Place) (front left all : List ℕ) → Took p front q → left ≡ q.rest → p.rest ≡ all → length left ≤ length all
left_within p q front left all took is whole = omega (arith, ap length took.parts, ap length is, ap length whole, length-append front q.rest)

pub line_within : (p q : Place) (front left all : List ℕ) (now before : ℕ) → Took p front q → left ≡ q.rest → p.rest ≡ all → now ≡ q.line → p.line ≡ before →
    now + length left ≤ before + length all
line_within p q front left all now before took is whole line first =
    omega (arith, took.line, line, first, ap length took.parts, ap length is, ap length whole, length-append front q.rest)

-- a step from the lines that stand ready leads to those that stand ready behind it
pub read_over : {X : Type 0} (f : Place → Result (X × Place) ℕ) (l l' : Lines) (p q : Place) (x : X) → p.line ≡ l.line → p.rest ≡ ready l.window → f p ≡ Ok (x, q) →
    l'.line ≡ q.line → ready l'.window ≡ q.rest → f (place_of l) ≡ Ok (x, place_of l')
read_over {X} f l l' p q x line rest read line' rest' =
    ap (λ k. f (place k (ready l.window))) (sym line) ∙ ap (λ s. f (place p.line s)) (sym rest) ∙ read
    ∙ ap (λ k. Ok (x, place k q.rest)) (sym line') ∙ ap (λ s. Ok (x, place l'.line s)) (sym rest')

-- ---- a part that was read, or not

-- the place behind what was read, in the content
behind_in : (content : List ℕ) (w : Window) (l : Lines) (after : List ℕ) → fetched_of l.window ≡ fetched_of w → StandsIn content l.window after →
    place l.line (ready l.window ++ drop (fetched_of w) content) ≡ place_in l after content
behind_in content w l after same s = ap (place l.line) (ap (λ k. ready l.window ++ drop k content) (sym same) ∙ sym (left_is content l.window after s))

pub part_gives : {X : Type 0} (gave given : Pass) (old filled new : Lines) (n : ℕ) (f : Place → Result (X × Place) ℕ) (x : X) (front : List ℕ) →
    IsAhead n f → ((passed : List ℕ) → IsBehind gave old passed → IsBehind given filled passed) →
    ((passed : List ℕ) → IsBehind gave old passed → (content : List ℕ) → StandsIn content filled.window passed → StandsIn content old.window passed) →
    HasEnough filled.window n → filled.line ≡ old.line → PassesFront filled.window new.window front → f (place_of filled) ≡ Ok (x, place_of new) →
    Gives gave given old new f x
part_gives {X} gave given old filled new n f x front ahead behind stood enough line p read = λ passed b. (
  front,
  behind_after_pass given filled new passed front p (behind passed b),
  λ content s.
      let before = stood_before_pass content filled.window new.window passed front p s in (
        stood passed b content before,
        ap (λ k. f (place k (drop (length passed) content))) (sym line)
            ∙ read_in n filled.line f content filled.window passed x (place_of new) ahead before enough read
            ∙ ap (λ q. Ok (x, q)) (behind_in content filled.window new (passed ++ front) p.fetched s),
      ),
)

pub part_stops : {X : Type 0} (gave given drained : Pass) (old filled : Lines) (n : ℕ) (f : Place → Result (X × Place) ℕ) (stop : Stop) (fault : StreamFault) →
    IsAhead n f → ((passed : List ℕ) → IsBehind gave old passed → IsBehind given filled passed) →
    ((passed : List ℕ) → IsBehind gave old passed → (content : List ℕ) → StandsIn content filled.window passed → StandsIn content old.window passed) →
    HasEnough filled.window n → filled.line ≡ old.line → ((line : ℕ) → stop ≡ stops.Shape line → f (place_of filled) ≡ Err line) →
    ((passed : List ℕ) → IsBehind given filled passed → IsDrained drained filled.window passed stop fault) →
    (passed : List ℕ) → IsBehind gave old passed → StopsAs drained old passed f fault
part_stops gave given drained old filled n f stop faults.Failed ahead behind stood enough line stops_at drain passed b = drain passed (behind passed b)
part_stops gave given drained old filled n f stop faults.TooLong ahead behind stood enough line stops_at drain passed b = drain passed (behind passed b)
part_stops gave given drained old filled n f stop (faults.Shape k) ahead behind stood enough line stops_at drain passed b =
    let d = drain passed (behind passed b) in record {
      bytes = d.1.0;
      whole = d.1.1;
      stood = stood passed b d.1.0 d.1.2;
      stops = ap (λ j. f (place j (drop (length passed) d.1.0))) (sym line)
          ∙ stops_in n filled.line k f d.1.0 filled.window passed ahead d.1.2 enough (stops_at k d.0);
    }
part_stops gave given drained old filled n f stop (faults.Rule rule) ahead behind stood enough line stops_at drain passed b = drain passed (behind passed b)
part_stops gave given drained old filled n f stop faults.Memory ahead behind stood enough line stops_at drain passed b = drain passed (behind passed b)

-- nothing was read, since the file is too long or a read failed
pub fill_stops : {X : Type 0} (gave given : Pass) (old filled : Lines) (f : Place → Result (X × Place) ℕ) (fault : StreamFault) →
    ((passed : List ℕ) → IsBehind gave old passed → IsBehind given filled passed) → IsClosedBy filled.window fault →
    (passed : List ℕ) → IsBehind gave old passed → StopsAs given old passed f fault
fill_stops gave given old filled f fault behind (inl failed) passed b =
    let now = behind passed b in
    subst (StopsAs given old passed f) (sym failed.0) (at_part given file_limit filled.window passed now.stands now.limited.limit failed.1)
fill_stops gave given old filled f fault behind (inr long) passed b =
    let now = behind passed b in
    subst (StopsAs given old passed f) (sym long.0) (at_past given file_limit filled.window passed now.stands now.limited.limit long.1)

-- what was read is a pass that was begun
pub behind_begun : (gave : Pass) (l : Lines) (passed : List ℕ) → IsBehind gave l passed → IsBegun gave
behind_begun gave l passed b = at_begun gave l.window passed b.stands

-- ---- one part after another

pub gives_then : {X Y : Type 0} (g0 g1 g2 : Pass) (l0 l1 l2 : Lines) (f : Place → Result (X × Place) ℕ) (h : X → Place → Result (Y × Place) ℕ) (x : X) (y : Y) →
    Gives g0 g1 l0 l1 f x → Gives g1 g2 l1 l2 (h x) y → Gives g0 g2 l0 l2 (λ p. f p >>= λ z. h z.0 z.1) y
gives_then {X} {Y} g0 g1 g2 l0 l1 l2 f h x y first next = λ passed b.
    let one = first passed b in
    let two = next (passed ++ one.0) one.1 in
    let group = append_assoc passed one.0 two.0 in (
      one.0 ++ two.0,
      subst (IsBehind g2 l2) group two.1,
      λ content s.
          let later = two.2 content (subst (StandsIn content l2.window) (sym group) s) in
          let sooner = one.2 content later.0 in (
            sooner.0,
            ap (λ r. r >>= λ z. h z.0 z.1) sooner.1 ∙ later.1 ∙ ap (λ a. Ok (y, place_in l2 a content)) group,
          ),
    )

pub stops_first : {X Y : Type 0} (given : Pass) (old : Lines) (passed : List ℕ) (f : Place → Result (X × Place) ℕ) (h : X → Place → Result (Y × Place) ℕ) (fault : StreamFault) →
    StopsAs given old passed f fault → StopsAs given old passed (λ p. f p >>= λ z. h z.0 z.1) fault
stops_first given old passed f h faults.Failed s = s
stops_first given old passed f h faults.TooLong s = s
stops_first given old passed f h (faults.Shape k) s = record { bytes = s.bytes; whole = s.whole; stood = s.stood; stops = ap (λ r. r >>= λ z. h z.0 z.1) s.stops }
stops_first given old passed f h (faults.Rule rule) s = s
stops_first given old passed f h faults.Memory s = s

pub stops_next : {X Y : Type 0} (g0 g1 g2 : Pass) (l0 l1 : Lines) (f : Place → Result (X × Place) ℕ) (h : X → Place → Result (Y × Place) ℕ) (x : X) (fault : StreamFault) →
    Gives g0 g1 l0 l1 f x → ((passed : List ℕ) → IsBehind g1 l1 passed → StopsAs g2 l1 passed (h x) fault) →
    (passed : List ℕ) → IsBehind g0 l0 passed → StopsAs g2 l0 passed (λ p. f p >>= λ z. h z.0 z.1) fault
stops_next g0 g1 g2 l0 l1 f h x faults.Failed first next passed b = let one = first passed b in next (passed ++ one.0) one.1
stops_next g0 g1 g2 l0 l1 f h x faults.TooLong first next passed b = let one = first passed b in next (passed ++ one.0) one.1
stops_next g0 g1 g2 l0 l1 f h x (faults.Shape k) first next passed b =
    let one = first passed b in
    let stop = next (passed ++ one.0) one.1 in
    let sooner = one.2 stop.bytes stop.stood in record {
      bytes = stop.bytes;
      whole = stop.whole;
      stood = sooner.0;
      stops = ap (λ r. r >>= λ z. h z.0 z.1) sooner.1 ∙ stop.stops;
    }
stops_next g0 g1 g2 l0 l1 f h x (faults.Rule rule) first next passed b = let one = first passed b in next (passed ++ one.0) one.1
stops_next g0 g1 g2 l0 l1 f h x faults.Memory first next passed b = let one = first passed b in next (passed ++ one.0) one.1

pub done_gives : {X : Type 0} (gave : Pass) (l : Lines) (x : X) → Gives gave gave l l (λ p. Ok (x, p)) x
done_gives {X} gave l x = λ passed b.
    let none = append-nil passed in (
      [],
      subst (IsBehind gave l) (sym none) b,
      λ content s. (subst (StandsIn content l.window) none s, ap (λ a. Ok (x, place_in l a content)) (sym none)),
    )

pub answers_then : {X Y : Type 0} (g0 g1 g2 : Pass) (l0 l1 l2 : Lines) (f : Place → Result (X × Place) ℕ) (h : X → Place → Result (Y × Place) ℕ) (x : X) (r : Result Y StreamFault) →
    Gives g0 g1 l0 l1 f x → AnswersPart g1 g2 l1 l2 (h x) r → AnswersPart g0 g2 l0 l2 (λ p. f p >>= λ z. h z.0 z.1) r
answers_then g0 g1 g2 l0 l1 l2 f h x (Ok y) first next = gives_then g0 g1 g2 l0 l1 l2 f h x y first next
answers_then g0 g1 g2 l0 l1 l2 f h x (Err fault) first next = stops_next g0 g1 g2 l0 l1 f h x fault first next

pub answers_err : {X Y : Type 0} (g0 g1 : Pass) (l0 l1 : Lines) (f : Place → Result (X × Place) ℕ) (h : X → Place → Result (Y × Place) ℕ) (fault : StreamFault) →
    AnswersPart {X = X} g0 g1 l0 l1 f (Err fault) → AnswersPart {X = Y} g0 g1 l0 l1 (λ p. f p >>= λ z. h z.0 z.1) (Err fault)
answers_err g0 g1 l0 l1 f h fault stopped = λ passed b. stops_first g1 l0 passed f h fault (stopped passed b)

-- ---- items one after another

-- an item in front of others, and one behind them
abbrev put : {X : Type 0} → X → List X × Place → Result (List X × Place) ℕ
put x ys = Ok (x ∷ ys.0, ys.1)

abbrev put_last : {X : Type 0} → List X → X × Place → Result (List X × Place) ℕ
put_last xs y = Ok (xs ++ y.0 ∷ [], y.1)

one_more : {X : Type 0} (item : Place → Result (X × Place) ℕ) (n : ℕ) (p : Place) →
    read_many (suc n) item p ≡ (read_many n item p >>= λ xs. item xs.1 >>= put_last xs.0)
unfolding read_many
one_more {X} item zero p = last (item p)
  where
    last : (r : Result (X × Place) ℕ) → (r >>= λ first. put first.0 ([], first.1)) ≡ (r >>= put_last [])
    last (Ok y) = refl
    last (Err k) = refl
one_more {X} item (suc n) p = first_of (one_more item n) (item p)
  where
    one : (x : X) (xs : List X) (r : Result (X × Place) ℕ) → ((r >>= put_last xs) >>= put x) ≡ (r >>= put_last (x ∷ xs))
    one x xs (Ok y) = refl
    one x xs (Err k) = refl

    others : (x : X) (r : Result (List X × Place) ℕ) → ((r >>= λ xs. item xs.1 >>= put_last xs.0) >>= put x) ≡ ((r >>= put x) >>= λ xs. item xs.1 >>= put_last xs.0)
    others x (Err k) = refl
    others x (Ok xs) = one x xs.0 (item xs.1)

    first_of : ((q : Place) → read_many (suc n) item q ≡ (read_many n item q >>= λ xs. item xs.1 >>= put_last xs.0)) → (r : Result (X × Place) ℕ) →
        (r >>= λ first. read_many (suc n) item first.1 >>= put first.0) ≡ ((r >>= λ first. read_many n item first.1 >>= put first.0) >>= λ xs. item xs.1 >>= put_last xs.0)
    first_of more (Err k) = refl
    first_of more (Ok x) = ap (λ r. r >>= put x.0) (more x.1) ∙ others x.0 (read_many n item x.1)

many_more : {X : Type 0} (item : Place → Result (X × Place) ℕ) (n : ℕ) (p : Place) →
    read_many (n + 1) item p ≡ (read_many n item p >>= λ xs. item xs.1 >>= put_last xs.0)
many_more item n p =
    let next : n + 1 ≡ suc n = omega arith in
    ap (λ k. read_many k item p) next ∙ one_more item n p

same_moves : {X : Type 0} (g0 g1 : Pass) (l0 l1 : Lines) (f g : Place → Result (X × Place) ℕ) (x : X) → ((p : Place) → g p ≡ f p) → Gives g0 g1 l0 l1 f x → Gives g0 g1 l0 l1 g x
same_moves g0 g1 l0 l1 f g x same gives = λ passed b.
    let one = gives passed b in (one.0, one.1, λ content s. let moved = one.2 content s in (moved.0, same (place_in l0 passed content) ∙ moved.1))

pub many_gives : {X : Type 0} (g0 g1 g2 : Pass) (l0 l1 l2 : Lines) (item : Place → Result (X × Place) ℕ) (n : ℕ) (xs : List X) (x : X) →
    Gives g0 g1 l0 l1 (read_many n item) xs → Gives g1 g2 l1 l2 item x → Gives g0 g2 l0 l2 (read_many (n + 1) item) (xs ++ x ∷ [])
many_gives {X} g0 g1 g2 l0 l1 l2 item n xs x first next =
    same_moves g0 g2 l0 l2 (λ p. read_many n item p >>= λ xs. item xs.1 >>= put_last xs.0) (read_many (n + 1) item) (xs ++ x ∷ []) (many_more item n)
    (gives_then g0 g1 g2 l0 l1 l2 (read_many n item) (λ xs p. item p >>= put_last xs) xs (xs ++ x ∷ []) first
    (gives_then g1 g2 g2 l1 l2 l2 item (λ y p. Ok (xs ++ y ∷ [], p)) x (xs ++ x ∷ []) next (done_gives g2 l2 (xs ++ x ∷ []))))

pub none_gives : {X : Type 0} (gave : Pass) (l : Lines) (item : Place → Result (X × Place) ℕ) → Gives gave gave l l (read_many 0 item) []
unfolding read_many
none_gives gave l item = done_gives gave l []

-- the place behind what was read
abbrev place_behind : {X : Type 0} → Place → Result (X × Place) ℕ → Place
place_behind q (Ok x) = x.1
place_behind q (Err k) = q

-- where an item stops, so do all
many_fail : {X : Type 0} (item : Place → Result (X × Place) ℕ) (n count k : ℕ) (p : Place) (xs : List X) (q : Place) → n < count →
    read_many n item p ≡ Ok (xs, q) → item q ≡ Err k → read_many count item p ≡ Err k
unfolding read_many
many_fail item n zero k p xs q lt read stops = absurd (omega (arith, lt))
many_fail {X} item zero (suc m) k p xs q lt read stops =
    let same : p ≡ q = ap (place_behind p) read in
    ap (λ (r : Result (X × Place) ℕ). r >>= λ first. read_many m item first.1 >>= put first.0) (ap item same ∙ stops)
many_fail {X} item (suc n) (suc m) k p xs q lt read stops =
    first_of (λ a ys is. many_fail item n m k a ys q (omega (arith, lt)) is stops) (item p) read
  where
    others : (x : X) (a : Place) (r : Result (List X × Place) ℕ) → ((ys : List X) → r ≡ Ok (ys, q) → read_many m item a ≡ Err k) → (r >>= put x) ≡ Ok (xs, q) →
        (read_many m item a >>= put x) ≡ Err k
    others x a (Err j) below e = absurd cc
    others x a (Ok ys) below e = ap (λ (r : Result (List X × Place) ℕ). r >>= put x) (below ys.0 (ap (λ (b : Place). Ok (ys.0, b)) (ap (place_behind q) e)))

    first_of : ((a : Place) (ys : List X) → read_many n item a ≡ Ok (ys, q) → read_many m item a ≡ Err k) → (r : Result (X × Place) ℕ) →
        (r >>= λ first. read_many n item first.1 >>= put first.0) ≡ Ok (xs, q) → (r >>= λ first. read_many m item first.1 >>= put first.0) ≡ Err k
    first_of below (Err j) e = absurd cc
    first_of below (Ok x) e = others x.0 x.1 (read_many n item x.1) (below x.1) e

pub many_stop : {X : Type 0} (g0 g1 g2 : Pass) (l0 l1 : Lines) (item : Place → Result (X × Place) ℕ) (n count : ℕ) (xs : List X) (fault : StreamFault) → n < count →
    Gives g0 g1 l0 l1 (read_many n item) xs → ((passed : List ℕ) → IsBehind g1 l1 passed → StopsAs g2 l1 passed item fault) →
    (passed : List ℕ) → IsBehind g0 l0 passed → StopsAs g2 l0 passed (read_many count item) fault
many_stop g0 g1 g2 l0 l1 item n count xs faults.Failed lt first next passed b = let one = first passed b in next (passed ++ one.0) one.1
many_stop g0 g1 g2 l0 l1 item n count xs faults.TooLong lt first next passed b = let one = first passed b in next (passed ++ one.0) one.1
many_stop g0 g1 g2 l0 l1 item n count xs (faults.Shape k) lt first next passed b =
    let one = first passed b in
    let stop = next (passed ++ one.0) one.1 in
    let sooner = one.2 stop.bytes stop.stood in record {
      bytes = stop.bytes;
      whole = stop.whole;
      stood = sooner.0;
      stops = many_fail item n count k (place_in l0 passed stop.bytes) xs (place_in l1 (passed ++ one.0) stop.bytes) lt sooner.1 stop.stops;
    }
many_stop g0 g1 g2 l0 l1 item n count xs (faults.Rule rule) lt first next passed b = let one = first passed b in next (passed ++ one.0) one.1
many_stop g0 g1 g2 l0 l1 item n count xs faults.Memory lt first next passed b = let one = first passed b in next (passed ++ one.0) one.1
