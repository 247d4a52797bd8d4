-- What a command reads next is a function of what its reads gave.
use Rattle.std.proofs.Common.{◌≡◌, ◌⊎◌, ℕ, List, [], ◌∷◌, ◌++◌, length, Ok, inl, inr, refl, sym, ap, ◌∙◌, subst, arith, length-append, append-nil, append_assoc}
use Rattle.std.proofs.lemmas.List.{append_cancel_left}
use Rattle.te_ports.specs.Record.{Read, read, pass, Follow, nothing, more, HasGiven, IsBegun, IsRead, IsReadPastAllowed}
use Rattle.te_ports.proofs.Giving.{same_last, follow_adds, follow_once, read_once_only, not_both}
use Rattle.command_frame.specs.Files.{given_passes}
use Rattle.command_frame.specs.Reading.{Reading, answers, reads, MeansAfter}
use Rattle.command_frame.specs.Order.{ReadsAlong, AsksNext}
use Rattle.command_frame.specs.Sound.{AreRegular}
use Rattle.command_frame.proofs.Ending.{ok_once}
use Rattle.command_frame.proofs.Telling.{Begins, begins_itself, begins_on, read_begins, means_begins}

-- ---- records

-- a list has no element or a last one
last_or_none : {A : Type 0} (xs : List A) → (xs ≡ []) ⊎ ((init : List A) × (x : A) × (xs ≡ init ++ x ∷ []))
last_or_none {A = A} [] = inl refl
last_or_none {A = A} (x ∷ xs) = go (last_or_none xs)
  where
    go : (xs ≡ []) ⊎ ((init : List A) × (y : A) × (xs ≡ init ++ y ∷ [])) → (x ∷ xs ≡ []) ⊎ ((init : List A) × (y : A) × (x ∷ xs ≡ init ++ y ∷ []))
    go (inl none) = inr ([], x, ap (λ t. x ∷ t) none)
    go (inr (init, y, is)) = inr (x ∷ init, y, ap (λ t. x ∷ t) is)

-- of two fronts of a list one is a front of the other
fronts : {A : Type 0} (xs ys a b : List A) → xs ++ a ≡ ys ++ b → ((d : List A) × (ys ≡ xs ++ d)) ⊎ ((d : List A) × (xs ≡ ys ++ d))
fronts {A = A} [] ys a b is = inl (ys, refl)
fronts {A = A} (x ∷ xs) [] a b is = inr (x ∷ xs, refl)
fronts {A = A} (x ∷ xs) (y ∷ ys) a b is =
    let head : x ≡ y = cc in
    let tail : xs ++ a ≡ ys ++ b = cc in
    go head (fronts xs ys a b tail)
  where
    go : x ≡ y → ((d : List A) × (ys ≡ xs ++ d)) ⊎ ((d : List A) × (xs ≡ ys ++ d)) →
        ((d : List A) × (y ∷ ys ≡ (x ∷ xs) ++ d)) ⊎ ((d : List A) × (x ∷ xs ≡ (y ∷ ys) ++ d))
    go same (inl (d, rest)) = inl (d, ap (λ h. h ∷ ys) (sym same) ∙ ap (λ t. x ∷ t) rest)
    go same (inr (d, rest)) = inr (d, ap (λ h. h ∷ xs) same ∙ ap (λ t. y ∷ t) rest)

-- the reads of a record that goes on stand behind its own
added_once : (before now m k : List Read) → now ≡ before ++ m → now ≡ before ++ k → m ≡ k
added_once before now m k one other = append_cancel_left before m k (sym one ∙ other)

-- ---- a pass that did not come to its end, and one that did

-- no pass that came to its end stands at the front of one that did not
pub not_part : (name : List ℕ) (before now then : List Read) (a b : List ℕ) → Follow name before now a → IsRead (pass name before then) b → Begins then now → ⊥
not_part name before _ then _ b (nothing now a same none) is_read (m, next) =
    let (k, on) = read_begins (pass name before then) b is_read in
    let ends = ap length is_read.ends in
    let (j, up) = follow_adds name before is_read.reads b is_read.given in
    let p = ap length same in let q = ap length next in let s = ap length up in
    omega (arith, ends, p, q, s, length-append is_read.reads (read name (length b) [] ∷ []), length-append then m, length-append before j)
not_part name before _ then _ b (more mid now front a piece given some next made) is_read (m, on) =
    go (λ init up. not_part name before mid then front b given is_read (init, up)) (last_or_none m)
  where
    go : ((init : List Read) → mid ≡ then ++ init → ⊥) → (m ≡ []) ⊎ ((init : List Read) × (x : Read) × (m ≡ init ++ x ∷ [])) → ⊥
    go sooner (inl none) =
        let same : now ≡ then = on ∙ ap (λ t. then ++ t) none ∙ append-nil then in
        not_both (pass name before then) a b (subst (λ t. Follow name before t a) same (more mid now front a piece given some next made)) is_read
    go sooner (inr (init, x, is)) =
        let last = same_last mid (then ++ init) (read name (length front) piece) x
        (sym next ∙ on ∙ ap (λ t. then ++ t) is ∙ sym (append_assoc then init (x ∷ []))) in
        sooner init last.0

-- a pass came to its end once
same_end : (name : List ℕ) (before one other : List Read) (a b : List ℕ) → IsRead (pass name before one) a → IsRead (pass name before other) b →
    (d : List Read) → other ≡ one ++ d → one ≡ other
same_end name before one other a b first next d is = go (last_or_none d)
  where
    go : (d ≡ []) ⊎ ((init : List Read) × (x : Read) × (d ≡ init ++ x ∷ [])) → one ≡ other
    go (inl none) = sym (is ∙ ap (λ t. one ++ t) none ∙ append-nil one)
    go (inr (init, x, at)) =
        let last = same_last next.reads (one ++ init) (read name (length b) []) x
        (sym next.ends ∙ is ∙ ap (λ t. one ++ t) at ∙ sym (append_assoc one init (x ∷ []))) in
        absurd (not_part name before next.reads one b a next.given first (init, last.0))

pub whole_once : (name : List ℕ) (before one other now : List Read) (a b : List ℕ) → IsRead (pass name before one) a → IsRead (pass name before other) b →
    Begins one now → Begins other now → one ≡ other
whole_once name before one other now a b first next (m, on) (k, up) = go (fronts one other m k (sym on ∙ up))
  where
    go : ((d : List Read) × (other ≡ one ++ d)) ⊎ ((d : List Read) × (one ≡ other ++ d)) → one ≡ other
    go (inl (d, is)) = same_end name before one other a b first next d is
    go (inr (d, is)) = sym (same_end name before other one b a next first d is)

-- ---- what is read next is one

asks_begins : (r : Reading) (before now : List Read) (name : List ℕ) (at : ℕ) → AsksNext r before now name at → Begins before now
asks_begins (answers a) before now name at asks = absurd asks
asks_begins (reads A kind file next) before now name at (inl (bytes, given, named, stands)) = follow_adds file before now bytes given
asks_begins (reads A kind file next) before now name at (inr (value, then, (bytes, is_read, few, gives), later)) =
    begins_on before then now (read_begins (pass file before then) bytes is_read) (asks_begins (next value) then now name at later)

pub asks_once : (r : Reading) (before now : List Read) (name other : List ℕ) (at place : ℕ) → AreRegular r → AsksNext r before now name at →
    AsksNext r before now other place → (name ≡ other) × (at ≡ place)
asks_once (answers a) before now name other at place regular asks again = absurd asks
asks_once (reads A kind file next) before now name other at place regular (inl (a, given, named, stands)) (inl (b, also, names, stood)) =
    (named ∙ sym names, stands ∙ ap length (follow_once file before now a b given also) ∙ sym stood)
asks_once (reads A kind file next) before now name other at place regular (inl (a, given, named, stands)) (inr (w, then, (b, is_read, few, gives), later)) =
    absurd (not_part file before now then a b given is_read (asks_begins (next w) then now other place later))
asks_once (reads A kind file next) before now name other at place regular (inr (v, then, (a, is_read, few, gives), later)) (inl (b, given, named, stands)) =
    absurd (not_part file before now then b a given is_read (asks_begins (next v) then now name at later))
asks_once (reads A kind file next) before now name other at place regular (inr (v, one, (a, is_read, few, gives), later)) (inr (w, two, (b, also_read, short, makes), again)) =
    let same : one ≡ two =
    whole_once file before one two now a b is_read also_read (asks_begins (next v) one now name at later) (asks_begins (next w) two now other place again) in
    let text : a ≡ b = read_once_only (pass file before two) a b (subst (λ t. IsRead (pass file before t) a) same is_read) also_read in
    let value : v ≡ w = ok_once v w (regular.0.once b (Ok v) (Ok w) (subst (λ t. kind.gives t (Ok v)) text gives) makes) in
    asks_once (next w) two now name other at place (regular.1 w)
    (subst (λ u. AsksNext (next u) two now name at) value (subst (λ t. AsksNext (next v) t now name at) same later)) again

-- ---- each read of a command is the one that is read next

-- the read behind some reads of a pass
abbrev IsNextOf : List ℕ → List Read → List Read → Read → Type 0
IsNextOf file before mid x = (bytes : List ℕ) × HasGiven (pass file before mid) bytes × (x.name ≡ file) × (x.at ≡ length bytes)

next_of_part : (file : List ℕ) (before now mid rest : List Read) (x : Read) (bytes : List ℕ) → Follow file before now bytes → Begins before mid →
    now ≡ mid ++ x ∷ rest → IsNextOf file before mid x
next_of_part file before _ mid rest x _ (nothing now bytes same none) (m, on) is =
    let p = ap length same in let q = ap length is in let s = ap length on in
    absurd (omega (arith, p, q, s, length-append mid (x ∷ rest), length-append before m))
next_of_part file before _ mid rest x _ (more then now front bytes piece given some next made) on is =
    go (λ init up. next_of_part file before then mid init x front given on up) (last_or_none rest)
  where
    go : ((init : List Read) → then ≡ mid ++ x ∷ init → IsNextOf file before mid x) →
        (rest ≡ []) ⊎ ((init : List Read) × (y : Read) × (rest ≡ init ++ y ∷ [])) → IsNextOf file before mid x
    go sooner (inl none) =
        let last = same_last then mid (read file (length front) piece) x (sym next ∙ is ∙ ap (λ t. mid ++ x ∷ t) none) in
        (front, subst (λ t. Follow file before t front) last.0 given, sym (ap (λ (r : Read). r.name) last.1), sym (ap (λ (r : Read). r.at) last.1))
    go sooner (inr (init, y, at)) =
        let last = same_last then (mid ++ x ∷ init) (read file (length front) piece) y
        (sym next ∙ is ∙ ap (λ t. mid ++ x ∷ t) at ∙ sym (append_assoc mid (x ∷ init) (y ∷ []))) in
        sooner init last.0

next_of_whole : (file : List ℕ) (before now mid rest : List Read) (x : Read) (bytes : List ℕ) → IsRead (pass file before now) bytes → Begins before mid →
    now ≡ mid ++ x ∷ rest → IsNextOf file before mid x
next_of_whole file before now mid rest x bytes is_read on is = go (last_or_none rest)
  where
    go : (rest ≡ []) ⊎ ((init : List Read) × (y : Read) × (rest ≡ init ++ y ∷ [])) → IsNextOf file before mid x
    go (inl none) =
        let last = same_last is_read.reads mid (read file (length bytes) []) x (sym is_read.ends ∙ is ∙ ap (λ t. mid ++ x ∷ t) none) in
        (bytes, subst (λ t. Follow file before t bytes) last.0 is_read.given, sym (ap (λ (r : Read). r.name) last.1), sym (ap (λ (r : Read). r.at) last.1))
    go (inr (init, y, at)) =
        let last = same_last is_read.reads (mid ++ x ∷ init) (read file (length bytes) []) y
        (sym is_read.ends ∙ is ∙ ap (λ t. mid ++ x ∷ t) at ∙ sym (append_assoc mid (x ∷ init) (y ∷ []))) in
        next_of_part file before is_read.reads mid init x bytes is_read.given on last.0

next_of_begun : (file : List ℕ) (before now mid rest : List Read) (x : Read) → IsBegun (pass file before now) → Begins before mid →
    now ≡ mid ++ x ∷ rest → IsNextOf file before mid x
next_of_begun file before now mid rest x (bytes, inl given) on is = next_of_part file before now mid rest x bytes given on is
next_of_begun file before now mid rest x (bytes, inr is_read) on is = next_of_whole file before now mid rest x bytes is_read on is

along_begins : (r : Reading) (before now : List Read) → ReadsAlong r before now → Begins before now
along_begins (answers a) before now along = begins_itself before now (sym along)
along_begins (reads A kind file next) before now (inl (bytes, inl given)) = follow_adds file before now bytes given
along_begins (reads A kind file next) before now (inl (bytes, inr is_read)) = read_begins (pass file before now) bytes is_read
along_begins (reads A kind file next) before now (inr (value, then, (bytes, is_read, few, gives), along)) =
    begins_on before then now (read_begins (pass file before then) bytes is_read) (along_begins (next value) then now along)

pub asked_next : (r : Reading) (before now mid rest : List Read) (x : Read) → ReadsAlong r before now → Begins before mid → now ≡ mid ++ x ∷ rest →
    AsksNext r before mid x.name x.at
asked_next (answers a) before now mid rest x along (m, on) is =
    let p = ap length along in let q = ap length is in let s = ap length on in
    absurd (omega (arith, p, q, s, length-append mid (x ∷ rest), length-append before m))
asked_next (reads A kind file next) before now mid rest x (inl begun) on is = inl (next_of_begun file before now mid rest x begun on is)
asked_next (reads A kind file next) before now mid rest x (inr (value, then, (bytes, is_read, few, gives), along)) on is =
    let (k, up) = along_begins (next value) then now along in
    go (λ from. asked_next (next value) then now mid rest x along from is) k up (fronts then mid k (x ∷ rest) (sym up ∙ is))
  where
    go : (Begins then mid → AsksNext (next value) then mid x.name x.at) → (k : List Read) → now ≡ then ++ k →
        ((d : List Read) × (mid ≡ then ++ d)) ⊎ ((d : List Read) × (then ≡ mid ++ d)) →
        AsksNext (reads A kind file next) before mid x.name x.at
    go later k up (inl (d, from)) = inr (value, then, (bytes, is_read, few, gives), later (d, from))
    go later k up (inr ([], from)) = inr (value, then, (bytes, is_read, few, gives), later (begins_itself then mid (from ∙ append-nil mid)))
    go later k up (inr (y ∷ d, from)) =
        let tail : x ∷ rest ≡ y ∷ (d ++ k) =
        append_cancel_left mid (x ∷ rest) (y ∷ (d ++ k)) (sym is ∙ up ∙ ap (λ t. t ++ k) from ∙ append_assoc mid (y ∷ d) k) in
        let first : x ≡ y = cc in
        inl (subst (IsNextOf file before mid) (sym first) (next_of_whole file before then mid d y bytes is_read on from))

-- ---- what reads give and mean does not hang on the reads before them

follow_elsewhere : (name : List ℕ) (before now : List Read) (bytes : List ℕ) → Follow name before now bytes → (other m : List Read) → now ≡ before ++ m →
    Follow name other (other ++ m) bytes
follow_elsewhere name before _ _ (nothing now bytes same none) other m is =
    let empty : [] ≡ m = append_cancel_left before [] m (append-nil before ∙ sym same ∙ is) in
    nothing (other ++ m) bytes (ap (λ t. other ++ t) (sym empty) ∙ append-nil other) none
follow_elsewhere name before _ _ (more then now front bytes piece given some next made) other m is =
    let (k, on) = follow_adds name before then front given in
    let last : k ++ read name (length front) piece ∷ [] ≡ m =
    append_cancel_left before _ m (sym (append_assoc before k _) ∙ ap (λ t. t ++ read name (length front) piece ∷ []) (sym on) ∙ sym next ∙ is) in
    more (other ++ k) (other ++ m) front bytes piece (follow_elsewhere name before then front given other k on) some
    (ap (λ t. other ++ t) (sym last) ∙ sym (append_assoc other k _)) made

read_elsewhere : (name : List ℕ) (before now : List Read) (bytes : List ℕ) → IsRead (pass name before now) bytes → (other m : List Read) → now ≡ before ++ m →
    IsRead (pass name other (other ++ m)) bytes
read_elsewhere name before now bytes is_read other m is =
    let (k, on) = follow_adds name before is_read.reads bytes is_read.given in
    let last : k ++ read name (length bytes) [] ∷ [] ≡ m =
    append_cancel_left before _ m (sym (append_assoc before k _) ∙ ap (λ t. t ++ read name (length bytes) [] ∷ []) (sym on) ∙ sym is_read.ends ∙ is) in
    record {
      reads = other ++ k;
      given = follow_elsewhere name before is_read.reads bytes is_read.given other k on;
      ends = ap (λ t. other ++ t) (sym last) ∙ sym (append_assoc other k _);
    }

past_elsewhere : (name : List ℕ) (before now : List Read) (limit : List ℕ → ℕ) → IsReadPastAllowed (pass name before now) limit → (other m : List Read) →
    now ≡ before ++ m → IsReadPastAllowed (pass name other (other ++ m)) limit
past_elsewhere name before now limit past other m is =
    record { bytes = past.bytes; given = follow_elsewhere name before now past.bytes past.given other m is; past = past.past }

-- the reads up to a time, and those after it
in_two_parts : (before mid now m k l : List Read) → mid ≡ before ++ m → now ≡ mid ++ k → now ≡ before ++ l → l ≡ m ++ k
in_two_parts before mid now m k l up on is =
    append_cancel_left before l (m ++ k) (sym is ∙ on ∙ ap (λ t. t ++ k) up ∙ append_assoc before m k)

asks_elsewhere : (r : Reading) (before now : List Read) (name : List ℕ) (at : ℕ) → AsksNext r before now name at → (other l : List Read) → now ≡ before ++ l →
    AsksNext r other (other ++ l) name at
asks_elsewhere (answers a) before now name at asks other l is = absurd asks
asks_elsewhere (reads A kind file next) before now name at (inl (bytes, given, named, stands)) other l is =
    inl (bytes, follow_elsewhere file before now bytes given other l is, named, stands)
asks_elsewhere (reads A kind file next) before now name at (inr (value, then, (bytes, is_read, few, gives), later)) other l is =
    let (m, up) = read_begins (pass file before then) bytes is_read in
    let (k, on) = asks_begins (next value) then now name at later in
    let same : (other ++ m) ++ k ≡ other ++ l = append_assoc other m k ∙ ap (λ t. other ++ t) (sym (in_two_parts before then now m k l up on is)) in
    inr (
      value,
      other ++ m,
      (bytes, read_elsewhere file before then bytes is_read other m up, few, gives),
      subst (λ t. AsksNext (next value) (other ++ m) t name at) same (asks_elsewhere (next value) then now name at later (other ++ m) k on),
    )

-- two calls that read the same read the same next
pub asked_alike : (r : Reading) (before other front rest last : List Read) (x y : Read) → AreRegular r → ReadsAlong r before (before ++ front ++ x ∷ rest) →
    ReadsAlong r other (other ++ front ++ y ∷ last) → (x.name ≡ y.name) × (x.at ≡ y.at)
asked_alike r before other front rest last x y regular along also =
    let first = asked_next r before _ (before ++ front) rest x along (front, refl) refl in
    let second = asked_next r other _ (other ++ front) last y also (front, refl) refl in
    asks_once r other (other ++ front) x.name y.name x.at y.at regular (asks_elsewhere r before (before ++ front) x.name x.at first other front refl) second

pub means_elsewhere : (r : Reading) (before now : List Read) (s : ℕ) (text : List ℕ) → MeansAfter r (given_passes now) before s text → (other l : List Read) →
    now ≡ before ++ l → MeansAfter r (given_passes (other ++ l)) other s text
means_elsewhere (answers a) before now s text means other l is =
    let empty : [] ≡ l = append_cancel_left before [] l (append-nil before ∙ means.1 ∙ is) in
    (means.0, sym (append-nil other) ∙ ap (λ t. other ++ t) empty)
means_elsewhere (reads A kind file next) before now s text (inl (three, then, inl (past, line), ended)) other l is =
    inl (three, other ++ l, inl (past_elsewhere file before then kind.limit past other l (ended ∙ is), line), refl)
means_elsewhere (reads A kind file next) before now s text (inl (three, then, inr (bytes, words, is_read, few, refused, line), ended)) other l is =
    inl (three, other ++ l, inr (bytes, words, read_elsewhere file before then bytes is_read other l (ended ∙ is), few, refused, line), refl)
means_elsewhere (reads A kind file next) before now s text (inr (value, then, (bytes, is_read, few, gives), later)) other l is =
    let (m, up) = read_begins (pass file before then) bytes is_read in
    let (k, on) = means_begins (next value) now then s text later in
    let same : (other ++ m) ++ k ≡ other ++ l = append_assoc other m k ∙ ap (λ t. other ++ t) (sym (in_two_parts before then now m k l up on is)) in
    inr (
      value,
      other ++ m,
      (bytes, read_elsewhere file before then bytes is_read other m up, few, gives),
      subst (λ t. MeansAfter (next value) (given_passes t) (other ++ m) s text) same (means_elsewhere (next value) then now s text later (other ++ m) k on),
    )
