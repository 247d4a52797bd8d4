-- What the reads of a pass give, one after another, and what it is of a told file.
use Rattle.std.proofs.Common.{◌≡◌, ℕ, ◌+◌, ◌<◌, ◌≤◌, inl, inr, List, [], ◌∷◌, ◌++◌, length, take, drop, Option, Some, refl, sym, ap, ◌∙◌, subst, arith, length-append, length-take, append-nil, append_assoc}
use Rattle.std.specs.Prelude.{All}
use Rattle.std.specs.List.{concat}
use Rattle.std.proofs.lemmas.Grind.{common_steps}
use Rattle.std.proofs.Math.Seq.{take-add}
use Rattle.std.proofs.lemmas.List.{take-append-drop, append_cancel_left}
use Rattle.std.proofs.lemmas.List.Elements.{All-pop, All-nil, All-append, All-cons}
use Rattle.std.proofs.lemmas.List.Folds.{concat-append}
use Rattle.te_ports.specs.Ports.{Told}
use Rattle.te_ports.specs.Record.{Read, read, IsOfTold, Adds, Pass, pass, Follow, nothing, more, HasGiven, IsRead, IsBegun, AtMostOneRead, IsReadPast, IsReadPastAllowed, reads_from}
use Rattle.te_ports.specs.Limit.{IsLimit}

-- records that end alike
pub same_last : {A : Type 0} (xs ys : List A) (x y : A) → xs ++ x ∷ [] ≡ ys ++ y ∷ [] → (xs ≡ ys) × (x ≡ y)
same_last [] [] x y is = (refl, cc)
same_last [] (b ∷ ys) x y is = absurd (let n = ap length is in omega (arith, n, length-append ys (y ∷ [])))
same_last (a ∷ xs) [] x y is = absurd (let n = ap length is in omega (arith, n, length-append xs (x ∷ [])))
same_last (a ∷ xs) (b ∷ ys) x y is =
    let head : a ≡ b = cc in
    let tail : xs ++ x ∷ [] ≡ ys ++ y ∷ [] = cc in
    let rest = same_last xs ys x y tail in
    (ap (λ h. h ∷ xs) head ∙ ap (λ t. b ∷ t) rest.0, rest.1)

-- nothing was added
pub adds_none : (content : List ℕ → Option (List ℕ)) (old new : List Read) → new ≡ old → Adds content old new
adds_none content old new is = record { more = []; is = is ∙ sym (append-nil old); pieces = All-nil (IsOfTold content) }

-- one read was added
pub adds_one : (content : List ℕ → Option (List ℕ)) (old new : List Read) (r : Read) → new ≡ old ++ r ∷ [] → IsOfTold content r → Adds content old new
adds_one content old new r is piece =
    record { more = r ∷ []; is = is; pieces = All-cons (IsOfTold content) r [] piece (All-nil (IsOfTold content)) }

-- and then more
pub adds_on : (content : List ℕ → Option (List ℕ)) (old mid new : List Read) → Adds content old mid → Adds content mid new → Adds content old new
adds_on content old mid new first next = record {
  more = first.more ++ next.more;
  is = next.is ∙ ap (λ reads. reads ++ next.more) first.is ∙ append_assoc old first.more next.more;
  pieces = All-append (IsOfTold content) first.more next.more first.pieces next.pieces;
}

-- the same where what is told did not change
pub adds_then : (before content : List ℕ → Option (List ℕ)) (old mid new : List Read) → content ≡ before → Adds before old mid → Adds content mid new →
    Adds before old new
adds_then before content old mid new same first next = adds_on before old mid new first (subst (λ c. Adds c mid new) same next)

-- a read into a buffer gave a piece of its file, where that is told
pub piece_of_told : (content : List ℕ → Option (List ℕ)) (name : List ℕ) (at n : ℕ) (buf : List ℕ) → 0 < length buf → n ≤ length buf →
    Told (content name) (λ told. take n buf ≡ take n (drop at told)) →
    Told (content name) (λ told. n ≡ 0 → 0 < length buf → length told ≤ at) → IsOfTold content (read name at (take n buf))
piece_of_told content name at n buf some fits bytes end = λ told is.
    let size : length (take n buf) ≡ n = omega (arith, length-take n buf) in
    record { bytes_are = bytes told is ∙ ap (λ k. take k (drop at told)) (sym size); ends = λ none. end told is (sym size ∙ none) some }

-- a read at the end of the bytes gave the first n bytes of a buffer, which were appended
pub piece_given : (old new : List Read) (name bytes buf now : List ℕ) (at n : ℕ) → at ≡ length bytes →
    new ≡ old ++ read name at (take n buf) ∷ [] → n ≤ length buf → now ≡ bytes ++ take n buf →
    (piece : List ℕ) × (new ≡ old ++ read name (length bytes) piece ∷ []) × (now ≡ bytes ++ piece) × (length piece ≡ n)
piece_given old new name bytes buf now at n place given fits is =
    (take n buf, subst (λ k. new ≡ old ++ read name k (take n buf) ∷ []) place given, is, omega (arith, length-take n buf))

-- a read gave nothing more
pub nothing_more : (bytes piece now : List ℕ) → now ≡ bytes ++ piece → length piece ≡ 0 → now ≡ bytes
nothing_more bytes [] now is none = is ∙ append-nil bytes
nothing_more bytes (b ∷ piece) now is none = absurd (omega arith)

pub given_end : (name bytes piece now : List ℕ) (before old new : List Read) → HasGiven (pass name before old) bytes →
    new ≡ old ++ read name (length bytes) piece ∷ [] → now ≡ bytes ++ piece → length piece ≡ 0 → IsRead (pass name before new) now
given_end name bytes [] now before old new given next is none =
    subst (IsRead (pass name before new)) (sym (nothing_more bytes [] now is none)) (record { reads = old; given = given; ends = next })
given_end name bytes (b ∷ piece) now before old new given next is none = absurd (omega arith)

-- behind what was given, one read of the next place or none
pub begun_on : (name bytes : List ℕ) (before old new : List Read) → HasGiven (pass name before old) bytes → AtMostOneRead old new name (length bytes) →
    IsBegun (pass name before new)
begun_on name bytes before old new given (inl same) = (bytes, inl (subst (λ reads. Follow name before reads bytes) (sym same) given))
begun_on name bytes before old new given (inr ([], is)) = (bytes, inr (record { reads = old; given = given; ends = is }))
begun_on name bytes before old new given (inr (b ∷ piece, is)) =
    (bytes ++ b ∷ piece, inl (more old new bytes (bytes ++ b ∷ piece) (b ∷ piece) given (omega arith) is refl))

-- what follows is more
pub follow_adds : (name : List ℕ) (before now : List Read) (bytes : List ℕ) → Follow name before now bytes → (reads : List Read) × (now ≡ before ++ reads)
follow_adds name before _ _ (nothing now bytes is none) = ([], is ∙ sym (append-nil before))
follow_adds name before _ _ (more then now front bytes piece given some next is) =
    let first = follow_adds name before then front given in
    (first.0 ++ read name (length front) piece ∷ [], next ∙ ap (λ reads. reads ++ read name (length front) piece ∷ []) first.1 ∙ append_assoc before first.0 _)

take_append : (t bytes piece : List ℕ) → take (length bytes) t ≡ bytes → piece ≡ take (length piece) (drop (length bytes) t) →
    take (length (bytes ++ piece)) t ≡ bytes ++ piece
take_append t bytes piece front next =
    ap (λ k. take k t) (length-append bytes piece) ∙ take-add (length bytes) (length piece) t
    ∙ ap (λ f. f ++ take (length piece) (drop (length bytes) t)) front ∙ ap (λ f. bytes ++ f) (sym next)

-- the last of some reads, and those before it
last_piece : (content : List ℕ → Option (List ℕ)) (before then now reads first : List Read) (r : Read) → now ≡ before ++ reads →
    then ≡ before ++ first → now ≡ then ++ r ∷ [] → All (IsOfTold content) reads → All (IsOfTold content) first × IsOfTold content r
last_piece content before then now reads first r is was next pieces =
    let same : reads ≡ first ++ r ∷ [] =
    append_cancel_left before reads (first ++ r ∷ [])
    (sym is ∙ next ∙ ap (λ f. f ++ r ∷ []) was ∙ append_assoc before first (r ∷ [])) in
    All-pop (IsOfTold content) reads first (Some r) same pieces

-- what was given of a content is its front
front_of_more : (content : List ℕ → Option (List ℕ)) (name told : List ℕ) (before now reads : List Read) (bytes : List ℕ) → content name ≡ Some told →
    now ≡ before ++ reads → All (IsOfTold content) reads → Follow name before now bytes → take (length bytes) told ≡ bytes
front_of_more content name told before _ reads _ at is pieces (nothing now bytes same none) =
    subst (λ b. take (length b) told ≡ b) (sym none) (grind (arith, common_steps))
front_of_more content name told before _ reads _ at is pieces (more then now front bytes piece given some next made) =
    let first = follow_adds name before then front given in
    let last = last_piece content before then now reads first.0 (read name (length front) piece) is first.1 next pieces in
    subst (λ b. take (length b) told ≡ b) (sym made)
    (take_append told front piece (front_of_more content name told before then first.0 front at first.1 last.0 given) ((last.1 told at).bytes_are))

pub front_of : (content : List ℕ → Option (List ℕ)) (p : Pass) (told bytes : List ℕ) → content p.name ≡ Some told → Adds content p.before p.now →
    HasGiven p bytes → take (length bytes) told ≡ bytes
front_of content p told bytes at adds given = front_of_more content p.name told p.before p.now adds.more bytes at adds.is adds.pieces given

-- the whole of it, where a read gave nothing behind it
pub read_is : (content : List ℕ → Option (List ℕ)) (p : Pass) (told bytes : List ℕ) → content p.name ≡ Some told → Adds content p.before p.now →
    IsRead p bytes → bytes ≡ told
read_is content p told bytes at adds is_read =
    let first = follow_adds p.name p.before is_read.reads bytes is_read.given in
    let last = last_piece content p.before is_read.reads p.now adds.more first.0 (read p.name (length bytes) []) adds.is first.1 is_read.ends adds.pieces in
    let front = front_of_more content p.name told p.before is_read.reads first.0 bytes at first.1 last.0 is_read.given in
    let short = (last.1 told at).ends refl in
    grind (arith, common_steps)

past_front : (content : List ℕ → Option (List ℕ)) (p : Pass) (told : List ℕ) (allowed : List ℕ → ℕ) → content p.name ≡ Some told →
    Adds content p.before p.now → (past : IsReadPastAllowed p allowed) → allowed past.bytes < length told
past_front content p told allowed at adds is_read =
    let front = ap length (front_of content p told is_read.bytes at adds is_read.given) in
    let past = is_read.past in
    grind (arith, common_steps)

pub past_is : (content : List ℕ → Option (List ℕ)) (p : Pass) (told : List ℕ) (limit : ℕ) → content p.name ≡ Some told → Adds content p.before p.now →
    IsReadPast p limit → limit < length told
past_is content p told limit at adds is_read = past_front content p told (λ _. limit) at adds is_read

-- and a file with a limit is longer than its own
pub past_allowed : (content : List ℕ → Option (List ℕ)) (p : Pass) (told : List ℕ) (allowed : List ℕ → ℕ) → IsLimit allowed → content p.name ≡ Some told →
    Adds content p.before p.now → IsReadPastAllowed p allowed → allowed told < length told
past_allowed content p told allowed limit at adds is_read =
    let whole : is_read.bytes ++ drop (length is_read.bytes) told ≡ told =
    ap (λ f. f ++ drop (length is_read.bytes) told) (sym (front_of content p told is_read.bytes at adds is_read.given))
    ∙ take-append-drop (length is_read.bytes) told in
    let past = is_read.past in
    let same = limit.settled is_read.bytes (drop (length is_read.bytes) told) (omega arith) in
    subst (λ a. a < length told) (sym same ∙ ap allowed whole) (past_front content p told allowed at adds is_read)

pub allowed_rises : (allowed : List ℕ → ℕ) → IsLimit allowed → (front rest whole : List ℕ) → whole ≡ front ++ rest →
    allowed front ≤ allowed whole
allowed_rises allowed limit front rest whole is = subst (λ bytes. allowed front ≤ allowed bytes) (sym is) (limit.rises front rest)

-- a record is not shorter than what follows it, and so the same reads gave the same bytes
not_before : (name : List ℕ) (before now : List Read) (bytes : List ℕ) → Follow name before now bytes → (r : Read) → before ≡ now ++ r ∷ [] → ⊥
not_before name before now bytes given r is =
    let first = follow_adds name before now bytes given in
    let n = ap length is in let m = ap length first.1 in
    omega (arith, n, m, length-append now (r ∷ []), length-append before first.0)

pub follow_once : (name : List ℕ) (before now : List Read) (a b : List ℕ) → Follow name before now a → Follow name before now b → a ≡ b
follow_once name before _ _ _ (nothing now a same none) (nothing _ b is empty) = none ∙ sym empty
follow_once name before _ _ _ (nothing now a same none) (more then _ front b piece given some next made) =
    absurd (not_before name before then front given _ (sym same ∙ next))
follow_once name before _ _ _ (more then now front a piece given some next made) (nothing _ b is empty) =
    absurd (not_before name before then front given _ (sym is ∙ next))
follow_once name before _ _ _ (more then now front a piece given some next made) (more then' _ front' b piece' given' some' next' made') =
    let last = same_last then then' (read name (length front) piece) (read name (length front') piece') (sym next ∙ next') in
    let fronts = follow_once name before then front front' given (subst (λ reads. Follow name before reads front') (sym last.0) given') in
    made ∙ ap (λ f. f ++ piece) fronts ∙ ap (λ (r : Read). front' ++ r.bytes) last.1 ∙ sym made'

pub read_once_only : (p : Pass) (a b : List ℕ) → IsRead p a → IsRead p b → a ≡ b
read_once_only p a b first next =
    let last = same_last first.reads next.reads (read p.name (length a) []) (read p.name (length b) []) (sym first.ends ∙ next.ends) in
    follow_once p.name p.before first.reads a b first.given (subst (λ reads. Follow p.name p.before reads b) (sym last.0) next.given)

-- nor did a pass that came to the end of its file only give bytes of it
never_ends : (name : List ℕ) (before now then : List Read) (a : List ℕ) (at : ℕ) → Follow name before now a → (b : List ℕ) → Follow name before then b →
    now ≡ then ++ read name at [] ∷ [] → ⊥
never_ends name before _ then _ at (nothing now a same none) b given is = not_before name before then b given _ (sym same ∙ is)
never_ends name before _ then _ at (more mid now front a piece given some next made) b given' is =
    let last = same_last mid then (read name (length front) piece) (read name at []) (sym next ∙ is) in
    let none : length piece ≡ 0 = ap (λ (r : Read). length r.bytes) last.1 in
    omega (arith, some, none)

pub not_both : (p : Pass) (a b : List ℕ) → HasGiven p a → IsRead p b → ⊥
not_both p a b given is_read = never_ends p.name p.before p.now is_read.reads a (length b) given b is_read.given is_read.ends

-- the reads as a list
reads_from_more : (name : List ℕ) (at : ℕ) (pieces : List (List ℕ)) (piece : List ℕ) →
    reads_from name at (pieces ++ piece ∷ []) ≡ reads_from name at pieces ++ read name (at + length (concat pieces)) piece ∷ []
reads_from_more name at [] piece = ap (λ k. read name k piece ∷ []) (omega arith)
reads_from_more name at (p ∷ pieces) piece =
    let place : at + length p + length (concat pieces) ≡ at + length (concat (p ∷ pieces)) = omega (arith, length-append p (concat pieces)) in
    ap (λ reads. read name at p ∷ reads) (reads_from_more name (at + length p) pieces piece
    ∙ ap (λ k. reads_from name (at + length p) pieces ++ read name k piece ∷ []) place)

concat_one : (piece : List ℕ) → concat (piece ∷ []) ≡ piece
concat_one piece = append-nil piece

pub follow_pieces : (name : List ℕ) (before now : List Read) (bytes : List ℕ) → Follow name before now bytes →
    (pieces : List (List ℕ)) × (now ≡ before ++ reads_from name 0 pieces) × (bytes ≡ concat pieces) × All (λ piece. 1 ≤ length piece) pieces
follow_pieces name before _ _ (nothing now bytes is none) = ([], is ∙ sym (append-nil before), none, All-nil (λ piece. 1 ≤ length piece))
follow_pieces name before _ _ (more then now front bytes piece given some next made) =
    let first = follow_pieces name before then front given in
    let step : reads_from name 0 first.0 ++ read name (length front) piece ∷ [] ≡ reads_from name 0 (first.0 ++ piece ∷ []) =
    ap (λ k. reads_from name 0 first.0 ++ read name k piece ∷ []) (omega (arith, ap length first.2)) ∙ sym (reads_from_more name 0 first.0 piece) in (
      first.0 ++ piece ∷ [],
      next ∙ ap (λ reads. reads ++ read name (length front) piece ∷ []) first.1 ∙ append_assoc before (reads_from name 0 first.0) _
          ∙ ap (λ reads. before ++ reads) step,
      made ∙ ap (λ f. f ++ piece) first.2 ∙ ap (λ p. concat first.0 ++ p) (sym (concat_one piece)) ∙ sym (concat-append first.0 (piece ∷ [])),
      All-append (λ piece. 1 ≤ length piece) first.0 (piece ∷ []) first.3
          (All-cons (λ piece. 1 ≤ length piece) piece [] some (All-nil (λ piece. 1 ≤ length piece))),
    )

pub read_pieces : (p : Pass) (bytes : List ℕ) → IsRead p bytes → (pieces : List (List ℕ)) ×
    (p.now ≡ p.before ++ reads_from p.name 0 (pieces ++ [] ∷ [])) × (bytes ≡ concat pieces) × All (λ piece. 1 ≤ length piece) pieces
read_pieces p bytes is_read =
    let first = follow_pieces p.name p.before is_read.reads bytes is_read.given in
    let step : reads_from p.name 0 first.0 ++ read p.name (length bytes) [] ∷ [] ≡ reads_from p.name 0 (first.0 ++ [] ∷ []) =
    ap (λ k. reads_from p.name 0 first.0 ++ read p.name k [] ∷ []) (omega (arith, ap length first.2)) ∙ sym (reads_from_more p.name 0 first.0 []) in (
      first.0,
      is_read.ends ∙ ap (λ reads. reads ++ read p.name (length bytes) [] ∷ []) first.1 ∙ append_assoc p.before (reads_from p.name 0 first.0) _
          ∙ ap (λ reads. p.before ++ reads) step,
      first.2,
      first.3,
    )
