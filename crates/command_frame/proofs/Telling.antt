-- What reads gave of told files is what is told.
use Rattle.std.proofs.Common.{◌≡◌, ℕ, ◌+◌, ◌<◌, ◌≤◌, List, [], ◌∷◌, ◌++◌, length, take, drop, Option, Some, Ok, inl, inr, refl, sym, ap, ◌∙◌, subst, arith, length-take, append-nil, append_assoc}
use Rattle.std.proofs.Math.Seq.{take-append_seam, drop-append_seam}
use Rattle.std.proofs.lemmas.Grind.{common_steps}
use Rattle.std.proofs.lemmas.List.{take-append-drop, append_cancel_left}
use Rattle.std.proofs.lemmas.List.Elements.{All-same, All-take, All-drop}
use Rattle.te_ports.specs.Ports.{Told}
use Rattle.te_ports.specs.Record.{Read, read, IsPiece, IsOfTold, Adds, Pass, pass, Follow, nothing, more, IsRead, IsReadPastAllowed}
use Rattle.te_ports.specs.Limit.{IsLimit}
use Rattle.te_ports.proofs.Giving.{adds_none, adds_one, adds_on, follow_adds, read_is, past_allowed}
use Rattle.command_frame.specs.Files.{given_passes, told_passes, known_passes}
use Rattle.command_frame.specs.Reading.{Reading, answers, reads, MeansAfter, IsTold, ReadFailedAfter}
use Rattle.command_frame.specs.Sound.{AreRegular}
use Rattle.command_frame.proofs.Ending.{some_once}

-- one record goes on as the other
abbrev pub Begins : List Read → List Read → Type 0
Begins old new = (more : List Read) × (new ≡ old ++ more)

pub begins_itself : (old new : List Read) → old ≡ new → Begins old new
begins_itself old new same = ([], sym same ∙ sym (append-nil old))

pub begins_on : (old mid new : List Read) → Begins old mid → Begins mid new → Begins old new
begins_on old mid new first next = (first.0 ++ next.0, next.1 ∙ ap (λ made. made ++ next.0) first.1 ∙ append_assoc old first.0 next.0)

pub read_begins : (p : Pass) (bytes : List ℕ) → IsRead p bytes → Begins p.before p.now
read_begins p bytes is_read = begins_on p.before is_read.reads p.now (follow_adds p.name p.before is_read.reads bytes is_read.given) (_, is_read.ends)

-- what was read from the last of some reads on, and up to it
last_more : (a m all : List Read) → all ≡ a ++ m → m ≡ drop (length a) all
last_more a m all is = sym (ap (drop (length a)) is ∙ drop-append_seam a m)

first_more : (a m all : List Read) → all ≡ a ++ m → a ≡ take (length a) all
first_more a m all is = sym (ap (take (length a)) is ∙ take-append_seam a m)

pub adds_parts : (content : List ℕ → Option (List ℕ)) (old mid new : List Read) → Begins old mid → Begins mid new → Adds content old new →
    Adds content old mid × Adds content mid new
adds_parts content old mid new (a, first) (m, next) adds =
    let whole : adds.more ≡ a ++ m =
    append_cancel_left old adds.more (a ++ m) (sym adds.is ∙ next ∙ ap (λ made. made ++ m) first ∙ append_assoc old a m) in (
      record {
        more = a;
        is = first;
        pieces = All-same (IsOfTold content) a (take (length a) adds.more) (first_more a m adds.more whole)
            (All-take (IsOfTold content) (length a) adds.more adds.pieces);
      },
      record {
        more = m;
        is = next;
        pieces = All-same (IsOfTold content) m (drop (length a) adds.more) (last_more a m adds.more whole)
            (All-drop (IsOfTold content) (length a) adds.more adds.pieces);
      },
    )

adds_up_to : (content : List ℕ → Option (List ℕ)) (old new last : List Read) → new ≡ last → Adds content old last → Adds content old new
adds_up_to content old new last same adds = subst (Adds content old) (sym same) adds

-- the last read is not before the first
pub means_begins : (r : Reading) (last before : List Read) (s : ℕ) (text : List ℕ) → MeansAfter r (given_passes last) before s text → Begins before last
means_begins (answers a) last before s text means = begins_itself before last means.1
means_begins (reads A kind file next) last before s text (inl (three, now, inl (past, line), ended)) =
    begins_on before now last (follow_adds file before now past.bytes past.given) (begins_itself now last ended)
means_begins (reads A kind file next) last before s text (inl (three, now, inr (bytes, words, is_read, few, refused, line), ended)) =
    begins_on before now last (read_begins (pass file before now) bytes is_read) (begins_itself now last ended)
means_begins (reads A kind file next) last before s text (inr (value, now, (bytes, is_read, few, gives), later)) =
    begins_on before now last (read_begins (pass file before now) bytes is_read) (means_begins (next value) last now s text later)

failed_begins : (r : Reading) (last before : List Read) (Fails : List ℕ → Type 0) → ReadFailedAfter r (given_passes last) before Fails → Begins before last
failed_begins (answers a) last before Fails failed = absurd failed
failed_begins (reads A kind file next) last before Fails (inl (fails, now, part, ended)) =
    begins_on before now last (follow_adds file before now part.bytes part.given) (begins_itself now last ended)
failed_begins (reads A kind file next) last before Fails (inr (value, now, (bytes, is_read, few, gives), later)) =
    begins_on before now last (read_begins (pass file before now) bytes is_read) (failed_begins (next value) last now Fails later)

-- what reads gave of a told file is what is told
read_told : (content : List ℕ → Option (List ℕ)) (p : Pass) (bytes : List ℕ) → Adds content p.before p.now → IsRead p bytes →
    Told (content p.name) (λ all. bytes ≡ all)
read_told content p bytes adds is_read all at = read_is content p all bytes at adds is_read

past_told : (content : List ℕ → Option (List ℕ)) (p : Pass) (limit : List ℕ → ℕ) → IsLimit limit → Adds content p.before p.now →
    IsReadPastAllowed p limit → Told (content p.name) (λ all. limit all < length all)
past_told content p limit limited adds past all at = past_allowed content p all limit limited at adds past

pub means_known : (r : Reading) (content : List ℕ → Option (List ℕ)) (last before : List Read) (s : ℕ) (text : List ℕ) → AreRegular r →
    Adds content before last → MeansAfter r (given_passes last) before s text → MeansAfter r (known_passes last content) before s text
means_known (answers a) content last before s text regular adds means = means
means_known (reads A kind file next) content last before s text regular adds (inl (three, now, inl (past, line), ended)) =
    inl (three, now, inl ((past, past_told content (pass file before now) kind.limit regular.0.limited (adds_up_to content before now last ended adds) past), line), ended)
means_known (reads A kind file next) content last before s text regular adds (inl (three, now, inr (bytes, words, is_read, few, refused, line), ended)) =
    let told = read_told content (pass file before now) bytes (adds_up_to content before now last ended adds) is_read in
    inl (three, now, inr (bytes, words, (is_read, told), few, refused, line), ended)
means_known (reads A kind file next) content last before s text regular adds (inr (value, now, (bytes, is_read, few, gives), later)) =
    let parts = adds_parts content before now last (read_begins (pass file before now) bytes is_read) (means_begins (next value) last now s text later) adds in
    let told = read_told content (pass file before now) bytes parts.0 is_read in
    inr (value, now, (bytes, (is_read, told), few, gives), means_known (next value) content last now s text (regular.1 value) parts.1 later)

pub failed_known : (r : Reading) (content : List ℕ → Option (List ℕ)) (last before : List Read) (Fails : List ℕ → Type 0) →
    Adds content before last → ReadFailedAfter r (given_passes last) before Fails → ReadFailedAfter r (known_passes last content) before Fails
failed_known (answers a) content last before Fails adds failed = failed
failed_known (reads A kind file next) content last before Fails adds (inl here) = inl here
failed_known (reads A kind file next) content last before Fails adds (inr (value, now, (bytes, is_read, few, gives), later)) =
    let parts = adds_parts content before now last (read_begins (pass file before now) bytes is_read) (failed_begins (next value) last now Fails later) adds in
    let told = read_told content (pass file before now) bytes parts.0 is_read in
    inr (value, now, (bytes, (is_read, told), few, gives), failed_known (next value) content last now Fails parts.1 later)

-- what is known of files that are told is what is told
pub means_told : (r : Reading) (content : List ℕ → Option (List ℕ)) (last before start : List Read) (s : ℕ) (text : List ℕ) →
    IsTold r content → MeansAfter r (known_passes last content) before s text → MeansAfter r (told_passes content) start s text
means_told (answers a) content last before start s text is means = (means.0, tt)
means_told (reads A kind file next) content last before start s text (all, at, rest) (inl (three, now, inl ((past, long), line), ended)) =
    inl (three, start, inl ((all, at, long all at), line), tt)
means_told (reads A kind file next) content last before start s text (all, at, rest) (inl (three, now, inr (bytes, words, (read, is), few, refused, line), ended)) =
    let same : bytes ≡ all = is all at in
    inl (three, start, inr (bytes, words, at ∙ ap Some (sym same), few, refused, line), tt)
means_told (reads A kind file next) content last before start s text (all, at, rest) (inr (value, now, (bytes, (read, is), few, gives), later)) =
    let same : bytes ≡ all = is all at in
    let on = rest (subst (λ b. length b ≤ kind.limit b) same few) value (subst (λ b. kind.gives b (Ok value)) same gives) in
    inr (value, start, (bytes, at ∙ ap Some (sym same), few, gives), means_told (next value) content last now start s text on later)

pub failed_told : (r : Reading) (content : List ℕ → Option (List ℕ)) (last before start : List Read) (Fails : List ℕ → Type 0) →
    IsTold r content → ReadFailedAfter r (known_passes last content) before Fails → ReadFailedAfter r (told_passes content) start Fails
failed_told (answers a) content last before start Fails is failed = failed
failed_told (reads A kind file next) content last before start Fails is (inl (fails, now, part, ended)) = inl (fails, start, tt, tt)
failed_told (reads A kind file next) content last before start Fails (all, at, rest) (inr (value, now, (bytes, (read, is), few, gives), later)) =
    let same : bytes ≡ all = is all at in
    let on = rest (subst (λ b. length b ≤ kind.limit b) same few) value (subst (λ b. kind.gives b (Ok value)) same gives) in
    inr (value, start, (bytes, at ∙ ap Some (sym same), few, gives), failed_told (next value) content last now start Fails on later)

-- a read of a told file at once, and one of its end
front_told : (content : List ℕ → Option (List ℕ)) (file bytes : List ℕ) (n : ℕ) → content file ≡ Some bytes → 0 < n → n ≤ length bytes →
    IsOfTold content (read file 0 (take n bytes))
front_told content file bytes n at some fits = λ told is.
    let same : bytes ≡ told = some_once (content file) bytes told at is in
    subst (λ all. IsPiece all 0 (take n bytes)) same
    (record { bytes_are = ap (λ k. take k bytes) (sym (omega (arith, length-take n bytes))); ends = λ none. omega (arith, none, length-take n bytes) })

all_told : (content : List ℕ → Option (List ℕ)) (file bytes : List ℕ) → content file ≡ Some bytes → IsOfTold content (read file 0 bytes)
all_told content file bytes at = λ told is.
    subst (λ all. IsPiece all 0 bytes) (some_once (content file) bytes told at is)
    (record { bytes_are = grind (arith, common_steps); ends = λ none. omega (arith, none) })

end_told : (content : List ℕ → Option (List ℕ)) (file bytes : List ℕ) → content file ≡ Some bytes → IsOfTold content (read file (length bytes) [])
end_told content file bytes at = λ told is.
    subst (λ all. IsPiece all (length bytes) []) (some_once (content file) bytes told at is) (record { bytes_are = refl; ends = λ none. omega arith })

abbrev first_read : List Read → List ℕ → List ℕ → List Read
first_read before file bytes = before ++ read file 0 bytes ∷ []

abbrev front_reads : List Read → List ℕ → List ℕ → List Read
front_reads before file [] = before
front_reads before file (b ∷ bytes) = first_read before file (b ∷ bytes)

abbrev whole_reads : List Read → List ℕ → List ℕ → List Read
whole_reads before file bytes = front_reads before file bytes ++ read file (length bytes) [] ∷ []

front_added : (content : List ℕ → Option (List ℕ)) (before : List Read) (file bytes : List ℕ) → content file ≡ Some bytes →
    Adds content before (front_reads before file bytes)
front_added content before file [] at = adds_none content before before refl
front_added content before file (b ∷ bytes) at =
    adds_one content before (first_read before file (b ∷ bytes)) (read file 0 (b ∷ bytes)) refl (all_told content file (b ∷ bytes) at)

whole_added : (content : List ℕ → Option (List ℕ)) (before : List Read) (file bytes : List ℕ) → content file ≡ Some bytes →
    Adds content before (whole_reads before file bytes)
whole_added content before file bytes at =
    adds_on content before (front_reads before file bytes) (whole_reads before file bytes) (front_added content before file bytes at)
    (adds_one content (front_reads before file bytes) (whole_reads before file bytes) (read file (length bytes) []) refl (end_told content file bytes at))

first_given : (before : List Read) (file bytes : List ℕ) → 1 ≤ length bytes → Follow file before (first_read before file bytes) bytes
first_given before file bytes some = more before (first_read before file bytes) [] bytes bytes (nothing before [] refl refl) some refl refl

front_given : (before : List Read) (file bytes : List ℕ) → Follow file before (front_reads before file bytes) bytes
front_given before file [] = nothing before [] refl refl
front_given before file (b ∷ bytes) = first_given before file (b ∷ bytes) (omega arith)

whole_read : (before : List Read) (file bytes : List ℕ) → IsRead (pass file before (whole_reads before file bytes)) bytes
whole_read before file bytes = record { reads = front_reads before file bytes; given = front_given before file bytes; ends = refl }

-- the first bytes of a file that is longer than its limit have the limit of the whole
front_limit : (limit : List ℕ → ℕ) (bytes : List ℕ) → IsLimit limit → limit bytes < length bytes →
    limit (take (limit bytes + 1) bytes) ≡ limit bytes
front_limit limit bytes is many =
    let whole : take (limit bytes + 1) bytes ++ drop (limit bytes + 1) bytes ≡ bytes = take-append-drop (limit bytes + 1) bytes in
    let rises = is.rises (take (limit bytes + 1) bytes) (drop (limit bytes + 1) bytes) in
    let below : limit (take (limit bytes + 1) bytes) ≤ limit bytes =
    subst (λ all. limit (take (limit bytes + 1) bytes) ≤ limit all) whole rises in
    sym (is.settled (take (limit bytes + 1) bytes) (drop (limit bytes + 1) bytes) (omega (arith, length-take (limit bytes + 1) bytes, below))) ∙ ap limit whole

-- what told files mean is what some reads of them give
pub told_read : (r : Reading) (content : List ℕ → Option (List ℕ)) (s : ℕ) (text : List ℕ) (before start : List Read) → AreRegular r →
    MeansAfter r (told_passes content) start s text → (now : List Read) × Adds content before now × MeansAfter r (given_passes now) before s text
told_read (answers a) content s text before start regular means = (before, adds_none content before before refl, (means.0, refl))
told_read (reads A kind file next) content s text before start regular (inl (three, then, inl ((all, at, many), line), ended)) =
    let front = take (kind.limit all + 1) all in
    let now = first_read before file front in
    let size : length front ≡ kind.limit all + 1 = omega (arith, many, length-take (kind.limit all + 1) all) in (
      now,
      adds_one content before now (read file 0 front) refl (front_told content file all (kind.limit all + 1) at (omega arith) (omega (arith, many))),
      inl (
        three,
        now,
        inl (
          record {
            bytes = front;
            given = first_given before file front (omega (arith, size));
            past = size ∙ ap (λ k. k + 1) (sym (front_limit kind.limit all regular.0.limited many));
          },
          line,
        ),
        refl,
      ),
    )
told_read (reads A kind file next) content s text before start regular (inl (three, then, inr (bytes, words, at, few, refused, line), ended)) =
    let now = whole_reads before file bytes in
    (now, whole_added content before file bytes at, inl (three, now, inr (bytes, words, whole_read before file bytes, few, refused, line), refl))
told_read (reads A kind file next) content s text before start regular (inr (value, then, (bytes, at, few, gives), later)) =
    let mid = whole_reads before file bytes in
    let (now, added, means) = told_read (next value) content s text mid then (regular.1 value) later in (
      now,
      adds_on content before mid now (whole_added content before file bytes at) added,
      inr (value, mid, (bytes, whole_read before file bytes, few, gives), means),
    )
