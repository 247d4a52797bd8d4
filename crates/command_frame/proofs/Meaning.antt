-- What the reads of a call mean is one status, and one text where the command's answers have one.
use Rattle.std.proofs.Common.{◌≡◌, ℕ, List, Ok, Err, inl, inr, sym, ap, ◌∙◌, subst}
use Rattle.te_ports.specs.Record.{Read, pass, HasGiven, IsRead}
use Rattle.te_ports.proofs.Giving.{read_once_only, not_both}
use Rattle.command_frame.specs.Files.{given_passes}
use Rattle.command_frame.specs.Reading.{Kind, Reading, answers, reads, GivesIn, RefusedIn, MeansAfter, refused_line}
use Rattle.command_frame.specs.Sound.{AtEnd, IsRegular, AreRegular, IsSound, HasOneText}
use Rattle.command_frame.proofs.Ending.{ok_or_err, ok_once, err_once}
use Rattle.command_frame.proofs.Telling.{Begins, begins_itself, means_begins}
use Rattle.command_frame.proofs.Asking.{not_part, whole_once}

-- a file that gave a value is not refused
value_or_refusal : (A : Type 0) (kind : Kind A) (file : List ℕ) (before then now last : List Read) (value : A) (line : List ℕ) → IsRegular kind →
    GivesIn kind (given_passes last) (pass file before then) value → Begins then last → RefusedIn kind (given_passes last) (pass file before now) line → now ≡ last → ⊥
value_or_refusal A kind file before then now last value line regular (bytes, is_read, few, gives) on (inl (past, says)) ended =
    not_part file before now then past.bytes bytes past.given is_read (subst (Begins then) (sym ended) on)
value_or_refusal A kind file before then now last value line regular (bytes, is_read, few, gives) on (inr (all, words, whole, short, refused, says)) ended =
    let same : then ≡ now = whole_once file before then now last bytes all is_read whole on (begins_itself now last ended) in
    let text : bytes ≡ all = read_once_only (pass file before now) bytes all (subst (λ t. IsRead (pass file before t) bytes) same is_read) whole in
    ok_or_err value words (regular.once all (Ok value) (Err words) (subst (λ b. kind.gives b (Ok value)) text gives) refused)

-- it is refused in one line
refusal_once : (A : Type 0) (kind : Kind A) (file : List ℕ) (before now then last : List Read) (x y : List ℕ) → IsRegular kind →
    RefusedIn kind (given_passes last) (pass file before now) x → now ≡ last → RefusedIn kind (given_passes last) (pass file before then) y → then ≡ last → x ≡ y
refusal_once A kind file before now then last x y regular (inl a) ended (inl b) over = a.1 ∙ sym b.1
refusal_once A kind file before now then last x y regular (inl (past, says)) ended (inr (bytes, words, is_read, few, refused, line)) over =
    absurd (not_both (pass file before then) past.bytes bytes (subst (λ t. HasGiven (pass file before t) past.bytes) (ended ∙ sym over) past.given) is_read)
refusal_once A kind file before now then last x y regular (inr (bytes, words, is_read, few, refused, line)) ended (inl (past, says)) over =
    absurd (not_both (pass file before now) past.bytes bytes (subst (λ t. HasGiven (pass file before t) past.bytes) (over ∙ sym ended) past.given) is_read)
refusal_once A kind file before now then last x y regular (inr (bytes, words, is_read, few, refused, line)) ended (inr (all, other, whole, short, denied, says)) over =
    let text : bytes ≡ all = read_once_only (pass file before then) bytes all (subst (λ t. IsRead (pass file before t) bytes) (ended ∙ sym over) is_read) whole in
    line ∙ ap (refused_line file) (err_once {A = A} words other
    (regular.once all (Err words) (Err other) (subst (λ b. kind.gives b (Err words)) text refused) denied)) ∙ sym says

-- it gives one value, and is read to one end
one_value : (A : Type 0) (kind : Kind A) (file : List ℕ) (before one two last : List Read) (v w : A) → IsRegular kind →
    GivesIn kind (given_passes last) (pass file before one) v → Begins one last → GivesIn kind (given_passes last) (pass file before two) w → Begins two last →
    (one ≡ two) × (v ≡ w)
one_value A kind file before one two last v w regular (bytes, is_read, few, gives) on (all, whole, short, makes) up =
    let same : one ≡ two = whole_once file before one two last bytes all is_read whole on up in
    let text : bytes ≡ all = read_once_only (pass file before two) bytes all (subst (λ t. IsRead (pass file before t) bytes) same is_read) whole in
    (same, ok_once v w (regular.once all (Ok v) (Ok w) (subst (λ b. kind.gives b (Ok v)) text gives) makes))

pub means_one_status : (Form : ℕ → List ℕ → Type 0) (r : Reading) (before last : List Read) (s t : ℕ) (x y : List ℕ) → AreRegular r → AtEnd r (IsSound Form) →
    MeansAfter r (given_passes last) before s x → MeansAfter r (given_passes last) before t y → s ≡ t
means_one_status Form (answers a) before last s t x y regular sound p q = sound.once s t (sound.of_text s x p.0) (sound.of_text t y q.0)
means_one_status Form (reads A kind file next) before last s t x y regular sound (inl p) (inl q) = p.0 ∙ sym q.0
means_one_status Form (reads A kind file next) before last s t x y regular sound (inl (three, now, refused, ended)) (inr (v, then, gives, later)) =
    absurd (value_or_refusal A kind file before then now last v x regular.0 gives (means_begins (next v) last then t y later) refused ended)
means_one_status Form (reads A kind file next) before last s t x y regular sound (inr (v, then, gives, later)) (inl (three, now, refused, ended)) =
    absurd (value_or_refusal A kind file before then now last v y regular.0 gives (means_begins (next v) last then s x later) refused ended)
means_one_status Form (reads A kind file next) before last s t x y regular sound (inr (v, one, gives, later)) (inr (w, two, makes, again)) =
    let same = one_value A kind file before one two last v w regular.0 gives (means_begins (next v) last one s x later) makes (means_begins (next w) last two t y again) in
    means_one_status Form (next w) two last s t x y (regular.1 w) (sound makes.0 w makes.3)
    (subst (λ u. MeansAfter (next u) (given_passes last) two s x) same.1 (subst (λ k. MeansAfter (next v) (given_passes last) k s x) same.0 later)) again

pub means_one_text : (r : Reading) (before last : List Read) (s t : ℕ) (x y : List ℕ) → AreRegular r → AtEnd r HasOneText →
    MeansAfter r (given_passes last) before s x → MeansAfter r (given_passes last) before t y → x ≡ y
means_one_text (answers a) before last s t x y regular one p q = one s t x y p.0 q.0
means_one_text (reads A kind file next) before last s t x y regular one (inl (three, now, refused, ended)) (inl (also, then, denied, over)) =
    refusal_once A kind file before now then last x y regular.0 refused ended denied over
means_one_text (reads A kind file next) before last s t x y regular one (inl (three, now, refused, ended)) (inr (v, then, gives, later)) =
    absurd (value_or_refusal A kind file before then now last v x regular.0 gives (means_begins (next v) last then t y later) refused ended)
means_one_text (reads A kind file next) before last s t x y regular one (inr (v, then, gives, later)) (inl (three, now, refused, ended)) =
    absurd (value_or_refusal A kind file before then now last v y regular.0 gives (means_begins (next v) last then s x later) refused ended)
means_one_text (reads A kind file next) before last s t x y regular one (inr (v, first, gives, later)) (inr (w, second, makes, again)) =
    let same = one_value A kind file before first second last v w regular.0 gives (means_begins (next v) last first s x later) makes (means_begins (next w) last second t y again) in
    means_one_text (next w) second last s t x y (regular.1 w) (one makes.0 w makes.3)
    (subst (λ u. MeansAfter (next u) (given_passes last) second s x) same.1 (subst (λ k. MeansAfter (next v) (given_passes last) k s x) same.0 later)) again
