-- What holds of each command's answers, and of the kinds of its files, holds of what files mean.
use Rattle.std.proofs.Common.{◌≡◌, ◌≢◌, ◌≤◌, ◌<◌, ◌⊎◌, ℕ, List, length, Option, Some, Result, Ok, Err, inl, inr, refl, sym, ap, ◌∙◌, subst, arith}
use Rattle.std.proofs.lemmas.Bool.{cases_lt}
use Rattle.te_ports.specs.Record.{Read, Pass, pass}
use Rattle.command_frame.specs.Files.{Passes, told_passes}
use Rattle.command_frame.specs.Sound.{AtEnd, IsRegular, AreRegular, IsSound, HasText, HasOneText}
use Rattle.command_frame.specs.Reading.{Kind, Reading, answers, reads, GivesIn, RefusedIn, MeansAfter, MeansStatusAfter, ProvesAfter, IsTold, refused_line, too_long}

-- what the text at status 0 proves
pub proved : (Form : ℕ → List ℕ → Type 0) (r : Reading) (passes : Passes) (before : List Read) (text : List ℕ) → AtEnd r (IsSound Form) →
    MeansAfter r passes before 0 text → ProvesAfter r passes before text
proved Form (answers a) passes before text sound means = (means.0, sound.proves text means.0, means.1)
proved Form (reads A kind file next) passes before text sound (inl x) = absurd (omega (arith, x.0))
proved Form (reads A kind file next) passes before text sound (inr (value, now, gives, later)) =
    (value, now, gives, proved Form (next value) passes now text (sound gives.0 value gives.3) later)

-- the form of an answer
pub formed : (Form : ℕ → List ℕ → Type 0) (r : Reading) (passes : Passes) (before : List Read) (s : ℕ) (text : List ℕ) → AtEnd r (IsSound Form) →
    s ≢ 3 → MeansAfter r passes before s text → Form s text
formed Form (answers a) passes before s text sound other means = sound.form s text means.0
formed Form (reads A kind file next) passes before s text sound other (inl x) = absurd (other x.0)
formed Form (reads A kind file next) passes before s text sound other (inr (value, now, gives, later)) =
    formed Form (next value) passes now s text (sound gives.0 value gives.3) other later

pub some_once : (o : Option (List ℕ)) (x y : List ℕ) → o ≡ Some x → o ≡ Some y → x ≡ y
some_once o x y p q = cc

pub ok_or_err : {A : Type 0} (x : A) (y : List ℕ) → ◌≡◌ {A = Result A (List ℕ)} (Ok x) (Err y) → ⊥
ok_or_err x y e = cc

pub ok_once : {A : Type 0} (x y : A) → ◌≡◌ {A = Result A (List ℕ)} (Ok x) (Ok y) → x ≡ y
ok_once x y e = cc

pub err_once : {A : Type 0} (x y : List ℕ) → ◌≡◌ {A = Result A (List ℕ)} (Err x) (Err y) → x ≡ y
err_once x y e = cc

-- a file is told in one way
told_once : (content : List ℕ → Option (List ℕ)) (p q : Pass) (x y : List ℕ) → p.name ≡ q.name → content p.name ≡ Some x → content q.name ≡ Some y → x ≡ y
told_once content p q x y name at is = some_once (content q.name) x y (ap content (sym name) ∙ at) is

-- a told file that gives a value is not refused
pub not_both : (A : Type 0) (kind : Kind A) (p q : Pass) (content : List ℕ → Option (List ℕ)) (value : A) (line : List ℕ) → IsRegular kind →
    p.name ≡ q.name → GivesIn kind (told_passes content) p value → RefusedIn kind (told_passes content) q line → ⊥
not_both A kind p q content value line regular name (bytes, at, few, gives) (inl ((all, is, many), says)) =
    absurd (let few_all = subst (λ b. length b ≤ kind.limit b) (told_once content p q bytes all name at is) few in omega arith)
not_both A kind p q content value line regular name (bytes, at, few, gives) (inr (all, words, is, short, refused, says)) =
    ok_or_err value words (regular.once all (Ok value) (Err words)
    (subst (λ b. kind.gives b (Ok value)) (told_once content p q bytes all name at is) gives) refused)

-- a told file gives one value
one_value : (A : Type 0) (kind : Kind A) (p q : Pass) (content : List ℕ → Option (List ℕ)) (v w : A) → IsRegular kind → p.name ≡ q.name →
    GivesIn kind (told_passes content) p v → GivesIn kind (told_passes content) q w → v ≡ w
one_value A kind p q content v w regular name (bytes, at, few, gives) (all, is, short, makes) =
    ok_once v w (regular.once all (Ok v) (Ok w) (subst (λ b. kind.gives b (Ok v)) (told_once content p q bytes all name at is) gives) makes)

-- told files mean one status, whatever is on record
pub status_once : (Form : ℕ → List ℕ → Type 0) (r : Reading) (content : List ℕ → Option (List ℕ)) (before start : List Read) (s t : ℕ) →
    AreRegular r → AtEnd r (IsSound Form) → MeansStatusAfter r (told_passes content) before s → MeansStatusAfter r (told_passes content) start t → s ≡ t
status_once Form (answers a) content before start s t regular sound p q = sound.once s t p.0 q.0
status_once Form (reads A kind file next) content before start s t regular sound (inl x) (inl y) = x.0 ∙ sym y.0
status_once Form (reads A kind file next) content before start s t regular sound (inl (three, now, (line, refused), ended)) (inr (v, then, gives, later)) =
    absurd (not_both A kind (pass file start then) (pass file before now) content v line regular.0 refl gives refused)
status_once Form (reads A kind file next) content before start s t regular sound (inr (v, now, gives, later)) (inl (three, then, (line, refused), ended)) =
    absurd (not_both A kind (pass file before now) (pass file start then) content v line regular.0 refl gives refused)
status_once Form (reads A kind file next) content before start s t regular sound (inr (v, now, gives, later)) (inr (w, then, makes, more)) =
    let same : v ≡ w = one_value A kind (pass file before now) (pass file start then) content v w regular.0 refl gives makes in
    status_once Form (next w) content now then s t (regular.1 w) (sound makes.0 w makes.3)
    (subst (λ u. MeansStatusAfter (next u) (told_passes content) now s) same later) more

-- a text has a status
pub status_of_text : (Form : ℕ → List ℕ → Type 0) (r : Reading) (passes : Passes) (before : List Read) (s : ℕ) (text : List ℕ) →
    AtEnd r (IsSound Form) → MeansAfter r passes before s text → MeansStatusAfter r passes before s
status_of_text Form (answers a) passes before s text sound means = (sound.of_text s text means.0, means.1)
status_of_text Form (reads A kind file next) passes before s text sound (inl (three, now, refused, ended)) = inl (three, now, (text, refused), ended)
status_of_text Form (reads A kind file next) passes before s text sound (inr (value, now, gives, later)) =
    inr (value, now, gives, status_of_text Form (next value) passes now s text (sound gives.0 value gives.3) later)

-- told files mean some status
pub status_some : (Form : ℕ → List ℕ → Type 0) (r : Reading) (content : List ℕ → Option (List ℕ)) (before : List Read) → AreRegular r →
    AtEnd r (IsSound Form) → IsTold r content → (s : ℕ) × MeansStatusAfter r (told_passes content) before s
status_some Form (answers a) content before regular sound is = (sound.some.0, (sound.some.1, tt))
status_some Form (reads A kind file next) content before regular sound (all, at, rest) =
    go (cases_lt (kind.limit all) (length all)) (regular.0.some all)
    (λ few value gives. status_some Form (next value) content before (regular.1 value) (sound all value gives) (rest few value gives))
  where
    go : (kind.limit all < length all) ⊎ (length all ≤ kind.limit all) → (x : Result A (List ℕ)) × kind.gives all x →
        (length all ≤ kind.limit all → (value : A) → kind.gives all (Ok value) → (s : ℕ) × MeansStatusAfter (next value) (told_passes content) before s) →
        (s : ℕ) × MeansStatusAfter (reads A kind file next) (told_passes content) before s
    go (inl long) x later = (3, inl (refl, before, (refused_line file too_long, inl ((all, at, long), refl)), tt))
    go (inr few) (Ok value, gives) later =
        let more = later few value gives in
        (more.0, inr (value, before, (all, at, few, gives), more.1))
    go (inr few) (Err words, gives) later = (3, inl (refl, before, (refused_line file words, inr (all, words, at, few, gives, refl)), tt))

refusal_once : (A : Type 0) (kind : Kind A) (file : List ℕ) (content : List ℕ → Option (List ℕ)) (before now start then : List Read) (x y : List ℕ) →
    IsRegular kind → RefusedIn kind (told_passes content) (pass file before now) x → RefusedIn kind (told_passes content) (pass file start then) y → x ≡ y
refusal_once A kind file content before now start then x y regular (inl a) (inl b) = a.1 ∙ sym b.1
refusal_once A kind file content before now start then x y regular (inl ((all, at, many), says)) (inr (bytes, words, is, few, refused, line)) =
    absurd (let few_all = subst (λ b. length b ≤ kind.limit b) (some_once (content file) bytes all is at) few in omega arith)
refusal_once A kind file content before now start then x y regular (inr (bytes, words, is, few, refused, line)) (inl ((all, at, many), says)) =
    absurd (let few_all = subst (λ b. length b ≤ kind.limit b) (some_once (content file) bytes all is at) few in omega arith)
refusal_once A kind file content before now start then x y regular (inr (bytes, words, at, few, refused, line)) (inr (all, other, is, short, denied, says)) =
    line ∙ ap (refused_line file) (err_once {A = A} words other
    (regular.once all (Err words) (Err other) (subst (λ b. kind.gives b (Err words)) (some_once (content file) bytes all at is) refused) denied)) ∙ sym says

pub text_once : (r : Reading) (content : List ℕ → Option (List ℕ)) (before start : List Read) (s t : ℕ) (x y : List ℕ) → AreRegular r →
    AtEnd r HasOneText → MeansAfter r (told_passes content) before s x → MeansAfter r (told_passes content) start t y → x ≡ y
text_once (answers a) content before start s t x y regular one p q = one s t x y p.0 q.0
text_once (reads A kind file next) content before start s t x y regular one (inl (three, now, refused, ended)) (inl (also, then, denied, over)) =
    refusal_once A kind file content before now start then x y regular.0 refused denied
text_once (reads A kind file next) content before start s t x y regular one (inl (three, now, refused, ended)) (inr (v, then, gives, later)) =
    absurd (not_both A kind (pass file start then) (pass file before now) content v x regular.0 refl gives refused)
text_once (reads A kind file next) content before start s t x y regular one (inr (v, now, gives, later)) (inl (three, then, refused, ended)) =
    absurd (not_both A kind (pass file before now) (pass file start then) content v y regular.0 refl gives refused)
text_once (reads A kind file next) content before start s t x y regular one (inr (v, now, gives, later)) (inr (w, then, makes, more)) =
    let same : v ≡ w = one_value A kind (pass file before now) (pass file start then) content v w regular.0 refl gives makes in
    text_once (next w) content now then s t x y (regular.1 w) (one makes.0 w makes.3)
    (subst (λ u. MeansAfter (next u) (told_passes content) now s x) same later) more

-- told files mean some text
pub text_some : (r : Reading) (content : List ℕ → Option (List ℕ)) (before : List Read) → AreRegular r → AtEnd r HasText → IsTold r content →
    (s : ℕ) × (text : List ℕ) × MeansAfter r (told_passes content) before s text
text_some (answers a) content before regular has is = (has.0, has.1, (has.2, tt))
text_some (reads A kind file next) content before regular has (all, at, rest) =
    go (cases_lt (kind.limit all) (length all)) (regular.0.some all)
    (λ few value gives. text_some (next value) content before (regular.1 value) (has all value gives) (rest few value gives))
  where
    go : (kind.limit all < length all) ⊎ (length all ≤ kind.limit all) → (x : Result A (List ℕ)) × kind.gives all x →
        (length all ≤ kind.limit all → (value : A) → kind.gives all (Ok value) →
        (s : ℕ) × (text : List ℕ) × MeansAfter (next value) (told_passes content) before s text) →
        (s : ℕ) × (text : List ℕ) × MeansAfter (reads A kind file next) (told_passes content) before s text
    go (inl long) x later = (3, refused_line file too_long, inl (refl, before, inl ((all, at, long), refl), tt))
    go (inr few) (Ok value, gives) later =
        let more = later few value gives in
        (more.0, more.1, inr (value, before, (all, at, few, gives), more.2))
    go (inr few) (Err words, gives) later = (3, refused_line file words, inl (refl, before, inr (all, words, at, few, gives, refl), tt))
