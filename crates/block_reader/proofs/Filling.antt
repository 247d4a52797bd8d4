-- What filling and draining make of lines that stand behind some bytes.
use Rattle.std.proofs.Common.{◌≡◌, ◌∙◌, ℕ, ◌+◌, ◌≤◌, List, [], ◌++◌, length, take, drop, refl, sym, ap, subst, inl, inr, arith, append_assoc, append-nil, length-append}
use Rattle.std.specs.Prelude.{◌⊎◌}
use Rattle.std.proofs.Math.Seq.{take-append_seam, drop-append_seam}
use Rattle.std.proofs.lemmas.List.{take-take, nil_from_length}
use Rattle.te_model.specs.FileLimit.{file_limit}
use Rattle.te_ports.specs.Record.{Pass, IsRead, IsReadInPart, IsReadPastAllowed}
use Rattle.block_reader.specs.declared.window.Window.{Window}
use Rattle.block_reader.specs.declared.window.State.{State}
use Rattle.block_reader.specs.declared.window.State.TheVariants.{Open, Ended, Failed, TooLong}
use Rattle.block_reader.specs.Standing.{ready, fetched_of, state_of, limit_of, IsStateOf, StandsAt, StandsIn}
use Rattle.block_reader.specs.declared.lines.Lines.{Lines}
use Rattle.block_reader.specs.Answers.{HasLimit, IsBehind, IsWhole, PassesFront}
use Rattle.block_reader.proofs.Going.{at_clear, at_whole, at_part, at_past}
use Rattle.te_model.proofs.FileLimits.{line_settles}
use Rattle.block_reader.proofs.Limits.{limit_after_more}

-- bytes behind the same front
pub same_rest : (xs front rest new : List ℕ) (n : ℕ) → xs ≡ front ++ rest → n + length rest ≡ length xs → xs ≡ take n xs ++ new → new ≡ rest
same_rest xs front rest new n parts count next =
    let size : length front ≡ n = omega (arith, count, ap length parts, length-append front rest) in
    let taken : take n xs ≡ front = ap (take n) parts ∙ ap (λ k. take k (front ++ rest)) (sym size) ∙ take-append_seam front rest in
    sym (drop-append_seam front new) ∙ ap (drop (length front)) (ap (λ f. f ++ new) (sym taken) ∙ sym next ∙ parts) ∙ drop-append_seam front rest

-- bytes that were passed, of which so many are left
pub passes_by : (w w' : Window) (n left : ℕ) (front rest : List ℕ) → ready w ≡ take n (ready w) ++ ready w' → fetched_of w' ≡ fetched_of w → state_of w' ≡ state_of w →
    limit_of w' ≡ limit_of w → n + left ≡ length (ready w) → ready w ≡ front ++ rest → length rest ≡ left → (ready w' ≡ rest) × PassesFront w w' front
passes_by w w' n left front rest next fetched state limit count parts size =
    let same : ready w' ≡ rest = same_rest (ready w) front rest (ready w') n parts (omega (arith, count, size)) next in (
      same,
      record { parts = parts ∙ ap (λ r. front ++ r) (sym same); fetched = fetched; state = state; limit = limit },
    )

-- ---- filling

pub limited_after_fill : (w w' : Window) (passed : List ℕ) → (more : List ℕ) → ready w' ≡ ready w ++ more → limit_of w' ≡ limit_of w →
    ((state_of w ≡ Open → ⊥) → (state_of w' ≡ state_of w) × (ready w' ≡ ready w)) → HasLimit w passed → HasLimit w' passed
limited_after_fill w w' passed more next limit closed h = go (state_of w) refl
  where
    long : 14 ≤ length (passed ++ ready w) → HasLimit w' passed
    long some = record {
      limit = limit_after_more w w' passed more some next limit h.limit;
      settled = λ _. omega (arith, some, ap length next, length-append passed (ready w), length-append passed (ready w'), length-append (ready w) more);
    }

    shut : (state_of w' ≡ state_of w) × (ready w' ≡ ready w) → HasLimit w' passed
    shut same = record {
      limit = limit ∙ h.limit ∙ ap (λ r. file_limit (passed ++ r)) (sym same.1);
      settled = λ is. subst (λ r. 14 ≤ length (passed ++ r)) (sym same.1) (h.settled (sym same.0 ∙ is));
    }

    go : (state : State) → state_of w ≡ state → HasLimit w' passed
    go Open is = long (h.settled is)
    go Ended is = shut (closed (λ e. let no : Ended ≡ Open = sym is ∙ e in cc))
    go Failed is = shut (closed (λ e. let no : Failed ≡ Open = sym is ∙ e in cc))
    go TooLong is = shut (closed (λ e. let no : TooLong ≡ Open = sym is ∙ e in cc))

pub stood_before_fill : (gave : Pass) (content : List ℕ) (w w' : Window) (passed : List ℕ) → (more : List ℕ) → ready w' ≡ ready w ++ more → limit_of w' ≡ limit_of w →
    ((state_of w ≡ Open → ⊥) → (state_of w' ≡ state_of w) × (ready w' ≡ ready w)) → StandsAt gave w passed → StandsIn content w' passed → StandsIn content w passed
stood_before_fill gave content w w' passed more next limit closed at s = record { front = front; count = at.count; ends = go (state_of w) refl }
  where
    all : List ℕ
    all = passed ++ ready w

    whole : passed ++ ready w' ≡ all ++ more
    whole = ap (λ r. passed ++ r) next ∙ sym (append_assoc passed (ready w) more)

    fewer : fetched_of w ≤ fetched_of w'
    fewer = omega (arith, at.count, s.count, ap length whole, length-append all more)

    front : take (fetched_of w) content ≡ all
    front =
        sym (take-take (fetched_of w) (fetched_of w') content fewer)
        ∙ ap (take (fetched_of w)) (s.front ∙ whole) ∙ ap (λ k. take k (all ++ more)) at.count ∙ take-append_seam all more

    shut : (state_of w' ≡ state_of w) × (ready w' ≡ ready w) → IsStateOf content w.limit w.fetched (state_of w)
    shut same =
        let size : fetched_of w' ≡ fetched_of w = s.count ∙ ap (λ r. length (passed ++ r)) same.1 ∙ sym at.count in
        subst (λ k. IsStateOf content k w.fetched w.state) limit
        (subst (λ k. IsStateOf content w'.limit k w.state) size (subst (IsStateOf content w'.limit w'.fetched) same.0 s.ends))

    go : (state : State) → state_of w ≡ state → IsStateOf content w.limit w.fetched (state_of w)
    go Open is = subst (IsStateOf content w.limit w.fetched) (sym is) tt
    go Ended is = shut (closed (λ e. let no : Ended ≡ Open = sym is ∙ e in cc))
    go Failed is = shut (closed (λ e. let no : Failed ≡ Open = sym is ∙ e in cc))
    go TooLong is = shut (closed (λ e. let no : TooLong ≡ Open = sym is ∙ e in cc))

pub behind_after_fill : (gave given : Pass) (l l' : Lines) (passed : List ℕ) → (more : List ℕ) → ready l'.window ≡ ready l.window ++ more →
    limit_of l'.window ≡ limit_of l.window → ((state_of l.window ≡ Open → ⊥) → (state_of l'.window ≡ state_of l.window) × (ready l'.window ≡ ready l.window)) →
    ((before : List ℕ) → StandsAt gave l.window before → StandsAt given l'.window before) → IsBehind gave l passed → IsBehind given l' passed
behind_after_fill gave given l l' passed more next limit closed stands b =
    record { stands = stands passed b.stands; limited = limited_after_fill l.window l'.window passed more next limit closed b.limited }

-- ---- draining

-- a window of which all was passed and drained: what was drained, and that it was nothing where the file was not open
pub record Drained (gave given : Pass) (w w' : Window) (passed more : List ℕ) : Type 0 where
  pub before : StandsAt gave w passed
  pub limited : HasLimit w passed
  pub after : StandsAt given w' ((passed ++ ready w) ++ more)
  pub none : ready w' ≡ []
  pub limit : limit_of w' ≡ limit_of w
  pub still : (state_of w ≡ Open → ⊥) → (state_of w' ≡ state_of w) × (fetched_of w' ≡ fetched_of w)

pub drained_of : (gave given : Pass) (w w1 w' : Window) (passed : List ℕ) (n : ℕ) → ready w ≡ take n (ready w) ++ ready w1 → n ≡ length (ready w) →
    fetched_of w1 ≡ fetched_of w → state_of w1 ≡ state_of w → limit_of w1 ≡ limit_of w →
    ((before : List ℕ) → StandsAt gave w1 before → (more : List ℕ) × StandsAt given w' (before ++ more)) → ready w' ≡ [] → limit_of w' ≡ limit_of w1 →
    ((state_of w1 ≡ Open → ⊥) → state_of w' ≡ state_of w1) → ((state_of w1 ≡ Open → ⊥) → fetched_of w' ≡ fetched_of w1) →
    StandsAt gave w passed → HasLimit w passed → (more : List ℕ) × Drained gave given w w' passed more
drained_of gave given w w1 w' passed n next all fetched state limit drain none limit' same still at limited =
    let nothing : ready w1 ≡ [] = same_rest (ready w) (ready w) [] (ready w1) n (sym (append-nil (ready w))) (omega (arith, all)) next in
    let more = drain (passed ++ ready w) (at_clear gave w w1 passed nothing fetched limit state at) in (
      more.0,
      record {
        before = at;
        limited = limited;
        after = more.1;
        none = none;
        limit = limit' ∙ limit;
        still = λ shut.
            let closed : state_of w1 ≡ Open → ⊥ = λ is. shut (sym state ∙ is) in
            (same closed ∙ state, still closed ∙ fetched);
      },
    )

pub ended_of : (now shown : State) → shown ≡ now → (now ≡ Open → ⊥) → (shown ≡ Open) ⊎ (shown ≡ Ended) → now ≡ Ended
ended_of now shown same closed (inl open_still) = absurd (closed (sym same ∙ open_still))
ended_of now shown same closed (inr ended) = sym same ∙ ended

-- all that reads gave
abbrev total : {gave given : Pass} {w w' : Window} {passed more : List ℕ} → Drained gave given w w' passed more → List ℕ
total {gave} {given} {w} {w'} {passed} {more} d = (passed ++ ready w) ++ more

all_given : {gave given : Pass} {w w' : Window} {passed more : List ℕ} (d : Drained gave given w w' passed more) → total d ++ ready w' ≡ total d
all_given d = ap (λ r. total d ++ r) d.none ∙ append-nil (total d)

size : {gave given : Pass} {w w' : Window} {passed more : List ℕ} (d : Drained gave given w w' passed more) → fetched_of w' ≡ length (total d)
size d = d.after.count ∙ ap length (all_given d)

nothing_more : {gave given : Pass} {w w' : Window} {passed more : List ℕ} (d : Drained gave given w w' passed more) → (state_of w ≡ Open → ⊥) → more ≡ []
nothing_more {gave} {given} {w} {w'} {passed} {more} d shut =
    nil_from_length more (omega (arith, size d, d.before.count, (d.still shut).1, length-append (passed ++ ready w) more))

limit_is : {gave given : Pass} {w w' : Window} {passed more : List ℕ} (d : Drained gave given w w' passed more) → limit_of w' ≡ file_limit (total d)
limit_is {gave} {given} {w} {w'} {passed} {more} d = d.limit ∙ d.limited.limit ∙ go (state_of w) refl
  where
    shut : (state_of w ≡ Open → ⊥) → file_limit (passed ++ ready w) ≡ file_limit (total d)
    shut closed = ap file_limit (sym (append-nil (passed ++ ready w)) ∙ ap (λ m. (passed ++ ready w) ++ m) (sym (nothing_more d closed)))

    go : (state : State) → state_of w ≡ state → file_limit (passed ++ ready w) ≡ file_limit (total d)
    go Open is = sym (line_settles (passed ++ ready w) more (d.limited.settled is))
    go Ended is = shut (λ e. let no : Ended ≡ Open = sym is ∙ e in cc)
    go Failed is = shut (λ e. let no : Failed ≡ Open = sym is ∙ e in cc)
    go TooLong is = shut (λ e. let no : TooLong ≡ Open = sym is ∙ e in cc)

pub drained_past : {gave given : Pass} {w w' : Window} {passed more : List ℕ} → Drained gave given w w' passed more → state_of w' ≡ TooLong → IsReadPastAllowed given file_limit
drained_past {gave} {given} {w} {w'} {passed} {more} d is =
    at_past given file_limit w' (total d) d.after (limit_is d ∙ ap file_limit (sym (all_given d))) is

pub drained_part : {gave given : Pass} {w w' : Window} {passed more : List ℕ} → Drained gave given w w' passed more → state_of w' ≡ Failed → IsReadInPart given file_limit
drained_part {gave} {given} {w} {w'} {passed} {more} d is =
    at_part given file_limit w' (total d) d.after (limit_is d ∙ ap file_limit (sym (all_given d))) is

pub drained_whole : {gave given : Pass} {w w' : Window} {passed more : List ℕ} → Drained gave given w w' passed more → state_of w' ≡ Ended →
    (bytes : List ℕ) × IsWhole given bytes × StandsIn bytes w passed
drained_whole {gave} {given} {w} {w'} {passed} {more} d is = (total d, record { read = read; within = within }, stands)
  where
    read : IsRead given (total d)
    read = subst (IsRead given) (all_given d) (at_whole given w' (total d) d.after is)

    within : length (total d) ≤ file_limit (total d)
    within = omega (arith, size d, limit_is d, w'.within (λ long. let no : Ended ≡ TooLong = sym is ∙ long in cc))

    end_of : (state : State) → state_of w ≡ state → IsStateOf (total d) w.limit w.fetched state
    end_of Open at = tt
    end_of Ended at =
        let none = nothing_more d (λ e. let no : Ended ≡ Open = sym at ∙ e in cc) in
        omega (arith, d.before.count, ap length none, length-append (passed ++ ready w) more)
    end_of Failed at = tt
    end_of TooLong at =
        let same = (d.still (λ e. let no : TooLong ≡ Open = sym at ∙ e in cc)).0 in
        absurd (let no : Ended ≡ TooLong = sym is ∙ same ∙ at in cc)

    stands : StandsIn (total d) w passed
    stands = record {
      front = ap (λ k. take k (total d)) d.before.count ∙ take-append_seam (passed ++ ready w) more;
      count = d.before.count;
      ends = end_of (state_of w) refl;
    }
