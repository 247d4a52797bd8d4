-- The last line of a file, read over the bytes that stand ready.
use Rattle.std.proofs.Common.{◌≡◌, ◌∙◌, ℕ, ◌≤◌, cond, List, [], ◌∷◌, ◌++◌, length, drop, Result, Ok, Err, sym, ap, subst, inl, inr, arith, eqb}
use Rattle.te_ports.specs.Record.{Pass}
use Rattle.std.specs.Prelude.{codes, OnOk, if◌then◌else◌, ◌==◌}
use Rattle.std.proofs.Math.Seq.{drop-append_seam}
use Rattle.std.proofs.lemmas.Bool.{eqb-true}
use Rattle.std.proofs.lemmas.List.{take_all, nil_from_length}
use Rattle.cert_text.specs.declared.fault.Stop.{Stop}
use Rattle.cert_text.specs.Place.{Place, place, Passes, ◌>>=◌}
use Rattle.cert_text.specs.Reading.{read_word, read_line_end}
use Rattle.cert_text.specs.Grammar.{read_closing}
use Rattle.cert_text.proofs.Decimals.{bind_ok, where_ok}
use Rattle.cert_text.proofs.Tokens.{word_takes, line_end_takes}
use Rattle.block_reader.specs.declared.lines.Lines.{Lines}
use Rattle.block_reader.specs.declared.window.Window.{Window}
use Rattle.block_reader.specs.declared.window.State.TheVariants.{Ended, TooLong}
use Rattle.block_reader.specs.Standing.{ready, fetched_of, state_of, IsStateOf, StandsAt, StandsIn}
use Rattle.block_reader.specs.Answers.{place_of, HasLimit, IsBehind, HasEnough, IsWhole, IsClosed}
use Rattle.block_reader.specs.Ahead.{with_no_value}
use Rattle.block_reader.proofs.Going.{at_whole}

-- the bytes of the last line, and no others
closing_is : (p q : Place) → read_closing p ≡ Ok q → p.rest ≡ codes "end" ++ 10 ∷ []
unfolding read_closing
closing_is p q e =
    let a = bind_ok (read_word (codes "end") p) (λ a. read_line_end a >>= λ e. cond (eqb (length e.rest) 0) (Ok e) (Err e.line)) q e in
    let b = bind_ok (read_line_end a.0) (λ e. cond (eqb (length e.rest) 0) (Ok e) (Err e.line)) q a.2 in
    let c = where_ok (eqb (length b.0.rest) 0) b.0.line b.0 q b.2 in
    word_takes (codes "end") p a.0 a.1
    ∙ ap (λ (r : List ℕ). codes "end" ++ r) (line_end_takes a.0 b.0 b.1 ∙ ap (λ (r : List ℕ). 10 ∷ r) (nil_from_length b.0.rest (eqb-true (length b.0.rest) 0 c.0)))

-- its word, the end of the line, and nothing behind it
pub closes_after : (k j : ℕ) (s t : List ℕ) (a b : Place) (r : Result (Unit {0}) Stop) (after : Place) → k ≡ j → s ≡ t → read_word (codes "end") (place k s) ≡ Ok a → read_line_end a ≡ Ok b →
    Passes r after (if length b.rest == 0 then Ok b else Err b.line) → OnOk r ((end : Place) × (read_closing (place j t) ≡ Ok end))
unfolding read_closing
closes_after k j s t a b (Ok u) after line rest word ends none = (
  after,
  ap (λ i. read_closing (place i t)) (sym line) ∙ ap (λ c. read_closing (place k c)) (sym rest)
      ∙ ap (λ (r : Result Place ℕ). r >>= λ a. read_line_end a >>= λ e. if length e.rest == 0 then Ok e else Err e.line) word
      ∙ ap (λ (r : Result Place ℕ). r >>= λ e. if length e.rest == 0 then Ok e else Err e.line) ends ∙ none,
)
closes_after k j s t a b (Err e) after line rest word ends none = tt

-- where the file ended, reads gave what was passed and what stands ready, and no more
pub ended_whole : (given : Pass) (w : Window) (passed : List ℕ) → StandsAt given w passed → HasLimit w passed → state_of w ≡ Ended →
    IsWhole given (passed ++ ready w) × StandsIn (passed ++ ready w) w passed
ended_whole given w passed at limited is =
    let short : length (passed ++ ready w) ≤ fetched_of w = omega (arith, at.count) in (
      record {
        read = at_whole given w passed at is;
        within = omega (arith, at.count, limited.limit, w.within (λ long. let no : Ended ≡ TooLong = sym is ∙ long in cc));
      },
      record {
        front = take_all (fetched_of w) (passed ++ ready w) short;
        count = at.count;
        ends = subst (IsStateOf (passed ++ ready w) w.limit w.fetched) (sym is) short;
      },
    )

pub closes : (gave given : Pass) (old filled : Lines) (end : Place) → ((passed : List ℕ) → IsBehind gave old passed → IsBehind given filled passed) →
    ((passed : List ℕ) → IsBehind gave old passed → (content : List ℕ) → StandsIn content filled.window passed → StandsIn content old.window passed) →
    HasEnough filled.window 5 → filled.line ≡ old.line → read_closing (place_of filled) ≡ Ok end → (passed : List ℕ) → IsBehind gave old passed → IsClosed given old passed
closes gave given old filled end behind stood (inr many) line read passed b =
    let four : length (ready filled.window) ≡ 4 = ap length (closing_is (place_of filled) end read) in
    absurd (omega (arith, many, four))
closes gave given old filled end behind stood (inl ended) line read passed b =
    let now = behind passed b in
    let all = ended_whole given filled.window passed now.stands now.limited ended in record {
      bytes = passed ++ ready filled.window;
      whole = all.0;
      stood = stood passed b (passed ++ ready filled.window) all.1;
      end = end;
      closes = ap (λ k. read_closing (place k (drop (length passed) (passed ++ ready filled.window)))) (sym line)
          ∙ ap (λ s. read_closing (place filled.line s)) (drop-append_seam passed (ready filled.window)) ∙ read;
    }

-- where the last line stops, so does a step that reads no value
pub closing_stops : (p : Place) (line : ℕ) → read_closing p ≡ Err line → with_no_value read_closing p ≡ Err line
closing_stops p line stops = ap (λ (r : Result Place ℕ). r >>= λ q. Ok (tt, q)) stops
