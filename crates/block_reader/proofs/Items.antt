-- An item that is read over the bytes that stand ready is read so over the content.
use Rattle.std.proofs.Common.{◌≡◌, ◌∙◌, ℕ, ◌≤◌, List, [], ◌++◌, length, drop, Result, Ok, Err, sym, ap, subst, inl, inr, append_assoc, append-nil}
use Rattle.std.specs.Prelude.{◌⊎◌}
use Rattle.std.proofs.Math.Seq.{drop-append_seam}
use Rattle.std.proofs.lemmas.List.{drop_all, take-append-drop}
use Rattle.cert_text.specs.Place.{Place, place}
use Rattle.block_reader.specs.declared.window.Window.{Window}
use Rattle.block_reader.specs.declared.window.State.TheVariants.{Ended}
use Rattle.block_reader.specs.Standing.{ready, fetched_of, state_of, IsStateOf, StandsIn}
use Rattle.block_reader.specs.Ahead.{longer, IsAhead}
use Rattle.block_reader.proofs.Ahead.{longer_by_none}

-- what follows the passed bytes: those that stand ready, and those that were not fetched yet
pub left_is : (content : List ℕ) (w : Window) (passed : List ℕ) → StandsIn content w passed →
    drop (length passed) content ≡ ready w ++ drop (fetched_of w) content
left_is content w passed s =
    let whole : content ≡ passed ++ (ready w ++ drop (fetched_of w) content) =
    sym (take-append-drop (fetched_of w) content) ∙ ap (λ f. f ++ drop (fetched_of w) content) s.front
    ∙ append_assoc passed (ready w) (drop (fetched_of w) content) in
    ap (drop (length passed)) whole ∙ drop-append_seam passed (ready w ++ drop (fetched_of w) content)

-- where the file ended, nothing is left to be fetched
pub none_left : (content : List ℕ) (w : Window) (passed : List ℕ) → StandsIn content w passed → state_of w ≡ Ended → drop (fetched_of w) content ≡ []
none_left content w passed s is = drop_all (fetched_of w) content (subst (IsStateOf content w.limit w.fetched) is s.ends)

-- as many bytes stand ready as reading looks at, or all that are left
pub reads_so : {X : Type 0} (n k : ℕ) (f : Place → Result (X × Place) ℕ) (content : List ℕ) (w : Window) (passed : List ℕ) → IsAhead n f →
    StandsIn content w passed → (state_of w ≡ Ended) ⊎ (n ≤ length (ready w)) →
    f (place k (drop (length passed) content)) ≡ longer (drop (fetched_of w) content) (f (place k (ready w)))
reads_so n k f content w passed ahead s (inl is) =
    let none = none_left content w passed s is in
    ap (λ r. f (place k r)) (left_is content w passed s ∙ ap (λ r. ready w ++ r) none ∙ append-nil (ready w))
    ∙ sym (ap (λ r. longer r (f (place k (ready w)))) none ∙ longer_by_none (f (place k (ready w))))
reads_so n k f content w passed ahead s (inr room) =
    ap (λ r. f (place k r)) (left_is content w passed s) ∙ ahead.same k (ready w) (drop (fetched_of w) content) room

pub read_in : {X : Type 0} (n k : ℕ) (f : Place → Result (X × Place) ℕ) (content : List ℕ) (w : Window) (passed : List ℕ) (x : X) (q : Place) →
    IsAhead n f → StandsIn content w passed → (state_of w ≡ Ended) ⊎ (n ≤ length (ready w)) → f (place k (ready w)) ≡ Ok (x, q) →
    f (place k (drop (length passed) content)) ≡ Ok (x, place q.line (q.rest ++ drop (fetched_of w) content))
read_in n k f content w passed x q ahead s enough read =
    reads_so n k f content w passed ahead s enough ∙ ap (longer (drop (fetched_of w) content)) read

pub stops_in : {X : Type 0} (n k e : ℕ) (f : Place → Result (X × Place) ℕ) (content : List ℕ) (w : Window) (passed : List ℕ) →
    IsAhead n f → StandsIn content w passed → (state_of w ≡ Ended) ⊎ (n ≤ length (ready w)) → f (place k (ready w)) ≡ Err e →
    f (place k (drop (length passed) content)) ≡ Err e
stops_in n k e f content w passed ahead s enough stops =
    reads_so n k f content w passed ahead s enough ∙ ap (longer (drop (fetched_of w) content)) stops
