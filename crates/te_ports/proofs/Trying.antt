-- Calls that are made again after calls that a signal interrupted.
use Rattle.std.proofs.Common.{◌≡◌, ℕ, ◌<◌, List, [], ◌∷◌, ◌++◌, length, take, ap, ◌∙◌, subst, append-nil}
use Rattle.std.specs.Prelude.{Some, None, Ok, Err, MatchResult}
use Rattle.std.specs.declared.option.Option.{Option}
use Rattle.std.specs.declared.result.Result.{Result}
use Rattle.std.specs.Io.KnownBytes.{Keeps, WriteAppends}
use Rattle.te_ports.specs.declared.system.SystemFault.{SystemFault}
use Rattle.te_ports.specs.declared.system.SystemFault.TheVariants.{Interrupted}
use Rattle.te_ports.specs.Calls.{SystemCall, writes, read_into, bytes_read, read_by, reads_of, taken_by, taken_of}
use Rattle.te_ports.specs.Record.{read}
use Rattle.te_ports.specs.Trying.{IsCalled, IsTried, once, again, NotesRead, NotesWrite}
use Rattle.te_ports.proofs.Recording.{reads_more, taken_more, read_by_read, read_by_none}

-- a write after one that took nothing
pub appends_after_keeping : {E : Type 0} (old between new : Option (List ℕ)) (answer : Result ℕ E) (bytes : List ℕ) →
    Keeps old between → WriteAppends between new answer bytes → WriteAppends old new answer bytes
appends_after_keeping None between new (Ok n) bytes keeps appends = tt
appends_after_keeping None between new (Err e) bytes keeps appends = tt
appends_after_keeping (Some xs) None new answer bytes keeps appends = absurd keeps
appends_after_keeping (Some xs) (Some ys) new answer bytes keeps appends =
    subst (λ front. WriteAppends (Some front) new answer bytes) keeps appends

-- only the last of the calls is a read
reads_called : {S : Type 0} (calls : S → List SystemCall) (name : List ℕ) (at count : ℕ) (old new : S × List ℕ) (answer : Result ℕ SystemFault) →
    IsCalled (NotesRead calls name at) count old answer new →
    reads_of (calls new.0) ≡ reads_of (calls old.0) ++ read_by (read_into name at answer new.1)
reads_called calls name at _ _ _ _ (once count old new answer one is) = reads_more (calls old.0) (calls new.0) (read_into name at answer new.1) is
reads_called calls name at _ _ _ _ (again count fewer old between new last more called is) =
    reads_more (calls between.0) (calls new.0) (read_into name at last new.1) is
    ∙ ap (λ front. front ++ read_by (read_into name at last new.1))
    (reads_called calls name at fewer old between (Err Interrupted) called ∙ append-nil (reads_of (calls old.0)))

pub reads_tried : {S : Type 0} (calls : S → List SystemCall) (name : List ℕ) (at : ℕ) (old new : S × List ℕ) (answer : Result ℕ SystemFault) →
    IsTried (NotesRead calls name at) old answer new →
    reads_of (calls new.0) ≡ reads_of (calls old.0) ++ read_by (read_into name at answer new.1)
reads_tried calls name at old new answer tried = reads_called calls name at tried.count old new answer tried.calls

-- and takes bytes
taken_called : {S : Type 0} (calls : S → List SystemCall) (bytes : List ℕ) (count : ℕ) (old new : S) (answer : Result ℕ SystemFault) →
    IsCalled (NotesWrite calls bytes) count old answer new → taken_of (calls new) ≡ taken_of (calls old) ++ taken_by (writes bytes answer)
taken_called calls bytes _ _ _ _ (once count old new answer one is) = taken_more (calls old) (calls new) (writes bytes answer) is
taken_called calls bytes _ _ _ _ (again count fewer old between new last more called is) =
    taken_more (calls between) (calls new) (writes bytes last) is
    ∙ ap (λ front. front ++ taken_by (writes bytes last))
    (taken_called calls bytes fewer old between (Err Interrupted) called ∙ append-nil (taken_of (calls old)))

pub taken_tried : {S : Type 0} (calls : S → List SystemCall) (bytes : List ℕ) (old new : S) (answer : Result ℕ SystemFault) →
    IsTried (NotesWrite calls bytes) old answer new → taken_of (calls new) ≡ taken_of (calls old) ++ taken_by (writes bytes answer)
taken_tried calls bytes old new answer tried = taken_called calls bytes tried.count old new answer tried.calls

-- so a read that was tried gave this, or nothing
pub tried_read : {S : Type 0} (calls : S → List SystemCall) (name : List ℕ) (at n : ℕ) (old new : S) (before buf : List ℕ) →
    IsTried (NotesRead calls name at) (old, before) (Ok n) (new, buf) → 0 < length buf →
    reads_of (calls new) ≡ reads_of (calls old) ++ read name at (take n buf) ∷ []
tried_read calls name at n old new before buf tried some =
    reads_tried calls name at (old, before) (new, buf) (Ok n) tried
    ∙ ap (λ last. reads_of (calls old) ++ last) (read_by_read name at (length buf) (take n buf) some)

pub tried_no_room : {S : Type 0} (calls : S → List SystemCall) (name : List ℕ) (at : ℕ) (old new : S) (before buf : List ℕ) (answer : Result ℕ SystemFault) →
    IsTried (NotesRead calls name at) (old, before) answer (new, buf) → length buf ≡ 0 → reads_of (calls new) ≡ reads_of (calls old)
tried_no_room calls name at old new before buf answer tried none =
    reads_tried calls name at (old, before) (new, buf) answer tried
    ∙ ap (λ last. reads_of (calls old) ++ last) (read_by_none name at (length buf) (bytes_read answer buf) none) ∙ append-nil (reads_of (calls old))

pub tried_unread : {S : Type 0} (calls : S → List SystemCall) (name : List ℕ) (at : ℕ) (old new : S) (before buf : List ℕ) (fault : SystemFault) →
    IsTried (NotesRead calls name at) (old, before) (Err fault) (new, buf) → reads_of (calls new) ≡ reads_of (calls old)
tried_unread calls name at old new before buf fault tried =
    reads_tried calls name at (old, before) (new, buf) (Err fault) tried ∙ append-nil (reads_of (calls old))

pub tried_taken : {S : Type 0} (calls : S → List SystemCall) (bytes : List ℕ) (n : ℕ) (old new : S) → IsTried (NotesWrite calls bytes) old (Ok n) new →
    taken_of (calls new) ≡ taken_of (calls old) ++ take n bytes
tried_taken calls bytes n old new tried = taken_tried calls bytes old new (Ok n) tried

-- a write that failed took nothing
pub tried_none : {S : Type 0} (calls : S → List SystemCall) (bytes : List ℕ) (answer : Result ℕ SystemFault) (old new : S) →
    IsTried (NotesWrite calls bytes) old answer new → MatchResult answer (λ n. n ≡ 0) (λ _. Unit {0}) → taken_of (calls new) ≡ taken_of (calls old)
tried_none calls bytes (Ok n) old new tried none =
    tried_taken calls bytes n old new tried ∙ ap (λ k. taken_of (calls old) ++ take k bytes) none ∙ append-nil (taken_of (calls old))
tried_none calls bytes (Err fault) old new tried none = taken_tried calls bytes old new (Err fault) tried ∙ append-nil (taken_of (calls old))
