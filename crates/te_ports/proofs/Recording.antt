-- What is on record after one more call, of a port and of the log that it keeps.
use Rattle.std.proofs.Common.{◌≡◌, ℕ, ◌<◌, List, [], ◌∷◌, ◌++◌, true, false, refl, sym, ap, ◌∙◌, subst, append-nil, arith}
use Rattle.std.specs.Prelude.{OnOk, Ok, Err, Result, cond, ◌==◌}
use Rattle.std.specs.Result.{is_ok}
use Rattle.std.specs.Bool.{MatchBool}
use Rattle.std.proofs.lemmas.Grind.{flat_map-append}
use Rattle.te_ports.specs.declared.system.SystemFault.{SystemFault}
use Rattle.te_ports.specs.Calls.{SystemCall, reads, read_by, reads_of, taken_by, taken_of}
use Rattle.te_ports.specs.Record.{read}

-- one call more
pub reads_more : (old new : List SystemCall) (call : SystemCall) → new ≡ old ++ call ∷ [] → reads_of new ≡ reads_of old ++ read_by call
reads_more old new call is =
    ap reads_of is ∙ flat_map-append read_by old (call ∷ []) ∙ ap (λ last. reads_of old ++ last) (append-nil (read_by call))

pub taken_more : (old new : List SystemCall) (call : SystemCall) → new ≡ old ++ call ∷ [] → taken_of new ≡ taken_of old ++ taken_by call
taken_more old new call is =
    ap taken_of is ∙ flat_map-append taken_by old (call ∷ []) ∙ ap (λ last. taken_of old ++ last) (append-nil (taken_by call))

-- a read with room for a byte, and one without
room_is : (room : ℕ) → 0 < room → (room == 0) ≡ false
room_is room some = grind arith

no_room_is : (room : ℕ) → room ≡ 0 → (room == 0) ≡ true
no_room_is room none = grind arith

pub read_by_read : (name : List ℕ) (at room : ℕ) (bytes : List ℕ) → 0 < room → read_by (reads name at room (Ok bytes)) ≡ read name at bytes ∷ []
read_by_read name at room bytes some = ap (λ b. cond b [] (read name at bytes ∷ [])) (room_is room some)

pub read_by_none : (name : List ℕ) (at room : ℕ) (answer : Result (List ℕ) SystemFault) → room ≡ 0 → read_by (reads name at room answer) ≡ []
read_by_none name at room (Ok bytes) none = ap (λ b. cond b [] (read name at bytes ∷ [])) (no_room_is room none)
read_by_none name at room (Err fault) none = refl

-- a read that gave these bytes was noted
pub noted_read : (old new : List SystemCall) (name : List ℕ) (at room : ℕ) (bytes : List ℕ) → new ≡ old ++ reads name at room (Ok bytes) ∷ [] → 0 < room →
    reads_of new ≡ reads_of old ++ read name at bytes ∷ []
noted_read old new name at room bytes is some =
    reads_more old new (reads name at room (Ok bytes)) is ∙ ap (λ last. reads_of old ++ last) (read_by_read name at room bytes some)

pub noted_none : (old new : List SystemCall) (name : List ℕ) (at room : ℕ) (answer : Result (List ℕ) SystemFault) → new ≡ old ++ reads name at room answer ∷ [] →
    room ≡ 0 → reads_of new ≡ reads_of old
noted_none old new name at room answer is none =
    reads_more old new (reads name at room answer) is ∙ ap (λ last. reads_of old ++ last) (read_by_none name at room answer none) ∙ append-nil (reads_of old)

pub noted_of_ok : {T E : Type 0} {P : Type 0} (result : Result T E) → is_ok result ≡ true → OnOk result P → P
noted_of_ok (Ok value) is noted = noted
noted_of_ok (Err error) is noted = absurd (subst (λ b. MatchBool b (Unit {0}) ⊥) (sym is) tt)
