-- Files of lines: where bytes leave all files of a set.
use Rattle.std.proofs.Common.{◌≡◌, ℕ, zero, suc, ◌+◌, ◌-◌, ◌≤◌, ◌<◌, Bool, true, false, cond, List, [], ◌∷◌, ◌++◌, length, refl, sym, ap, subst, ◌∙◌, eqb, arith, append_assoc, ◌⊎◌, inl, inr}
use Rattle.std.proofs.lemmas.Bool.{cases_lt}
use Rattle.std.proofs.lemmas.List.{append-nil}
use Rattle.std.proofs.lemmas.List.Concat.{flat_map-append}
use Rattle.std.specs.List.{AllByRecursion}
use Rattle.te_model.specs.Faults.{line_ends, BeginsOne, LeavesAt}
use Rattle.cert_text.proofs.Completable.{ends_append}
use Rattle.number_tables.specs.Table.{file_of}
use Rattle.number_tables.specs.Leaving.{LeavesAfter}

-- no line feed stands in the line
abbrev pub IsOneLine : List ℕ → Type 0
IsOneLine l = line_ends l ≡ 0

abbrev pub AreOneLine : List (List ℕ) → Type 0
AreOneLine ls = AllByRecursion IsOneLine ls

one_line_byte : (b : ℕ) (bs : List ℕ) → IsOneLine (b ∷ bs) → (eqb b 10 ≡ false) × IsOneLine bs
one_line_byte b bs one = chosen (eqb b 10) one
  where
    chosen : (t : Bool) → cond t (suc (line_ends bs)) (line_ends bs) ≡ 0 → (t ≡ false) × IsOneLine bs
    chosen true e = absurd (omega arith)
    chosen false e = (refl, e)

no_line_feed : (bs : List ℕ) → IsOneLine (10 ∷ bs) → ⊥
no_line_feed bs one = omega (arith, one)

pub first_same : {X : Type 0} (b c : X) (xs ys : List X) → (b ∷ xs) ≡ (c ∷ ys) → (b ≡ c) × (xs ≡ ys)
first_same b c xs ys e = (cc, cc)

-- the first line of bytes is one
pub one_first_line : (l m x y : List ℕ) → IsOneLine l → IsOneLine m → l ++ 10 ∷ x ≡ m ++ 10 ∷ y → (l ≡ m) × (x ≡ y)
one_first_line [] [] x y ol om e = (refl, (first_same 10 10 x y e).1)
one_first_line [] (c ∷ m) x y ol om e =
    let f = first_same 10 c x (m ++ 10 ∷ y) e in
    absurd (no_line_feed m (subst (λ (b : ℕ). IsOneLine (b ∷ m)) (sym f.0) om))
one_first_line (b ∷ l) [] x y ol om e =
    let f = first_same b 10 (l ++ 10 ∷ x) y e in
    absurd (no_line_feed l (subst (λ (c : ℕ). IsOneLine (c ∷ l)) f.0 ol))
one_first_line (b ∷ l) (c ∷ m) x y ol om e =
    let f = first_same b c (l ++ 10 ∷ x) (m ++ 10 ∷ y) e in
    let rest = one_first_line l m x y (one_line_byte b l ol).1 (one_line_byte c m om).1 f.1 in
    (rw (f.0, rest.0) refl, rest.1)

pub file_cons : (l : List ℕ) (ls : List (List ℕ)) (s : List ℕ) → file_of (l ∷ ls) ++ s ≡ l ++ 10 ∷ (file_of ls ++ s)
file_cons l ls s = simp append_assoc

same_cons : (l m : List ℕ) (ls ms more : List (List ℕ)) → l ≡ m → ms ≡ ls ++ more → (m ∷ ms) ≡ l ∷ (ls ++ more)
same_cons l m ls ms more e f = ap (λ (x : List ℕ). x ∷ ms) (sym e) ∙ ap (λ (x : List (List ℕ)). l ∷ x) f

-- where a file of lines goes on as one of at least as many does, it is the first lines of it
pub lines_after : (front all : List (List ℕ)) (s t : List ℕ) → AreOneLine front → AreOneLine all → file_of front ++ s ≡ file_of all ++ t → length front ≤ length all
    → (more : List (List ℕ)) × (all ≡ front ++ more) × (s ≡ file_of more ++ t)
lines_after [] all s t of oa e le = (all, refl, e)
lines_after (l ∷ ls) [] s t of oa e le = absurd (omega arith)
lines_after (l ∷ ls) (m ∷ ms) s t of oa e le =
    let first = one_first_line l m (file_of ls ++ s) (file_of ms ++ t) of.0 oa.0 (sym (file_cons l ls s) ∙ e ∙ file_cons m ms t) in
    let rest = lines_after ls ms s t of.1 oa.1 first.1 (omega (arith, le)) in
    (rest.0, same_cons l m ls ms rest.0 first.0 rest.1, rest.2)

-- bytes with which a line and more begin end in the line, or have all of it
line_in_front : (l front s b : List ℕ) → IsOneLine l → l ++ 10 ∷ s ≡ front ++ b
    → (line_ends front ≡ 0) ⊎ ((more : List ℕ) × (front ≡ l ++ 10 ∷ more) × (s ≡ more ++ b))
line_in_front [] [] s b one e = inl refl
line_in_front [] (f ∷ fs) s b one e =
    let h = first_same 10 f s (fs ++ b) e in
    inr (fs, ap (λ (c : ℕ). c ∷ fs) (sym h.0), h.1)
line_in_front (c ∷ l) [] s b one e = inl refl
line_in_front (c ∷ l) (f ∷ fs) s b one e =
    let h = first_same c f (l ++ 10 ∷ s) (fs ++ b) e in
    let o = one_line_byte c l one in
    let other : eqb f 10 ≡ false = subst (λ (x : ℕ). eqb x 10 ≡ false) h.0 o.0 in
    elim (line_in_front l fs s b o.1 h.1) [
      | inl none ↦ inl (rw other none)
      | inr found ↦ inr (found.0, rw (found.1, h.0) refl, found.2)
    ]

ended_more : (l front more : List ℕ) → IsOneLine l → front ≡ l ++ 10 ∷ more → line_ends front ≡ suc (line_ends more)
ended_more l front more one e =
    let ends : line_ends front ≡ line_ends l + suc (line_ends more) = ap line_ends e ∙ ends_append l (10 ∷ more) in
    omega (arith, ends, one)

-- bytes with which a file of lines begins are some of its lines, and a part of the next
pub lines_in_front : (all : List (List ℕ)) (front b : List ℕ) → AreOneLine all → file_of all ≡ front ++ b
    → (some : List (List ℕ)) × (others : List (List ℕ)) × (part : List ℕ) × (all ≡ some ++ others) × (length some ≡ line_ends front) × (front ≡ file_of some ++ part)
lines_in_front [] [] b one e = ([], [], [], refl, refl, refl)
lines_in_front [] (f ∷ fs) b one e = absurd cc
lines_in_front (l ∷ ls) front b one e =
    elim (line_in_front l front (file_of ls) b one.0 (sym (append_assoc l (10 ∷ []) (file_of ls)) ∙ e)) [
      | inl none ↦ ([], l ∷ ls, front, refl, sym none, refl)
      | inr found ↦
          let rest = lines_in_front ls found.0 b one.1 found.2 in
          let ends : line_ends front ≡ suc (line_ends found.0) = ended_more l front found.0 one.0 found.1 in (
            l ∷ rest.0,
            rest.1,
            rest.2,
            ap (λ (x : List (List ℕ)). l ∷ x) rest.3,
            ap suc rest.4 ∙ sym ends,
            found.1 ∙ ap (λ (x : List ℕ). l ++ 10 ∷ x) rest.5 ∙ sym (file_cons l rest.0 rest.2),
          )
    ]

pub file_ends : (ls : List (List ℕ)) → AreOneLine ls → line_ends (file_of ls) ≡ length ls
file_ends [] one = refl
file_ends (l ∷ ls) one =
    let ends : line_ends (file_of (l ∷ ls)) ≡ suc (line_ends (file_of ls)) = ended_more l (file_of (l ∷ ls)) (file_of ls) one.0 (append_assoc l (10 ∷ []) (file_of ls)) in
    let more = file_ends ls one.1 in
    omega (arith, ends, more)

pub first_part : (xs ys : List (List ℕ)) → AreOneLine (xs ++ ys) → AreOneLine xs
first_part [] ys one = tt
first_part (x ∷ xs) ys one = (one.0, first_part xs ys one.1)

nothing_ended : (l : List ℕ) (s : List ℕ) → [] ≡ l ++ 10 ∷ s → ⊥
nothing_ended [] s e = cc
nothing_ended (b ∷ l) s e = cc

pub none_left : (more : List (List ℕ)) (rest : List ℕ) → [] ≡ file_of more ++ rest → (more ≡ []) × (rest ≡ [])
none_left [] rest e = (refl, sym e)
none_left (l ∷ ls) rest e = absurd (nothing_ended l (file_of ls ++ rest) (e ∙ file_cons l ls rest))

module _ {X : Type 0} (IsOne : X → Type 0) (lines_of : X → List (List ℕ)) (one_lines : (x : X) → IsOne x → AreOneLine (lines_of x)) where
  -- where the lines after front are some more, the bytes that are left are not these
  goes_wrong : (bytes : List ℕ) (front : List (List ℕ)) (leaves : LeavesAfter IsOne lines_of bytes front) (x : X) → IsOne x → (more others : List (List ℕ)) (t : List ℕ)
      → lines_of x ≡ (front ++ more) ++ others → 0 < length more → leaves.rest ≡ file_of more ++ t → ⊥
  goes_wrong bytes front leaves x is [] others t e some r = absurd (omega arith)
  goes_wrong bytes front leaves x is (l ∷ ls) others t e some r =
      leaves.stuck x is l (ls ++ others) (file_of ls ++ t) (e ∙ append_assoc front (l ∷ ls) others) (r ∙ file_cons l ls t)

  longer_part : (front more some : List (List ℕ)) → some ≡ front ++ more → length front < length some → 0 < length more
  longer_part front [] some e lt = absurd (let n : some ≡ front = e ∙ append-nil front in let k : length some ≡ length front = ap length n in omega (arith, lt, k))
  longer_part front (m ∷ more) some e lt = omega arith

  not_begun : (bytes : List ℕ) (front : List (List ℕ)) → LeavesAfter IsOne lines_of bytes front → AreOneLine front → ¬ BeginsOne IsOne (λ x. file_of (lines_of x)) (1 + length front) bytes
  not_begun bytes front leaves one begins =
      let x = begins.0 in
      let s = begins.2 in
      let all = one_lines x begins.1 in
      let found = lines_in_front (lines_of x) s.0 s.2 all s.4 in
      let some = found.4 in
      let ended = s.5 in
      let count : length found.0 ≡ suc (length front) = omega (arith, some, ended) in
      let same : file_of front ++ leaves.rest ≡ file_of found.0 ++ (found.2 ++ s.1) =
      sym leaves.parts ∙ s.3 ∙ ap (λ (y : List ℕ). y ++ s.1) found.5 ∙ append_assoc (file_of found.0) found.2 s.1 in
      let after = lines_after front found.0 leaves.rest (found.2 ++ s.1) one (first_part found.0 found.1 (subst AreOneLine found.3 all)) same (omega (arith, count)) in
      goes_wrong bytes front leaves x begins.1 after.0 found.1 (found.2 ++ s.1) (found.3 ∙ ap (λ (y : List (List ℕ)). y ++ found.1) after.1)
      (longer_part front after.0 found.0 after.1 (omega (arith, count))) after.2

  not_whole : (bytes : List ℕ) (front : List (List ℕ)) → LeavesAfter IsOne lines_of bytes front → AreOneLine front → (x : X) → IsOne x → ¬ (bytes ≡ file_of (lines_of x))
  not_whole bytes front leaves one x is whole =
      let all = one_lines x is in
      let same : file_of front ++ leaves.rest ≡ file_of (lines_of x) ++ [] = sym leaves.parts ∙ whole ∙ sym (append-nil (file_of (lines_of x))) in
      elim (cases_lt (length front) (length (lines_of x))) [
        | inl lt ↦
            let after = lines_after front (lines_of x) leaves.rest [] one all same (omega (arith, lt)) in
            goes_wrong bytes front leaves x is after.0 [] [] (after.1 ∙ sym (append-nil (front ++ after.0))) (longer_part front after.0 (lines_of x) after.1 lt) after.2
        | inr ge ↦
            let after = lines_after (lines_of x) front [] leaves.rest all one (sym same) ge in
            let none = none_left after.0 leaves.rest after.2 in
            leaves.unended x is (sym (append-nil (lines_of x)) ∙ ap (λ (y : List (List ℕ)). lines_of x ++ y) (sym none.0) ∙ sym after.1) none.1
      ]

  -- the line after front is the first at which the bytes leave the files
  pub leaves_at : (bytes : List ℕ) (front : List (List ℕ)) → LeavesAfter IsOne lines_of bytes front → LeavesAt IsOne (λ x. file_of (lines_of x)) bytes (1 + length front)
  leaves_at bytes front leaves =
      let b = leaves.begun in
      let one = first_part front b.2 (subst AreOneLine b.3 (one_lines b.0 b.1)) in
      record {
        counted = omega arith;
        no_file = not_whole bytes front leaves one;
        before = (b.0, b.1, (file_of front, leaves.rest, file_of b.2, leaves.parts, ap file_of b.3 ∙ flat_map-append (λ (l : List ℕ). l ++ 10 ∷ []) front b.2, let ends = file_ends front one in omega (arith, ends)));
        leaves = not_begun bytes front leaves one;
      }
