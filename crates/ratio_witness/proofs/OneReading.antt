-- Bytes have one reading as the file of a witness.
use Rattle.std.proofs.Common.{◌≡◌, ℕ, zero, suc, ◌+◌, ◌^◌, true, ◌&&◌, List, [], ◌∷◌, ◌++◌, length, map, Option, Some, None, refl, ap, sym, ◌∙◌, subst, arith, ◌⊎◌, inl, inr, slice_index, nat_le}
use Rattle.std.specs.Prelude.{codes}
use Rattle.std.specs.List.{flat_map, list_all}
use Rattle.std.proofs.lemmas.Bool.{and_from, and_parts, eqb-true, le-leb, lt-ltb}
use Rattle.te_model.specs.declared.certificate.Head.{Head}
use Rattle.te_model.specs.declared.certificate.RuleFault.{RuleFault}
use Rattle.te_model.specs.declared.limits.TheConstants.{FORMAT_2}
use Rattle.te_model.specs.declared.route.PathShare.{PathShare}
use Rattle.te_model.specs.Shape.{are_words, is_count, is_shaped_path, is_word}
use Rattle.cert_text.specs.Fits.{AreWords}
use Rattle.number_tables.specs.declared.line.NumLine.{NumLine}
use Rattle.number_tables.specs.Due.{Due, AreDue, AreFile, has_count, word_line, LeavesSmallFiles}
use Rattle.number_tables.specs.Table.{AreLines, IsLine, table_text}
use Rattle.number_tables.proofs.EachFile.{small_file_or_fault}
use Rattle.number_tables.proofs.FirstUndue.{one_small_fault}
use Rattle.ratio_witness.specs.declared.witness.Witness.{Witness}
use Rattle.ratio_witness.specs.Rules.{witness_fault}
use Rattle.ratio_witness.specs.Text.{are_shaped_paths, is_path_count, is_path_line, is_shaped_witness, pair_lines, pairs_due, paths_due, share_line, witness_due, witness_first, witness_lines, witness_text, IsWitnessOf, IsWitnessRuleFault}
use Rattle.ratio_witness.proofs.Ending.{witness_can, witness_file}
use Rattle.ratio_witness.proofs.OneWitness.{one_witness}
use Rattle.ratio_witness.proofs.SpelledLines.{shaped_all, two_numbers}
use Rattle.ratio_witness.proofs.TakenLines.{one_number}
use Rattle.cert_text.proofs.Shaped.{test_words}

-- the bytes are the file of this witness of the head
abbrev pub SpellsOf : Head → List ℕ → Witness → Type 0
SpellsOf h bytes w = IsWitnessOf h w × (bytes ≡ witness_text w)

-- they leave the files of witnesses of the head at this line
abbrev pub IsShapeFaultOf : Head → List ℕ → ℕ → Type 0
IsShapeFaultOf h bytes k = LeavesSmallFiles witness_first (witness_due (length h.routes)) bytes k

-- ---- two readings are one

one_spelled : (h : Head) (bytes : List ℕ) (w v : Witness) → is_shaped_witness (length h.routes) w ≡ true → is_shaped_witness (length h.routes) v ≡ true →
    bytes ≡ witness_text w → bytes ≡ witness_text v → w ≡ v
one_spelled h bytes w v shaped also same other = one_witness (length h.routes) w v shaped also (sym same ∙ other)

pub one_spelling : (h : Head) (bytes : List ℕ) (w v : Witness) → SpellsOf h bytes w → SpellsOf h bytes v → w ≡ v
one_spelling h bytes w v p q = one_spelled h bytes w v p.0.shaped q.0.shaped p.1 q.1

pub one_shape_fault : (h : Head) (bytes : List ℕ) (j k : ℕ) → IsShapeFaultOf h bytes j → IsShapeFaultOf h bytes k → j ≡ k
one_shape_fault h bytes j k p q = (one_small_fault witness_first (witness_due (length h.routes)) bytes).0 j k p q

pub one_rule_fault : (h : Head) (bytes : List ℕ) (f g : RuleFault) → IsWitnessRuleFault h bytes f → IsWitnessRuleFault h bytes g → f ≡ g
one_rule_fault h bytes f g p q =
    let same = one_spelled h bytes p.spelled q.spelled p.shaped q.shaped p.file q.file in
    let both : Some f ≡ Some g = sym p.first ∙ ap (witness_fault h) same ∙ q.first in
    cc

-- what can be written leaves the files nowhere
shaped_or_not : (h : Head) (bytes : List ℕ) (w : Witness) (k : ℕ) → is_shaped_witness (length h.routes) w ≡ true → bytes ≡ witness_text w →
    IsShapeFaultOf h bytes k → ⊥
shaped_or_not h bytes w k shaped same fault =
    (one_small_fault witness_first (witness_due (length h.routes)) bytes).1 (witness_lines w) (witness_file (length h.routes) w shaped) same k fault

pub spelled_or_shaped : (h : Head) (bytes : List ℕ) (w : Witness) (k : ℕ) → SpellsOf h bytes w → IsShapeFaultOf h bytes k → ⊥
spelled_or_shaped h bytes w k p fault = shaped_or_not h bytes w k p.0.shaped p.1 fault

pub ruled_or_shaped : (h : Head) (bytes : List ℕ) (f : RuleFault) (k : ℕ) → IsWitnessRuleFault h bytes f → IsShapeFaultOf h bytes k → ⊥
ruled_or_shaped h bytes f k p fault = shaped_or_not h bytes p.spelled k p.shaped p.file fault

pub spelled_or_ruled : (h : Head) (bytes : List ℕ) (w : Witness) (f : RuleFault) → SpellsOf h bytes w → IsWitnessRuleFault h bytes f → ⊥
spelled_or_ruled h bytes w f p q =
    let same = one_spelled h bytes w q.spelled p.0.shaped q.shaped p.1 q.file in
    let none : None ≡ Some f = sym p.0.rules ∙ ap (witness_fault h) same ∙ q.first in
    cc

-- ---- there is one

line_of_words : (l : NumLine) (word numbers : List ℕ) → l.word ≡ word → l.numbers ≡ numbers → l ≡ word_line word numbers
line_of_words l word numbers same also = λ i. record { word = same i; numbers = also i }

-- the numbers of a path
path_of_numbers : (ns : List ℕ) → AreWords ns → is_path_line ns ≡ true →
    (s : PathShare) × (is_shaped_path FORMAT_2 s ≡ true) × (ns ≡ s.weight ∷ length s.links ∷ s.links)
path_of_numbers [] words is =
    let both = and_parts (is_count 1 FORMAT_2.hops (slice_index [] 1)) (has_count (2 + slice_index [] 1) []) is in
    let count = eqb-true 0 (2 + slice_index [] 1) both.1 in
    absurd (omega (arith, count))
path_of_numbers (a ∷ []) words is =
    let both = and_parts (is_count 1 FORMAT_2.hops (slice_index (a ∷ []) 1)) (has_count (2 + slice_index (a ∷ []) 1) (a ∷ [])) is in
    let count = eqb-true 1 (2 + slice_index (a ∷ []) 1) both.1 in
    absurd (omega (arith, count))
path_of_numbers (a ∷ c ∷ links) words is =
    let both = and_parts (is_count 1 FORMAT_2.hops c) (has_count (2 + c) (a ∷ c ∷ links)) is in
    let count : length (a ∷ c ∷ links) ≡ 2 + c = eqb-true (length (a ∷ c ∷ links)) (2 + c) both.1 in
    let same : c ≡ length links = omega (arith, count) in
    let hops : is_count 1 FORMAT_2.hops (length links) ≡ true = ap (is_count 1 FORMAT_2.hops) (sym same) ∙ both.0 in
    let weight = and_from (is_word a) (is_count 1 FORMAT_2.hops (length links)) (lt-ltb a (2 ^ 64) words.0) hops in (
      record { links = links; weight = a },
      and_from (is_word a && is_count 1 FORMAT_2.hops (length links)) (are_words links) weight (test_words links words.1.1),
      ap (λ n. a ∷ n ∷ links) same,
    )

path_of_line : (l : NumLine) → IsLine l → l.word ≡ [] → is_path_line l.numbers ≡ true → (s : PathShare) × (is_shaped_path FORMAT_2 s ≡ true) × (l ≡ share_line s)
path_of_line l is word due =
    let path = path_of_numbers l.numbers is.numbers due in
    (path.0, path.1, line_of_words l [] (path.0.weight ∷ length path.0.links ∷ path.0.links) word path.2)

-- where so many paths are due, there are so many, and more
pub record SpelledPaths (k : ℕ) (next : Due) (ls : List NumLine) : Type 0 where
  pub paths : List PathShare
  pub more : List NumLine
  pub count : length paths ≡ k
  pub shaped : list_all (is_shaped_path FORMAT_2) paths ≡ true
  pub lines : ls ≡ map share_line paths ++ more
  pub are_lines : AreLines more
  pub due : AreDue next more

spelled_paths : (k : ℕ) (next : Due) (ls : List NumLine) → AreLines ls → AreDue (paths_due k next) ls → SpelledPaths k next ls
spelled_paths zero next ls al due = record { paths = []; more = ls; count = refl; shaped = refl; lines = refl; are_lines = al; due = due }
spelled_paths (suc k) next [] al due = absurd due
spelled_paths (suc k) next (l ∷ ls) al due =
    let one = path_of_line l al.0 due.0 due.1 in
    let rest = spelled_paths k next ls al.1 due.2 in
    record {
      paths = one.0 ∷ rest.paths;
      more = rest.more;
      count = ap suc rest.count;
      shaped = and_from (is_shaped_path FORMAT_2 one.0) (list_all (is_shaped_path FORMAT_2) rest.paths) one.1 rest.shaped;
      lines = ap (λ (x : NumLine). x ∷ ls) one.2 ∙ ap (λ (ys : List NumLine). share_line one.0 ∷ ys) rest.lines;
      are_lines = rest.are_lines;
      due = rest.due;
    }

-- where a number of paths is due, and as many paths, there are these
spelled_pair : (next : Due) (l : NumLine) (ls : List NumLine) → AreLines ls → l.word ≡ [] → is_path_count l.numbers ≡ true →
    (p : SpelledPaths (slice_index l.numbers 0) next ls) → (are_shaped_paths p.paths ≡ true) × (l ∷ ls ≡ pair_lines p.paths ++ p.more)
spelled_pair next l ls al word due p =
    let count = slice_index l.numbers 0 in
    let both = and_parts (has_count 1 l.numbers) (nat_le count FORMAT_2.paths) due in
    let numbers : l.numbers ≡ length p.paths ∷ [] = one_number l.numbers (eqb-true (length l.numbers) 1 both.0) ∙ ap (λ n. n ∷ []) (sym p.count) in
    let few : nat_le (length p.paths) FORMAT_2.paths ≡ true = ap (λ n. nat_le n FORMAT_2.paths) p.count ∙ both.1 in
    let counted = and_from (nat_le 0 (length p.paths)) (nat_le (length p.paths) FORMAT_2.paths) (le-leb 0 (length p.paths) (omega arith)) few in (
      and_from (is_count 0 FORMAT_2.paths (length p.paths)) (list_all (is_shaped_path FORMAT_2) p.paths) counted p.shaped,
      ap (λ (x : NumLine). x ∷ ls) (line_of_words l [] (length p.paths ∷ []) word numbers) ∙ ap (λ (ys : List NumLine). word_line [] (length p.paths ∷ []) ∷ ys) p.lines,
    )

-- where the paths of so many pairs are due, there are these
pub record SpelledRival (n : ℕ) (ls : List NumLine) : Type 0 where
  pub rival : List (List PathShare)
  pub count : length rival ≡ n
  pub shaped : list_all are_shaped_paths rival ≡ true
  pub lines : ls ≡ flat_map pair_lines rival

spelled_rival : (n : ℕ) (ls : List NumLine) → AreLines ls → AreDue (pairs_due n) ls → SpelledRival n ls
spelled_rival zero [] al due = record { rival = []; count = refl; shaped = refl; lines = refl }
spelled_rival zero (l ∷ ls) al due = absurd due
spelled_rival (suc n) [] al due = absurd due
spelled_rival (suc n) (l ∷ ls) al due =
    let p = spelled_paths (slice_index l.numbers 0) (pairs_due n) ls al.1 due.2 in
    let one = spelled_pair (pairs_due n) l ls al.1 due.0 due.1 p in
    let rest = spelled_rival n p.more p.are_lines p.due in
    record {
      rival = p.paths ∷ rest.rival;
      count = ap suc rest.count;
      shaped = and_from (are_shaped_paths p.paths) (list_all are_shaped_paths rest.rival) one.0 rest.shaped;
      lines = one.1 ∙ ap (λ (ys : List NumLine). pair_lines p.paths ++ ys) rest.lines;
    }

-- the lines that are due are those of a witness
spelled_witness : (n : ℕ) (ls : List NumLine) → AreFile (witness_due n) ls → (w : Witness) × (is_shaped_witness n w ≡ true) × (ls ≡ witness_lines w)
spelled_witness n [] file = absurd file.1
spelled_witness n (a ∷ []) file = absurd file.1.2
spelled_witness n (a ∷ b ∷ []) file = absurd file.1.2.2
spelled_witness n (a ∷ b ∷ c ∷ ls) file =
    let al = file.0 in
    let due = file.1 in
    let bound = one_number a.numbers (eqb-true (length a.numbers) 1 due.1) in
    let scale = two_numbers b.numbers (eqb-true (length b.numbers) 2 due.2.1) in
    let p = spelled_rival n ls al.1.1.1 due.2.2.2 in
    let w : Witness = record {
      bound = slice_index a.numbers 0;
      x = slice_index b.numbers 0;
      y = slice_index b.numbers 1;
      demand = record { demand = c.numbers };
      rival = p.rival;
    } in (
      w,
      shaped_all n w (subst AreWords bound al.0.numbers, subst AreWords scale al.1.0.numbers, al.1.1.0.numbers) due.2.2.1 p.count p.shaped,
      ap (λ (l : NumLine). l ∷ b ∷ c ∷ ls) (line_of_words a (codes "bound") (w.bound ∷ []) due.0 bound)
          ∙ ap (λ (l : NumLine). word_line (codes "bound") (w.bound ∷ []) ∷ l ∷ c ∷ ls) (line_of_words b (codes "scale") (w.x ∷ w.y ∷ []) due.2.0 scale)
          ∙ ap (λ (l : NumLine). word_line (codes "bound") (w.bound ∷ []) ∷ word_line (codes "scale") (w.x ∷ w.y ∷ []) ∷ l ∷ ls)
          (line_of_words c (codes "demand") c.numbers due.2.2.0 refl)
          ∙ ap (λ (ys : List NumLine). word_line (codes "bound") (w.bound ∷ []) ∷ word_line (codes "scale") (w.x ∷ w.y ∷ []) ∷ word_line (codes "demand") c.numbers ∷ ys) p.lines,
    )

-- bytes are the file of a witness of the head, leave these files at a line, or spell what breaks a rule
pub some_reading : (h : Head) (bytes : List ℕ) →
    ((w : Witness) × SpellsOf h bytes w) ⊎ (((k : ℕ) × IsShapeFaultOf h bytes k) ⊎ ((f : RuleFault) × IsWitnessRuleFault h bytes f))
some_reading h bytes = go (small_file_or_fault witness_first refl (witness_due n) (witness_can n) bytes)
  where
    n : ℕ
    n = length h.routes

    ruled : (w : Witness) → is_shaped_witness (length h.routes) w ≡ true → bytes ≡ witness_text w → (o : Option RuleFault) → witness_fault h w ≡ o →
        ((v : Witness) × SpellsOf h bytes v) ⊎ (((k : ℕ) × IsShapeFaultOf h bytes k) ⊎ ((f : RuleFault) × IsWitnessRuleFault h bytes f))
    ruled w shaped same None none = inl (w, (record { shaped = shaped; rules = none }, same))
    ruled w shaped same (Some f) first = inr (inr (f, record { spelled = w; shaped = shaped; file = same; first = first }))

    go : ((ls : List NumLine) × AreFile (witness_due (length h.routes)) ls × (bytes ≡ table_text witness_first ls)) ⊎ ((k : ℕ) × IsShapeFaultOf h bytes k) →
        ((v : Witness) × SpellsOf h bytes v) ⊎ (((k : ℕ) × IsShapeFaultOf h bytes k) ⊎ ((f : RuleFault) × IsWitnessRuleFault h bytes f))
    go (inl file) =
        let w = spelled_witness (length h.routes) file.0 file.1 in
        ruled w.0 w.1 (file.2 ∙ ap (table_text witness_first) w.2) (witness_fault h w.0) refl
    go (inr fault) = inr (inl fault)
