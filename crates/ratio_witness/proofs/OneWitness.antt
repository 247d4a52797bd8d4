-- A file is that of one witness.
use Rattle.std.proofs.Common.{◌≡◌, ℕ, true, List, [], ◌∷◌, ◌++◌, length, map, refl, ap, sym, ◌∙◌, arith}
use Rattle.std.specs.List.{flat_map}
use Rattle.te_model.specs.declared.route.PathShare.{PathShare}
use Rattle.number_tables.specs.declared.line.NumLine.{NumLine}
use Rattle.number_tables.proofs.FilesOfLines.{first_same}
use Rattle.number_tables.proofs.Whole.{one_table}
use Rattle.ratio_witness.specs.declared.witness.Witness.{Witness}
use Rattle.ratio_witness.specs.Text.{is_shaped_witness, pair_lines, share_line, witness_first, witness_lines, witness_text}
use Rattle.ratio_witness.proofs.Ending.{shaped_parts, witness_lines_are}

numbers_same : (l m : NumLine) → l ≡ m → l.numbers ≡ m.numbers
numbers_same l m e = ap (λ (x : NumLine). x.numbers) e

one_path : (s t : PathShare) → share_line s ≡ share_line t → s ≡ t
one_path s t e =
    let all = first_same s.weight t.weight (length s.links ∷ s.links) (length t.links ∷ t.links) (numbers_same (share_line s) (share_line t) e) in
    let rest = first_same (length s.links) (length t.links) s.links t.links all.1 in
    λ i. record { links = rest.1 i; weight = all.0 i }

one_paths : (xs ys : List PathShare) (a b : List NumLine) → length xs ≡ length ys → map share_line xs ++ a ≡ map share_line ys ++ b → (xs ≡ ys) × (a ≡ b)
one_paths [] [] a b count e = (refl, e)
one_paths [] (y ∷ ys) a b count e = absurd (omega (arith, count))
one_paths (x ∷ xs) [] a b count e = absurd (omega (arith, count))
one_paths (x ∷ xs) (y ∷ ys) a b count e =
    let parts = first_same (share_line x) (share_line y) (map share_line xs ++ a) (map share_line ys ++ b) e in
    let first = one_path x y parts.0 in
    let rest = one_paths xs ys a b (omega (arith, count)) parts.1 in
    (ap (λ (p : PathShare). p ∷ xs) first ∙ ap (λ (ps : List PathShare). y ∷ ps) rest.0, rest.1)

one_rival : (xs ys : List (List PathShare)) → length xs ≡ length ys → flat_map pair_lines xs ≡ flat_map pair_lines ys → xs ≡ ys
one_rival [] [] count e = refl
one_rival [] (y ∷ ys) count e = absurd (omega (arith, count))
one_rival (x ∷ xs) [] count e = absurd (omega (arith, count))
one_rival (x ∷ xs) (y ∷ ys) count e =
    let parts = first_same (record { word = []; numbers = length x ∷ [] }) (record { word = []; numbers = length y ∷ [] })
    (map share_line x ++ flat_map pair_lines xs) (map share_line y ++ flat_map pair_lines ys) e
    in
    let same = (first_same (length x) (length y) [] [] (numbers_same _ _ parts.0)).0 in
    let both = one_paths x y (flat_map pair_lines xs) (flat_map pair_lines ys) same parts.1 in
    ap (λ (p : List PathShare). p ∷ xs) both.0 ∙ ap (λ (ps : List (List PathShare)). y ∷ ps) (one_rival xs ys (omega (arith, count)) both.1)

one_lines : (n : ℕ) (w v : Witness) → is_shaped_witness n w ≡ true → is_shaped_witness n v ≡ true → witness_lines w ≡ witness_lines v → w ≡ v
one_lines n w v shaped also e =
    let p = shaped_parts n w shaped in
    let q = shaped_parts n v also in
    let a = first_same _ _ _ _ e in
    let b = first_same _ _ _ _ a.1 in
    let c = first_same _ _ _ _ b.1 in
    let bound = (first_same w.bound v.bound [] [] (numbers_same _ _ a.0)).0 in
    let scale = first_same w.x v.x (w.y ∷ []) (v.y ∷ []) (numbers_same _ _ b.0) in
    let y = (first_same w.y v.y [] [] scale.1).0 in
    let demand = numbers_same _ _ c.0 in
    let rival = one_rival w.rival v.rival (p.pairs ∙ sym q.pairs) c.1 in
    λ i. record { bound = bound i; x = scale.0 i; y = y i; demand = record { demand = demand i }; rival = rival i }

-- two witnesses that can be written have one text only where they are one
pub one_witness : (n : ℕ) (w v : Witness) → is_shaped_witness n w ≡ true → is_shaped_witness n v ≡ true → witness_text w ≡ witness_text v → w ≡ v
one_witness n w v shaped also e =
    one_lines n w v shaped also (one_table witness_first (witness_lines w) (witness_lines v) refl (witness_lines_are n w shaped) (witness_lines_are n v also) e)
