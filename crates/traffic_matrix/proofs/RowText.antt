-- The text of a series as the text of records.
use Rattle.std.proofs.Common.{ℕ, zero, suc, ◌+◌, ◌<◌, ◌≡◌, ◌∙◌, refl, sym, ap, List, [], ◌∷◌, ◌++◌, length, get_or, map, All, decimal, codes, append_assoc, append-nil, true, arith}
use Rattle.std.specs.List.{flat_map, list_all, range_with_len}
use Rattle.std.proofs.lemmas.Grind.{flat_map-append}
use Rattle.std.proofs.lemmas.List.FromFn.{length-range_with_len, get_or-range_with_len}
use Rattle.csv.specs.Reading.{strip_bom}
use Rattle.csv.specs.Writing.{default_writer, row_text, fields_text, is_blank, read_back}
use Rattle.csv.specs.declared.parser.State.TheVariants as st
use Rattle.csv.proofs.RoundTrip.{rows_text}
use Rattle.csv_records.specs.Rest.{all_from}
use Rattle.csv_records.specs.Rows.{records_of}
use Rattle.csv_records.proofs.WriteLemmas.{read-back}
use Rattle.std.proofs.lemmas.Bool.{and_parts}
use Rattle.te_model.specs.declared.network.Network.{Network}
use Rattle.te_model.specs.Network.{is_name, node_count}
use Rattle.te_model.specs.Pairs.{no_pair}
use Rattle.traffic_matrix.specs.declared.entry.Entry.{Entry}
use Rattle.traffic_matrix.specs.declared.series.Series.{Series}
use Rattle.traffic_matrix.specs.Limits.{IsSeries}
use Rattle.traffic_matrix.specs.Text.{line_at, step_text, series_text, no_matrix}
use Rattle.traffic_matrix.proofs.FieldText.{IsPlain, decimal-plain, name-plain}

-- the entry of the pair at a place in a step
abbrev pub entry_at : Series → ℕ → ℕ → Entry
entry_at s step place = record { step = step; pair = get_or s.pairs.list place no_pair; demand = get_or (get_or s.steps step no_matrix).demand place 0 }

abbrev pub step_entries : Series → ℕ → List Entry
step_entries s step = map (entry_at s step) (range_with_len 0 (length s.pairs.list))

-- the entries of all steps from one on
abbrev pub entries_from : Series → ℕ → ℕ → List Entry
entries_from s step count = flat_map (step_entries s) (range_with_len step count)

-- the fields of a row
abbrev pub fields : List (List ℕ) → Entry → List (List ℕ)
fields names e = decimal e.step ∷ get_or names e.pair.src [] ∷ get_or names e.pair.dst [] ∷ decimal e.demand ∷ []

abbrev pub header : List (List ℕ)
header = codes "step" ∷ codes "source" ∷ codes "target" ∷ codes "demand" ∷ []

row-plain : (a b c d : List ℕ) → IsPlain a → IsPlain b → IsPlain c → IsPlain d → row_text default_writer (a ∷ b ∷ c ∷ d ∷ []) ≡ a ++ 44 ∷ b ++ 44 ∷ c ++ 44 ∷ d ++ 10 ∷ []
unfolding fields_text is_blank
row-plain a b c d p q r s = rw (p, q, r, s) (simp (append_assoc, append-nil))

header-text : row_text default_writer header ≡ codes "step,source,target,demand\n"
unfolding fields_text is_blank
header-text = refl

rows-flat : (rows : List (List (List ℕ))) → rows_text rows ≡ flat_map (row_text default_writer) rows
unfolding rows_text
rows-flat [] = refl
rows-flat (r ∷ rows) = ap (λ (t : List ℕ). row_text default_writer r ++ t) (rows-flat rows)

flat-flat : {X Y : Type 0} (g : Y → List ℕ) (f : X → List Y) (xs : List X) → flat_map g (flat_map f xs) ≡ flat_map (λ x. flat_map g (f x)) xs
flat-flat g f [] = refl
flat-flat g f (x ∷ xs) = flat_map-append g (f x) (flat_map f xs) ∙ ap (λ (r : List ℕ). flat_map g (f x) ++ r) (flat-flat g f xs)

flat-map : {X Y : Type 0} (g : Y → List ℕ) (f : X → Y) (xs : List X) → flat_map g (map f xs) ≡ flat_map (λ x. g (f x)) xs
flat-map g f [] = refl
flat-map g f (x ∷ xs) = ap (λ (r : List ℕ). g (f x) ++ r) (flat-map g f xs)

flat-same : (f g : ℕ → List ℕ) (xs : List ℕ) → All (λ k. f k ≡ g k) xs → flat_map f xs ≡ flat_map g xs
flat-same f g [] all = refl
flat-same f g (x ∷ xs) all = rw (all 0 x (omega arith), flat-same f g xs (λ k d low. all (suc k) d (omega arith))) refl

below : (n : ℕ) (P : ℕ → Type 0) → ((k : ℕ) → k < n → P k) → All P (range_with_len 0 n)
below n P each k d low =
    let inside : k < n = omega (arith, length-range_with_len 0 n) in
    let e : 0 + k ≡ k = omega arith in
    rw (get_or-range_with_len 0 n k d inside, e) (each k inside)

every_name : (names : List (List ℕ)) (v : ℕ) → list_all is_name names ≡ true → v < length names → is_name (get_or names v []) ≡ true
every_name [] v all low = absurd (omega arith)
every_name (x ∷ xs) zero all low = (and_parts (is_name x) (list_all is_name xs) all).0
every_name (x ∷ xs) (suc v) all low = every_name xs v (and_parts (is_name x) (list_all is_name xs) all).1 (omega arith)

module _ (net : Network) (s : Series) (named : list_all is_name net.names ≡ true) (limits : IsSeries (node_count net) s) where
  line-text : (step place : ℕ) → step < length s.steps → place < length s.pairs.list
      → row_text default_writer (fields net.names (entry_at s step place)) ≡ line_at net.names s.pairs.list step (get_or s.steps step no_matrix).demand place
  line-text step place k i =
      let e = entry_at s step place in
      let pair = limits.pairs place no_pair i in
      let matrix = limits.matrices step no_matrix k in
      let count = matrix.count in
      let few = limits.few in
      let low = matrix.small place 0 (omega arith) in
      row-plain (decimal step) (get_or net.names e.pair.src []) (get_or net.names e.pair.dst []) (decimal e.demand)
      (decimal-plain step (omega arith)) (name-plain (get_or net.names e.pair.src []) (name-at e.pair.src pair.src_inside)) (name-plain (get_or net.names e.pair.dst []) (name-at e.pair.dst pair.dst_inside)) (decimal-plain e.demand (omega arith))
    where
      name-at : (v : ℕ) → v < length net.names → is_name (get_or net.names v []) ≡ true
      name-at v low = every_name net.names v named low

  -- the text of a series is that of its header and its rows
  pub series-text : series_text net s ≡ rows_text (header ∷ map (fields net.names) (entries_from s 0 (length s.steps)))
  series-text =
      let S = length s.steps in
      let P = length s.pairs.list in
      let line : Entry → List ℕ = λ e. row_text default_writer (fields net.names e) in
      let steps : flat_map (step_text net.names s.pairs.list s.steps) (range_with_len 0 S) ≡ flat_map (λ k. flat_map line (step_entries s k)) (range_with_len 0 S) =
      flat-same (step_text net.names s.pairs.list s.steps) (λ k. flat_map line (step_entries s k)) (range_with_len 0 S)
      (below S (λ k. step_text net.names s.pairs.list s.steps k ≡ flat_map line (step_entries s k)) (λ k low.
      flat-same (line_at net.names s.pairs.list k (get_or s.steps k no_matrix).demand) (λ i. line (entry_at s k i)) (range_with_len 0 P)
      (below P (λ i. line_at net.names s.pairs.list k (get_or s.steps k no_matrix).demand i ≡ line (entry_at s k i)) (λ i inside. sym (line-text k i low inside)))
      ∙ sym (flat-map line (entry_at s k) (range_with_len 0 P)))) in
      ap (λ (r : List ℕ). codes "step,source,target,demand\n" ++ r)
      (steps ∙ sym (flat-flat line (step_entries s) (range_with_len 0 S)) ∙ sym (flat-map (row_text default_writer) (fields net.names) (entries_from s 0 S)))
      ∙ ap (λ (r : List ℕ). r ++ flat_map (row_text default_writer) (map (fields net.names) (entries_from s 0 S))) (sym header-text)
      ∙ sym (rows-flat (header ∷ map (fields net.names) (entries_from s 0 S)))

back : (names : List (List ℕ)) (es : List Entry) → map read_back (map (fields names) es) ≡ map (fields names) es
back names [] = refl
back names (e ∷ es) = ap (λ (r : List (List (List ℕ))). fields names e ∷ r) (back names es)

no-mark : (net : Network) (s : Series) → strip_bom (series_text net s) ≡ series_text net s
unfolding strip_bom
no-mark net s = refl

-- the records of the text of a series
pub series-records : (net : Network) (s : Series) → list_all is_name net.names ≡ true → IsSeries (node_count net) s
    → records_of (series_text net s) ≡ header ∷ map (fields net.names) (entries_from s 0 (length s.steps))
series-records net s named limits =
    ap (all_from st.StartRecord) (no-mark net s ∙ series-text net s named limits)
    ∙ read-back (header ∷ map (fields net.names) (entries_from s 0 (length s.steps)))
    ∙ ap (λ (r : List (List (List ℕ))). header ∷ r) (back net.names (entries_from s 0 (length s.steps)))
