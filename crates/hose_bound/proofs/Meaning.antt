-- Bytes have one meaning as a hose, and as a hose certificate, of a network.
use Rattle.std.proofs.Common.{◌≡◌, ◌∙◌, ◌⊎◌, ℕ, List, [], ◌∷◌, length, get_or, refl, ap, sym, inl, inr}
use Rattle.std.specs.Prelude.{Result, Ok, Err, Option, Some, None, codes, slice_index}
use Rattle.std.specs.List.{flat_map}
use Rattle.te_model.specs.declared.certificate.RuleFault.{RuleFault}
use Rattle.te_model.specs.declared.network.Network.{Network}
use Rattle.te_model.specs.Network.{node_count}
use Rattle.number_tables.specs.declared.line.NumLine.{NumLine}
use Rattle.number_tables.proofs.EachFile.{small_file_or_fault}
use Rattle.number_tables.proofs.FirstUndue.{one_small_fault}
use Rattle.number_tables.proofs.FilesOfLines.{first_same}
use Rattle.number_tables.proofs.Whole.{one_table}
use Rattle.number_tables.specs.Due.{word_line, AreFile, LeavesSmallFiles}
use Rattle.number_tables.specs.Table.{table_text}
use Rattle.hose_bound.specs.declared.fault.HoseFault.{HoseFault}
use Rattle.hose_bound.specs.declared.fault.HoseFault.TheVariants as faults
use Rattle.hose_bound.specs.declared.hose.Hose.{Hose}
use Rattle.hose_bound.specs.declared.hose.HoseBlock.{HoseBlock}
use Rattle.hose_bound.specs.declared.hose.HoseCert.{HoseCert}
use Rattle.hose_bound.specs.Files.{bounds_due, hose_block_lines, hose_cert_due, hose_cert_lines, hose_cert_text, hose_lines}
use Rattle.hose_bound.specs.Reading.{GivesCertOrMemory, GivesHoseCert, HoseCertsHaveOneMeaning, HosesHaveOneMeaning, MeansHose, MeansHoseCert, SpellsCert, SpellsHose, hose_spelled, hose_misshaped, cert_spelled, cert_misshaped, read_unless}
use Rattle.hose_bound.specs.Rules.{IsValidHoseCert, hose_fault, hose_cert_fault}
use Rattle.hose_bound.proofs.Forms.{files_have_forms, hoses_are, certs_are}
use Rattle.hose_bound.proofs.ReadHoses.{cert_first, hose_first}

abbrev numbers_of : List NumLine → ℕ → List ℕ
numbers_of ls k = (get_or ls k (word_line [] [])).numbers

pub one_hose : (h k : Hose) → hose_lines h ≡ hose_lines k → h ≡ k
one_hose h k e =
    let sent : h.sent ≡ k.sent = ap (λ ls. numbers_of ls 0) e in
    let received : h.received ≡ k.received = ap (λ ls. numbers_of ls 1) e in
    λ i. record { sent = sent i; received = received i }

one_blocks : (bs cs : List HoseBlock) → flat_map hose_block_lines bs ≡ flat_map hose_block_lines cs → bs ≡ cs
one_blocks [] [] e = refl
one_blocks [] (c ∷ cs) e = cc
one_blocks (b ∷ bs) [] e = cc
one_blocks (b ∷ bs) (c ∷ cs) e =
    let one = first_same (word_line (codes "link") (b.link ∷ [])) (word_line (codes "link") (c.link ∷ [])) _ _ e in
    let two = first_same (word_line (codes "tails") b.tails) (word_line (codes "tails") c.tails) _ _ one.1 in
    let three = first_same (word_line (codes "heads") b.heads) (word_line (codes "heads") c.heads) _ _ two.1 in
    let link : b.link ≡ c.link = ap (λ (l : NumLine). slice_index l.numbers 0) one.0 in
    let tails : b.tails ≡ c.tails = ap (λ (l : NumLine). l.numbers) two.0 in
    let heads : b.heads ≡ c.heads = ap (λ (l : NumLine). l.numbers) three.0 in
    let rest = one_blocks bs cs three.1 in
    λ i. record { link = link i; tails = tails i; heads = heads i } ∷ rest i

pub one_cert : (c d : HoseCert) → hose_cert_lines c ≡ hose_cert_lines d → c ≡ d
one_cert c d e =
    let sent : c.hose.sent ≡ d.hose.sent = ap (λ ls. numbers_of ls 0) e in
    let received : c.hose.received ≡ d.hose.received = ap (λ ls. numbers_of ls 1) e in
    let bound : c.bound ≡ d.bound = ap (λ ls. slice_index (numbers_of ls 2) 0) e in
    let one = first_same (word_line (codes "sent") c.hose.sent) (word_line (codes "sent") d.hose.sent) _ _ e in
    let two = first_same (word_line (codes "received") c.hose.received) (word_line (codes "received") d.hose.received) _ _ one.1 in
    let three = first_same (word_line (codes "bound") (c.bound ∷ [])) (word_line (codes "bound") (d.bound ∷ [])) _ _ two.1 in
    let four = first_same (word_line (codes "blocks") (length c.blocks ∷ [])) (word_line (codes "blocks") (length d.blocks ∷ [])) _ _ three.1 in
    let blocks = one_blocks c.blocks d.blocks four.1 in
    λ i. record { hose = record { sent = sent i; received = received i }; bound = bound i; blocks = blocks i }

pub same_hose : (nodes : ℕ) (bytes : List ℕ) (h k : Hose) → SpellsHose nodes bytes h → SpellsHose nodes bytes k → h ≡ k
same_hose nodes bytes h k one two =
    one_hose h k (one_table hose_first (hose_lines h) (hose_lines k) refl (hoses_are nodes h one.0).0 (hoses_are nodes k two.0).0 (sym one.1 ∙ two.1))

pub same_cert : (nodes : ℕ) (bytes : List ℕ) (c d : HoseCert) → SpellsCert nodes bytes c → SpellsCert nodes bytes d → c ≡ d
same_cert nodes bytes c d one two =
    one_cert c d (one_table cert_first (hose_cert_lines c) (hose_cert_lines d) refl (certs_are nodes c one.0).0 (certs_are nodes d two.0).0 (sym one.1 ∙ two.1))

-- ---- one meaning

hose_leaves_nowhere : (nodes : ℕ) (bytes : List ℕ) (h : Hose) (k : ℕ) → SpellsHose nodes bytes h → LeavesSmallFiles hose_first (bounds_due nodes) bytes k → ⊥
hose_leaves_nowhere nodes bytes h k is leaves = (one_small_fault hose_first (bounds_due nodes) bytes).1 (hose_lines h) (hoses_are nodes h is.0) is.1 k leaves

cert_leaves_nowhere : (nodes : ℕ) (bytes : List ℕ) (c : HoseCert) (k : ℕ) → SpellsCert nodes bytes c → LeavesSmallFiles cert_first (hose_cert_due nodes) bytes k → ⊥
cert_leaves_nowhere nodes bytes c k is leaves = (one_small_fault cert_first (hose_cert_due nodes) bytes).1 (hose_cert_lines c) (certs_are nodes c is.0) is.1 k leaves

one_hose_meaning : (net : Network) (bytes : List ℕ) (a b : Result Hose HoseFault) → MeansHose net bytes a → MeansHose net bytes b → a ≡ b
one_hose_meaning net bytes a b (hose_spelled h one is) (hose_spelled k two it) =
    is ∙ (ap (λ (x : Hose). read_unless (hose_fault (node_count net) x) x) (same_hose (node_count net) bytes h k one two) ∙ sym it)
one_hose_meaning net bytes a b (hose_spelled h one is) (hose_misshaped k at it) = absurd (hose_leaves_nowhere (node_count net) bytes h k one at)
one_hose_meaning net bytes a b (hose_misshaped k at is) (hose_spelled h one it) = absurd (hose_leaves_nowhere (node_count net) bytes h k one at)
one_hose_meaning net bytes a b (hose_misshaped j one is) (hose_misshaped k two it) =
    is ∙ (ap (λ n. Err (faults.Shape n)) ((one_small_fault hose_first (bounds_due (node_count net)) bytes).0 j k one two) ∙ sym it)

one_cert_meaning : (net : Network) (bytes : List ℕ) (a b : Result HoseCert HoseFault) → MeansHoseCert net bytes a → MeansHoseCert net bytes b → a ≡ b
one_cert_meaning net bytes a b (cert_spelled c one is) (cert_spelled d two it) =
    is ∙ (ap (λ (x : HoseCert). read_unless (hose_cert_fault net x) x) (same_cert (node_count net) bytes c d one two) ∙ sym it)
one_cert_meaning net bytes a b (cert_spelled c one is) (cert_misshaped k at it) = absurd (cert_leaves_nowhere (node_count net) bytes c k one at)
one_cert_meaning net bytes a b (cert_misshaped k at is) (cert_spelled c one it) = absurd (cert_leaves_nowhere (node_count net) bytes c k one at)
one_cert_meaning net bytes a b (cert_misshaped j one is) (cert_misshaped k two it) =
    is ∙ (ap (λ n. Err (faults.Shape n)) ((one_small_fault cert_first (hose_cert_due (node_count net)) bytes).0 j k one two) ∙ sym it)

pub hoses_have_one_meaning : HosesHaveOneMeaning
hoses_have_one_meaning net bytes = go (small_file_or_fault hose_first refl (bounds_due (node_count net)) (files_have_forms.hoses_end (node_count net)) bytes)
  where
    go : ((ls : List NumLine) × AreFile (bounds_due (node_count net)) ls × (bytes ≡ table_text hose_first ls)) ⊎ ((k : ℕ) × LeavesSmallFiles hose_first (bounds_due (node_count net)) bytes k) →
        (answer : Result Hose HoseFault) × MeansHose net bytes answer × ((other : Result Hose HoseFault) → MeansHose net bytes other → answer ≡ other)
    go (inl file) =
        let of = files_have_forms.of_hoses (node_count net) file.0 file.1 in
        let means : MeansHose net bytes (read_unless (hose_fault (node_count net) of.0) of.0) = hose_spelled of.0 (of.1, file.2 ∙ ap (table_text hose_first) of.2) refl in
        (read_unless (hose_fault (node_count net) of.0) of.0, means, λ other also. one_hose_meaning net bytes _ other means also)
    go (inr fault) =
        let means : MeansHose net bytes (Err (faults.Shape fault.0)) = hose_misshaped fault.0 fault.1 refl in
        (Err (faults.Shape fault.0), means, λ other also. one_hose_meaning net bytes _ other means also)

pub hose_certs_have_one_meaning : HoseCertsHaveOneMeaning
hose_certs_have_one_meaning net bytes = go (small_file_or_fault cert_first refl (hose_cert_due (node_count net)) (files_have_forms.certs_end (node_count net)) bytes)
  where
    go : ((ls : List NumLine) × AreFile (hose_cert_due (node_count net)) ls × (bytes ≡ table_text cert_first ls)) ⊎ ((k : ℕ) × LeavesSmallFiles cert_first (hose_cert_due (node_count net)) bytes k) →
        (answer : Result HoseCert HoseFault) × MeansHoseCert net bytes answer × ((other : Result HoseCert HoseFault) → MeansHoseCert net bytes other → answer ≡ other)
    go (inl file) =
        let of = files_have_forms.of_certs (node_count net) file.0 file.1 in
        let means : MeansHoseCert net bytes (read_unless (hose_cert_fault net of.0) of.0) = cert_spelled of.0 (of.1, file.2 ∙ ap (table_text cert_first) of.2) refl in
        (read_unless (hose_cert_fault net of.0) of.0, means, λ other also. one_cert_meaning net bytes _ other means also)
    go (inr fault) =
        let means : MeansHoseCert net bytes (Err (faults.Shape fault.0)) = cert_misshaped fault.0 fault.1 refl in
        (Err (faults.Shape fault.0), means, λ other also. one_cert_meaning net bytes _ other means also)

-- ---- printed and read, and read and printed

-- the text of a valid hose certificate means that certificate
pub text_means : (net : Network) (c : HoseCert) → IsValidHoseCert net c → MeansHoseCert net (hose_cert_text c) (Ok c)
text_means net c valid = cert_spelled c (valid.shaped, refl) (ap (λ o. read_unless o c) (sym valid.no_fault))

pub read_of_print : (net : Network) (c : HoseCert) (answer : Result HoseCert HoseFault) → IsValidHoseCert net c → GivesHoseCert net (hose_cert_text c) answer →
    GivesCertOrMemory answer c
read_of_print net c answer valid (inr memory) = inr memory
read_of_print net c answer valid (inl means) = inl (one_cert_meaning net (hose_cert_text c) answer (Ok c) means (text_means net c valid))

pub print_of_read : (net : Network) (bytes : List ℕ) (c : HoseCert) → GivesHoseCert net bytes (Ok c) → bytes ≡ hose_cert_text c
print_of_read net bytes c (inr memory) = cc
print_of_read net bytes c (inl (cert_misshaped k at is)) = cc
print_of_read net bytes c (inl (cert_spelled d spelled is)) = go (hose_cert_fault net d) is
  where
    same_cert' : (p q : HoseCert) → ◌≡◌ {A = Result HoseCert HoseFault} (Ok p) (Ok q) → p ≡ q
    same_cert' p q e = cc

    go : (o : Option RuleFault) → ◌≡◌ {A = Result HoseCert HoseFault} (Ok c) (read_unless o d) → bytes ≡ hose_cert_text c
    go None e = spelled.1 ∙ ap hose_cert_text (sym (same_cert' c d e))
    go (Some f) e = cc
