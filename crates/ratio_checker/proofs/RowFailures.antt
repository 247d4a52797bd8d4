-- Where the potentials of a block fail first.
use Rattle.std.proofs.Common.{◌≡◌, ℕ, ◌+◌, ◌*◌, ◌<◌, true, false, Option, Some, None, refl, ap, ◌∙◌, sym, subst, List, length, arith, ◌==◌, nat_le, slice_index, slice_index_or}
use Rattle.std.specs.Prelude.{All, find, unwrap_or}
use Rattle.std.proofs.lemmas.Bool.{le-leb}
use Rattle.std.proofs.lemmas.List.{get_or_default}
use Rattle.te_model.specs.declared.certificate.Row.{Row}
use Rattle.te_model.specs.Certificate.{empty_row, row_of, weight_of}
use Rattle.te_model.specs.declared.network.Network.{Network}
use Rattle.te_model.specs.declared.certificate.Block.{Block}
use Rattle.te_model.specs.declared.inequality.InequalityFault.{InequalityFault}
use Rattle.te_model.specs.Counting.{or_else, first_below, unless}
use Rattle.te_model.specs.Network.{node_count, link_count, tail_of, head_of}
use Rattle.te_model.specs.Inequalities.{starts_at_zero, rises_within_weight, failure_at, row_failure, potentials_failure}
use Rattle.te_model.proofs.Searches.{first_below_found, first_below_none}
use Rattle.ratio_checker.specs.Ascending.{AscendsFrom}
use Rattle.ratio_checker.proofs.Ascending.{find_stands, ascends_order, find_own}

pub row_failure_found : (net : Network) (block : Block) (i h : ℕ) → h < link_count net →
    starts_at_zero block i ≡ true →
    first_below h (λ k. unless (rises_within_weight net block i k) (failure_at 1 (i * (link_count net + 1) + 1 + k))) ≡ None →
    rises_within_weight net block i h ≡ false →
    row_failure net block i ≡ Some (failure_at 1 (i * (link_count net + 1) + 1 + h))
row_failure_found net block i h below starts before fails =
    rw starts
    (first_below_found (link_count net) h
    (λ k. unless (rises_within_weight net block i k) (failure_at 1 (i * (link_count net + 1) + 1 + k)))
    (failure_at 1 (i * (link_count net + 1) + 1 + h)) below before
    (ap (λ b. unless b (failure_at 1 (i * (link_count net + 1) + 1 + h))) fails))

-- a source without a row has zeros, which never fail
pub no_row_none : (net : Network) (block : Block) (i : ℕ) → find (λ r. r.source == i) block.rows ≡ None → row_failure net block i ≡ None
no_row_none net block i none =
    let m = link_count net in
    let failure : Row → Option InequalityFault =
    λ r. or_else (unless (slice_index r.potential i == 0) (failure_at 1 (i * (m + 1))))
    (first_below m (λ h. unless (nat_le (slice_index r.potential (head_of net h)) (slice_index r.potential (tail_of net h) + weight_of block h))
    (failure_at 1 (i * (m + 1) + 1 + h))))
    in
    ap (λ o. failure (unwrap_or o (empty_row i))) none
    ∙ first_below_none m (λ h. unless (nat_le 0 (0 + weight_of block h)) (failure_at 1 (i * (m + 1) + 1 + h)))
    (λ h below. ap (λ t. unless t (failure_at 1 (i * (m + 1) + 1 + h))) (le-leb 0 (0 + weight_of block h) (omega arith)))

-- rows before place k do not fail
abbrev pub HoldBefore : Network → Block → ℕ → Type 0
HoldBefore net block k = (j : ℕ) → j < k → row_failure net block (slice_index_or block.rows j (empty_row 0)).source ≡ None

-- so no source below the source of place k fails
holds_below : (net : Network) (block : Block) (k i : ℕ) → HoldBefore net block k →
    ((j : ℕ) → j < length block.rows → (slice_index_or block.rows j (empty_row 0)).source ≡ i → j < k) →
    row_failure net block i ≡ None
holds_below net block k i before earlier = go (find (λ r. r.source == i) block.rows) refl
  where
    go : (o : Option Row) → find (λ r. r.source == i) block.rows ≡ o → row_failure net block i ≡ None
    go None absent = no_row_none net block i absent
    go (Some r) found =
        let at = find_stands (λ r. r.source) i block.rows (empty_row 0) r found in
        let own : (slice_index_or block.rows at.0.place (empty_row 0)).source ≡ i = ap (λ x. x.source) at.0.is ∙ at.1 in
        subst (λ e. row_failure net block e ≡ None) own (before at.0.place (earlier at.0.place at.0.within own))

pub rows_failure_found : (net : Network) (block : Block) (k : ℕ) (r : Row) (f : InequalityFault) → AscendsFrom (λ r. r.source) 0 block.rows →
    All (λ r. r.source < node_count net) block.rows → k < length block.rows → r ≡ slice_index_or block.rows k r →
    HoldBefore net block k → row_failure net block r.source ≡ Some f → potentials_failure net block ≡ Some f
rows_failure_found net block k r f ascends sources below read before fails =
    let is : slice_index_or block.rows k (empty_row 0) ≡ r = get_or_default block.rows k (empty_row 0) r below ∙ sym read in
    let own : (slice_index_or block.rows k (empty_row 0)).source ≡ r.source = ap (λ x. x.source) is in
    let there : r.source < node_count net = subst (λ x. x.source < node_count net) is (sources k (empty_row 0) below) in
    first_below_found (node_count net) r.source (row_failure net block) f there
    (first_below_none r.source (row_failure net block)
    (λ i less. holds_below net block k i before
    (λ j in' same. ascends_order (λ r. r.source) 0 block.rows j k (empty_row 0) ascends in' below (omega arith))))
    fails

-- the row that is read for an element's source is the element
pub row_of_own : (rows : List Row) (k : ℕ) (r : Row) → AscendsFrom (λ r. r.source) 0 rows → k < length rows →
    r ≡ slice_index_or rows k r → row_of rows r.source ≡ r
row_of_own rows k r ascends below read =
    subst (λ x. unwrap_or (find (λ y. y.source == x.source) rows) (empty_row x.source) ≡ x) (sym read)
    (ap (λ o. unwrap_or o (empty_row (slice_index_or rows k r).source)) (find_own (λ y. y.source) 0 rows k r ascends below))

pub rows_failure_none : (net : Network) (block : Block) → HoldBefore net block (length block.rows) → potentials_failure net block ≡ None
rows_failure_none net block before =
    first_below_none (node_count net) (row_failure net block) (λ i less. holds_below net block (length block.rows) i before (λ j in' same. in'))
