-- The block of a link in a walk along the blocks, and a link without one.
use Rattle.std.proofs.Common.{◌≡◌, ◌==◌, zero, suc, Some, ap, sym, ◌∙◌, ℕ, true, List, [], ◌∷◌, refl, arith}
use Rattle.std.specs.Prelude.{unwrap_or}
use Rattle.std.specs.List.{slice_get}
use Rattle.std.proofs.lemmas.Bool.{le-leb, lt-leb, ne_eqb}
use Rattle.te_model.specs.declared.network.Network.{Network}
use Rattle.te_model.specs.declared.route.PairRoutes.{PairRoutes}
use Rattle.te_model.specs.Network.{node_count}
use Rattle.te_model.specs.Path.{share}
use Rattle.te_model.proofs.Sums.{sum_below-zero}
use Rattle.ratio_checker.specs.Ascending.{AscendsFrom}
use Rattle.ratio_checker.proofs.Ascending.{find_here, find_other}
use Rattle.hose_bound.specs.declared.hose.Hose.{Hose}
use Rattle.hose_bound.specs.declared.hose.HoseBlock.{HoseBlock}
use Rattle.hose_bound.specs.Rules.{zero_hose_block}
use Rattle.hose_bound.specs.Verdict.{hose_block_of, covers_pair, pays_numbers, block_sum}

-- the first block is that of its link
pub first_block : (blocks : List HoseBlock) (link : ℕ) (x : HoseBlock) → Some x ≡ slice_get blocks 0 → x.link ≡ link → hose_block_of blocks link ≡ x
first_block [] link x first own = absurd cc
first_block (b ∷ bs) link x first own =
    let same : b ≡ x = cc in
    ap (λ o. unwrap_or o (zero_hose_block link)) (find_here (λ b. b.link) link b bs (ap (λ b. b.link) same ∙ own)) ∙ same

-- blocks that begin after the link have none of it
pub no_block : (blocks : List HoseBlock) (link : ℕ) → AscendsFrom (λ b. b.link) link blocks → ((x : HoseBlock) → slice_get blocks 0 ≡ Some x → x.link ≡ link → ⊥) →
    hose_block_of blocks link ≡ zero_hose_block link
no_block blocks link ascend other = ap (λ o. unwrap_or o (zero_hose_block link)) (find_other (λ b. b.link) link blocks ascend other)

-- zeros cover no share above 0
pub zeros_cover : (routes : List PairRoutes) (blocks : List HoseBlock) (link p : ℕ) → hose_block_of blocks link ≡ zero_hose_block link →
    (share routes p link == 0) ≡ covers_pair routes link (hose_block_of blocks link) p
zeros_cover routes blocks link p absent = rw absent (either (share routes p link) refl)
  where
    either : (n : ℕ) → share routes p link ≡ n → (n == 0) ≡ covers_pair routes link (zero_hose_block link) p
    either zero is = sym (le-leb _ _ (omega (arith, is)))
    either (suc n) is = ne_eqb (suc n) 0 (λ e. absurd (omega (arith, e))) ∙ sym (lt-leb _ _ (omega (arith, is)))

-- and come to nothing
pub zeros_pay : (net : Network) (h : Hose) (bound link : ℕ) → pays_numbers net h bound link (zero_hose_block link) ≡ true
zeros_pay net h bound link =
    let nothing : block_sum (node_count net) h (zero_hose_block link) ≡ 0 =
    sum_below-zero (node_count net) _ (λ i below. omega arith) in
    le-leb _ _ (omega (arith, nothing))
