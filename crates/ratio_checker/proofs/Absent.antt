-- A link without a block: all is read as zero but B, which is 1.
use Rattle.std.proofs.Common.{◌≡◌, ◌==◌, zero, suc, Some, ap, sym, ◌∙◌, ℕ, ◌*◌, ◌<◌, true, false, None, List, [], ◌∷◌, length, refl, arith, ◌+◌, ◌≤◌, nat_le}
use Rattle.std.proofs.Math.Nat.{mul-le-mul_left}
use Rattle.std.specs.Prelude.{unwrap_or}
use Rattle.std.specs.List.{slice_get}
use Rattle.std.proofs.lemmas.Bool.{le-leb, lt-leb, ne_eqb}
use Rattle.te_model.specs.declared.network.Network.{Network}
use Rattle.te_model.specs.declared.route.PairRoutes.{PairRoutes}
use Rattle.te_model.specs.declared.certificate.Block.{Block}
use Rattle.te_model.specs.declared.certificate.Head.{Head}
use Rattle.te_model.specs.declared.demand.DemandSet.{DemandSet}
use Rattle.te_model.specs.declared.demand.DemandSet.TheVariants.{All, Margin, Box}
use Rattle.te_model.specs.Network.{node_count}
use Rattle.te_model.specs.Counting.{sum_below}
use Rattle.te_model.specs.Demand.{upper_of}
use Rattle.te_model.specs.Path.{weight_on, routes_at}
use Rattle.te_model.specs.Certificate.{empty_block, block_of}
use Rattle.te_model.specs.Inequalities.{covers_share, keeps_bounds, pays_weights, row_failure, potentials_failure, shares_failure, block_failure}
use Rattle.te_model.proofs.Searches.{first_below_none, or_else-none}
use Rattle.te_model.proofs.Sums.{sum_below-zero}
use Rattle.ratio_checker.specs.Ascending.{AscendsFrom}
use Rattle.ratio_checker.proofs.Ascending.{find_here, find_other}
use Rattle.ratio_checker.proofs.RowFailures.{no_row_none}

potentials_hold : (net : Network) (e : ℕ) → potentials_failure net (empty_block e) ≡ None
potentials_hold net e = first_below_none (node_count net) (row_failure net (empty_block e)) (λ i below. no_row_none net (empty_block e) i refl)

nothing_added : (n : ℕ) (bound : ℕ → ℕ) → sum_below n (λ p. bound p * 0) ≡ 0
nothing_added n bound = sum_below-zero n (λ p. bound p * 0) (λ k below. omega arith)

bounds_hold : (set : DemandSet) (n e : ℕ) → keeps_bounds set n (empty_block e) ≡ true
bounds_hold All n e = refl
bounds_hold (Margin num den base) n e = le-leb _ _ (omega (arith, nothing_added n (upper_of (Margin num den base))))
bounds_hold (Box lower upper) n e = le-leb _ _ (omega (arith, nothing_added n (upper_of (Box lower upper))))

pub pays_holds : (net : Network) (e ratio : ℕ) → pays_weights net (empty_block e) ratio ≡ true
pays_holds net e ratio = le-leb _ _ (omega arith)

pub empty_failure_is : (head : Head) (e : ℕ) → block_failure head (empty_block e) ≡ shares_failure head.routes (empty_block e)
empty_failure_is head e =
    rw (potentials_hold head.network e, bounds_hold head.set (length head.routes) e, pays_holds head.network e head.ratio)
    (or_else-none (shares_failure head.routes (empty_block e)))

pub covers_by_no_share : (routes : List PairRoutes) (e p : ℕ) → weight_on (routes_at routes p).paths e ≡ 0 → covers_share routes (empty_block e) p ≡ true
covers_by_no_share routes e p none = le-leb _ _ (omega (arith, none))

pub share_not_covered : (routes : List PairRoutes) (e p : ℕ) → 0 < weight_on (routes_at routes p).paths e → covers_share routes (empty_block e) p ≡ false
share_not_covered routes e p some = lt-leb _ _ (omega (arith, some))

-- a pair without a share on the link is covered where minus is at most plus
pub covers_nothing : (s b a m d p : ℕ) → s ≡ 0 → m ≤ p → nat_le (s * b + a * m) (a * (d + p)) ≡ true
covers_nothing s b a m d p none less =
    rw none (le-leb _ _ (omega (arith, mul-le-mul_left a (more m d p less))))
  where
    more : (m d p : ℕ) → m ≤ p → m ≤ d + p
    more m d p less = omega arith

-- the first block is that of its link
pub first_block : (blocks : List Block) (link : ℕ) (x : Block) → Some x ≡ slice_get blocks 0 → x.link ≡ link → block_of blocks link ≡ x
first_block [] link x first own = absurd cc
first_block (b ∷ bs) link x first own =
    let same : b ≡ x = cc in
    ap (λ o. unwrap_or o (empty_block link)) (find_here (λ b. b.link) link b bs (ap (λ b. b.link) same ∙ own)) ∙ same

-- blocks that begin after the link have none of it
pub no_block : (blocks : List Block) (link : ℕ) → AscendsFrom (λ b. b.link) link blocks → ((x : Block) → slice_get blocks 0 ≡ Some x → x.link ≡ link → ⊥) →
    block_of blocks link ≡ empty_block link
no_block blocks link ascend other = ap (λ o. unwrap_or o (empty_block link)) (find_other (λ b. b.link) link blocks ascend other)

-- so only I2 can fail of it
pub only_shares_fail : (head : Head) (blocks : List Block) (link : ℕ) → block_of blocks link ≡ empty_block link →
    shares_failure head.routes (block_of blocks link) ≡ block_failure head (block_of blocks link)
only_shares_fail head blocks link absent =
    ap (shares_failure head.routes) absent ∙ (sym (empty_failure_is head link) ∙ ap (block_failure head) (sym absent))

-- and that where a pair has a share on it
pub share_alone : (routes : List PairRoutes) (blocks : List Block) (link p : ℕ) → block_of blocks link ≡ empty_block link →
    (weight_on (routes_at routes p).paths link == 0) ≡ covers_share routes (block_of blocks link) p
share_alone routes blocks link p absent =
    rw absent (either (weight_on (routes_at routes p).paths link) refl)
  where
    either : (n : ℕ) → weight_on (routes_at routes p).paths link ≡ n → (n == 0) ≡ covers_share routes (empty_block link) p
    either zero is = sym (covers_by_no_share routes link p is)
    either (suc n) is = ne_eqb (suc n) 0 (λ e. absurd (omega arith)) ∙ sym (share_not_covered routes link p (omega arith))
