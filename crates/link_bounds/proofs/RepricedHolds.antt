-- Of a repriced certificate I4 holds of every link, so the first of I1 to I3 that fails is the first inequality that does.
use Rattle.std.proofs.Common.{◌≡◌, ◌∙◌, ℕ, ◌<◌, true, List, length, ap, arith, get_or, refl, subst, sym}
use Rattle.std.specs.Prelude.{All, IsTrue, unwrap_or}
use Rattle.std.proofs.lemmas.List.Elements.{All-from_get_or, All-get_or}
use Rattle.te_model.specs.declared.certificate.Block.{Block}
use Rattle.te_model.specs.declared.certificate.Certificate.{Certificate}
use Rattle.te_model.specs.declared.network.Network.{Network}
use Rattle.te_model.specs.Certificate.{block_of, empty_block}
use Rattle.te_model.specs.Counting.{first_below, or_else, unless}
use Rattle.te_model.specs.Feasible.{infeasibility}
use Rattle.te_model.specs.Inequalities.{block_failure, failure_at, of_link, pays_weights}
use Rattle.te_model.specs.Network.{is_well_formed, link_count}
use Rattle.link_bounds.specs.SameLinks.{AreSameLinks}
use Rattle.te_model.specs.Validity.{IsValid, IsValidBlock, block_at}
use Rattle.te_model.proofs.ValidHeads.{block_link}
use Rattle.te_model.proofs.Failures.{holds_from_none}
use Rattle.te_model.proofs.FeasibleBlocks.{block_failure-parts, feasible_or_fails}
use Rattle.te_model.proofs.LinkRatios.{block_of_has}
use Rattle.te_model.proofs.Quotients.{below_greatest, greatest_below-least}
use Rattle.te_model.proofs.Searches.{first_below-same, or_else-none}
use Rattle.te_model.proofs.Valid.{block_small}
use Rattle.te_model.proofs.ValidParts.{valid_parts}
use Rattle.te_model.proofs.WellFormed.{capacities_positive}
use Rattle.ratio_checker.proofs.Ascending.{find_own}
use Rattle.ratio_checker.proofs.MoreBlocks.{link_is_there}
use Rattle.ratio_checker.proofs.Validity.{blocks_in_order}
use Rattle.best_blocks.specs.Need.{HasNumbers, IsGreatestNeed, IsNeed, need_of}
use Rattle.best_blocks.proofs.Needs.{is_need, pays_more}
use Rattle.ratio_checker.proofs.FormedHeads.{head_formed}
use Rattle.link_bounds.specs.Laws.{CanReprice, LastRepricingCounts, RepricedHolds, RepricingKeepsFailures, RepricingLowersRatio}
use Rattle.link_bounds.specs.Repriced.{greatest_need, repriced}
use Rattle.ratio_checker.proofs.Absent.{pays_holds}
use Rattle.link_bounds.proofs.RepricedValid.{block_on}
use Rattle.best_blocks.proofs.ValidNumbers.{block_numbers}
use Rattle.link_bounds.proofs.SameNetworks.{infeasibility_same}

-- the greatest need pays for each block, and each ratio that does is no less
pub is_greatest_need : (net : Network) (blocks : List Block) → is_well_formed net ≡ true → All (HasNumbers net) blocks →
    IsGreatestNeed net blocks (greatest_need net blocks)
is_greatest_need net blocks formed numbers = record {
  enough = All-from_get_or (λ b. IsTrue (pays_weights net b (greatest_need net blocks))) blocks (empty_block 0)
      (λ k below. pays_more net (block_at blocks k) (need_of net (block_at blocks k)) (greatest_need net blocks)
      (below_greatest (length blocks) (λ j. need_of net (block_at blocks j)) k below) (need_at_place k below).enough);
  least = λ ratio pays. greatest_below-least (length blocks) (λ k. need_of net (block_at blocks k)) ratio
      (λ k below. (need_at_place k below).least ratio (All-get_or (λ b. IsTrue (pays_weights net b ratio)) blocks k (empty_block 0) below pays));
}
  where
    need_at_place : (k : ℕ) → k < length blocks → IsNeed net (block_at blocks k) (need_of net (block_at blocks k))
    need_at_place k below =
        let b = block_at blocks k in
        let has = All-get_or (HasNumbers net) blocks k (empty_block 0) below numbers in
        let small = block_small net b has.numbers has.small in
        is_need net b (need_of net b) small.b.0 (capacities_positive net formed b.link (block_link net b has.numbers)) refl

-- there is one
pub greatest_need_once : (net : Network) (blocks : List Block) (x y : ℕ) → IsGreatestNeed net blocks x → IsGreatestNeed net blocks y → x ≡ y
greatest_need_once net blocks x y one two = omega (arith, one.least y two.enough, two.least x one.enough)

-- the numbers of the blocks of a valid certificate on another network of its links
pub numbers_on : (c : Certificate) (net : Network) → IsValid c → AreSameLinks c.head.network net → All (HasNumbers net) c.blocks
numbers_on c net valid same = λ k d below.
    block_numbers (repriced c net).head (get_or c.blocks k d)
    (block_on c.head (repriced c net).head same refl refl refl (get_or c.blocks k d) (((valid_parts c).0 valid).blocks k d below))

-- the ratio pays for the block of each link
pub ratio_pays : (c : Certificate) (net : Network) → IsValid c → CanReprice c net → (e : ℕ) →
    pays_weights net (block_of c.blocks e) (greatest_need net c.blocks) ≡ true
ratio_pays c net valid can e =
    block_of_has (λ b. pays_weights net b (greatest_need net c.blocks) ≡ true) c.blocks e (pays_holds net e (greatest_need net c.blocks))
    (is_greatest_need net c.blocks can.formed (numbers_on c net valid can.same)).enough

pub failures_kept : RepricingKeepsFailures
failures_kept c net valid can =
    first_below-same (link_count net) (λ e. of_link e (block_failure (repriced c net).head (block_of c.blocks e))) (λ e. of_link e (infeasibility c.head (block_of c.blocks e)))
    (λ e below. ap (of_link e) (of_block e))
    ∙ ap (λ m. first_below m (λ e. of_link e (infeasibility c.head (block_of c.blocks e)))) (sym can.same.count)
  where
    of_block : (e : ℕ) → block_failure (repriced c net).head (block_of c.blocks e) ≡ infeasibility c.head (block_of c.blocks e)
    of_block e =
        let b = block_of c.blocks e in
        block_failure-parts (repriced c net).head b
        ∙ ap (λ t. or_else (infeasibility (repriced c net).head b) (unless t (failure_at 4 0))) (ratio_pays c net valid can e)
        ∙ or_else-none (infeasibility (repriced c net).head b)
        ∙ sym (infeasibility_same c.head (repriced c net).head can.same refl refl b)

pub repriced_holds : RepricedHolds
repriced_holds c net valid can feasible = holds_from_none (repriced c net) (failures_kept c net valid can ∙ (feasible_or_fails c).1 feasible)

-- each block is the one that is read for its link
own_block : (c : Certificate) → IsValid c → (k : ℕ) → k < length c.blocks → block_of c.blocks (block_at c.blocks k).link ≡ block_at c.blocks k
own_block c valid k below =
    ap (λ o. unwrap_or o (empty_block (block_at c.blocks k).link)) (find_own (λ b. b.link) 0 c.blocks k (empty_block 0) (blocks_in_order c valid) below)

pub ratio_lowered : RepricingLowersRatio
ratio_lowered c valid holds =
    let parts = (valid_parts c).0 valid in
    let net = c.head.network in
    let numbers : All (HasNumbers net) c.blocks = λ k d below. block_numbers c.head (get_or c.blocks k d) (parts.blocks k d below) in
    (is_greatest_need net c.blocks (head_formed c.head parts.head) numbers).least c.head.ratio
    (All-from_get_or (λ b. IsTrue (pays_weights net b c.head.ratio)) c.blocks (empty_block 0) (λ k below.
    let b = block_at c.blocks k in
    let there = link_is_there c.head b (All-get_or (IsValidBlock c.head) c.blocks k (empty_block 0) below parts.blocks) in
    subst (λ (x : Block). IsTrue (pays_weights net x c.head.ratio)) (own_block c valid k below) (holds b.link there).pays))

pub last_counts : LastRepricingCounts
last_counts c net other = refl
