-- The links of blocks that are kept: the rules say the same of them, and where no rule fails they are those that were spelled.
use Rattle.std.proofs.Common.{◌≡◌, ◌∙◌, ℕ, zero, suc, ◌-◌, ◌^◌, ◌<◌, ◌&&◌, true, None, List, [], ◌∷◌, length, map, min, nat_lt, arith, refl, ap, sym, subst}
use Rattle.std.proofs.lemmas.Bool.{ltb-true}
use Rattle.std.proofs.lemmas.Bool.Decides.{nat_tests}
use Rattle.std.proofs.lemmas.List.{length-map}
use Rattle.cert_text.specs.Reading.{narrow_number}
use Rattle.te_model.specs.declared.network.Network.{Network}
use Rattle.te_model.specs.Network.{node_count, link_count}
use Rattle.te_model.specs.Validity.{follows}
use Rattle.te_model.proofs.Tests.{and_true}
use Rattle.number_tables.specs.Rules.{first_rule_of}
use Rattle.hose_bound.specs.declared.hose.HoseBlock.{HoseBlock}
use Rattle.hose_bound.specs.declared.hose.HoseCert.{HoseCert}
use Rattle.hose_bound.specs.Reading.{KeptHasSameFault, keep_block, keep_cert}
use Rattle.hose_bound.specs.Rules.{amount_rule, has_bound, has_link_in_order, has_millionths, hose_block_at, hose_cert_fault, link_before_block}
use Rattle.hose_bound.proofs.Valid.{rules_hold}

kept_zero : narrow_number 0 ≡ 0
kept_zero = omega arith

same_at : (bs : List HoseBlock) (k : ℕ) → hose_block_at (map keep_block bs) k ≡ keep_block (hose_block_at bs k)
same_at [] k = λ i. record { link = sym kept_zero i; tails = []; heads = [] }
same_at (b ∷ bs) zero = refl
same_at (b ∷ bs) (suc k) = same_at bs k

first_in_order : (n links : ℕ) → links < 2 ^ 32 → nat_lt (min n (2 ^ 32 - 1)) links ≡ nat_lt n links
first_in_order n links few = grind (arith, nat_tests)

next_in_order : (n p links : ℕ) → links < 2 ^ 32 →
    (nat_lt (min n (2 ^ 32 - 1)) links && nat_lt (min p (2 ^ 32 - 1)) (min n (2 ^ 32 - 1))) ≡ (nat_lt n links && nat_lt p n)
next_in_order n p links few = grind (arith, nat_tests)

same_order : (net : Network) (bs : List HoseBlock) (k : ℕ) → link_count net < 2 ^ 32 → has_link_in_order net (map keep_block bs) k ≡ has_link_in_order net bs k
same_order net bs zero few =
    ap (λ (b : HoseBlock). nat_lt b.link (link_count net) && true) (same_at bs 0)
    ∙ ap (λ t. t && true) (first_in_order (hose_block_at bs 0).link (link_count net) few)
same_order net bs (suc k) few =
    ap (λ (b : HoseBlock). nat_lt b.link (link_count net) && nat_lt (hose_block_at (map keep_block bs) k).link b.link) (same_at bs (suc k))
    ∙ ap (λ (b : HoseBlock). nat_lt (narrow_number (hose_block_at bs (suc k)).link) (link_count net) && nat_lt b.link (narrow_number (hose_block_at bs (suc k)).link)) (same_at bs k)
    ∙ next_in_order (hose_block_at bs (suc k)).link (hose_block_at bs k).link (link_count net) few

same_numbers : (bs : List HoseBlock) (k : ℕ) → has_millionths (map keep_block bs) k ≡ has_millionths bs k
same_numbers [] k = refl
same_numbers (b ∷ bs) zero = refl
same_numbers (b ∷ bs) (suc k) = same_numbers bs k

pub kept_has_same_fault : KeptHasSameFault
kept_has_same_fault net c few =
    let count : length (map keep_block c.blocks) ≡ length c.blocks = length-map c.blocks keep_block in
    λ i. first_rule_of (
    amount_rule (node_count net) c.hose
    ∷ record { places = 1; holds = λ _. has_bound c }
    ∷ record { places = count i; holds = λ k. same_order net c.blocks k few i }
    ∷ record { places = count i; holds = λ k. same_numbers c.blocks k i }
    ∷ []
    )

blocks_whole : (bs : List HoseBlock) → ((k : ℕ) → k < length bs → narrow_number (hose_block_at bs k).link ≡ (hose_block_at bs k).link) → map keep_block bs ≡ bs
blocks_whole [] each = refl
blocks_whole (b ∷ bs) each =
    let first : narrow_number b.link ≡ b.link = each 0 (omega arith) in
    let rest = blocks_whole bs (λ k below. each (suc k) (omega (arith, below))) in
    λ i. record { link = first i; tails = b.tails; heads = b.heads } ∷ rest i

whole_link : (n links : ℕ) → links < 2 ^ 32 → narrow_number n < links → narrow_number n ≡ n
whole_link n links few below = omega (arith, few, below)

-- where no rule fails of what is kept, nothing was cut off
pub cert_whole : (net : Network) (c : HoseCert) → link_count net < 2 ^ 32 → hose_cert_fault net (keep_cert c) ≡ None → keep_cert c ≡ c
cert_whole net c few none =
    let rules = rules_hold net (keep_cert c) none in
    let blocks = blocks_whole c.blocks (λ k below.
    let count = length-map c.blocks keep_block in
    let at = rules.links k (omega (arith, below, count)) in
    let both = and_true (nat_lt (hose_block_at (map keep_block c.blocks) k).link (link_count net))
    (follows (link_before_block (map keep_block c.blocks) k) (hose_block_at (map keep_block c.blocks) k).link) at in
    let kept : (hose_block_at (map keep_block c.blocks) k).link ≡ narrow_number (hose_block_at c.blocks k).link = ap (λ (b : HoseBlock). b.link) (same_at c.blocks k) in
    let inside = ltb-true _ _ both.0 in
    whole_link (hose_block_at c.blocks k).link (link_count net) few (subst (λ n. n < link_count net) kept inside)) in
    λ i. record { hose = c.hose; bound = c.bound; blocks = blocks i }
