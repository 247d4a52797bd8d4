-- Blocks that need more than 0, and on whose links some pair has a share.
use Rattle.std.proofs.Common.{◌≡◌, ℕ, ◌^◌, ◌<◌, ◌&&◌, nat_le, All, List, Some, None, length, nat_lt, if◌then◌else◌, arith, subst, inl, inr}
use Rattle.std.proofs.lemmas.Bool.{cases_lt, and_parts, ltb-true, lt-ltb, le-ltb}
use Rattle.std.proofs.lemmas.List.Elements.{All-get_or}
use Rattle.te_model.specs.declared.network.Network.{Network}
use Rattle.te_model.specs.declared.route.PairRoutes.{PairRoutes}
use Rattle.te_model.specs.declared.certificate.Block.{Block}
use Rattle.te_model.specs.Certificate.{empty_block}
use Rattle.te_model.specs.Network.{link_count}
use Rattle.te_model.specs.Validity.{block_at}
use Rattle.routing.specs.declared.shares.PairShare.{PairShare}
use Rattle.routing.specs.Shares.{shares_on, AreShares}
use Rattle.best_blocks.specs.Need.{need_of, HasNumbers}
use Rattle.best_blocks.proofs.SharesListed.{some_listed, listed_some}
use Rattle.worst_matrices.specs.Count.{HasUsedBlock}
use Rattle.worst_matrices.specs.Neediest.{IsNeediestLink}

-- the parts of a number that is above 0
need_parts : (n m : ℕ) → 0 < (if nat_lt 0 n then m else 0) → (0 < n) × (0 < m)
need_parts n m some = elim (cases_lt 0 n) [
  | inl lt ↦ (lt, subst (λ b. 0 < (if b then m else 0)) (lt-ltb 0 n lt) some)
  | inr ge ↦ absurd (omega (arith, subst (λ b. 0 < (if b then m else 0)) (le-ltb 0 n ge) some))
]

both_positive : (n m : ℕ) → 0 < n → (if nat_lt 0 n then m else 0) ≡ 0 → m ≡ 0
both_positive n m some zero = subst (λ b. (if b then m else 0) ≡ 0) (lt-ltb 0 n some) zero

-- the link of a block is one of the network
link_below : (net : Network) (blocks : List Block) (k : ℕ) → All (HasNumbers net) blocks → k < length blocks → (block_at blocks k).link < link_count net
link_below net blocks k all below =
    let block = block_at blocks k in
    let has = All-get_or (HasNumbers net) blocks k (empty_block 0) below all in
    let is_link = nat_lt block.link (link_count net) in
    let is_small = nat_le block.a (2 ^ 36) in
    let numbers = and_parts (is_link && is_small && nat_le 1 block.b) (nat_le block.b (2 ^ 36)) has.numbers in
    let parts = and_parts (is_link && is_small) (nat_le 1 block.b) numbers.0 in
    ltb-true block.link (link_count net) (and_parts is_link is_small parts.0).0

-- the link that is found has such a block
pub found_is_used : (net : Network) (routes : List PairRoutes) (table : List (List PairShare)) (blocks : List Block) (e : ℕ) → AreShares net routes table →
    All (HasNumbers net) blocks → IsNeediestLink net table blocks (Some e) → HasUsedBlock net routes blocks
found_is_used net routes table blocks e are all found =
    let k = found.0 in
    let block = block_at blocks k in
    let below = found.1.within in
    let parts = need_parts (length (shares_on table block.link)) (need_of net block) found.1.positive in
    let shares = some_listed routes block.link (shares_on table block.link) (are.each block.link (link_below net blocks k all below)) parts.0 in
    (k, record { within = below; need = parts.1; share = shares })

-- where none is found there is no such block
pub none_is_unused : (net : Network) (routes : List PairRoutes) (table : List (List PairShare)) (blocks : List Block) → AreShares net routes table →
    All (HasNumbers net) blocks → IsNeediestLink net table blocks None → HasUsedBlock net routes blocks → ⊥
none_is_unused net routes table blocks are all found used =
    let k = used.0 in
    let is = used.1 in
    let block = block_at blocks k in
    let list = shares_on table block.link in
    let some = listed_some routes block.link list (are.each block.link (link_below net blocks k all is.within)) is.share in
    let zero = both_positive (length list) (need_of net block) some (found k is.within) in
    omega (arith, zero, is.need)
