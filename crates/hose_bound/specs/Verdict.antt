-- The inequalities H1 and H2 that a hose certificate states of each link, and the first that fails.
use Rattle.std.specs.Prelude.{◌≡◌, ℕ, ◌+◌, ◌*◌, ◌<◌, ◌⊎◌, Bool, false, List, length, Option, Some, None, find, unwrap_or, slice_index, nat_le, ◌==◌}
use Rattle.te_model.specs.declared.inequality.InequalityFault.{InequalityFault}
use Rattle.te_model.specs.declared.network.Network.{Network}
use Rattle.te_model.specs.declared.route.PairRoutes.{PairRoutes}
use Rattle.te_model.specs.declared.units.TheConstants.{RATIO_UNIT, SHARE_UNIT}
use Rattle.te_model.specs.Counting.{sum_below, or_else, first_below, unless, IsUpTo}
use Rattle.te_model.specs.Inequalities.{LinkFailure, failure_at, of_link}
use Rattle.te_model.specs.Network.{node_count, link_count, capacity_of}
use Rattle.te_model.specs.Path.{share, source_of, destination_of}
use Rattle.hose_bound.specs.declared.hose.Hose.{Hose}
use Rattle.hose_bound.specs.declared.hose.HoseBlock.{HoseBlock}
use Rattle.hose_bound.specs.declared.hose.HoseCert.{HoseCert}
use Rattle.hose_bound.specs.declared.verdict.HoseVerdict.{HoseVerdict}
use Rattle.hose_bound.specs.declared.verdict.HoseVerdict.TheVariants.{Yes, No}
use Rattle.hose_bound.specs.Hose.{HoseHolds}
use Rattle.hose_bound.specs.Rules.{zero_hose_block}

-- the block of link e, which is zeros where there is none
abbrev pub hose_block_of : List HoseBlock → ℕ → HoseBlock
hose_block_of blocks e = unwrap_or (find (λ b. b.link == e) blocks) (zero_hose_block e)

-- H1 of pair p on link e
abbrev pub covers_pair : List PairRoutes → ℕ → HoseBlock → ℕ → Bool
covers_pair routes e b p =
    nat_le (share routes p e) (slice_index b.tails (source_of routes p) + slice_index b.heads (destination_of routes p))

-- what the numbers of the block come to by the hose
abbrev pub block_sum : ℕ → Hose → HoseBlock → ℕ
block_sum nodes h b =
    sum_below nodes (λ i. slice_index h.sent i * slice_index b.tails i + slice_index h.received i * slice_index b.heads i)

-- H2 on link e
abbrev pub pays_numbers : Network → Hose → ℕ → ℕ → HoseBlock → Bool
pays_numbers net h bound e b = nat_le (RATIO_UNIT * block_sum (node_count net) h b) (SHARE_UNIT * capacity_of net e * bound)

-- the first of the pairs below n of which H1 fails on link e
abbrev pub pairs_failure : List PairRoutes → ℕ → HoseBlock → ℕ → Option InequalityFault
pairs_failure routes e b n = first_below n (λ p. unless (covers_pair routes e b p) (failure_at 1 p))

-- the first inequality that fails of what the block says of link e: its place is the pair in H1, and 0 in H2
abbrev pub hose_block_failure : Network → List PairRoutes → Hose → ℕ → ℕ → HoseBlock → Option InequalityFault
hose_block_failure net routes h bound e b = or_else (pairs_failure routes e b (length routes)) (unless (pays_numbers net h bound e b) (failure_at 2 0))

-- the same of a hose certificate
abbrev pub failure_on : Network → List PairRoutes → HoseCert → ℕ → Option InequalityFault
failure_on net routes c e = hose_block_failure net routes c.hose c.bound e (hose_block_of c.blocks e)

-- the failing link, rule and place that are least, in this order
abbrev pub first_hose_failure : Network → List PairRoutes → HoseCert → Option LinkFailure
first_hose_failure net routes c = first_below (link_count net) (λ e. of_link e (failure_on net routes c e))

-- what it is called
abbrev pub verdict_of : Option LinkFailure → HoseVerdict
verdict_of None = Yes
verdict_of (Some f) = No f.link f.rule f.place

-- both inequalities hold of every link
abbrev pub HoldsOnLinks : Network → List PairRoutes → HoseCert → Type 0
HoldsOnLinks net routes c =
    (e : ℕ) → e < link_count net →
    HoseHolds net routes (slice_index c.hose.sent) (slice_index c.hose.received) c.bound e
    (slice_index (hose_block_of c.blocks e).tails) (slice_index (hose_block_of c.blocks e).heads)

-- the inequality of this number fails on link e at this place
pub data HoseFailsAt (net : Network) (routes : List PairRoutes) (c : HoseCert) (e rule place : ℕ) : Type 0 where
  of_pair : place < length routes → covers_pair routes e (hose_block_of c.blocks e) place ≡ false → rule ≡ 1 → HoseFailsAt net routes c e rule place
  of_bound : pays_numbers net c.hose c.bound e (hose_block_of c.blocks e) ≡ false → rule ≡ 2 → place ≡ 0 → HoseFailsAt net routes c e rule place

-- the failure is there, and of all failures it is the least by link, rule and place
pub record IsFirstHoseFailure (net : Network) (routes : List PairRoutes) (c : HoseCert) (f : LinkFailure) : Type 0 where
  pub within : f.link < link_count net
  pub fails : HoseFailsAt net routes c f.link f.rule f.place
  pub least : (e r k : ℕ) → e < link_count net → HoseFailsAt net routes c e r k → (f.link < e) ⊎ ((f.link ≡ e) × IsUpTo f.rule f.place r k)
