-- The rules K1 to K4 of hoses and hose certificates, and the first that fails.
use Rattle.std.specs.Prelude.{◌≡◌, ℕ, zero, suc, ◌-◌, ◌*◌, ◌^◌, Bool, ◌&&◌, List, [], ◌∷◌, length, Option, Some, None, slice_index, slice_index_or, nat_le, nat_lt, if◌then◌else◌, IsTrue}
use Rattle.std.specs.List.{list_all}
use Rattle.te_model.specs.declared.network.Network.{Network}
use Rattle.te_model.specs.declared.certificate.RuleFault.{RuleFault}
use Rattle.te_model.specs.declared.units.TheConstants.{SHARE_UNIT}
use Rattle.te_model.specs.Network.{node_count, link_count}
use Rattle.te_model.specs.Validity.{Rule, follows}
use Rattle.number_tables.specs.Rules.{first_rule_of}
use Rattle.hose_bound.specs.declared.hose.Hose.{Hose}
use Rattle.hose_bound.specs.declared.hose.HoseBlock.{HoseBlock}
use Rattle.hose_bound.specs.declared.hose.HoseCert.{HoseCert}
use Rattle.hose_bound.specs.Files.{is_shaped_hose, IsShapedCert}

-- what stands for a block that is not there: zeros
abbrev pub zero_hose_block : ℕ → HoseBlock
zero_hose_block e = record { link = e; tails = []; heads = [] }

-- block k
abbrev pub hose_block_at : List HoseBlock → ℕ → HoseBlock
hose_block_at blocks k = slice_index_or blocks k (zero_hose_block 0)

-- K1 at place i of what node i sends, and at place n + i of what it receives
abbrev pub is_small_amount : ℕ → Hose → ℕ → Bool
is_small_amount nodes h k = nat_le (if nat_lt k nodes then slice_index h.sent k else slice_index h.received (k - nodes)) (2 ^ 32)

-- K2
abbrev pub has_bound : HoseCert → Bool
has_bound c = nat_lt c.bound (10 ^ 19)

-- the link of the block before block k
abbrev pub link_before_block : List HoseBlock → ℕ → Option ℕ
link_before_block blocks zero = None
link_before_block blocks (suc k) = Some (hose_block_at blocks k).link

-- K3 of block k: its link is one of the network, and above that of the block before
abbrev pub has_link_in_order : Network → List HoseBlock → ℕ → Bool
has_link_in_order net blocks k = nat_lt (hose_block_at blocks k).link (link_count net) && follows (link_before_block blocks k) (hose_block_at blocks k).link

abbrev pub are_millionths : List ℕ → Bool
are_millionths numbers = list_all (λ x. nat_le x SHARE_UNIT) numbers

-- K4 of block k
abbrev pub has_millionths : List HoseBlock → ℕ → Bool
has_millionths blocks k = are_millionths (hose_block_at blocks k).tails && are_millionths (hose_block_at blocks k).heads

abbrev pub amount_rule : ℕ → Hose → Rule
amount_rule nodes h = record { places = 2 * nodes; holds = is_small_amount nodes h }

-- K1
abbrev pub hose_rules : ℕ → Hose → List Rule
hose_rules nodes h = amount_rule nodes h ∷ []

-- K1 to K4, in the order of their numbers
abbrev pub hose_cert_rules : Network → HoseCert → List Rule
hose_cert_rules net c =
    amount_rule (node_count net) c.hose
    ∷ record { places = 1; holds = λ _. has_bound c }
    ∷ record { places = length c.blocks; holds = has_link_in_order net c.blocks }
    ∷ record { places = length c.blocks; holds = has_millionths c.blocks }
    ∷ []

-- the failing rule of the least number, at its least place
abbrev pub hose_fault : ℕ → Hose → Option RuleFault
hose_fault nodes h = first_rule_of (hose_rules nodes h)

abbrev pub hose_cert_fault : Network → HoseCert → Option RuleFault
hose_cert_fault net c = first_rule_of (hose_cert_rules net c)

-- a hose of so many nodes of which no rule fails
pub record IsValidHose (nodes : ℕ) (h : Hose) : Type 0 where
  pub shaped : IsTrue (is_shaped_hose nodes h)
  pub no_fault : hose_fault nodes h ≡ None

-- a hose certificate of the network of which no rule fails
pub record IsValidHoseCert (net : Network) (c : HoseCert) : Type 0 where
  pub shaped : IsShapedCert (node_count net) c
  pub no_fault : hose_cert_fault net c ≡ None
