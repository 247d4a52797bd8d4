-- What valid certificates and valid heads give: path routings with few paths, and blocks of links that are there.
use Rattle.std.proofs.Common.{◌≡◌, ℕ, ◌<◌, ◌≤◌, Bool, true, false, ◌==◌, None, List, [], length, get_or, arith, cond}
use Rattle.std.proofs.lemmas.Bool.Decides.{nat_tests}
use Rattle.std.proofs.lemmas.List.Elements.{All-nil}
use Rattle.te_model.specs.declared.certificate.Block.{Block}
use Rattle.te_model.specs.declared.certificate.Certificate.{Certificate}
use Rattle.te_model.specs.declared.certificate.Head.{Head}
use Rattle.te_model.specs.declared.limits.TheConstants.{FORMAT_1, FORMAT_2}
use Rattle.te_model.specs.declared.network.Network.{Network}
use Rattle.te_model.specs.Formats.{limits_of}
use Rattle.te_model.specs.Network.{link_count}
use Rattle.te_model.specs.PathRouting.{IsPathRouting}
use Rattle.te_model.specs.Shape.{is_row_of}
use Rattle.te_model.specs.Validity.{IsValid, IsValidBlock, IsValidHead, fault_at, faults_from, has_ascending_paths, has_block_numbers, has_sound_paths, has_whole_weight, rules}
use Rattle.te_model.proofs.PathRoutings.{path_routing}
use Rattle.te_model.proofs.Tests.{first_failing_none_at, first_some_none_at}
use Rattle.te_model.proofs.ValidParts.{valid_parts}

-- a valid head with no blocks is a valid certificate
pub valid_without_blocks : (head : Head) → IsValidHead head → IsValid (record { head = head; blocks = [] })
valid_without_blocks head valid =
    (valid_parts (record { head = head; blocks = [] })).1 (record {
      head = valid;
      count = omega arith;
      blocks = All-nil (IsValidBlock head);
      ascending = λ k below. absurd (omega (arith, below));
    })

-- the routing of a valid certificate is a path routing
pub certificate_routing : (c : Certificate) → IsValid c → IsPathRouting c.head.network c.head.routes
certificate_routing c valid =
    let pairs = length c.head.routes in
    let at : (k : ℕ) → get_or (faults_from 1 (rules c)) k None ≡ None = λ k. first_some_none_at (faults_from 1 (rules c)) k valid.1 in
    (path_routing c.head).0 (λ p below. (
      first_failing_none_at pairs (has_sound_paths c.head) (fault_at 4) p (at 3) below,
      first_failing_none_at pairs (has_ascending_paths c.head) (fault_at 5) p (at 4) below,
      first_failing_none_at pairs (has_whole_weight c.head) (fault_at 6) p (at 5) below,
    ))

pub head_routing : (head : Head) → IsValidHead head → IsPathRouting head.network head.routes
head_routing head valid = certificate_routing (record { head = head; blocks = [] }) (valid_without_blocks head valid)

-- either format has at most 32 paths for each pair
pub few_in_format : (format : ℕ) → (limits_of format).paths ≤ 32
few_in_format format = go (format == 2)
  where
    go : (b : Bool) → (cond b FORMAT_2 FORMAT_1).paths ≤ 32
    go true = omega arith
    go false = omega arith

-- a block that keeps its rule is of a link that is there
pub block_link : (net : Network) (b : Block) → has_block_numbers net b ≡ true → b.link < link_count net
block_link net b numbers = grind (arith, nat_tests)

-- a row has its number of numbers
pub row_length : (n : ℕ) (numbers : List ℕ) → is_row_of n numbers ≡ true → length numbers ≡ n
row_length n numbers is = grind (arith, nat_tests)
