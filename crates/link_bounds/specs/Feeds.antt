-- What a feed of blocks stands for: a head, and the blocks that came so far.
use Rattle.std.specs.Prelude.{◌≡◌, ℕ, ◌+◌, ◌<◌, ◌≤◌, List, length, slice_index, Option, All}
use Rattle.te_model.specs.declared.certificate.Block.{Block}
use Rattle.te_model.specs.declared.certificate.Certificate.{Certificate}
use Rattle.te_model.specs.declared.certificate.Head.{Head}
use Rattle.te_model.specs.Certificate.{block_of}
use Rattle.te_model.specs.Counting.{first_below}
use Rattle.te_model.specs.Feasible.{infeasibility}
use Rattle.te_model.specs.Inequalities.{LinkFailure, of_link}
use Rattle.te_model.specs.Network.{link_count}
use Rattle.te_model.specs.Validity.{IsValid}
use Rattle.ratio_checker.specs.Checked.{CanCheckHead}
use Rattle.ratio_checker.specs.Finding.{finding_of}
use Rattle.ratio_checker.specs.Shares.{HasShares}
use Rattle.link_bounds.specs.Needs.{need_at}
use Rattle.link_bounds.specs.declared.bounds.BoundsFeed.{BoundsFeed}

-- the head that the feed was given
abbrev pub head_of_feed : BoundsFeed → Head
head_of_feed feed = feed.head

-- the links below it are judged
abbrev pub next_link : BoundsFeed → ℕ
next_link feed = feed.next

-- the first of I1 to I3 that fails of so many links from this one on
abbrev pub infeasibility_from : Head → List Block → ℕ → ℕ → Option LinkFailure
infeasibility_from head blocks from count =
    first_below count (λ k. of_link (from + k) (infeasibility head (block_of blocks (from + k))))

-- the need of each link, as the blocks have it
pub record HasNeeds (c : Certificate) (needs : List ℕ) : Type 0 where
  pub count : length needs ≡ link_count c.head.network
  pub each : (e : ℕ) → e < link_count c.head.network → slice_index needs e ≡ need_at c e

-- the feed can judge links of its head
pub record CanFind (feed : BoundsFeed) : Type 0 where
  pub head : CanCheckHead feed.head
  pub shares : HasShares feed.head.routes (link_count feed.head.network) feed.shares

-- The feed has judged the links below the next one: the head with these blocks is a valid certificate, the first of I1 to I3 that fails
-- of those links is found, and the needs are known.
pub record StandsFor (feed : BoundsFeed) (head : Head) (blocks : List Block) : Type 0 where
  pub same : head_of_feed feed ≡ head
  pub valid : IsValid (record { head = head; blocks = blocks })
  pub finds : CanFind feed
  pub before : All (λ b. b.link < next_link feed) blocks
  pub count : length blocks ≤ next_link feed
  pub within : next_link feed ≤ link_count head.network
  pub found : feed.found ≡ finding_of (infeasibility_from head blocks 0 (next_link feed))
  pub needs : HasNeeds (record { head = head; blocks = blocks }) feed.needs.items
