-- What a feed stands for: a head, and the blocks that came so far.
use Rattle.std.specs.Prelude.{◌≡◌, ℕ, ◌+◌, ◌<◌, ◌≤◌, List, length, Option, All}
use Rattle.te_model.specs.declared.route.PairRoutes.{PairRoutes}
use Rattle.te_model.specs.declared.certificate.Block.{Block}
use Rattle.te_model.specs.declared.certificate.Head.{Head}
use Rattle.te_model.specs.Counting.{first_below}
use Rattle.te_model.specs.Network.{link_count}
use Rattle.te_model.specs.Certificate.{block_of, empty_block}
use Rattle.te_model.specs.Inequalities.{LinkFailure, of_link, block_failure, shares_failure}
use Rattle.te_model.specs.Validity.{IsValid}
use Rattle.ratio_checker.specs.declared.feed.Feed.{Feed}
use Rattle.ratio_checker.specs.Checked.{CanCheckHead}
use Rattle.ratio_checker.specs.Finding.{finding_of}
use Rattle.ratio_checker.specs.Shares.{HasShares}

-- the head that the feed was given
abbrev pub head_of_feed : Feed → Head
head_of_feed feed = feed.head

-- the links below it are judged
abbrev pub next_link : Feed → ℕ
next_link feed = feed.next

-- the first failure of the links below e
abbrev pub failure_below : ℕ → Head → List Block → Option LinkFailure
failure_below e head blocks = first_below e (λ k. of_link k (block_failure head (block_of blocks k)))

-- the first failure of so many links from this one on, all without a block
abbrev pub failure_without : List PairRoutes → ℕ → ℕ → Option LinkFailure
failure_without routes from count =
    first_below count (λ k. of_link (from + k) (shares_failure routes (empty_block (from + k))))

-- the feed can judge a block of its head
pub record CanJudge (feed : Feed) : Type 0 where
  pub head : CanCheckHead feed.head
  pub shares : HasShares feed.head.routes (link_count feed.head.network) feed.shares

-- The feed has judged the links below the next one: the head with these blocks is a valid certificate,
-- and the first failure of those links is found.
pub record StandsFor (feed : Feed) (head : Head) (blocks : List Block) : Type 0 where
  pub same : head_of_feed feed ≡ head
  pub valid : IsValid (record { head = head; blocks = blocks })
  pub judges : CanJudge feed
  pub before : All (λ b. b.link < next_link feed) blocks
  pub count : length blocks ≤ next_link feed
  pub within : next_link feed ≤ link_count head.network
  pub found : feed.found ≡ finding_of (failure_below (next_link feed) head blocks)
