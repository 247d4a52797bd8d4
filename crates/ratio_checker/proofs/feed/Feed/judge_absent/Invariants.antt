use Rattle.std.proofs.Common.{◌≡◌, ℕ, ◌+◌, None}
use Rattle.ratio_checker.specs.Feeds.{failure_without}
use Rattle.ratio_checker.proofs.feed.Feed.judge_absent.Given as goal

abbrev pub invariant-loop-link : goal.invariant-loop-link
invariant-loop-link l = (count : ℕ) → l.self.next + count ≡ l.link → failure_without l.self.head.routes l.self.next count ≡ None
