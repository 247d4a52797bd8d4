use Rattle.std.proofs.Common.{◌≡◌, true, take}
use Rattle.std.specs.Prelude.{All}
use Rattle.best_blocks.specs.Rows.{is_slack_for}
use Rattle.best_blocks.proofs.rows.are_slack.Given as goal

abbrev pub invariant-loop-link : goal.invariant-loop-link
invariant-loop-link l = All (λ h. is_slack_for l.net l.row l.old l.new h ≡ true) (take l.link-index l.links)
