use Rattle.std.proofs.Common.{refl, arith}
use Rattle.std.proofs.lemmas.List.Elements.{All-nil}
use Rattle.te_model.proofs.ValidHeads.{valid_without_blocks}
use Rattle.ratio_checker.proofs.Validity.{head_of_valid}
use Rattle.ratio_checker.proofs.feed.FeedBlockFeed.new.Goals as goal

pub new-requires : goal.new-requires
new-requires c = head_of_valid c.args.head c.requires

pub returns : goal.returns
returns c = (
  record {
    same = refl;
    valid = valid_without_blocks c.args.head c.requires;
    judges = record { head = head_of_valid c.args.head c.requires; shares = c.in_ok-shares.ensures };
    before = All-nil _;
    count = omega arith;
    within = omega arith;
    found = refl;
  },
  refl,
  refl,
)
