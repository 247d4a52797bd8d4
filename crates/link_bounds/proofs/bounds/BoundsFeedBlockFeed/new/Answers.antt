use Rattle.std.proofs.Common.{[], ap, arith, length, refl, subst, sym}
use Rattle.std.proofs.lemmas.List.Elements.{All-nil}
use Rattle.te_model.proofs.ValidHeads.{valid_without_blocks}
use Rattle.ratio_checker.proofs.Validity.{head_of_valid}
use Rattle.link_bounds.specs.Feeds.{HasNeeds}
use Rattle.link_bounds.proofs.FedBlocks.{needs_none}
use Rattle.link_bounds.proofs.bounds.BoundsFeedBlockFeed.new.Goals as goal

pub new-requires : goal.new-requires
new-requires c = head_of_valid c.args.head c.requires

pub returns : goal.returns
returns c =
    let valid = valid_without_blocks c.args.head c.requires in (
      record {
        same = refl;
        valid = valid;
        finds = record { head = head_of_valid c.args.head c.requires; shares = c.in_ok-shares.ensures };
        before = All-nil _;
        count = omega arith;
        within = omega arith;
        found = refl;
        needs = subst (HasNeeds (record { head = c.args.head; blocks = [] })) (sym (c.in_ok-needs.ensures.items_if_clones_equal (λ y same. same)))
            (needs_none c.args.head (length c.as_slice.result.now) valid (ap length c.as_slice.ensures));
      },
      refl,
      refl,
    )
