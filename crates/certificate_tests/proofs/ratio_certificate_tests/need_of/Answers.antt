use Rattle.std.proofs.Common.{List, length, arith, sym, subst}
use Rattle.te_model.specs.declared.route.PairRoutes.{PairRoutes}
use Rattle.best_blocks.specs.Conditions.{IsSetWithin}
use Rattle.best_blocks.specs.Sharing.{HasShare}
use Rattle.certificate_tests.proofs.RatioCertificateLaws.{best_numbers, sample_within, straight_shares}
use Rattle.certificate_tests.proofs.ratio_certificate_tests.need_of.Goals as goal

pub scale-requires-clause-routing : goal.scale-requires-clause-routing
scale-requires-clause-routing c = sample_within _ _ c.requires.network c.requires.routes

pub scale-requires-clause-set : goal.scale-requires-clause-set
scale-requires-clause-set c = subst (λ (r : List PairRoutes). IsSetWithin (length r) c.args.set.now) (sym c.requires.routes) c.requires.set

pub scale-requires-clause-some : goal.scale-requires-clause-some
scale-requires-clause-some c = subst (λ (r : List PairRoutes). HasShare r 0) (sym c.requires.routes) (straight_shares 0 (omega arith))

pub need-least-requires-clause-numbers : goal.need-least-requires-clause-numbers
need-least-requires-clause-numbers c =
    (best_numbers _ _ _ _ _ _ (omega arith) c.requires.network c.requires.routes c.requires.count c.requires.small (rw c.in-Some.is at c.in_ok-block.ensures.best)).numbers

pub need-least-requires-clause-small : goal.need-least-requires-clause-small
need-least-requires-clause-small c =
    (best_numbers _ _ _ _ _ _ (omega arith) c.requires.network c.requires.routes c.requires.count c.requires.small (rw c.in-Some.is at c.in_ok-block.ensures.best)).small
