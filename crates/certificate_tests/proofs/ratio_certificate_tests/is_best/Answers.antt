use Rattle.std.proofs.Common.{List, length, arith, sym, subst}
use Rattle.te_model.specs.declared.route.PairRoutes.{PairRoutes}
use Rattle.best_blocks.specs.Conditions.{IsSetWithin}
use Rattle.best_blocks.specs.Sharing.{HasShare}
use Rattle.certificate_tests.proofs.RatioCertificateLaws.{sample_within, straight_shares}
use Rattle.certificate_tests.proofs.ratio_certificate_tests.is_best.Goals as goal

pub scale-requires-clause-routing : goal.scale-requires-clause-routing
scale-requires-clause-routing c = sample_within _ _ c.requires.network c.requires.routes

pub scale-requires-clause-set : goal.scale-requires-clause-set
scale-requires-clause-set c = subst (λ (r : List PairRoutes). IsSetWithin (length r) c.args.set.now) (sym c.requires.routes) c.requires.set

pub scale-requires-clause-some : goal.scale-requires-clause-some
scale-requires-clause-some c = subst (λ (r : List PairRoutes). HasShare r 0) (sym c.requires.routes) (straight_shares 0 (omega arith))
