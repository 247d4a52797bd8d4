-- What settled weights say of their block.
use Rattle.std.proofs.Common.{◌≡◌, ℕ, ◌<◌, List, length, arith, sym, subst}
use Rattle.te_model.specs.declared.network.Network.{Network}
use Rattle.te_model.specs.declared.route.PairRoutes.{PairRoutes}
use Rattle.te_model.specs.declared.certificate.Block.{Block}
use Rattle.te_model.specs.declared.demand.DemandSet.{DemandSet}
use Rattle.te_model.specs.Network.{link_count}
use Rattle.best_blocks.specs.Need.{need_of}
use Rattle.best_blocks.specs.Under.{IsNeedUnder}
use Rattle.best_blocks.proofs.NeedLaws.{need_of_block}
use Rattle.ratio_certificate.specs.Polished.{ImprovesBy64th, HasNoBetterChange}
use Rattle.ratio_certificate.specs.Steps.{IsSettledAt}

-- where no step of a weight improves the need, the block is settled
pub settled_block : (net : Network) (routes : List PairRoutes) (set : DemandSet) (block : Block) (need : ℕ) → length block.weights ≡ link_count net →
    need ≡ need_of net block → ((h : ℕ) → h < link_count net → IsSettledAt net routes set block.link need block.weights h) → HasNoBetterChange net routes set block
settled_block net routes set block need count is settled weights change changed best better =
    let under = need_of_block net routes set block.link weights changed best in
    let at = subst (λ (ws : List ℕ). IsNeedUnder net routes set block.link ws (need_of net changed)) change.new_is under in
    settled change.link (omega (arith, change.within, count)) change.weight change.step (need_of net changed) at
    (subst (λ x. ImprovesBy64th x (need_of net changed)) (sym is) better)
