use Rattle.std.proofs.Common.{◌≡◌, ◌∙◌, List, refl, sym, subst}
use Rattle.te_model.specs.Network.{link_count}
use Rattle.te_model.proofs.WellFormed.{few_links}
use Rattle.hose_bound.specs.declared.hose.HoseBlock.{HoseBlock}
use Rattle.hose_bound.specs.Covering.{AreMadeBlocks, IsLeastBound}
use Rattle.hose_bound.proofs.LeastBounds.{least_bound_of}
use Rattle.hose_bound.proofs.Made.{made_for}
use Rattle.hose_bound.proofs.Valid.{hose_amounts, hose_counts}
use Rattle.te_model.specs.Network.{node_count}
use Rattle.hose_bound.proofs.maker.make.Goals as goal

pub made_blocks-requires-clause-amounts : goal.made_blocks-requires-clause-amounts
made_blocks-requires-clause-amounts c = hose_amounts (node_count c.args.net.now) c.args.hose c.requires.hose

pub least_bound-bound-requires-clause-amounts : goal.least_bound-bound-requires-clause-amounts
least_bound-bound-requires-clause-amounts c = hose_amounts (node_count c.args.net.now) c.args.hose c.requires.hose

pub made_blocks-requires-clause-sent : goal.made_blocks-requires-clause-sent
made_blocks-requires-clause-sent c = (hose_counts (node_count c.args.net.now) c.args.hose c.requires.hose).0

pub made_blocks-requires-clause-received : goal.made_blocks-requires-clause-received
made_blocks-requires-clause-received c = (hose_counts (node_count c.args.net.now) c.args.hose c.requires.hose).1

pub returns-clause-made : goal.returns-clause-made
returns-clause-made c =
    let net = c.args.net.now in
    let h = c.args.hose in
    let same : c.as_slice-2.result.now ≡ c.new-2.result = c.as_slice-2.ensures.value ∙ sym c.new-2.ensures in
    let blocks = subst (AreMadeBlocks net c.args.routing.now.routes h (link_count net)) (sym c.new-2.ensures) (rw c.as_slice.ensures at c.in_ok-blocks.ensures.made) in
    let bound = subst (λ (bs : List HoseBlock). IsLeastBound net h bs c.least_bound-bound.result) same c.least_bound-bound.ensures.bound in
    made_for net c.args.routing.now.routes h (record { hose = h; bound = c.least_bound-bound.result; blocks = c.new-2.result }) refl c.requires.hose
    (few_links net c.requires.network) blocks bound c.least_bound-bound.ensures.small

pub returns-clause-exact : goal.returns-clause-exact
returns-clause-exact c =
    let net = c.args.net.now in
    let h = c.args.hose in
    let routes = c.args.routing.now.routes in
    let made = rw c.as_slice.ensures at c.in_ok-blocks.ensures.made in
    let attained = rw c.as_slice.ensures at c.in_ok-blocks.ensures.attained in
    let bound = subst (λ (bs : List HoseBlock). IsLeastBound net h bs c.least_bound-bound.result) c.as_slice-2.ensures.value c.least_bound-bound.ensures.bound in
    least_bound_of net routes h c.in_ok-blocks.blocks.items c.least_bound-bound.result attained made.below bound
