use Rattle.std.proofs.Common.{◌≡◌, ◌++◌, ◌∷◌, [], List, get_or, append-nil, ap, sym, subst, rules, slice_index}
use Rattle.te_model.specs.declared.network.Link.{Link}
use Rattle.te_model.specs.Network.{head_of, no_link}
use Rattle.routing.specs.Decomposition.{IsLowestPath}
use Rattle.te_model.proofs.WellFormed.{links_join}
use Rattle.routing.proofs.LowestPaths.{FollowedSoFar, followed_none, followed_more}
use Rattle.routing.proofs.decomposition.lowest_path.Goals as goal

pub loop-node-init : goal.loop-node-init
loop-node-init c =
    let net = c.args.net.now in
    let flow = slice_index c.args.flow.now in
    let (amount, some, is) = c.requires.flow in
    subst (FollowedSoFar net flow c.args.src c.args.dst c.args.src) (sym c.new-path.ensures.items)
    (followed_none net flow amount c.args.src c.args.dst c.requires.src c.requires.apart some is)

pub loop-node-preserved : goal.loop-node-preserved
loop-node-preserved c =
    let net = c.args.net.now in
    let flow = slice_index c.args.flow.now in
    let path = c.loop-node.path.items in
    let h = c.lowest_link-h.result in
    let (amount, some, is) = c.requires.flow in
    let pushed : c.push.new.self.items ≡ c.loop-node.path.items ++ c.lowest_link-h.result ∷ [] = search rules in
    let node : (get_or c.as_slice.result.now c.lowest_link-h.result no_link).head ≡ head_of c.args.net.now c.lowest_link-h.result =
    ap (λ (ls : List Link). (get_or ls c.lowest_link-h.result no_link).head) c.as_slice.ensures
    in
    subst (λ v. FollowedSoFar net flow c.args.src c.args.dst v c.push.new.self.items) (sym node)
    (subst (FollowedSoFar net flow c.args.src c.args.dst (head_of net h)) (sym pushed)
    (followed_more net flow amount c.args.src c.args.dst c.loop-node.node h path (links_join net c.requires.network) is c.loop-node.invariant
    c.loop-node-test.true c.lowest_link-h.ensures))

pub returns : goal.returns
returns c =
    subst (IsLowestPath c.args.net.now (slice_index c.args.flow.now) c.args.src c.args.dst) (append-nil c.loop-node.path.items)
    (c.loop-node.invariant.extends [] c.loop-node-test.false)
