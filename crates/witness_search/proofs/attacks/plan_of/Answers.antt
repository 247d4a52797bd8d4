use Rattle.std.proofs.Common.{List, [], subst, sym}
use Rattle.std.specs.Prelude.{IfOk}
use Rattle.te_model.specs.declared.route.Pair.{Pair}
use Rattle.te_model.proofs.Valid.{valid_limits}
use Rattle.scheme.specs.Reach.{AllReached, ArePairsOf}
use Rattle.witness_search.proofs.Heads.{head_pairs_of, head_reached}
use Rattle.ratio_checker.proofs.FormedHeads.{head_formed}
use Rattle.te_model.proofs.ValidHeads.{valid_without_blocks}
use Rattle.witness_search.proofs.attacks.plan_of.Goals as goal

pub plan_with-requires-clause-network : goal.plan_with-requires-clause-network
plan_with-requires-clause-network g c = head_formed c.args.head.now c.requires

pub plan_with-requires-clause-pairs : goal.plan_with-requires-clause-pairs
plan_with-requires-clause-pairs g c =
    let h = c.args.head.now in
    let few = (valid_limits (record { head = h; blocks = [] }) (valid_without_blocks h c.requires)).pairs in
    subst (ArePairsOf h.network) (sym c.in_ok-pairs.ensures) (head_pairs_of h c.requires few)

pub plan_with-requires-clause-reached : goal.plan_with-requires-clause-reached
plan_with-requires-clause-reached g c =
    let h = c.args.head.now in
    subst (AllReached h.network) (sym c.in_ok-pairs.ensures) (head_reached h c.requires)

pub returns : goal.returns
returns g c =
    let h = c.args.head.now in
    subst (λ (ps : List Pair). IfOk c.plan_with.result (g.S.Scheme.is_plan c.args.rival.now h.network ps)) c.in_ok-pairs.ensures c.plan_with.ensures
