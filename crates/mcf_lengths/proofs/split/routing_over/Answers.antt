use Rattle.std.proofs.Common.{◌≡◌, ◌+◌, ◌<◌, List, ℕ, [], ◌∷◌, ◌++◌, true, length, get_or, arith, ap, sym, subst, rules}
use Rattle.std.proofs.lemmas.List.{length-map}
use Rattle.std.proofs.lemmas.List.Elements.{All-weaker}
use Rattle.te_model.specs.declared.route.Pair.{Pair}
use Rattle.te_model.specs.declared.route.PairRoutes.{PairRoutes}
use Rattle.te_model.specs.declared.route.PathShare.{PathShare}
use Rattle.routing.specs.Split.{are_splits}
use Rattle.routing.proofs.Splits.{splits_of}
use Rattle.scheme.specs.Fixed.{IsRoutingBy, IsSplitBy}
use Rattle.scheme.specs.Reach.{no_pair, pair_at}
use Rattle.scheme.proofs.Plans.{RoutesSoFar, routes_done, routes_more}
use Rattle.routing.specs.Even.{IsEvenMix}
use Rattle.rate_sweeps.specs.Sweeps.{links_in}
use Rattle.mcf_lengths.specs.declared.round.FlowRound.{FlowRound}
use Rattle.mcf_lengths.specs.declared.round.TheConstants.{ROUNDS}
use Rattle.mcf_lengths.specs.Rounds.{AreLeastPaths, IsRoundsSplit, paths_of_round}
use Rattle.mcf_lengths.proofs.Splitting.{paths_count, rounds_split}
use Rattle.mcf_lengths.proofs.split.routing_over.Goals as goal

pub paths_of_pair-requires : goal.paths_of_pair-requires
paths_of_pair-requires c =
    let net = c.args.net.now in
    let pairs = c.args.pairs.now.list in
    let p = c.loop-p.p in
    let inside : p < length pairs = omega (arith, c.loop-p-test.true, ap (λ (l : List Pair). length l) c.as_slice-list.ensures) in
    All-weaker (λ (r : FlowRound). AreLeastPaths net r.lengths pairs (paths_of_round r)) (λ (r : FlowRound). p < length r.paths)
    (λ r least. omega (arith, inside, least.count, length-map r.paths links_in)) c.args.rounds.now c.requires.paths

pub even_mix-requires-clause-some : goal.even_mix-requires-clause-some
even_mix-requires-clause-some c = omega (arith, paths_count c.args.rounds.now c.loop-p.p c.in_ok-paths.paths.items c.in_ok-paths.ensures, c.requires.count)

pub even_mix-requires-clause-few : goal.even_mix-requires-clause-few
even_mix-requires-clause-few c = omega (arith, paths_count c.args.rounds.now c.loop-p.p c.in_ok-paths.paths.items c.in_ok-paths.ensures, c.requires.count)

pub loop-p-preserved : goal.loop-p-preserved
loop-p-preserved c =
    let net = c.args.net.now in
    let pairs = c.args.pairs.now.list in
    let rounds = c.args.rounds.now in
    let p = c.loop-p.p in
    let rule = IsRoundsSplit rounds in
    let pair = get_or c.as_slice-list.result.now p no_pair in
    let shares = c.in_ok-shares.shares.items in
    let inside : p < length pairs = omega (arith, c.loop-p-test.true, ap (λ (l : List Pair). length l) c.as_slice-list.ensures) in
    let at : pair ≡ pair_at pairs p = ap (λ (l : List Pair). get_or l p no_pair) c.as_slice-list.ensures in
    let so = subst (λ (l : List (List ℕ)). IsEvenMix l shares) c.in_ok-paths.ensures c.in_ok-shares.ensures in
    let split : IsSplitBy rule ROUNDS net (record { pair = pair; paths = c.new.result }) =
    subst (λ (l : List PathShare). IsSplitBy rule ROUNDS net (record { pair = pair; paths = l })) (sym c.new.ensures)
    (subst (λ (x : Pair). IsSplitBy rule ROUNDS net (record { pair = x; paths = shares })) (sym at)
    (rounds_split net pairs rounds p shares c.requires.count c.requires.paths inside so))
    in
    let pushed : c.push.new.self.items ≡ c.loop-p.routes.items ++ (record { pair = pair; paths = c.new.result }) ∷ [] = search rules in
    subst (RoutesSoFar rule ROUNDS net pairs (p + 1)) (sym pushed)
    (routes_more rule ROUNDS net pairs p c.loop-p.routes.items (record { pair = pair; paths = c.new.result }) c.loop-p.invariant inside at split)

pub invariant_of-result : goal.invariant_of-result
invariant_of-result c =
    let pairs = c.args.pairs.now.list in
    let every : c.loop-p.p ≡ length pairs = omega (arith, c.loop-p-test.false, c.loop-p.auto.p-end, ap (λ (l : List Pair). length l) c.as_slice-list.ensures) in
    let is = routes_done (IsRoundsSplit c.args.rounds.now) ROUNDS c.args.net.now pairs c.loop-p.p c.loop-p.routes.items c.loop-p.invariant every in
    record { splits = subst (λ (l : List PairRoutes). are_splits l ≡ true) (sym c.new-2.ensures) (splits_of c.args.net.now c.loop-p.routes.items is.routing.splits) }

pub returns : goal.returns
returns c =
    let pairs = c.args.pairs.now.list in
    let rule = IsRoundsSplit c.args.rounds.now in
    let every : c.loop-p.p ≡ length pairs = omega (arith, c.loop-p-test.false, c.loop-p.auto.p-end, ap (λ (l : List Pair). length l) c.as_slice-list.ensures) in
    subst (IsRoutingBy rule ROUNDS c.args.net.now pairs) (sym c.new-2.ensures)
    (routes_done rule ROUNDS c.args.net.now pairs c.loop-p.p c.loop-p.routes.items c.loop-p.invariant every)
