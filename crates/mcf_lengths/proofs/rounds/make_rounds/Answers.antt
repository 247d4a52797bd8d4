use Rattle.std.proofs.Common.{◌≡◌, ℕ, ◌+◌, ◌*◌, ◌<◌, ◌≤◌, ◌^◌, List, [], ◌∷◌, ◌++◌, All, true, length, map, max, nat_cmp, slice_index, arith, ap, sym, ◌∙◌, subst}
use Rattle.std.specs.Ordering.{ord_max}
use Rattle.std.proofs.lemmas.List.{length-map}
use Rattle.te_model.specs.declared.route.Path.{Path}
use Rattle.te_model.specs.Pairs.{AreDemands}
use Rattle.te_model.specs.Network.{link_count}
use Rattle.te_model.specs.Path.{is_distinct}
use Rattle.multiplicative_lengths.specs.Growth.{greatest_usage, grown_multipliers}
use Rattle.multiplicative_lengths.specs.Loads.{loads_of}
use Rattle.multiplicative_lengths.proofs.Loading.{length-loads_of}
use Rattle.multiplicative_lengths.proofs.Multiplying.{grown_small}
use Rattle.mcf_lengths.specs.declared.round.FlowRound.{FlowRound}
use Rattle.rate_sweeps.specs.Sweeps.{links_in}
use Rattle.mcf_lengths.specs.Rounds.{IsFlowRound, loads_in}
use Rattle.mcf_lengths.specs.Ways.{MarksDestinations}
use Rattle.mcf_lengths.proofs.LeastPaths.{least_distinct, least_links}
use Rattle.mcf_lengths.proofs.Lengthening.{FlowSoFar, flow_done, flow_more, flow_none}
use Rattle.mcf_lengths.proofs.rounds.make_rounds.Goals as goal

pub make_round-requires-clause-wanted : goal.make_round-requires-clause-wanted
make_round-requires-clause-wanted c = subst (MarksDestinations c.args.net.now c.args.pairs.now.list) (sym c.deref.ensures.value) c.in_ok-wanted.ensures

pub make_round-requires-clause-count : goal.make_round-requires-clause-count
make_round-requires-clause-count c = ap (λ (l : List ℕ). length l) c.deref-in-loop-round.ensures.value ∙ c.loop-round.invariant.far.grown.count

pub make_round-requires-clause-some : goal.make_round-requires-clause-some
make_round-requires-clause-some c = subst (All (λ (m : ℕ). 1 ≤ m)) (sym c.deref-in-loop-round.ensures.value) c.loop-round.invariant.far.grown.some

pub loads_of-requires-clause-few : goal.loads_of-requires-clause-few
loads_of-requires-clause-few c =
    let paths = c.in_ok-round.round.paths in
    let count = ap (λ (l : List Path). length l) c.as_slice.ensures ∙ (sym (length-map paths links_in) ∙ c.in_ok-round.ensures.paths.count) in
    omega (arith, count, c.requires.pairs.few)

pub loads_of-requires-clause-demands : goal.loads_of-requires-clause-demands
loads_of-requires-clause-demands c =
    let paths = c.in_ok-round.round.paths in
    let count = ap (λ (l : List Path). length l) c.as_slice.ensures ∙ (sym (length-map paths links_in) ∙ c.in_ok-round.ensures.paths.count) in
    subst (λ n. AreDemands n c.args.matrix.now.demand) (sym count) c.requires.demands

pub loads_of-requires-clause-links : goal.loads_of-requires-clause-links
loads_of-requires-clause-links c =
    let net = c.args.net.now in
    let round = c.in_ok-round.round in
    subst (All (λ (p : Path). All (λ h. h < link_count net) p.links)) (sym c.as_slice.ensures)
    (least_links net round.lengths c.args.pairs.now.list round.paths c.in_ok-round.ensures.paths)

pub loads_of-requires-clause-distinct : goal.loads_of-requires-clause-distinct
loads_of-requires-clause-distinct c =
    let round = c.in_ok-round.round in
    subst (All (λ (p : Path). is_distinct p.links ≡ true)) (sym c.as_slice.ensures)
    (least_distinct c.args.net.now round.lengths c.args.pairs.now.list round.paths c.in_ok-round.ensures.paths)

pub greatest_usage-requires-clause-count : goal.greatest_usage-requires-clause-count
greatest_usage-requires-clause-count c =
    ap (λ (l : List ℕ). length l) (c.deref-in-loop-round-2.ensures.value ∙ c.in_ok-loads.ensures)
    ∙ length-loads_of c.args.net.now (slice_index c.args.matrix.now.demand) (map links_in c.as_slice.result.now)

pub grow-requires-clause-loads : goal.grow-requires-clause-loads
grow-requires-clause-loads c =
    ap (λ (l : List ℕ). length l) (c.deref-in-loop-round-3.ensures.value ∙ c.in_ok-loads.ensures)
    ∙ length-loads_of c.args.net.now (slice_index c.args.matrix.now.demand) (map links_in c.as_slice.result.now)

-- the greater of two numbers
greater_of : (a b m : ℕ) → m ≡ ord_max nat_cmp a b → m ≡ max a b
greater_of a b m is = grind (arith, is)

below_greater : (a b m : ℕ) → m ≡ ord_max nat_cmp a b → b ≤ m
below_greater a b m is = omega (arith, greater_of a b m is)

pub grow-requires-clause-divisor : goal.grow-requires-clause-divisor
grow-requires-clause-divisor c =
    let net = c.args.net.now in
    let usage : c.greatest_usage.result ≡ greatest_usage net c.deref-in-loop-round-3.result.now =
    c.greatest_usage.ensures.usage
    ∙ ap (λ (l : List ℕ). greatest_usage net l) (c.deref-in-loop-round-2.ensures.value ∙ sym c.deref-in-loop-round-3.ensures.value)
    in
    let within = below_greater c.loop-round.most c.greatest_usage.result c.max-most.result c.max-most.ensures in
    omega (arith, usage, within)

pub grow-requires-clause-count : goal.grow-requires-clause-count
grow-requires-clause-count c = ap (λ (l : List ℕ). length l) c.deref-in-loop-round-4.ensures.value ∙ c.loop-round.invariant.far.grown.count

pub grow-requires-clause-moderate : goal.grow-requires-clause-moderate
grow-requires-clause-moderate c =
    subst (All (λ (m : ℕ). m ≤ 2 ^ 38)) (sym c.deref-in-loop-round-4.ensures.value)
    (grown_small c.args.net.now c.loop-round._round c.loop-round.multipliers.items c.loop-round.invariant.far.grown (omega (arith, c.loop-round-test.true)))

pub loop-round-preserved : goal.loop-round-preserved
loop-round-preserved c =
    let net = c.args.net.now in
    let pairs = c.args.pairs.now.list in
    let demand = c.args.matrix.now.demand in
    let j = c.loop-round._round in
    let multipliers = c.loop-round.multipliers.items in
    let next = c.in_ok-multipliers-2.multipliers.items in
    let rounds = c.loop-round.rounds.items in
    let round = c.in_ok-round.round in
    let is = subst (λ (m : List ℕ). IsFlowRound net pairs m round) c.deref-in-loop-round.ensures.value c.in_ok-round.ensures in
    let loads : c.in_ok-loads.loads.items ≡ loads_in net demand round =
    c.in_ok-loads.ensures ∙ ap (λ (l : List Path). loads_of net (slice_index demand) (map links_in l)) c.as_slice.ensures
    in
    let usage : c.greatest_usage.result ≡ greatest_usage net (loads_in net demand round) =
    c.greatest_usage.ensures.usage ∙ ap (λ (l : List ℕ). greatest_usage net l) (c.deref-in-loop-round-2.ensures.value ∙ loads)
    in
    let greater : c.max-most.result ≡ max c.loop-round.most c.greatest_usage.result = greater_of c.loop-round.most c.greatest_usage.result c.max-most.result c.max-most.ensures in
    let grows : next ≡ grown_multipliers net (loads_in net demand round) (4 * c.max-most.result) multipliers =
    c.in_ok-multipliers-2.ensures
    ∙ (ap (λ (l : List ℕ). grown_multipliers net l (4 * c.max-most.result) c.deref-in-loop-round-4.result.now) (c.deref-in-loop-round-3.ensures.value ∙ loads)
    ∙ ap (λ (m : List ℕ). grown_multipliers net (loads_in net demand round) (4 * c.max-most.result) m) c.deref-in-loop-round-4.ensures.value)
    in
    let pushed : c.push.new.self.items ≡ rounds ++ round ∷ [] = c.in_ok-push.ensures.items in
    subst (λ (rs : List FlowRound). FlowSoFar net pairs demand (j + 1) c.max-most.result next rs) (sym pushed)
    (flow_more net pairs demand j c.loop-round.most c.max-most.result multipliers next rounds round c.loop-round.invariant is
    (greater ∙ ap (λ (x : ℕ). max c.loop-round.most x) usage) (omega (arith, greater, c.greatest_usage.ensures.small, c.loop-round.invariant.small)) grows)

pub loop-round-init : goal.loop-round-init
loop-round-init c =
    let net = c.args.net.now in
    let pairs = c.args.pairs.now.list in
    let demand = c.args.matrix.now.demand in
    let multipliers = c.in_ok-multipliers.multipliers.items in
    subst (λ (rs : List FlowRound). FlowSoFar net pairs demand 0 1 multipliers rs) (sym c.new-rounds.ensures.items)
    (flow_none net pairs demand multipliers c.in_ok-multipliers.ensures)

pub returns : goal.returns
returns c =
    flow_done c.args.net.now c.args.pairs.now.list c.args.matrix.now.demand c.loop-round._round c.loop-round.most c.loop-round.multipliers.items
    c.loop-round.rounds.items c.loop-round.invariant (omega (arith, c.loop-round-test.false, c.loop-round.auto._round-end))
