use Rattle.std.proofs.Common.{◌≡◌, ℕ, ◌*◌, List, slice_index, arith, ap, sym, ◌∙◌, subst, min, below_more}
use Rattle.std.proofs.lemmas.Bool.{false≢true}
use Rattle.std.proofs.lemmas.List.{get_or_default}
use Rattle.local_search.specs.Loads.{AreWithin, load_after}
use Rattle.local_search.specs.Moves.{sizes}
use Rattle.local_search.specs.Search.{loads_moved}
use Rattle.local_search.proofs.search.fitting_size.Goals as goal

pub loop-size-preserved : goal.loop-size-preserved
loop-size-preserved c =
    let net = c.args.net.now in
    let loads = c.args.loads.now in
    let demand = c.args.demand in
    let from = c.args.from.now in
    let to = c.args.to.now in
    let size = slice_index sizes c.loop-size.size-index in
    let units : c.from-in-loop-size.result ≡ min size from.weight = c.from-in-loop-size.ensures ∙ c.min.ensures in
    let amount : c.from.result * c.from-in-loop-size.result ≡ demand * min size from.weight =
    ap (λ x. x * c.from-in-loop-size.result) c.from.ensures ∙ ap (λ x. demand * x) units
    in
    below_more (λ i. AreWithin net c.args.aim.now.times (loads_moved loads demand from to (slice_index sizes i)) → ⊥) c.loop-size.size-index c.loop-size.invariant
    (λ within.
    let same = subst (λ a. AreWithin net c.args.aim.now.times (λ e. load_after (slice_index loads e) from.links to a e)) (sym amount) within in
    let tried = subst (λ (l : List ℕ). AreWithin net c.args.aim.now.times (λ e. load_after (slice_index loads e) l to (c.from.result * c.from-in-loop-size.result) e)) (sym c.as_slice-links.ensures) same in
    false≢true (sym c.if-are_within.false ∙ c.are_within.ensures.1 tried))

pub returns-clause-none : goal.returns-clause-none
returns-clause-none c = λ size (k, below, is) within.
    c.loop-size.invariant k (omega (arith, below, c.loop-size-test.false))
    (subst (λ s. AreWithin c.args.net.now c.args.aim.now.times (loads_moved c.args.loads.now c.args.demand c.args.from.now c.args.to.now s))
    (sym (get_or_default sizes k 0 size below ∙ is)) within)
