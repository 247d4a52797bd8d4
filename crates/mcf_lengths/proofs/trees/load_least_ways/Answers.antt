use Rattle.std.proofs.Common.{rules, ◌≡◌, ℕ, ◌+◌, ◌*◌, ◌^◌, List, Option, length, min, get_or, arith, ap, sym, ◌∙◌, subst}
use Rattle.std.proofs.lemmas.List.{with_items_is}
use Rattle.te_model.specs.declared.route.Pair.{Pair}
use Rattle.shortest_path.proofs.Sound.{sound}
use Rattle.scheme.specs.Reach.{no_pair, pair_at}
use Rattle.centred_steps.specs.Loads.{times_on}
use Rattle.centred_steps.specs.Ways.{AreLastLinks, way_to}
use Rattle.centred_steps.proofs.Weights.{weights_small}
use Rattle.mcf_lengths.proofs.WayLoads.{ways_more}
use Rattle.mcf_lengths.proofs.trees.load_least_ways.Goals as goal
use Rattle.mcf_lengths.proofs.trees.load_least_ways.Goals.{then-p-eq0, else-p-eq0+else-list-p}

pub distances-requires-clause-sound : goal.distances-requires-clause-sound
distances-requires-clause-sound c = sound c.args.net.now c.requires.network

pub distances-requires-clause-limit : goal.distances-requires-clause-limit
distances-requires-clause-limit c = weights_small c.args.lengths.now c.requires.lengths

pub add_load_along-requires-clause-lasts : goal.add_load_along-requires-clause-lasts
add_load_along-requires-clause-lasts c =
    let net = c.args.net.now in
    let last : AreLastLinks net c.if-p-eq0.lasts.items =
    elim c.if-p-eq0.branch [
      | then-p-eq0 w ↦ rw w.lasts-is (subst (AreLastLinks net) (sym (with_items_is c.loop-p.lasts w.last_links.new.lasts (omega (arith, w.last_links.auto.lasts, w.deref_mut-then-p-eq0.ensures.len)))) w.last_links.ensures)
      | else-p-eq0+else-list-p w ↦ rw w.lasts-is c.loop-p.invariant.1
    ]
    in
    subst (AreLastLinks net) (sym {A = List (Option ℕ)} c.deref-in-loop-p.ensures.value) last

pub loop-p-preserved : goal.loop-p-preserved
loop-p-preserved c =
    let net = c.args.net.now in
    let pairs = c.args.pairs.now.list in
    let demand = c.args.matrix.now.demand in
    let p = c.loop-p.p in
    let lasts = c.if-p-eq0.lasts.items in
    let pair = get_or c.as_slice-list.result.now p no_pair in
    let at : pair ≡ pair_at pairs p = ap (λ (l : List Pair). get_or l p no_pair) c.as_slice-list.ensures in
    let amount : c.from.result ≡ get_or demand p 0 = search rules in
    let last : AreLastLinks net lasts =
    elim c.if-p-eq0.branch [
      | then-p-eq0 w ↦ rw w.lasts-is (subst (AreLastLinks net) (sym (with_items_is c.loop-p.lasts w.last_links.new.lasts (omega (arith, w.last_links.auto.lasts, w.deref_mut-then-p-eq0.ensures.len)))) w.last_links.ensures)
      | else-p-eq0+else-list-p w ↦ rw w.lasts-is c.loop-p.invariant.1
    ]
    in (
      c.add_load_along.ensures.small,
      last,
      elim c.if-p-eq0.branch [
        | then-p-eq0 w ↦
            rw w.sums-is
            (ap (λ (l : List (Option ℕ)). length l) (with_items_is c.loop-p.sums w.distances.new.distances (omega (arith, w.distances.auto.distances, w.deref_mut.ensures.len)))
            ∙ w.distances.ensures.distances.count)
        | else-p-eq0+else-list-p w ↦ rw w.sums-is c.loop-p.invariant.2
      ],
      elim c.if-p-eq0.branch [
        | then-p-eq0 w ↦ rw w.searches-is (w.distances.ensures.same ∙ c.loop-p.invariant.3)
        | else-p-eq0+else-list-p w ↦ rw w.searches-is c.loop-p.invariant.3
      ],
      ways_more net pairs demand p c.loop-p.loads c.add_load_along.new.loads lasts c.loop-p.invariant.4 last (λ e below.
          let load = get_or c.loop-p.loads e 0 in
          c.add_load_along.ensures.added e (omega (arith, below, c.loop-p.auto.loads, c.requires.loads.count))
          ∙ (ap (λ (l : List (Option ℕ)). min (2 ^ 66) (load + c.from.result * times_on (way_to net l (length l) pair.dst) e)) c.deref-in-loop-p.ensures.value
          ∙ (ap (λ x. min (2 ^ 66) (load + x * times_on (way_to net lasts (length lasts) pair.dst) e)) amount
          ∙ ap (λ (x : Pair). min (2 ^ 66) (load + get_or demand p 0 * times_on (way_to net lasts (length lasts) x.dst) e)) at))),
    )
