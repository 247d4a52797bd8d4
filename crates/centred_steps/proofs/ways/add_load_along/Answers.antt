use Rattle.std.proofs.Common.{◌≡◌, ℕ, ◌-◌, ◌+◌, ◌*◌, ◌^◌, List, length, get_or, min, arith, ap, sym, ◌∙◌}
use Rattle.te_model.specs.declared.network.Link.{Link}
use Rattle.te_model.specs.Network.{no_link, tail_of}
use Rattle.centred_steps.specs.Loads.{times_on}
use Rattle.centred_steps.specs.Ways.{way_to}
use Rattle.centred_steps.proofs.Added.{added_first}
use Rattle.centred_steps.proofs.LastLinks.{ends_inside}
use Rattle.centred_steps.proofs.WayBack.{way_ends, way_on}
use Rattle.centred_steps.proofs.ways.add_load_along.Goals as goal

pub returns-in-None-clause-added : goal.returns-in-None-clause-added
returns-in-None-clause-added c e below =
    let net = c.args.net.now in
    let lasts = c.args.lasts.now in
    let way = way_to net lasts (length lasts - c.loop.counter) c.loop.node in
    let rest : c.args.amount * times_on way e ≡ 0 =
    ap (λ (links : List ℕ). c.args.amount * times_on links e) (way_ends net lasts (length lasts - c.loop.counter) c.loop.node c.in-None.is) ∙ omega arith
    in
    omega (arith, rest, c.loop.invariant.1 e, c.loop.invariant.2 e below)

pub loop-preserved : goal.loop-preserved
loop-preserved c =
    let net = c.args.net.now in
    let lasts = c.args.lasts.now in
    let links = c.as_slice-links.result.now in
    let h = c.in-Some.h in
    let amount = c.args.amount in
    let loads = c.loop.loads in
    let left = length lasts - (c.loop.counter + 1) in
    let inside = c.requires.lasts.each c.loop.node h c.in-Some.is in
    let way = way_on net lasts (length lasts) c.loop.counter c.loop.node h c.loop-test.true c.in-Some.is in (
      (ends_inside net links h c.as_slice-links.ensures c.requires.network inside).0,
      c.add_load.ensures.small,
      λ e below.
          ap (λ (ls : List Link). min (2 ^ 66) (get_or c.add_load.new.loads e 0 + amount * times_on (way_to net lasts left (get_or ls h no_link).tail) e)) c.as_slice-links.ensures
          ∙ (ap (λ (l : List ℕ). min (2 ^ 66) (get_or l e 0 + amount * times_on (way_to net lasts left (tail_of net h)) e)) c.add_load.ensures.added
          ∙ (added_first loads (way_to net lasts left (tail_of net h)) h amount e (omega (arith, inside, c.loop.auto.loads, c.requires.count)) (c.loop.invariant.1 e)
          ∙ (ap (λ (w : List ℕ). min (2 ^ 66) (get_or loads e 0 + amount * times_on w e)) (sym way) ∙ c.loop.invariant.2 e below))),
    )
