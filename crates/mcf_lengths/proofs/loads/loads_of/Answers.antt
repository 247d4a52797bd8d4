use Rattle.std.proofs.Common.{◌≡◌, ℕ, ◌+◌, ◌≤◌, ◌^◌, List, [], length, get_or, map, replicate, arith, ap, sym, ◌∙◌, rules, slice_index}
use Rattle.std.proofs.lemmas.List.{get_or-map, get_or_read, length-map}
use Rattle.std.proofs.lemmas.List.Elements.{All-get_or}
use Rattle.te_model.specs.declared.network.Link.{Link}
use Rattle.te_model.specs.Path.{amount_on}
use Rattle.te_model.proofs.Lists.{written_whole}
use Rattle.multiplicative_lengths.proofs.Loading.{loads_done, loads_more, loads_none}
use Rattle.rate_sweeps.specs.Sweeps.{links_in}
use Rattle.mcf_lengths.proofs.LeastPaths.{no_path}
use Rattle.mcf_lengths.proofs.loads.loads_of.Goals as goal

pub loop-p-init : goal.loop-p-init
loop-p-init c =
    let net = c.args.net.now in
    let links = c.as_slice.result.now in
    let are : c.in_ok-loads.loads.items ≡ replicate (length links) 0 = search rules in
    loads_none net (slice_index c.args.matrix.now.demand) (2 ^ 32) (map links_in c.args.paths.now) (length links) c.in_ok-loads.loads.items
    (ap (λ (ls : List Link). length ls) c.as_slice.ensures) are

pub add_along-requires-clause-room : goal.add_along-requires-clause-room
add_along-requires-clause-room c = λ e.
    let demand = c.args.matrix.now.demand in
    let p = c.loop-p.p in
    let read : get_or c.deref_mut.result.now e 0 ≡ get_or c.loop-p.loads.items e 0 = ap (λ (l : List ℕ). get_or l e 0) c.deref_mut.ensures.value in
    let amount : get_or c.as_slice-demands.result.now p 0 ≡ get_or demand p 0 = ap (λ (l : List ℕ). get_or l p 0) c.as_slice-demands.ensures in
    let small = All-get_or (λ d. d ≤ 2 ^ 32) demand p 0 (omega (arith, c.loop-p-test.true, c.requires.demands.count)) c.requires.demands.small in
    omega (arith, read, amount, small, c.loop-p.invariant.small e, c.loop-p-test.true, c.requires.few)

pub loop-p-preserved : goal.loop-p-preserved
loop-p-preserved c =
    let net = c.args.net.now in
    let paths = c.args.paths.now in
    let demand = c.args.matrix.now.demand in
    let p = c.loop-p.p in
    let old = c.loop-p.loads.items in
    let path = c.as_slice-in-loop-p.result.now in
    let value : c.deref_mut.result.now ≡ old = c.deref_mut.ensures.value in
    let kept : length c.add_along.new.loads ≡ length old = c.add_along.auto.loads ∙ ap (λ (l : List ℕ). length l) value in
    let whole = written_whole c.loop-p.loads.len c.add_along.new.loads old kept c.loop-p.loads.ok.0 in
    let item : get_or paths p c.index-paths-p.result ≡ get_or paths p no_path =
    sym c.index-paths-p.is ∙ get_or_read paths p c.index-paths-p.result c.loop-p-test.true c.index-paths-p.is no_path
    in
    let at : get_or (map links_in paths) p [] ≡ path =
    get_or-map links_in paths p no_path [] c.loop-p-test.true ∙ (sym (ap links_in item) ∙ sym c.as_slice-in-loop-p.ensures)
    in
    let amount : get_or c.as_slice-demands.result.now p 0 ≡ get_or demand p 0 = ap (λ (l : List ℕ). get_or l p 0) c.as_slice-demands.ensures in
    let small = All-get_or (λ d. d ≤ 2 ^ 32) demand p 0 (omega (arith, c.loop-p-test.true, c.requires.demands.count)) c.requires.demands.small in
    rw whole (loads_more net (slice_index demand) (2 ^ 32) (map links_in paths) p old c.add_along.new.loads path c.loop-p.invariant kept at small
    (λ e. c.add_along.ensures e
    ∙ (ap (λ (l : List ℕ). get_or l e 0 + amount_on path (get_or c.as_slice-demands.result.now p 0) e) value
    ∙ ap (λ (x : ℕ). get_or old e 0 + amount_on path x e) amount)))

pub returns : goal.returns
returns c =
    let paths = c.args.paths.now in
    loads_done c.args.net.now (slice_index c.args.matrix.now.demand) (2 ^ 32) (map links_in paths) c.loop-p.p c.loop-p.loads.items c.loop-p.invariant
    (omega (arith, c.loop-p-test.false, c.loop-p.auto.p-end, length-map paths links_in))
