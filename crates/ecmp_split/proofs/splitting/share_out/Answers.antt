use Rattle.std.proofs.Common.{◌≡◌, ℕ, ◌+◌, ◌<◌, List, length, get_or, set, slice_index, replicate, arith, ap, sym, ◌∙◌, subst, rules, ◌∷◌, []}
use Rattle.te_model.specs.declared.network.Link.{Link}
use Rattle.te_model.specs.declared.units.TheConstants.{SHARE_UNIT}
use Rattle.te_model.specs.Network.{no_link, tail_of, head_of}
use Rattle.te_model.proofs.SoundLinks.{costs_small}
use Rattle.te_model.proofs.Lists.{written_whole}
use Rattle.te_model.proofs.WellFormed.{links_join}
use Rattle.std.proofs.lemmas.List.{get_or_read, nil_from_length, length-append, length-set}
use Rattle.ecmp_split.specs.Equal.{next_count, equal_part}
use Rattle.ecmp_split.specs.declared.next.NextLink.{NextLink}
use Rattle.ecmp_split.proofs.Collecting.{not_some}
use Rattle.ecmp_split.proofs.HopsMade.{listed_as}
use Rattle.ecmp_split.proofs.Parts.{equal_part-le}
use Rattle.ecmp_split.proofs.Sharing.{IsLast, IsSharing, last_waiting, sharing_start, sharing_more, sharing_end}
use Rattle.ecmp_split.proofs.splitting.share_out.Goals as goal
use Rattle.ecmp_split.proofs.splitting.share_out.Goals.{In-Some}

read_at : (xs : List ℕ) (i j x : ℕ) → x ≡ get_or xs i x → j < length xs → i ≡ j → x ≡ slice_index xs j
read_at xs i j x read inside same = get_or_read xs i x (omega (arith, same, inside)) read 0 ∙ ap (slice_index xs) same

pub loop-next-init : goal.loop-next-init
loop-next-init c =
    let net = c.args.net.now in
    let costs = c.args.hops.now.costs in
    let s = c.args.src in
    let n = length c.as_slice-counts.result.now in
    let m = length c.as_slice-links.result.now in
    let flow : c.in_ok-flow.flow.items ≡ replicate m 0 = search rules in
    let arrived : c.in_ok-arrived.arrived.items ≡ replicate n 0 = search rules in
    let waiting : c.in_ok-waiting.waiting.items ≡ c.args.hops.now.links = c.in_ok-waiting.ensures.items ∙ c.as_slice.ensures in
    let listed = listed_as net c.args.hops.now c.requires.hops.0 c.as_slice-counts.result.now c.requires.hops.1 c.as_slice-counts.ensures in
    subst (λ (l : List ℕ). IsSharing net costs s c.in_ok-waiting.waiting.items l (set c.in_ok-arrived.arrived.items s SHARE_UNIT)) (sym flow)
    (subst (λ (l : List ℕ). IsSharing net costs s c.in_ok-waiting.waiting.items (replicate m 0) (set l s SHARE_UNIT)) (sym arrived)
    (subst (λ (l : List NextLink). IsSharing net costs s l (replicate m 0) (set (replicate n 0) s SHARE_UNIT)) (sym waiting)
    (sharing_start net costs s c.args.hops.now.links c.as_slice-counts.result.now n m c.requires.src listed c.requires.hops.1.rises listed.size
    (ap (λ (l : List Link). length l) c.as_slice-links.ensures))))

-- the last link that waits, as the code reads it
abbrev link : In-Some → Link
link c = get_or c.as_slice-links.result.now c.in-Some.next.link no_link

last : (c : In-Some) → IsLast c.args.net.now c.args.hops.now.costs c.args.src c.pop.new.self.items c.in-Some.next c.loop-next.flow.items c.loop-next.arrived.items c.as_slice-counts.result.now
last c =
    let net = c.args.net.now in
    let counts = c.as_slice-counts.result.now in
    last_waiting net c.args.hops.now.costs c.args.src c.loop-next.waiting.items c.pop.new.self.items c.in-Some.next c.loop-next.flow.items c.loop-next.arrived.items
    counts c.args.hops.now.links (links_join net c.requires.network) c.loop-next.invariant c.in-Some.ensures.items
    (listed_as net c.args.hops.now c.requires.hops.0 counts c.requires.hops.1 c.as_slice-counts.ensures)

tail : (c : In-Some) → (link c).tail ≡ tail_of c.args.net.now c.in-Some.next.link
tail c = ap (λ (l : List Link). (get_or l c.in-Some.next.link no_link).tail) c.as_slice-links.ensures

head : (c : In-Some) → (link c).head ≡ head_of c.args.net.now c.in-Some.next.link
head c = ap (λ (l : List Link). (get_or l c.in-Some.next.link no_link).head) c.as_slice-links.ensures

count : (c : In-Some) →
    slice_index c.as_slice-counts.result.now (link c).tail ≡ slice_index c.as_slice-counts.result.now (tail_of c.args.net.now c.in-Some.next.link)
count c = ap (slice_index c.as_slice-counts.result.now) (tail c)

-- the units that are read at its ends
units_at_tail : (c : In-Some) (n : ℕ) → n ≡ get_or c.loop-next.arrived.items (link c).tail n →
    n ≡ slice_index c.loop-next.arrived.items (tail_of c.args.net.now c.in-Some.next.link)
units_at_tail c n read = read_at c.loop-next.arrived.items _ _ n read (last c).tail_arrived (tail c)

pub index-requires : goal.index-requires
index-requires c =
    let at = (goal.at.index-requires c).In-Some in
    omega (arith, tail at, (last at).tail_arrived, c.loop-next.arrived.ok.0)

pub bounds-counts-tail : goal.bounds-counts-tail
bounds-counts-tail c =
    let at = (goal.at.bounds-counts-tail c).In-Some in
    omega (arith, tail at, (last at).tail_counted)

pub equal_part-part-requires-clause-some : goal.equal_part-part-requires-clause-some
equal_part-part-requires-clause-some c =
    let at = (goal.at.equal_part-part-requires-clause-some c).In-Some in
    omega (arith, count at, (last at).some)

pub equal_part-part-requires-clause-units : goal.equal_part-part-requires-clause-units
equal_part-part-requires-clause-units c =
    let at = (goal.at.equal_part-part-requires-clause-units c).In-Some in
    omega (arith, units_at_tail at c.index.result.now c.index.ensures, (last at).units)

pub index_mut-requires-in-Some : goal.index_mut-requires-in-Some
index_mut-requires-in-Some c = omega (arith, (last (goal.at.index_mut-requires-in-Some c).In-Some).in_flow, c.loop-next.flow.ok.0)

pub add_arrival-requires-clause-node : goal.add_arrival-requires-clause-node
add_arrival-requires-clause-node c =
    let at = (goal.at.add_arrival-requires-clause-node c).In-Some in
    omega (arith, head at, (last at).head_arrived, ap (λ (l : List ℕ). length l) c.deref_mut.ensures.value)

pub add_arrival-requires-clause-fits : goal.add_arrival-requires-clause-fits
add_arrival-requires-clause-fits c =
    let at = (goal.at.add_arrival-requires-clause-fits c).In-Some in
    let n = slice_index c.as_slice-counts.result.now (link at).tail in
    let part = equal_part-le c.index.result.now n c.in-Some.next.place (omega (arith, count at, (last at).some)) in
    let from = units_at_tail at c.index.result.now c.index.ensures in
    let to =
    ap (λ (l : List ℕ). slice_index l (link at).head) c.deref_mut.ensures.value ∙ ap (slice_index c.loop-next.arrived.items) (head at)
    in
    omega (arith, to, (last at).old, c.equal_part-part.ensures, part, from, (last at).units)

pub loop-next-preserved : goal.loop-next-preserved
loop-next-preserved c =
    let at = (goal.at.loop-next-preserved c).In-Some in
    let net = c.args.net.now in
    let x = c.in-Some.next in
    let sums = c.args.hops.now.costs in
    let rest = c.pop.new.self.items in
    let flow = c.loop-next.flow.items in
    let arrived = c.loop-next.arrived.items in
    let part = c.equal_part-part.result in
    let is_part : part ≡ equal_part (slice_index arrived (tail_of net x.link)) (next_count net sums (tail_of net x.link)) x.place =
    c.equal_part-part.ensures
    ∙ (ap (λ u. equal_part u (slice_index c.as_slice-counts.result.now (link at).tail) x.place)
    (units_at_tail at c.index.result.now c.index.ensures)
    ∙ ap (λ n. equal_part (slice_index arrived (tail_of net x.link)) n x.place) (count at ∙ (last at).count))
    in
    let more = sharing_more net sums c.args.src rest x flow arrived part (links_join net c.requires.network) c.requires.src
    (λ h inside. (costs_small net c.requires.network h inside).0) (last at).far is_part
    in
    let added : c.add_arrival.new.arrived ≡ set arrived (head_of net x.link) (slice_index arrived (head_of net x.link) + part) =
    c.add_arrival.ensures
    ∙ (ap (λ (l : List ℕ). set l (link at).head (slice_index l (link at).head + part)) c.deref_mut.ensures.value
    ∙ ap (λ (v : ℕ). set arrived v (slice_index arrived v + part)) (head at))
    in
    let whole = written_whole c.loop-next.arrived.len c.add_arrival.new.arrived arrived
    (ap (λ (l : List ℕ). length l) added ∙ length-set arrived (head_of net x.link) (slice_index arrived (head_of net x.link) + part)) c.loop-next.arrived.ok.0
    in
    rw whole (subst (IsSharing net sums c.args.src rest (set flow x.link part)) (sym added) more)

pub returns : goal.returns
returns c =
    let empty = not_some c.pop.result _ _ c.pop.ensures.cases c.in_default.not-Some in
    record {
      count = c.loop-next.invariant.flow_size;
      parts = sharing_end c.args.net.now c.args.hops.now.costs c.args.src c.loop-next.waiting.items c.loop-next.flow.items c.loop-next.arrived.items c.loop-next.invariant
          (nil_from_length c.loop-next.waiting.items (omega (arith, empty, c.loop-next.waiting.ok.0)));
    }

pub bounds-links-next : goal.bounds-links-next
bounds-links-next c =
    let at = (goal.at.bounds-links-next c).In-Some in
    omega (arith, (last at).in_flow, c.loop-next.invariant.flow_size, ap (λ (l : List Link). length l) c.as_slice-links.ensures)

pub loop-next-smaller : goal.loop-next-smaller
loop-next-smaller c =
    omega (arith, ap (λ (l : List NextLink). length l) c.in-Some.ensures.items, length-append c.pop.new.self.items (c.in-Some.next ∷ []))
