use Rattle.std.proofs.Common.{◌≡◌, ◌+◌, ◌*◌, ◌^◌, ◌<◌, ◌≤◌, ℕ, Bool, List, Option, ◌++◌, length, take, drop, arith, ap, sym, ◌∙◌, subst}
use Rattle.std.specs.Prelude.{All}
use Rattle.std.proofs.lemmas.List.Elements.{All-weaker}
use Rattle.te_model.specs.declared.network.Network.{Network}
use Rattle.te_model.specs.Network.{link_count}
use Rattle.te_model.proofs.Lists.{written_whole}
use Rattle.shortest_path.specs.Graph.{AtMost, distance_at}
use Rattle.shortest_path.specs.Least.{AreLeastSums}
use Rattle.k_paths.specs.Sums.{AreWalkSums, HasUnsummed, IsTaut}
use Rattle.k_paths.proofs.OpenSums.{all_taut, walks_of_open}
use Rattle.k_paths.proofs.WalkSums.{least_of_taut, sums_within}
use Rattle.k_paths.proofs.sums.least_sums.Goals as goal

pub open_sums-requires-clause-sound : goal.open_sums-requires-clause-sound
open_sums-requires-clause-sound c = c.requires.sound

pub unsummed-requires-clause-sound : goal.unsummed-requires-clause-sound
unsummed-requires-clause-sound c = c.requires.sound

pub unsummed-requires-clause-count : goal.unsummed-requires-clause-count
unsummed-requires-clause-count c = ap (λ (l : List (Option ℕ)). length l) c.deref.ensures.value ∙ c.in_ok-sums.ensures.count

pub loop-round-init : goal.loop-round-init
loop-round-init c =
    let net = c.args.net.now in
    let ways = c.args.ways.now in
    let sums = c.in_ok-sums.sums.items in
    let walks = walks_of_open net ways c.args.open.now sums c.requires.sound c.requires.ways c.in_ok-sums.ensures in
    (sums_within net ways.costs c.args.open.now ways.dst (2 ^ 24) (2 ^ 24 + 67107840 * 0) sums walks (omega arith), λ v x low. low)

pub lower-requires-clause-sound : goal.lower-requires-clause-sound
lower-requires-clause-sound c = c.requires.sound

pub lower-requires-clause-costs : goal.lower-requires-clause-costs
lower-requires-clause-costs c = ap (λ (l : List ℕ). length l) c.as_slice-costs.ensures ∙ c.requires.ways.costs.count

pub lower-requires-clause-limit : goal.lower-requires-clause-limit
lower-requires-clause-limit c = subst (All (λ x. x ≤ 65535)) (sym c.as_slice-costs.ensures) c.requires.ways.costs.small

pub lower-requires-clause-among : goal.lower-requires-clause-among
lower-requires-clause-among c = subst (All (λ h. h < link_count c.args.net.now)) (sym c.deref-in-loop-round.ensures.value) c.in_ok-among.ensures.links

pub lower-requires-clause-few : goal.lower-requires-clause-few
lower-requires-clause-few c = omega (arith, c.in_ok-among.ensures.few, ap (λ (l : List ℕ). length l) c.deref-in-loop-round.ensures.value)

pub lower-requires-clause-sums : goal.lower-requires-clause-sums
lower-requires-clause-sums c =
    let net = c.args.net.now in
    let ways = c.args.ways.now in
    subst (λ k. AreWalkSums net k c.args.open.now ways.dst (2 ^ 40) c.deref_mut.result.now) (sym c.as_slice-costs.ensures)
    (subst (λ l. AreWalkSums net ways.costs c.args.open.now ways.dst (2 ^ 40) l) (sym c.deref_mut.ensures.value)
    (sums_within net ways.costs c.args.open.now ways.dst (2 ^ 24 + 67107840 * c.loop-round._round) (2 ^ 40) c.loop-round.sums.items c.loop-round.invariant.0
    (omega (arith, c.loop-round-test.true, ap (λ l. length l) c.as_slice-round-end.ensures, c.requires.sound.few))))

-- after a round the list of sums is what the round left, whose walks have one link more
round_left : (net : Network) (costs costs' : List ℕ) (marks : List Bool) (dst n len : ℕ) (old lent new : List (Option ℕ)) → costs' ≡ costs → lent ≡ old → len ≡ length old →
    AreWalkSums net costs marks dst n old →
    ((m : ℕ) → AreWalkSums net costs' marks dst m lent → AreWalkSums net costs' marks dst (m + 67107840) new) →
    (take len (new ++ drop (length new) old) ≡ new) × AreWalkSums net costs marks dst (n + 67107840) new
round_left net costs costs' marks dst n len old lent new same_costs same count before round =
    let lent_before = subst (λ k. AreWalkSums net k marks dst n lent) (sym same_costs) (subst (AreWalkSums net costs marks dst n) (sym same) before) in
    let after = subst (λ k. AreWalkSums net k marks dst (n + 67107840) new) same_costs (round n lent_before) in
    (written_whole len new old (after.count ∙ sym before.count) count, after)

falls_left : (first old lent new : List (Option ℕ)) → lent ≡ old → ((v x : ℕ) → AtMost (distance_at first v) x → AtMost (distance_at old v) x) →
    ((v x : ℕ) → AtMost (distance_at lent v) x → AtMost (distance_at new v) x) → (v x : ℕ) → AtMost (distance_at first v) x → AtMost (distance_at new v) x
falls_left first old lent new same before falls v x low = falls v x (subst (λ (l : List (Option ℕ)). AtMost (distance_at l v) x) (sym same) (before v x low))

pub loop-round-preserved : goal.loop-round-preserved
loop-round-preserved c =
    let net = c.args.net.now in
    let ways = c.args.ways.now in
    let n = 2 ^ 24 + 67107840 * c.loop-round._round in
    let old = c.loop-round.sums.items in
    let new = c.lower.new.sums in
    let left = round_left net ways.costs c.as_slice-costs.result.now c.args.open.now ways.dst n c.loop-round.sums.len old c.deref_mut.result.now new
    c.as_slice-costs.ensures c.deref_mut.ensures.value c.loop-round.sums.ok.0 c.loop-round.invariant.0 c.lower.ensures.sums
    in
    rw left.0 (
      sums_within net ways.costs c.args.open.now ways.dst (n + 67107840) (2 ^ 24 + 67107840 * (c.loop-round._round + 1)) new left.1 (omega arith),
      falls_left c.in_ok-sums.sums.items old c.deref_mut.result.now new c.deref_mut.ensures.value c.loop-round.invariant.1 c.lower.ensures.falls,
    )

pub returns-then-not-lower : goal.returns-then-not-lower
returns-then-not-lower c =
    let net = c.args.net.now in
    let ways = c.args.ways.now in
    let marks = c.args.open.now in
    let n = 2 ^ 24 + 67107840 * c.loop-round._round in
    let first = c.in_ok-sums.sums.items in
    let old = c.loop-round.sums.items in
    let new = c.lower.new.sums in
    let left = round_left net ways.costs c.as_slice-costs.result.now marks ways.dst n c.loop-round.sums.len old c.deref_mut.result.now new
    c.as_slice-costs.ensures c.deref_mut.ensures.value c.loop-round.sums.ok.0 c.loop-round.invariant.0 c.lower.ensures.sums
    in
    let falls = falls_left first old c.deref_mut.result.now new c.deref_mut.ensures.value c.loop-round.invariant.1 c.lower.ensures.falls in
    let list = c.in_ok-among.among.items in
    let has : HasUnsummed net first list = subst (λ (l : List (Option ℕ)). HasUnsummed net l list) c.deref.ensures.value c.in_ok-among.ensures.has in
    let taut : All (IsTaut net ways.costs marks new) list =
    subst (λ k. All (IsTaut net k marks new) list) c.as_slice-costs.ensures
    (subst (λ l. All (IsTaut net c.as_slice-costs.result.now marks new) l) c.deref-in-loop-round.ensures.value (c.lower.ensures.taut c.if-not-lower.true))
    in
    rw left.0 (least_of_taut net ways.costs marks ways.dst (n + 67107840) new left.1
    (all_taut net ways marks list (n + 67107840) first new c.requires.ways c.in_ok-sums.ensures has left.1 falls taut))

pub toward-requires-clause-sound : goal.toward-requires-clause-sound
toward-requires-clause-sound c = c.requires.sound

pub toward-requires-clause-lengths : goal.toward-requires-clause-lengths
toward-requires-clause-lengths c = ap (λ (l : List ℕ). length l) c.as_slice-costs.ensures ∙ c.requires.ways.costs.count

pub toward-requires-clause-limit : goal.toward-requires-clause-limit
toward-requires-clause-limit c =
    subst (All (λ x. x ≤ 2 ^ 28)) (sym c.as_slice-costs.ensures)
    (All-weaker (λ x. x ≤ 65535) (λ x. x ≤ 2 ^ 28) (λ x le. omega (arith, le)) c.args.ways.now.costs c.requires.ways.costs.small)

pub returns : goal.returns
returns c = subst (λ k. AreLeastSums c.args.net.now k c.args.open.now c.args.ways.now.dst c.in_ok-sums-2.sums.items) c.as_slice-costs.ensures c.in_ok-sums-2.ensures
