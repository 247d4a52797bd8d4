use Rattle.std.proofs.Common.{◌≡◌, ◌∙◌, subst, rules, List, length, ap, sym, ◌≤◌, ◌^◌, ℕ, All, arith}
use Rattle.te_model.proofs.Lists.{written_whole}
use Rattle.te_model.specs.declared.name.Name.{Name}
use Rattle.shortest_path.specs.Costs.{costs_of}
use Rattle.shortest_path.specs.Least.{AreLeastSums}
use Rattle.shortest_path.proofs.Sound.{sound}
use Rattle.shortest_path.specs.Links.{every_link}
use Rattle.ecmp_split.proofs.CostsTo.{costs_of_sums}
use Rattle.std.proofs.lemmas.List.Elements.{All-weaker}
use Rattle.te_model.specs.declared.network.Link.{Link}
use Rattle.ecmp_split.proofs.least_cost.costs_to.Goals as goal

pub toward-requires-clause-sound : goal.toward-requires-clause-sound
toward-requires-clause-sound c = sound c.args.net.now c.requires.network

pub returns-clause-costs : goal.returns-clause-costs
returns-clause-costs c =
    let net = c.args.net.now in
    let lengths : c.deref.result.now ≡ costs_of net = c.deref.ensures.value ∙ c.in_ok-lengths.ensures.are in
    let every : c.deref-2.result.now ≡ every_link net = search rules in
    let sums : AreLeastSums net (costs_of net) (every_link net) c.args.dst c.toward.new.sums =
    subst (λ marks. AreLeastSums net (costs_of net) marks c.args.dst c.toward.new.sums) every
    (subst (λ costs. AreLeastSums net costs c.deref-2.result.now c.args.dst c.toward.new.sums) lengths c.toward.ensures.sums)
    in
    let whole = written_whole c.in_ok-sums.sums.len c.toward.new.sums c.in_ok-sums.sums.items
    (sums.count ∙ sym (c.in_ok-sums.ensures.len ∙ ap (λ (l : List Name). length l) c.as_slice-2.ensures) ∙ c.in_ok-sums.sums.ok.0) c.in_ok-sums.sums.ok.0
    in
    rw whole (costs_of_sums net c.args.dst c.toward.new.sums sums)

pub toward-requires-clause-marks : goal.toward-requires-clause-marks
toward-requires-clause-marks c = omega (arith, c.deref-2.ensures.len, c.in_ok-every.ensures.len, ap (λ (ls : List Link). length ls) c.as_slice.ensures)

pub toward-requires-clause-limit : goal.toward-requires-clause-limit
toward-requires-clause-limit c =
    subst (λ (l : List ℕ). All (λ x. x ≤ 2 ^ 28) l) (sym c.deref.ensures.value)
    (All-weaker (λ x. x ≤ 65535) (λ x. x ≤ 2 ^ 28) (λ x le. omega (arith, le)) c.in_ok-lengths.lengths.items c.in_ok-lengths.ensures.small)

pub toward-requires-clause-room : goal.toward-requires-clause-room
toward-requires-clause-room c = omega (arith, c.deref_mut.ensures.len, c.in_ok-sums.ensures.len, ap (λ (ns : List Name). length ns) c.as_slice-2.ensures)
