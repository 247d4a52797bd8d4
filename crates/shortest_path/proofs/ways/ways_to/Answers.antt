use Rattle.std.proofs.Common.{◌≡◌, ◌≤◌, ◌^◌, ℕ, true, List, Option, All, length, replicate, rules, arith, ap, sym, subst, ◌∙◌}
use Rattle.shortest_path.proofs.Sound.{sound}
use Rattle.std.proofs.lemmas.List.Elements.{All-weaker}
use Rattle.te_model.specs.declared.network.Link.{Link}
use Rattle.te_model.specs.Network.{link_count}
use Rattle.te_model.proofs.Lists.{written_whole}
use Rattle.shortest_path.specs.Costs.{HasCosts}
use Rattle.shortest_path.specs.Least.{AreFirstLinks, AreLeastSums}
use Rattle.shortest_path.specs.Links.{every_link}
use Rattle.shortest_path.proofs.ways.ways_to.Goals as goal

pub toward-requires-clause-sound : goal.toward-requires-clause-sound
toward-requires-clause-sound c = sound c.args.net.now c.requires.network

pub first_links-requires-clause-sound : goal.first_links-requires-clause-sound
first_links-requires-clause-sound c = sound c.args.net.now c.requires.network

pub toward-requires-clause-marks : goal.toward-requires-clause-marks
toward-requires-clause-marks c = omega (arith, c.deref-2.ensures.len, c.in_ok-every.ensures.len, ap (λ (ls : List Link). length ls) c.as_slice.ensures)

pub toward-requires-clause-limit : goal.toward-requires-clause-limit
toward-requires-clause-limit c =
    subst (λ (l : List ℕ). All (λ x. x ≤ 2 ^ 28) l) (sym c.deref.ensures.value)
    (All-weaker (λ x. x ≤ 65535) (λ x. x ≤ 2 ^ 28) (λ x le. omega (arith, le)) c.in_ok-costs.costs.items c.in_ok-costs.ensures.small)

pub toward-requires-clause-room : goal.toward-requires-clause-room
toward-requires-clause-room c = omega (arith, c.deref_mut.ensures.len, c.in_ok-sums.ensures.len, ap (λ (ns : List _). length ns) c.as_slice-2.ensures)

pub first_links-requires-clause-lengths : goal.first_links-requires-clause-lengths
first_links-requires-clause-lengths c = ap (λ (l : List ℕ). length l) c.deref-3.ensures.value ∙ c.in_ok-costs.ensures.count

pub first_links-requires-clause-marks : goal.first_links-requires-clause-marks
first_links-requires-clause-marks c = omega (arith, c.deref-4.ensures.len, c.in_ok-every.ensures.len, ap (λ (ls : List Link). length ls) c.as_slice.ensures)

pub returns-clause-ways : goal.returns-clause-ways
returns-clause-ways c =
    let net = c.args.net.now in
    let old = c.in_ok-sums.sums in
    let sums = c.toward.new.sums in
    let filled : c.in_ok-every.every.items ≡ replicate (length c.as_slice.result.now) true = search rules in
    let every : c.in_ok-every.every.items ≡ every_link net = filled ∙ ap (λ (ls : List Link). replicate (length ls) true) c.as_slice.ensures in
    let kept : length sums ≡ length old.items = c.toward.auto.sums ∙ ap (λ (l : List (Option ℕ)). length l) c.deref_mut.ensures.value in
    let sums_are : c.new-2.result ≡ sums = c.new-2.ensures ∙ written_whole old.len sums old.items kept old.ok.0 in
    record {
      dst = c.requires.dst;
      costs = subst (HasCosts net) (sym c.new.ensures) c.in_ok-costs.ensures;
      sums = subst (λ l. AreLeastSums net l (every_link net) c.args.dst c.new-2.result) (c.deref.ensures.value ∙ sym c.new.ensures)
          (subst (λ m. AreLeastSums net c.deref.result.now m c.args.dst c.new-2.result) (c.deref-2.ensures.value ∙ every)
          (subst (AreLeastSums net c.deref.result.now c.deref-2.result.now c.args.dst) (sym sums_are) c.toward.ensures.sums));
      firsts = subst (λ l. AreFirstLinks net l (every_link net) c.new-2.result (link_count net) c.new-3.result) (c.deref-3.ensures.value ∙ sym c.new.ensures)
          (subst (λ m. AreFirstLinks net c.deref-3.result.now m c.new-2.result (link_count net) c.new-3.result) (c.deref-4.ensures.value ∙ every)
          (subst (λ s. AreFirstLinks net c.deref-3.result.now c.deref-4.result.now s (link_count net) c.new-3.result) (c.deref-5.ensures.value ∙ sym c.new-2.ensures)
          (subst (AreFirstLinks net c.deref-3.result.now c.deref-4.result.now c.deref-5.result.now (link_count net)) (sym c.new-3.ensures) c.in_ok-firsts.ensures)));
    }
