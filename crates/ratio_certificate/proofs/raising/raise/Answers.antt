use Rattle.std.proofs.Common.{◌≡◌, ℕ, ◌^◌, ◌<◌, ◌≤◌, List, ap, arith, length, slice_index, subst, sym}
use Rattle.std.proofs.lemmas.List.{take_all}
use Rattle.std.proofs.lemmas.List.Elements.{All-get_or}
use Rattle.te_model.specs.declared.network.Link.{Link}
use Rattle.te_model.specs.Network.{capacity_of, link_count, no_link}
use Rattle.te_model.proofs.WellFormed.{capacities_positive, capacities_small}
use Rattle.std.specs.Prelude.{slice_index_or}
use Rattle.ratio_certificate.specs.Rounds.{raised_weight, AreRaised}
use Rattle.ratio_certificate.proofs.RaisedLinks.{raised_link}
use Rattle.ratio_certificate.proofs.raising.raise.Goals as goal

pub raise_weight-requires-clause-capacity : goal.raise_weight-requires-clause-capacity
raise_weight-requires-clause-capacity c =
    let net = c.args.net.now in
    let h = slice_index c.args.path.now c.loop-link.link-index in
    let below : c.loop-link.link-index < length c.args.path.now = omega arith in
    let inside : h < link_count net = All-get_or (λ h. h < link_count net) c.args.path.now c.loop-link.link-index 0 below c.requires.links in
    subst (λ (links : List Link). (1 ≤ (slice_index_or links h no_link).capacity) × ((slice_index_or links h no_link).capacity ≤ 2 ^ 32)) (sym c.as_slice-links.ensures)
    (capacities_positive net c.requires.network h inside, capacities_small net c.requires.network h)

pub loop-link-preserved : goal.loop-link-preserved
loop-link-preserved c =
    let net = c.args.net.now in
    let i = c.loop-link.link-index in
    let h = slice_index c.args.path.now i in
    let below : i < length c.args.path.now = omega arith in
    let inside : h < link_count net = All-get_or (λ h. h < link_count net) c.args.path.now i 0 below c.requires.links in
    let value =
    subst (λ (links : List Link). c.raise_weight.result ≡ raised_weight c.narrowest-least.result (slice_index_or links h no_link).capacity (slice_index c.args.weights.now h))
    c.as_slice-links.ensures c.raise_weight.ensures.value
    in
    raised_link net c.args.path.now c.args.weights.now c.loop-link.next.items c.narrowest-least.result i c.raise_weight.result below
    (omega (arith, inside, c.requires.weights.count)) value c.loop-link.invariant

pub narrowest-least-requires-clause-links : goal.narrowest-least-requires-clause-links
narrowest-least-requires-clause-links c = c.requires.links

pub narrowest-least-requires-clause-some : goal.narrowest-least-requires-clause-some
narrowest-least-requires-clause-some c = c.requires.some

pub bounds-links-h : goal.bounds-links-h
bounds-links-h c =
    let net = c.args.net.now in
    let below : c.loop-link.link-index < length c.args.path.now = omega arith in
    let inside = All-get_or (λ h. h < link_count net) c.args.path.now c.loop-link.link-index 0 below c.requires.links in
    omega (arith, inside, ap (λ (links : List Link). length links) c.as_slice-links.ensures)

pub bounds-weights-h : goal.bounds-weights-h
bounds-weights-h c =
    let net = c.args.net.now in
    let below : c.loop-link.link-index < length c.args.path.now = omega arith in
    let inside = All-get_or (λ h. h < link_count net) c.args.path.now c.loop-link.link-index 0 below c.requires.links in
    omega (arith, inside, c.requires.weights.count)

pub raise_weight-requires-clause-weight : goal.raise_weight-requires-clause-weight
raise_weight-requires-clause-weight c =
    let net = c.args.net.now in
    let below : c.loop-link.link-index < length c.args.path.now = omega arith in
    c.requires.weights.small (slice_index c.args.path.now c.loop-link.link-index)
    (All-get_or (λ h. h < link_count net) c.args.path.now c.loop-link.link-index 0 below c.requires.links)

pub raise_weight-requires-clause-least : goal.raise_weight-requires-clause-least
raise_weight-requires-clause-least c =
    let net = c.args.net.now in
    let least = c.narrowest-least.result in
    let h = slice_index c.args.path.now c.loop-link.link-index in
    let below : c.loop-link.link-index < length c.args.path.now = omega arith in
    subst (λ (links : List Link). least ≤ (slice_index_or links h no_link).capacity) (sym c.as_slice-links.ensures)
    (All-get_or (λ h. least ≤ capacity_of net h) c.args.path.now c.loop-link.link-index 0 below c.narrowest-least.ensures.bound)

pub returns : goal.returns
returns c =
    let path = c.args.path.now in
    let all = take_all c.loop-link.link-index path (omega arith) in
    record {
      raised = (
        c.narrowest-least.result,
        c.narrowest-least.ensures,
        subst (λ (hs : List ℕ). AreRaised c.args.net.now hs c.narrowest-least.result c.args.weights.now c.loop-link.next.items) all c.loop-link.invariant,
      );
    }
