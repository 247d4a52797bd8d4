use Rattle.std.proofs.Common.{◌≡◌, ◌<◌, ◌≤◌, ℕ, List, true, slice_index, length, sym, ◌∙◌, subst, All}
use Rattle.te_model.specs.Path.{is_distinct}
use Rattle.routing.specs.Decomposition.{IsLowestPath}
use Rattle.te_model.proofs.Amounts.{all_of_numbers}
use Rattle.routing.proofs.TakingOff.{lowest_some, lowest_inside, lowest_once, taken_off}
use Rattle.routing.proofs.decomposition.take_path.Goals as goal

pub least_on-weight-requires-clause-some : goal.least_on-weight-requires-clause-some
least_on-weight-requires-clause-some c =
    subst (λ (p : List ℕ). 0 < length p) (sym c.as_slice-path.ensures.value)
    (lowest_some c.args.net.now (slice_index c.args.left.now) c.args.pair.src c.args.pair.dst c.in_ok-links.links.items c.in_ok-links.ensures c.requires.apart)

pub least_on-weight-requires-clause-links : goal.least_on-weight-requires-clause-links
least_on-weight-requires-clause-links c =
    subst (All (λ h. h < length c.args.left.now)) (sym c.as_slice-path.ensures.value)
    (lowest_inside c.args.net.now (slice_index c.args.left.now) c.args.pair.src c.args.pair.dst (length c.args.left.now) c.in_ok-links.links.items c.in_ok-links.ensures c.requires.count)

pub take_off-requires-clause-links : goal.take_off-requires-clause-links
take_off-requires-clause-links c =
    subst (All (λ h. h < length c.args.left.now)) (sym c.as_slice-path.ensures.value)
    (lowest_inside c.args.net.now (slice_index c.args.left.now) c.args.pair.src c.args.pair.dst (length c.args.left.now) c.in_ok-links.links.items c.in_ok-links.ensures c.requires.count)

pub take_off-requires-clause-distinct : goal.take_off-requires-clause-distinct
take_off-requires-clause-distinct c =
    let (amount, some, is) = c.requires.flow in
    subst (λ p. is_distinct p ≡ true) (sym c.as_slice-path.ensures.value)
    (lowest_once c.args.net.now (slice_index c.args.left.now) amount c.args.pair.src c.args.pair.dst c.in_ok-links.links.items is c.in_ok-links.ensures)

pub take_off-requires-clause-enough : goal.take_off-requires-clause-enough
take_off-requires-clause-enough c =
    all_of_numbers (λ h. c.least_on-weight.result ≤ slice_index c.args.left.now h) c.as_slice-path.result.now c.least_on-weight.ensures.least

pub returns : goal.returns
returns c =
    let net = c.args.net.now in
    let flow = slice_index c.args.left.now in
    let path : c.as_slice-path.result.now ≡ c.in_ok-links.links.items = c.as_slice-path.ensures.value in
    taken_off net flow (slice_index c.take_off.new.flow) c.args.pair.src c.args.pair.dst c.least_on-weight.result c.as_slice-path.result.now c.new.result
    (path ∙ sym c.new.ensures) (subst (IsLowestPath net flow c.args.pair.src c.args.pair.dst) (sym path) c.in_ok-links.ensures)
    c.least_on-weight.ensures c.take_off.ensures
