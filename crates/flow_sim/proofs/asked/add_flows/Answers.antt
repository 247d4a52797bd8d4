use Rattle.std.proofs.Common.{◌≡◌, ◌<◌, ◌+◌, ℕ, List, All, true, length, slice_index, get_or, arith, ap, sym, subst, ◌∙◌}
use Rattle.std.proofs.lemmas.List.{get_or_read}
use Rattle.std.proofs.lemmas.List.Elements.{All-get_or}
use Rattle.te_model.specs.declared.route.PathShare.{PathShare}
use Rattle.te_model.specs.Path.{amount_on, is_distinct}
use Rattle.routing.specs.Merge.{no_path}
use Rattle.flow_sim.specs.Asked.{asked_from}
use Rattle.flow_sim.proofs.AskedLaws.{asked_from_le}
use Rattle.flow_sim.proofs.TableLaws.{next_fits}
use Rattle.te_model.proofs.Sums.{sum_below-next}
use Rattle.flow_sim.proofs.asked.add_flows.Goals as goal

pub add_along-requires-clause-links : goal.add_along-requires-clause-links
add_along-requires-clause-links c =
    let paths = c.args.paths.now in
    let i = c.loop-place.place in
    let path = get_or paths i no_path in
    let links : c.as_slice.result.now ≡ path.links =
    c.as_slice.ensures
    ∙ ap (λ (s : PathShare). s.links) (sym c.index-paths-place.is ∙ get_or_read paths i c.index-paths-place.result c.loop-place-test.true c.index-paths-place.is no_path)
    in
    let within = All-get_or (λ (s : PathShare). All (λ e. e < length c.args.asked.now) s.links) paths i no_path c.loop-place-test.true c.requires.links in
    subst (λ (l : List ℕ). All (λ e. e < length c.loop-place.asked) l) (sym links)
    (subst (λ n. All (λ e. e < n) path.links) (sym c.loop-place.auto.asked) within)

pub add_along-requires-clause-distinct : goal.add_along-requires-clause-distinct
add_along-requires-clause-distinct c =
    let paths = c.args.paths.now in
    let i = c.loop-place.place in
    let path = get_or paths i no_path in
    let links : c.as_slice.result.now ≡ path.links =
    c.as_slice.ensures
    ∙ ap (λ (s : PathShare). s.links) (sym c.index-paths-place.is ∙ get_or_read paths i c.index-paths-place.result c.loop-place-test.true c.index-paths-place.is no_path)
    in
    subst (λ (l : List ℕ). is_distinct l ≡ true) (sym links)
    (All-get_or (λ (s : PathShare). is_distinct s.links ≡ true) paths i no_path c.loop-place-test.true c.requires.distinct)

pub add_along-requires-clause-room : goal.add_along-requires-clause-room
add_along-requires-clause-room c = λ e.
    let paths = c.args.paths.now in
    let units = c.args.units.now in
    let first = c.args.first in
    let i = c.loop-place.place in
    omega (
      arith,
      c.loop-place.invariant e,
      asked_from_le paths units first i e,
      next_fits (length paths) i (λ j. slice_index units (first + j)) c.loop-place-test.true,
      c.requires.room e,
    )

pub loop-place-preserved : goal.loop-place-preserved
loop-place-preserved c = λ e.
    let paths = c.args.paths.now in
    let units = c.args.units.now in
    let first = c.args.first in
    let i = c.loop-place.place in
    let links : c.as_slice.result.now ≡ (get_or paths i no_path).links =
    c.as_slice.ensures
    ∙ ap (λ (s : PathShare). s.links) (sym c.index-paths-place.is ∙ get_or_read paths i c.index-paths-place.result c.loop-place-test.true c.index-paths-place.is no_path)
    in
    omega (
      arith,
      c.add_along.ensures e,
      ap (λ (l : List ℕ). amount_on l (slice_index units (first + i)) e) links,
      c.loop-place.invariant e,
      sum_below-next i (λ j. amount_on (get_or paths j no_path).links (slice_index units (first + j)) e),
    )

pub returns : goal.returns
returns c = λ e.
    let done : c.loop-place.place ≡ length c.args.paths.now = omega (arith, c.loop-place-test.false, c.loop-place.auto.place-end) in
    c.loop-place.invariant e ∙ ap (λ n. slice_index c.args.asked.now e + asked_from c.args.paths.now c.args.units.now c.args.first n e) done
