use Rattle.std.proofs.Common.{◌≡◌, ◌∙◌, ℕ, List, length, sum, arith, ap, subst}
use Rattle.std.proofs.lemmas.List.{length-map}
use Rattle.te_model.specs.declared.route.Path.{Path}
use Rattle.te_model.specs.declared.route.PathShare.{PathShare}
use Rattle.routing.specs.Merge.{IsMerge}
use Rattle.routing.specs.Normal.{weighted_paths, with_whole_weight}
use Rattle.routing.specs.Even.{of_weight_one}
use Rattle.routing.specs.Split.{total_weight}
use Rattle.routing.proofs.Normalizing.{total_weight-weighted}
use Rattle.valiant_mix.specs.Even.{even_parts}
use Rattle.valiant_mix.proofs.Splits.{links_in_order}
use Rattle.valiant_mix.proofs.EvenShares.{evenly_whole, length-even, sum_of_even}
use Rattle.valiant_mix.proofs.even.even_shares.Goals as goal

pub with_weights-requires-clause-count : goal.with_weights-requires-clause-count
with_weights-requires-clause-count c =
    let even : c.as_slice.result.now ≡ even_parts c.len.result = c.as_slice.ensures ∙ c.in_ok-provide.ensures in
    omega (arith, ap (λ (l : List ℕ). length l) even, length-even c.len.result, c.len.ensures, c.args.paths.ok.0)

pub with_weights-requires-clause-few : goal.with_weights-requires-clause-few
with_weights-requires-clause-few c = omega (arith, c.args.paths.ok.0, c.requires.few)

pub merge-requires : goal.merge-requires
merge-requires c =
    let paths = links_in_order c.args.paths.items in
    let weights = c.as_slice.result.now in
    let even : weights ≡ even_parts c.len.result = c.as_slice.ensures ∙ c.in_ok-provide.ensures in
    let count = length-map c.args.paths.items (λ (p : Path). p.links) in
    let same : length weights ≡ length paths =
    omega (arith, ap (λ (l : List ℕ). length l) even, length-even c.len.result, c.len.ensures, c.args.paths.ok.0, count)
    in
    let whole = sum_of_even c.len.result (omega (arith, c.len.ensures, c.requires.some)) in
    omega (arith, ap total_weight c.in_ok-parts.ensures, total_weight-weighted paths weights same, ap sum even, whole)

pub returns : goal.returns
returns c =
    let paths = links_in_order c.args.paths.items in
    let count : c.len.result ≡ length paths = omega (arith, c.len.ensures, c.args.paths.ok.0, length-map c.args.paths.items (λ (p : Path). p.links)) in
    let even : c.as_slice.result.now ≡ even_parts (length paths) = c.as_slice.ensures ∙ (c.in_ok-provide.ensures ∙ ap even_parts count) in
    let parts : c.in_ok-parts.parts.items ≡ with_whole_weight (of_weight_one paths) =
    c.in_ok-parts.ensures ∙ (ap (weighted_paths paths) even ∙ evenly_whole paths)
    in
    subst (λ (l : List PathShare). IsMerge l c.in_ok-merged.merged.items) parts c.in_ok-merged.ensures
