use Rattle.std.proofs.Common.{◌≡◌, ℕ, ◌<◌, ◌≤◌, List, length, sum, slice_index, arith, ap, sym, ◌∙◌, subst, All}
use Rattle.std.proofs.lemmas.List.{length-map, get_or-map}
use Rattle.std.proofs.lemmas.List.Sums.{sum-map, get_or-le-sum_by}
use Rattle.te_model.specs.declared.route.PathShare.{PathShare}
use Rattle.te_model.specs.declared.units.TheConstants.{SHARE_UNIT}
use Rattle.te_model.specs.Apportion.{apportion}
use Rattle.routing.specs.Merge.{no_path}
use Rattle.routing.specs.Normal.{weighted_paths}
use Rattle.routing.specs.Split.{total_weight}
use Rattle.routing.proofs.Normalizing.{all_links, all_weights, some_weight, length-apportion, total-normalized, positive-normalized}
use Rattle.routing.proofs.normal.normalize.Goals as goal

pub apportion-requires-clause-each : goal.apportion-requires-clause-each
apportion-requires-clause-each c =
    let parts = c.args.parts.now in
    let are : c.deref.result.now ≡ all_weights parts = c.deref.ensures.value ∙ c.in_ok-weights.ensures in
    subst (λ (ws : List ℕ). (i : ℕ) → i < length ws → slice_index ws i ≤ 4294967296) (sym are) (λ i below.
    let inside : i < length parts = omega (arith, below, length-map parts (λ (s : PathShare). s.weight)) in
    omega (
      arith,
      get_or-map (λ (s : PathShare). s.weight) parts i no_path 0 inside,
      get_or-le-sum_by (λ (s : PathShare). s.weight) parts i no_path inside,
      c.requires.whole,
    ))

pub apportion-requires-clause-whole : goal.apportion-requires-clause-whole
apportion-requires-clause-whole c =
    let parts = c.args.parts.now in
    let are : c.deref.result.now ≡ all_weights parts = c.deref.ensures.value ∙ c.in_ok-weights.ensures in
    omega (arith, ap sum are, sum-map (λ (s : PathShare). s.weight) parts, some_weight parts c.requires.some c.requires.weights)

pub with_weights-requires : goal.with_weights-requires
with_weights-requires c =
    let parts = c.args.parts.now in
    let weights : c.deref.result.now ≡ all_weights parts = c.deref.ensures.value ∙ c.in_ok-weights.ensures in
    let are : c.deref-2.result.now ≡ apportion SHARE_UNIT (all_weights parts) =
    c.deref-2.ensures.value ∙ (c.in_ok-shares.ensures.parts ∙ ap (apportion SHARE_UNIT) weights)
    in
    omega (arith, ap (λ (l : List ℕ). length l) are, length-apportion SHARE_UNIT (all_weights parts), length-map parts (λ (s : PathShare). s.weight))

pub returns-clause-parts : goal.returns-clause-parts
returns-clause-parts c =
    let parts = c.args.parts.now in
    let weights : c.deref.result.now ≡ all_weights parts = c.deref.ensures.value ∙ c.in_ok-weights.ensures in
    let are : c.deref-2.result.now ≡ apportion SHARE_UNIT (all_weights parts) =
    c.deref-2.ensures.value ∙ (c.in_ok-shares.ensures.parts ∙ ap (apportion SHARE_UNIT) weights)
    in
    c.in_ok-made.ensures ∙ ap (weighted_paths (all_links parts)) are

pub returns-clause-whole : goal.returns-clause-whole
returns-clause-whole c =
    ap total_weight (returns-clause-parts c) ∙ total-normalized c.args.parts.now (some_weight c.args.parts.now c.requires.some c.requires.weights)

pub returns-clause-positive : goal.returns-clause-positive
returns-clause-positive c =
    subst (All (λ s. 1 ≤ s.weight)) (sym (returns-clause-parts c))
    (positive-normalized c.args.parts.now c.requires.some c.requires.weights c.requires.whole)
