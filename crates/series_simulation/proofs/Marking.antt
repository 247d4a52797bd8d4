-- The marks of a step among those of a series.
use Rattle.std.proofs.Common.{◌≡◌, ℕ, ◌<◌, All, Bool, List, [], length, get_or, ap, ◌∙◌, arith}
use Rattle.std.specs.List.{range_with_len}
use Rattle.std.proofs.lemmas.List.{get_or_default, get_or-map}
use Rattle.std.proofs.lemmas.List.FromFn.{get_or-range_with_len, length-range_with_len, length-map-range_with_len}
use Rattle.te_model.specs.declared.network.Network.{Network}
use Rattle.te_model.specs.Network.{link_count}
use Rattle.failure.specs.declared.outage.Failures.{Failures}
use Rattle.failure.specs.Failed.{has_failed}
use Rattle.failure.specs.Series.{marks_of, marks_of_steps}

pub series_count : (net : Network) (failures : Failures) (steps : ℕ) (series : List (List Bool)) → series ≡ marks_of_steps net failures steps →
    length series ≡ steps
series_count net failures steps series all = ap length all ∙ length-map-range_with_len (marks_of net failures) 0 steps

-- of each of so many steps
pub marks_at : (net : Network) (failures : Failures) (steps k : ℕ) (series : List (List Bool)) (marks : List Bool) →
    series ≡ marks_of_steps net failures steps → k < steps → marks ≡ get_or series k marks → marks ≡ marks_of net failures k
marks_at net failures steps k series marks all below read =
    let size = series_count net failures steps series all in
    let place : get_or (range_with_len 0 steps) k 0 ≡ k = omega (arith, get_or-range_with_len 0 steps k 0 below) in
    read ∙ get_or_default series k marks [] (omega (arith, below, size)) ∙ ap (λ (s : List (List Bool)). get_or s k []) all
    ∙ get_or-map (marks_of net failures) (range_with_len 0 steps) k 0 [] (omega (arith, below, length-range_with_len 0 steps))
    ∙ ap (marks_of net failures) place

pub marks_count : (net : Network) (failures : Failures) (k : ℕ) → length (marks_of net failures k) ≡ link_count net
marks_count net failures k = length-map-range_with_len (has_failed failures k) 0 (link_count net)

-- each step has one mark for each link
pub marks_sized : (net : Network) (failures : Failures) (steps : ℕ) (series : List (List Bool)) → series ≡ marks_of_steps net failures steps →
    All (λ (marks : List Bool). length marks ≡ link_count net) series
marks_sized net failures steps series all k d below =
    let marks = get_or series k d in
    let inside : k < steps = omega (arith, below, series_count net failures steps series all) in
    ap (λ (m : List Bool). length m) (marks_at net failures steps k series marks all inside (get_or_default series k d marks below)) ∙ marks_count net failures k
