-- The unit in even parts over paths.
use Rattle.std.proofs.Common.{◌≡◌, ℕ, ◌<◌, ◌≤◌, List, [], ◌∷◌, ◌++◌, length, map, replicate, slice_index, sum, take, arith, refl, ap, sym, ◌∙◌}
use Rattle.std.proofs.lemmas.List.{length-map, length-replicate, length-take, length_push, map_push, take_more}
use Rattle.std.proofs.lemmas.List.Folds.{sum_by-replicate}
use Rattle.te_model.specs.declared.route.Path.{Path}
use Rattle.te_model.specs.declared.route.PathShare.{PathShare}
use Rattle.te_model.specs.declared.units.TheConstants.{SHARE_UNIT}
use Rattle.te_model.specs.Apportion.{apportion}
use Rattle.te_model.proofs.ApportionLaws.{apportion-sum}
use Rattle.routing.specs.Even.{of_weight_one}
use Rattle.routing.specs.Normal.{weighted_paths, with_whole_weight}
use Rattle.routing.proofs.Normalizing.{length-apportion, length-weighted, weighted_push}
use Rattle.valiant_mix.specs.Even.{even_parts}
use Rattle.valiant_mix.proofs.Splits.{links_in_order}

weights_of_ones : (paths : List (List ℕ)) → map (λ (s : PathShare). s.weight) (of_weight_one paths) ≡ replicate (length paths) 1
weights_of_ones [] = refl
weights_of_ones (p ∷ ps) = ap (λ (l : List ℕ). 1 ∷ l) (weights_of_ones ps)

links_of_ones : (paths : List (List ℕ)) → map (λ (s : PathShare). s.links) (of_weight_one paths) ≡ paths
links_of_ones [] = refl
links_of_ones (p ∷ ps) = ap (λ (l : List (List ℕ)). p ∷ l) (links_of_ones ps)

-- the paths with even parts are those of weight one with the whole weight
pub evenly_whole : (paths : List (List ℕ)) → weighted_paths paths (even_parts (length paths)) ≡ with_whole_weight (of_weight_one paths)
evenly_whole paths =
    ap (λ (ps : List (List ℕ)). weighted_paths ps (even_parts (length paths))) (sym (links_of_ones paths))
    ∙ ap (λ (ws : List ℕ). weighted_paths (map (λ (s : PathShare). s.links) (of_weight_one paths)) (apportion SHARE_UNIT ws)) (sym (weights_of_ones paths))

pub length-even : (n : ℕ) → length (even_parts n) ≡ n
length-even n = length-apportion SHARE_UNIT (replicate n 1) ∙ length-replicate n 1

pub sum_of_ones : (n : ℕ) → sum (replicate n 1) ≡ n
sum_of_ones n = let ones = sum_by-replicate (λ (x : ℕ). x) n 1 in omega (arith, ones)

-- the even parts are the unit
pub sum_of_even : (n : ℕ) → 1 ≤ n → sum (even_parts n) ≡ SHARE_UNIT
sum_of_even n some = apportion-sum SHARE_UNIT (replicate n 1) (omega (arith, sum_of_ones n, some))

-- there are as many weighted paths as paths
pub so_far_count : (paths : List Path) (weights : List ℕ) → length paths < length weights →
    length (weighted_paths (links_in_order paths) (take (length paths) weights)) ≡ length paths
so_far_count paths weights below =
    let links = length-map paths (λ (p : Path). p.links) in
    let same : length (take (length paths) weights) ≡ length (links_in_order paths) = omega (arith, links, length-take (length paths) weights, below) in
    length-weighted (links_in_order paths) (take (length paths) weights) same ∙ links

-- one path more with its weight
pub weighted_more : (paths : List Path) (path : Path) (weights : List ℕ) → length paths < length weights →
    weighted_paths (links_in_order paths) (take (length paths) weights) ++ (record { links = path.links; weight = slice_index weights (length paths) }) ∷ []
    ≡ weighted_paths (links_in_order (paths ++ path ∷ [])) (take (length (paths ++ path ∷ [])) weights)
weighted_more paths path weights below =
    let n = length paths in
    let lengths : length (take n weights) ≡ length (links_in_order paths) =
    omega (arith, length-map paths (λ (p : Path). p.links), length-take n weights, below)
    in
    sym (weighted_push (links_in_order paths) (take n weights) path.links (slice_index weights n) lengths)
    ∙ (ap (λ (ps : List (List ℕ)). weighted_paths ps (take n weights ++ slice_index weights n ∷ [])) (sym (map_push (λ (p : Path). p.links) paths path))
    ∙ ap (λ (ws : List ℕ). weighted_paths (links_in_order (paths ++ path ∷ [])) ws)
    (sym (take_more weights n 0 below) ∙ ap (λ k. take k weights) (sym (length_push paths path))))
