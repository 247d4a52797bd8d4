-- Paths with even weights are a split of the pair.
use Rattle.std.proofs.Common.{◌≡◌, ℕ, ◌<◌, ◌≤◌, true, List, [], length, get_or, arith, ap, sym, ◌∙◌, subst, All}
use Rattle.std.specs.Prelude.{IsTrue}
use Rattle.std.proofs.lemmas.List.{get_or-map, length-map}
use Rattle.std.proofs.lemmas.List.Elements.{All-get_or, All-map}
use Rattle.std.proofs.lemmas.List.Sums.{sum_by-le}
use Rattle.te_model.specs.declared.network.Network.{Network}
use Rattle.te_model.specs.declared.route.Pair.{Pair}
use Rattle.te_model.specs.declared.route.PathShare.{PathShare}
use Rattle.te_model.specs.declared.units.TheConstants.{SHARE_UNIT}
use Rattle.te_model.specs.Path.{is_path}
use Rattle.te_model.specs.PathRouting.{IsPathSplit}
use Rattle.routing.specs.Merge.{HasLinks, links_at, no_path}
use Rattle.routing.specs.Normal.{with_whole_weight}
use Rattle.routing.specs.Split.{total_weight}
use Rattle.routing.proofs.Merged.{merged_split}
use Rattle.routing.proofs.Normalizing.{length-normalized, links_at-normalized, positive-normalized, some_weight, total-normalized}
use Rattle.routing.specs.Even.{of_weight_one, IsEvenMix}

abbrev one : List ℕ → PathShare
one links = record { links = links; weight = 1 }

pub ones_positive : (paths : List (List ℕ)) → All (λ s. 1 ≤ s.weight) (of_weight_one paths)
ones_positive paths = All-map (λ (s : PathShare). 1 ≤ s.weight) one paths (λ k d below. omega arith)

pub total_weight-ones : (paths : List (List ℕ)) → total_weight (of_weight_one paths) ≤ length paths
total_weight-ones paths =
    let le = sum_by-le (λ (s : PathShare). s.weight) 1 (of_weight_one paths) (All-map (λ (s : PathShare). s.weight ≤ 1) one paths (λ k d below. omega arith)) in
    omega (arith, le, length-map paths one)

pub even_few : (paths : List (List ℕ)) (merged : List PathShare) → IsEvenMix paths merged → length merged ≤ length paths
even_few paths merged so = omega (arith, so.few, length-normalized (of_weight_one paths), length-map paths one)

pub even_split : (net : Network) (pair : Pair) (paths : List (List ℕ)) (merged : List PathShare) → 1 ≤ length paths → length paths ≤ 1000000 →
    All (λ p. IsTrue (is_path net pair.src pair.dst p)) paths → IsEvenMix paths merged → IsPathSplit net (record { pair = pair; paths = merged })
even_split net pair paths merged some few sound_all so =
    let ones = of_weight_one paths in
    let count : length ones ≡ length paths = length-map paths one in
    let fits : total_weight ones ≤ SHARE_UNIT = omega (arith, total_weight-ones paths, few) in
    merged_split net pair (with_whole_weight ones) merged so sound
    (positive-normalized ones (omega (arith, count, some)) (ones_positive paths) fits)
    (total-normalized ones (some_weight ones (omega (arith, count, some)) (ones_positive paths)))
  where
    sound : (links : List ℕ) → HasLinks (with_whole_weight (of_weight_one paths)) links → is_path net pair.src pair.dst links ≡ true
    sound links (i, below, at) =
        let inside : i < length paths = omega (arith, below, length-normalized (of_weight_one paths), length-map paths one) in
        let from : links_at (of_weight_one paths) i ≡ get_or paths i [] = ap (λ (s : PathShare). s.links) (get_or-map one paths i [] no_path inside) in
        let is : links ≡ get_or paths i [] =
        sym at ∙ (links_at-normalized (of_weight_one paths) i (omega (arith, inside, length-map paths one)) ∙ from)
        in
        subst (λ (l : List ℕ). is_path net pair.src pair.dst l ≡ true) (sym is)
        (All-get_or (λ (l : List ℕ). IsTrue (is_path net pair.src pair.dst l)) paths i [] inside sound_all)
