-- Weights that are apportioned: what they sum to, and that none is lost.
use Rattle.std.proofs.Common.{◌≡◌, ℕ, zero, suc, ◌+◌, ◌*◌, ◌<◌, ◌≤◌, List, [], ◌∷◌, ◌++◌, length, map, sum, get_or, arith, refl, ap, sym, ◌∙◌, slice_index, All}
use Rattle.std.proofs.Math.Nat.{mul-le-mul_left}
use Rattle.std.proofs.lemmas.Nat.{le-div}
use Rattle.std.proofs.lemmas.List.{length-map, get_or-map}
use Rattle.std.proofs.lemmas.List.Elements.{All-from_get_or, All-get_or}
use Rattle.std.proofs.lemmas.List.FromFn.{get_or-map-range_with_len, length-map-range_with_len}
use Rattle.std.proofs.lemmas.List.Sums.{sum-map, sum_by-cons}
use Rattle.te_model.specs.declared.route.PathShare.{PathShare}
use Rattle.te_model.specs.declared.units.TheConstants.{SHARE_UNIT}
use Rattle.te_model.specs.Apportion.{apportion, part, floor_part}
use Rattle.te_model.proofs.ApportionLaws.{apportion-sum}
use Rattle.routing.specs.Merge.{no_path, links_at}
use Rattle.routing.specs.Normal.{weighted_paths, with_whole_weight}
use Rattle.routing.specs.Split.{total_weight}

abbrev pub all_links : List PathShare → List (List ℕ)
all_links parts = map (λ (s : PathShare). s.links) parts

abbrev pub all_weights : List PathShare → List ℕ
all_weights parts = map (λ (s : PathShare). s.weight) parts

pub weighted_push : (ps : List (List ℕ)) (ws : List ℕ) (p : List ℕ) (w : ℕ) → length ws ≡ length ps →
    weighted_paths (ps ++ p ∷ []) (ws ++ w ∷ []) ≡ weighted_paths ps ws ++ (record { links = p; weight = w }) ∷ []
weighted_push [] [] p w same = refl
weighted_push [] (v ∷ vs) p w same = absurd (omega arith)
weighted_push (q ∷ qs) [] p w same = absurd (omega arith)
weighted_push (q ∷ qs) (v ∷ vs) p w same =
    ap (λ l. (record { links = q; weight = v }) ∷ l) (weighted_push qs vs p w (omega arith))

pub length-weighted : (ps : List (List ℕ)) (ws : List ℕ) → length ws ≡ length ps → length (weighted_paths ps ws) ≡ length ps
length-weighted [] ws same = refl
length-weighted (p ∷ ps) [] same = absurd (omega arith)
length-weighted (p ∷ ps) (w ∷ ws) same = omega (arith, length-weighted ps ws (omega arith))

pub weighted_at : (ps : List (List ℕ)) (ws : List ℕ) (k : ℕ) → length ws ≡ length ps → k < length ps →
    get_or (weighted_paths ps ws) k no_path ≡ record { links = get_or ps k []; weight = slice_index ws k }
weighted_at [] ws k same below = absurd (omega arith)
weighted_at (p ∷ ps) [] k same below = absurd (omega arith)
weighted_at (p ∷ ps) (w ∷ ws) zero same below = refl
weighted_at (p ∷ ps) (w ∷ ws) (suc k) same below = weighted_at ps ws k (omega arith) (omega arith)

pub total_weight-weighted : (ps : List (List ℕ)) (ws : List ℕ) → length ws ≡ length ps → total_weight (weighted_paths ps ws) ≡ sum ws
total_weight-weighted [] [] same = refl
total_weight-weighted [] (w ∷ ws) same = absurd (omega arith)
total_weight-weighted (p ∷ ps) [] same = absurd (omega arith)
total_weight-weighted (p ∷ ps) (w ∷ ws) same =
    sum_by-cons (λ (s : PathShare). s.weight) (record { links = p; weight = w }) (weighted_paths ps ws)
    ∙ (ap (λ n. w + n) (total_weight-weighted ps ws (omega arith)) ∙ sym (sum_by-cons (λ x. x) w ws))

pub length-apportion : (total : ℕ) (ws : List ℕ) → length (apportion total ws) ≡ length ws
length-apportion total ws = length-map-range_with_len (part total ws) 0 (length ws)

-- where the weights sum to no more than the total, each gets at least one
pub apportion-some : (total : ℕ) (ws : List ℕ) (i : ℕ) → i < length ws → 1 ≤ slice_index ws i → 1 ≤ sum ws → sum ws ≤ total →
    1 ≤ slice_index (apportion total ws) i
apportion-some total ws i below one some fits =
    let scaled = mul-le-mul_left total one in
    let floor : 1 ≤ floor_part total ws i = le-div 1 (total * slice_index ws i) (sum ws) (omega arith) (omega (arith, scaled)) in
    let at = get_or-map-range_with_len (part total ws) 0 (length ws) i i 0 below (omega arith) in
    omega (arith, at, floor)

pub normal_lengths : (parts : List PathShare) → length (apportion SHARE_UNIT (all_weights parts)) ≡ length (all_links parts)
normal_lengths parts =
    length-apportion SHARE_UNIT (all_weights parts) ∙ (length-map parts (λ (s : PathShare). s.weight) ∙ sym (length-map parts (λ (s : PathShare). s.links)))

pub total-normalized : (parts : List PathShare) → 1 ≤ total_weight parts → total_weight (with_whole_weight parts) ≡ SHARE_UNIT
total-normalized parts some =
    let ws = all_weights parts in
    let sums : sum ws ≡ total_weight parts = sum-map (λ (s : PathShare). s.weight) parts in
    total_weight-weighted (all_links parts) (apportion SHARE_UNIT ws) (normal_lengths parts) ∙ apportion-sum SHARE_UNIT ws (omega (arith, sums))

pub length-normalized : (parts : List PathShare) → length (with_whole_weight parts) ≡ length parts
length-normalized parts =
    length-weighted (all_links parts) (apportion SHARE_UNIT (all_weights parts)) (normal_lengths parts) ∙ length-map parts (λ (s : PathShare). s.links)

-- the paths stay in their places
pub links_at-normalized : (parts : List PathShare) (k : ℕ) → k < length parts → links_at (with_whole_weight parts) k ≡ links_at parts k
links_at-normalized parts k below =
    let count = length-map parts (λ (s : PathShare). s.links) in
    ap (λ (s : PathShare). s.links) (weighted_at (all_links parts) (apportion SHARE_UNIT (all_weights parts)) k (normal_lengths parts) (omega (arith, count, below)))
    ∙ get_or-map (λ (s : PathShare). s.links) parts k no_path [] below

pub some_weight : (parts : List PathShare) → 1 ≤ length parts → All (λ s. 1 ≤ s.weight) parts → 1 ≤ total_weight parts
some_weight [] some all = absurd (omega arith)
some_weight (s ∷ ss) some all =
    omega (arith, sum_by-cons (λ (s : PathShare). s.weight) s ss, All-get_or (λ s. 1 ≤ s.weight) (s ∷ ss) 0 no_path (omega arith) all)

pub positive-normalized : (parts : List PathShare) → 1 ≤ length parts → All (λ s. 1 ≤ s.weight) parts → total_weight parts ≤ SHARE_UNIT →
    All (λ s. 1 ≤ s.weight) (with_whole_weight parts)
positive-normalized parts some all fits =
    let ws = all_weights parts in
    let sums : sum ws ≡ total_weight parts = sum-map (λ (s : PathShare). s.weight) parts in
    let links = length-map parts (λ (s : PathShare). s.links) in
    let weights = length-map parts (λ (s : PathShare). s.weight) in
    All-from_get_or (λ s. 1 ≤ s.weight) (with_whole_weight parts) no_path (λ k below.
    let inside : k < length parts = omega (arith, below, length-normalized parts) in
    let one : 1 ≤ slice_index ws k =
    omega (arith, get_or-map (λ (s : PathShare). s.weight) parts k no_path 0 inside, All-get_or (λ s. 1 ≤ s.weight) parts k no_path inside all)
    in
    omega (
      arith,
      ap (λ (s : PathShare). s.weight) (weighted_at (all_links parts) (apportion SHARE_UNIT ws) k (normal_lengths parts) (omega (arith, links, inside))),
      apportion-some SHARE_UNIT ws k (omega (arith, weights, inside)) one (omega (arith, sums, some_weight parts some all)) (omega (arith, sums, fits)),
    ))
