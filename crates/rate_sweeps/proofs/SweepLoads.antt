-- The loads of a sweep, link by link of a path and pair by pair.
use Rattle.std.proofs.Common.{◌≡◌, ℕ, ◌+◌, ◌*◌, ◌^◌, ◌<◌, cond, ◌==◌, List, [], ◌∷◌, length, min, take, set, get_or, arith, ap, ◌∙◌}
use Rattle.std.proofs.lemmas.List.FromFn.{fill_by_all}
use Rattle.std.proofs.lemmas.List.Sums.{sum_by_more}
use Rattle.te_model.specs.declared.network.Network.{Network}
use Rattle.te_model.specs.Counting.{sum_below}
use Rattle.te_model.specs.Network.{link_count}
use Rattle.centred_steps.specs.Loads.{AreSmall, times_on}
use Rattle.centred_steps.proofs.Added.{added_first, times_more}
use Rattle.rate_sweeps.specs.Bounds.{load_of_pair, sweep_loads}

-- one link more of a path
pub link_more : (loads next links : List ℕ) (x amount i e : ℕ) → i < length links → get_or links i 0 < length loads → AreSmall loads → AreSmall next →
    next ≡ set loads (get_or links i 0) (min (get_or loads (get_or links i 0) 0 + amount) (2 ^ 66)) →
    get_or loads e 0 ≡ min (2 ^ 66) (x + amount * times_on (take i links) e) → get_or next e 0 ≡ min (2 ^ 66) (x + amount * times_on (take (i + 1) links) e)
link_more loads next links x amount i e below inside were_small are_small added before =
    let h = get_or links i 0 in
    let once : times_on (take (i + 1) links) e ≡ times_on (take i links) e + times_on (h ∷ []) e =
    omega (arith, sum_by_more (λ k. cond (k == e) 1 0) links i 0 below, times_more h [] e)
    in
    let more : amount * times_on (take (i + 1) links) e ≡ amount * times_on (take i links) e + amount * times_on (h ∷ []) e =
    ap (λ t. amount * t) once ∙ omega arith
    in
    omega (arith, ap (λ (l : List ℕ). get_or l e 0) added, added_first loads [] h amount e inside (were_small e), more, before, are_small e)

-- all pairs
pub all_pairs : (net : Network) (demand : List ℕ) (paths : List (List ℕ)) (n : ℕ) (loads : List ℕ) → length loads ≡ link_count net → n ≡ length paths →
    ((e : ℕ) → e < length loads → get_or loads e 0 ≡ min (2 ^ 66) (sum_below n (load_of_pair demand paths e))) → loads ≡ sweep_loads net demand paths
all_pairs net demand paths n loads count all each =
    fill_by_all (λ e. min (2 ^ 66) (sum_below (length paths) (load_of_pair demand paths e))) loads (link_count net) 0 count
    (λ e below. each e (omega (arith, below, count)) ∙ ap (λ k. min (2 ^ 66) (sum_below k (load_of_pair demand paths e))) all)
