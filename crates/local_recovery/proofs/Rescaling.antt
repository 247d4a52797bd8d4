-- Weights that are scaled to one million.
use Rattle.std.proofs.Common.{◌≡◌, ℕ, ◌<◌, ◌≤◌, Bool, true, false, List, [], ◌∷◌, length, All, arith, refl, sym, subst, ◌==◌, ◌||◌, ◌&&◌}
use Rattle.std.specs.Prelude.{nat_le, filter, if◌then◌else◌}
use Rattle.std.specs.List.{list_all}
use Rattle.std.proofs.lemmas.Bool.{and_parts, eqb-true}
use Rattle.std.proofs.lemmas.Bool.Decides.{nat_tests}
use Rattle.std.proofs.lemmas.List.Sums.{sum_by-cons}
use Rattle.std.proofs.lemmas.List.Elements.{All-nil, All-cons, All-head, All-tail, All-get_or, All-from_get_or}
use Rattle.te_model.specs.declared.network.Network.{Network}
use Rattle.te_model.specs.declared.route.Pair.{Pair}
use Rattle.te_model.specs.declared.route.PathShare.{PathShare}
use Rattle.te_model.specs.declared.route.PairRoutes.{PairRoutes}
use Rattle.te_model.specs.declared.units.TheConstants.{SHARE_UNIT}
use Rattle.te_model.specs.Validity.{paths_ascend}
use Rattle.routing.specs.Merge.{no_path}
use Rattle.routing.specs.Split.{total_weight, is_split}
use Rattle.routing.specs.Normal.{with_whole_weight}
use Rattle.routing.proofs.Normalizing.{total-normalized, length-normalized, links_at-normalized, some_weight}
use Rattle.te_model.specs.Path.{is_path}
use Rattle.local_recovery.specs.Rates.{has_rates}
use Rattle.local_recovery.proofs.BypassWalks.{IsPathOf}

pub normalized_rates : (pair : Pair) (paths : List PathShare) → All (λ (s : PathShare). 1 ≤ s.weight) paths →
    has_rates (record { pair = pair; paths = with_whole_weight paths }) ≡ true
normalized_rates pair [] some = refl
normalized_rates pair (s ∷ ss) some =
    whole (length (with_whole_weight (s ∷ ss)) == 0) (total_weight (with_whole_weight (s ∷ ss))) (total-normalized (s ∷ ss) (some_weight (s ∷ ss) (omega arith) some))
  where
    whole : (b : Bool) (x : ℕ) → x ≡ SHARE_UNIT → (b || x == SHARE_UNIT) ≡ true
    whole true x e = refl
    whole false x e = rw e refl

-- the paths stay the same
pub normalized_paths : (net : Network) (s t : ℕ) (paths : List PathShare) → All (IsPathOf net s t) paths → All (IsPathOf net s t) (with_whole_weight paths)
normalized_paths net s t paths all =
    All-from_get_or (IsPathOf net s t) (with_whole_weight paths) no_path (λ i inside.
    let below : i < length paths = omega (arith, length-normalized paths) in
    subst (λ ls. is_path net s t ls ≡ true) (sym (links_at-normalized paths i below)) (All-get_or (IsPathOf net s t) paths i no_path below all))

-- the paths that pass a test are no more, and weigh no more
pub filter_small : (test : PathShare → Bool) (paths : List PathShare) →
    (length (filter test paths) ≤ length paths) × (total_weight (filter test paths) ≤ total_weight paths)
filter_small test [] = (omega arith, omega arith)
filter_small test (s ∷ ss) = go (test s) (filter_small test ss)
  where
    go : (b : Bool) → (length (filter test ss) ≤ length ss) × (total_weight (filter test ss) ≤ total_weight ss) →
        (length (if b then s ∷ filter test ss else filter test ss) ≤ length (s ∷ ss))
        × (total_weight (if b then s ∷ filter test ss else filter test ss) ≤ total_weight (s ∷ ss))
    go true rest =
        (omega (arith, rest.0), omega (arith, rest.1, sum_by-cons (λ (x : PathShare). x.weight) s (filter test ss), sum_by-cons (λ (x : PathShare). x.weight) s ss))
    go false rest = (omega (arith, rest.0), omega (arith, rest.1, sum_by-cons (λ (x : PathShare). x.weight) s ss))

pub filter_all : (P : PathShare → Type 0) (test : PathShare → Bool) (paths : List PathShare) → All P paths → All P (filter test paths)
filter_all P test [] all = all
filter_all P test (s ∷ ss) all = go (test s) (filter_all P test ss (All-tail P s ss all))
  where
    go : (b : Bool) → All P (filter test ss) → All P (if b then s ∷ filter test ss else filter test ss)
    go true rest = All-cons P s (filter test ss) (All-head P s ss all) rest
    go false rest = rest

positive_all : (paths : List PathShare) → list_all (λ s. nat_le 1 s.weight) paths ≡ true → All (λ (s : PathShare). 1 ≤ s.weight) paths
positive_all [] test = All-nil (λ (s : PathShare). 1 ≤ s.weight)
positive_all (s ∷ ss) test =
    let both = and_parts (nat_le 1 s.weight) (list_all (λ s. nat_le 1 s.weight) ss) test in
    let here = both.0 in
    All-cons (λ (x : PathShare). 1 ≤ x.weight) s ss (grind (arith, nat_tests)) (positive_all ss both.1)

-- what a split has
pub split_parts : (r : PairRoutes) → is_split r ≡ true → All (λ (s : PathShare). 1 ≤ s.weight) r.paths × (total_weight r.paths ≡ SHARE_UNIT)
split_parts r split =
    let outer = and_parts (paths_ascend r.paths && list_all (λ s. nat_le 1 s.weight) r.paths) (total_weight r.paths == SHARE_UNIT) split in
    let inner = and_parts (paths_ascend r.paths) (list_all (λ s. nat_le 1 s.weight) r.paths) outer.0 in
    (positive_all r.paths inner.1, eqb-true (total_weight r.paths) SHARE_UNIT outer.1)
