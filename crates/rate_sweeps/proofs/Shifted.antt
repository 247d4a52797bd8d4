-- Weight that goes from one path of a pair to another.
use Rattle.std.proofs.Common.{inl, inr, ◌≡◌, ◌⊎◌, ℕ, ◌+◌, ◌*◌, ◌≤◌, true, List, [], ◌∷◌, ◌++◌, length, arith, refl, ap, sym, ◌∙◌, subst, min}
use Rattle.std.specs.Prelude.{All, IsTrue}
use Rattle.std.proofs.Math.Nat.{mul-le-mul_left}
use Rattle.std.proofs.lemmas.Bool.{cases_lt}
use Rattle.std.proofs.lemmas.List.{get_or_push, length-append}
use Rattle.std.proofs.lemmas.List.Elements.{All-from_get_or, All-get_or}
use Rattle.te_model.specs.declared.network.Network.{Network}
use Rattle.te_model.specs.declared.route.Pair.{Pair}
use Rattle.te_model.specs.declared.route.PairRoutes.{PairRoutes}
use Rattle.te_model.specs.declared.route.PathShare.{PathShare}
use Rattle.te_model.specs.Division.{quotient_up}
use Rattle.te_model.specs.Path.{is_path}
use Rattle.te_model.specs.PathRouting.{IsPathSplit}
use Rattle.te_model.specs.Validity.{paths_ascend}
use Rattle.routing.specs.Merge.{HasLinks, links_at, no_path, path_at}
use Rattle.routing.proofs.FewPaths.{few_among}
use Rattle.routing.proofs.OwnPaths.{has_front}
use Rattle.local_search.specs.Moves.{IsShift}
use Rattle.local_search.proofs.Shifts.{shift_only, shift_total}
use Rattle.rate_sweeps.specs.Shifts.{IsShifted, IsTarget}

-- a pair that is left as it is
pub unshifted : (limit : ℕ) (r : PairRoutes) (offered : List ℕ) → IsTrue (paths_ascend r.paths) → All (λ s. 1 ≤ s.weight) r.paths → IsShifted limit r offered r
unshifted limit r offered ascending positive =
    record { pair = refl; ascending = ascending; positive = positive; whole = refl; only = λ links has. inl has; few = λ few. few }

-- the paths after a shift to a target are those of before and the offered one
pub target_only : (lengths : List ℕ) (limit : ℕ) (paths new : List PathShare) (offered to : List ℕ) → IsTarget lengths limit paths offered to →
    ((links : List ℕ) → HasLinks new links → HasLinks paths links ⊎ (links ≡ to)) → (links : List ℕ) → HasLinks new links → HasLinks paths links ⊎ (links ≡ offered)
target_only lengths limit paths new offered to target only links has = elim (only links has) [
  | inl old ↦ inl old
  | inr is ↦ elim target [
    | inl offer ↦ inr (is ∙ offer.1)
    | inr own ↦ inl (subst (HasLinks paths) (sym is) own.1)
  ]
]

has_last : (xs : List PathShare) (x : PathShare) (links : List ℕ) → x.links ≡ links → HasLinks (xs ++ x ∷ []) links
has_last xs x links is =
    (length xs, omega (arith, length-append xs (x ∷ [])), ap (λ (s : PathShare). s.links) (get_or_push xs x no_path (length xs) refl) ∙ is)

-- no pair gets more paths than it may have
pub shift_few : (lengths : List ℕ) (limit : ℕ) (old new : List PathShare) (offered to : List ℕ) → IsTrue (paths_ascend new) → IsTarget lengths limit old offered to →
    ((links : List ℕ) → HasLinks new links → HasLinks old links ⊎ (links ≡ to)) → length old ≤ limit → length new ≤ limit
shift_few lengths limit old new offered to ascending target only few = elim target [
  | inl offer ↦
      let more : PathShare = record { links = to; weight = 0 } in
      let among = few_among new (old ++ more ∷ []) ascending (λ links has. elim (only links has) [
        | inl own ↦ has_front old (more ∷ []) links own
        | inr is ↦ has_last old more links (sym is)
      ]) in
      omega (arith, among, length-append old (more ∷ []), offer.0)
  | inr own ↦
      let among = few_among new old ascending (λ links has. elim (only links has) [ inl had ↦ had | inr is ↦ subst (HasLinks old) (sym is) own.1 ]) in
      omega (arith, among, few)
]

-- a pair whose paths have shifted to a target
pub shifted : (lengths : List ℕ) (limit : ℕ) (old new : PairRoutes) (from to offered : List ℕ) (units : ℕ) → new.pair ≡ old.pair →
    IsTarget lengths limit old.paths offered to →
    IsShift old.paths from to units new.paths → IsShifted limit old offered new
shifted lengths limit old new from to offered units pair target shift =
    let only = λ (links : List ℕ) (has : HasLinks new.paths links). shift_only old.paths from to units new.paths links shift has in
    record {
      pair = pair;
      ascending = shift.ascending;
      positive = shift.positive;
      whole = shift_total old.paths from to units new.paths shift;
      only = target_only lengths limit old.paths new.paths offered to target only;
      few = shift_few lengths limit old.paths new.paths offered to shift.ascending target only;
    }

-- a part of a weight is no more than the weight
part_le : (weight step_divisor : ℕ) → 1 ≤ step_divisor → quotient_up weight step_divisor ≤ weight
part_le weight step_divisor some = elim (cases_lt weight (quotient_up weight step_divisor)) [
  | inl more ↦
      let times : step_divisor * (weight + 1) ≤ step_divisor * quotient_up weight step_divisor = mul-le-mul_left step_divisor (omega (arith, more)) in
      let once : weight * 1 ≤ weight * step_divisor = mul-le-mul_left weight some in
      absurd (omega (arith, times, once, some))
  | inr le ↦ le
]

-- a part of the weight of a path has gone from it, where the paths are taken out of the pair first
pub shift_after : (old new : PairRoutes) (paths made : List PathShare) (from size step_divisor : ℕ) (to target : List ℕ) → 1 ≤ step_divisor → paths ≡ old.paths → to ≡ target →
    new.paths ≡ made → size ≡ quotient_up (path_at old.paths from).weight step_divisor → IsShift paths (links_at paths from) to (min size (path_at paths from).weight) made →
    IsShift old.paths (links_at old.paths from) target (quotient_up (path_at old.paths from).weight step_divisor) new.paths
shift_after old new paths made from size step_divisor to target some taken same after is shift =
    let weight = (path_at old.paths from).weight in
    let units : min size weight ≡ quotient_up weight step_divisor = omega (arith, is, part_le weight step_divisor some) in
    subst (λ n. IsShift old.paths (links_at old.paths from) target n new.paths) units
    (subst (λ (l : List PathShare). IsShift l (links_at l from) target (min size (path_at l from).weight) new.paths) taken
    (subst (λ (l : List ℕ). IsShift paths (links_at paths from) l (min size (path_at paths from).weight) new.paths) same
    (subst (IsShift paths (links_at paths from) to (min size (path_at paths from).weight)) (sym after) shift)))

-- a pair that is shifted keeps a split over paths of the network
pub shifted_split : (net : Network) (limit : ℕ) (old new : PairRoutes) (offered : List ℕ) → IsPathSplit net old →
    is_path net old.pair.src old.pair.dst offered ≡ true → IsShifted limit old offered new → IsPathSplit net new
shifted_split net limit old new offered split way is = record {
  paths = All-from_get_or (λ s. IsTrue (is_path net new.pair.src new.pair.dst s.links)) new.paths no_path (λ k below.
      subst (λ (q : Pair). is_path net q.src q.dst (links_at new.paths k) ≡ true) (sym is.pair)
      (sound (links_at new.paths k) (is.only (links_at new.paths k) (k, below, refl))));
  distinct = is.ascending;
  weights = is.positive;
  whole = is.whole ∙ split.whole;
}
  where
    sound : (links : List ℕ) → HasLinks old.paths links ⊎ (links ≡ offered) → is_path net old.pair.src old.pair.dst links ≡ true
    sound links (inl (k, below, at)) = subst (λ (l : List ℕ). is_path net old.pair.src old.pair.dst l ≡ true) at
        (All-get_or (λ s. IsTrue (is_path net old.pair.src old.pair.dst s.links)) old.paths k no_path below split.paths)
    sound links (inr e) = subst (λ (l : List ℕ). is_path net old.pair.src old.pair.dst l ≡ true) (sym e) way
