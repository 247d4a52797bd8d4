use Rattle.std.proofs.Common.{◌≡◌, ℕ, ◌<◌, List, length, refl, ap, ◌∙◌, subst, inl, inr, All, arith, sym, ◌≤◌}
use Rattle.te_model.specs.declared.route.PairRoutes.{PairRoutes}
use Rattle.te_model.specs.declared.route.PathShare.{PathShare}
use Rattle.te_model.specs.Division.{quotient_up}
use Rattle.std.proofs.lemmas.List.{get_or_default}
use Rattle.std.proofs.lemmas.List.Elements.{All-get_or}
use Rattle.routing.specs.Merge.{links_at, no_path, path_at}
use Rattle.local_search.specs.Moves.{IsShift}
use Rattle.rate_sweeps.specs.Choices.{IsFirstGreatest, cost_at}
use Rattle.rate_sweeps.specs.Shifts.{IsDearer, IsTarget}
use Rattle.rate_sweeps.specs.Sweeps.{HaveLinks}
use Rattle.rate_sweeps.proofs.Shifted.{shift_after, shifted}
use Rattle.rate_sweeps.proofs.shifting.shift_pair.Goals as goal
use Rattle.rate_sweeps.proofs.shifting.shift_pair.Goals.{After-drop-to-2}

-- the part of the weight of the dearest path that goes
abbrev units : After-drop-to-2 → ℕ
units c = quotient_up (path_at c.args.route.now.paths c.dearest-from.result).weight c.args.step_divisor

-- it has gone to the target
moved : (c : After-drop-to-2) →
    IsShift c.args.route.now.paths (links_at c.args.route.now.paths c.dearest-from.result) c.in_ok-to.to.items (units c) c.new-3.result
moved c =
    let old : PairRoutes = c.args.route.now in
    let new : PairRoutes = record { pair = old.pair; paths = c.new-3.result } in
    let from = c.dearest-from.result in
    let weight = ap (λ (s : PathShare). s.weight) (get_or_default c.as_slice-paths.result.now from c.index-paths-from-2.result no_path c.dearest-from.ensures.inside)
    ∙ ap (λ (l : List PathShare). (path_at l from).weight) c.as_slice-paths.ensures
    in
    shift_after old new c.into_vec.result.items c.in_ok-next.next.items from _ c.args.step_divisor c.deref-2.result.now c.in_ok-to.to.items c.requires.step_divisor.0
    (c.into_vec.ensures ∙ c.replace-old.ensures.value) c.deref-2.ensures.value c.new-3.ensures (ap (λ n. quotient_up n c.args.step_divisor) weight) c.in_ok-next.ensures

pub returns-clause-shifted : goal.returns-clause-shifted
returns-clause-shifted c =
    let old : PairRoutes = c.args.route.now in
    let new : PairRoutes = record { pair = old.pair; paths = c.new-3.result } in
    shifted c.args.lengths.now c.args.limit old new (links_at old.paths c.dearest-from.result) c.in_ok-to.to.items c.args.offered.now.links (units c) refl
    c.in_ok-to.ensures (moved c)

pub returns-clause-dearest : goal.returns-clause-dearest
returns-clause-dearest c =
    let lengths = c.args.lengths.now in
    let own = c.args.route.now.paths in
    let paths = c.as_slice-paths.result.now in
    let from = c.dearest-from.result in
    let to = c.in_ok-to.to.items in
    let links : c.as_slice.result.now ≡ links_at own from =
    c.as_slice.ensures
    ∙ (ap (λ (s : PathShare). s.links) (get_or_default paths from c.index-paths-from.result no_path c.dearest-from.ensures.inside)
    ∙ ap (λ (l : List PathShare). links_at l from) c.as_slice-paths.ensures)
    in
    let dearer : IsDearer lengths (links_at own from) to =
    subst (λ (l : List ℕ). IsDearer lengths l to) links (subst (IsDearer lengths c.as_slice.result.now) c.deref.ensures.value (c.if-not-is_dearer.ensures.0 refl))
    in
    record {
      from = from;
      inside = subst (λ (l : List PathShare). from < length l) c.as_slice-paths.ensures c.dearest-from.ensures.inside;
      dearest = subst (λ (l : List PathShare). IsFirstGreatest (cost_at lengths l) (length l) from) c.as_slice-paths.ensures c.dearest-from.ensures.greatest;
      to = to;
      target = c.in_ok-to.ensures;
      shift = λ more. moved c;
      stays = λ not. absurd (not dearer);
    }

pub dearest-from-requires-clause-some : goal.dearest-from-requires-clause-some
dearest-from-requires-clause-some c = omega (arith, ap (λ (l : List PathShare). length l) c.as_slice-paths.ensures, c.requires.some)

pub dearest-from-requires-clause-links : goal.dearest-from-requires-clause-links
dearest-from-requires-clause-links c = subst (HaveLinks (length c.args.lengths.now)) (sym c.as_slice-paths.ensures) c.requires.links

-- the target has links of the network
target_on : (lengths : List ℕ) (limit m : ℕ) (own : List PathShare) (offered to : List ℕ) → IsTarget lengths limit own offered to → HaveLinks m own →
    All (λ h. h < m) offered → All (λ h. h < m) to
target_on lengths limit m own offered to target links new = elim target [
  | inl other ↦ subst (All (λ (h : ℕ). h < m)) (sym other.1) new
  | inr own_path ↦
      let (k, below, at) = own_path.1 in
      subst (All (λ (h : ℕ). h < m)) at (All-get_or (λ (s : PathShare). All (λ (h : ℕ). h < m) s.links) own k no_path below links)
]

pub is_dearer-requires-clause-dear : goal.is_dearer-requires-clause-dear
is_dearer-requires-clause-dear c =
    let own = c.args.route.now.paths in
    let paths = c.as_slice-paths.result.now in
    let from = c.dearest-from.result in
    let m = length c.args.lengths.now in
    let links : c.as_slice.result.now ≡ links_at own from =
    c.as_slice.ensures
    ∙ (ap (λ (s : PathShare). s.links) (get_or_default paths from c.index-paths-from.result no_path c.dearest-from.ensures.inside)
    ∙ ap (λ (l : List PathShare). links_at l from) c.as_slice-paths.ensures)
    in
    subst (All (λ (h : ℕ). h < m)) (sym links)
    (All-get_or (λ (s : PathShare). All (λ (h : ℕ). h < m) s.links) own from no_path
    (subst (λ (l : List PathShare). from < length l) c.as_slice-paths.ensures c.dearest-from.ensures.inside) c.requires.links)

pub is_dearer-requires-clause-cheap : goal.is_dearer-requires-clause-cheap
is_dearer-requires-clause-cheap c =
    let m = length c.args.lengths.now in
    subst (All (λ (h : ℕ). h < m)) (sym c.deref.ensures.value)
    (target_on c.args.lengths.now c.args.limit m c.args.route.now.paths c.args.offered.now.links c.in_ok-to.to.items c.in_ok-to.ensures c.requires.links c.requires.offered)

pub paths_after-requires-clause-place : goal.paths_after-requires-clause-place
paths_after-requires-clause-place c =
    subst (λ (l : List PathShare). c.dearest-from.result < length l) (c.as_slice-paths.ensures ∙ sym (c.into_vec.ensures ∙ c.replace-old.ensures.value))
    c.dearest-from.ensures.inside

pub paths_after-requires-clause-positive : goal.paths_after-requires-clause-positive
paths_after-requires-clause-positive c =
    subst (All (λ (s : PathShare). 1 ≤ s.weight)) (sym (c.into_vec.ensures ∙ c.replace-old.ensures.value)) c.requires.positive
