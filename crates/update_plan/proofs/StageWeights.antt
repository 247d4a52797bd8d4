-- The weights of a pair at a stage sum to a unit of shares for each step.
use Rattle.std.proofs.Common.{◌≡◌, inl, inr, true, ℕ, zero, suc, ◌+◌, ◌-◌, ◌*◌, ◌<◌, ◌≤◌, List, [], ◌∷◌, length, arith, refl, ap, sym, ◌∙◌, ◌==◌, All}
use Rattle.std.specs.Prelude.{map, slice_index, sum_by, if◌then◌else◌}
use Rattle.std.proofs.lemmas.Bool.{cases_lt}
use Rattle.std.proofs.lemmas.List.{get_or-map}
use Rattle.std.proofs.lemmas.List.Sums.{sum_by-append, sum_by-cons}
use Rattle.te_model.specs.declared.network.Network.{Network}
use Rattle.te_model.specs.declared.route.PairRoutes.{PairRoutes}
use Rattle.te_model.specs.declared.units.TheConstants.{SHARE_UNIT}
use Rattle.te_model.specs.PathRouting.{IsPathRouting, IsPathSplit}
use Rattle.te_model.specs.Path.{routes_at}
use Rattle.te_model.proofs.Conditionals.{if_equal, if_other}
use Rattle.te_model.proofs.Sums.{sum_below-same}
use Rattle.update_plan.specs.declared.path.UpdatePath.{UpdatePath}
use Rattle.update_plan.specs.Paths.{ArePaths, AreSideBySide, no_update, update_at}
use Rattle.update_plan.specs.Stages.{AreWholeWeights, weight_at_stage}
use Rattle.update_plan.proofs.PlanPaths.{split_at}
use Rattle.update_plan.proofs.RoutingLoads.{sums_all}

-- paths of another pair count for nothing
of_other : (c j n p : ℕ) (own : List UpdatePath) → (n ≡ p → ⊥) → All (λ u. (u.pair ≡ n) × (1 ≤ u.before + u.after)) own →
    sum_by (λ u. if u.pair == p then c * u.before + j * u.after else 0) own ≡ 0
of_other c j n p [] apart all = refl
of_other c j n p (u ∷ us) apart all =
    omega (
      arith,
      sum_by-cons (λ (v : UpdatePath). if v.pair == p then c * v.before + j * v.after else 0) u us,
      if_other u.pair p (c * u.before + j * u.after) (λ same. apart (sym (all 0 no_update (omega arith)).0 ∙ same)),
      of_other c j n p us apart (λ k d below. all (suc k) d (omega (arith, below))),
    )

-- those of the pair by its weights before and after
of_pair : (c j p : ℕ) (own : List UpdatePath) → All (λ u. (u.pair ≡ p) × (1 ≤ u.before + u.after)) own →
    sum_by (λ u. if u.pair == p then c * u.before + j * u.after else 0) own ≡ c * sum_by (λ u. u.before) own + j * sum_by (λ u. u.after) own
of_pair c j p [] all = omega arith
of_pair c j p (u ∷ us) all =
    omega (
      arith,
      sum_by-cons (λ (v : UpdatePath). if v.pair == p then c * v.before + j * v.after else 0) u us,
      if_equal u.pair p (c * u.before + j * u.after) (all 0 no_update (omega arith)).0,
      of_pair c j p us (λ k d below. all (suc k) d (omega (arith, below))),
      ap (λ s. c * s) (sum_by-cons (λ (v : UpdatePath). v.before) u us),
      ap (λ s. j * s) (sum_by-cons (λ (v : UpdatePath). v.after) u us),
    )

own_whole : (net : Network) (c j p : ℕ) (r s : PairRoutes) (own : List UpdatePath) → IsPathSplit net r → IsPathSplit net s → AreSideBySide p r.paths s.paths own →
    sum_by (λ u. if u.pair == p then c * u.before + j * u.after else 0) own ≡ c * SHARE_UNIT + j * SHARE_UNIT
own_whole net c j p r s own old new side =
    of_pair c j p own side.own
    ∙ (ap (λ x. c * x + j * sum_by (λ (u : UpdatePath). u.after) own) (side.before_is (λ l. true) ∙ old.whole)
    ∙ ap (λ x. c * SHARE_UNIT + j * x) (side.after_is (λ l. true) ∙ new.whole))

none_yet : (c j n p : ℕ) (before after : List PairRoutes) (paths : List UpdatePath) → n ≤ p → ArePaths n before after paths →
    sum_by (λ u. if u.pair == p then c * u.before + j * u.after else 0) paths ≡ 0
none_yet c j zero p before after paths le is = ap (sum_by (λ (u : UpdatePath). if u.pair == p then c * u.before + j * u.after else 0)) is
none_yet c j (suc n) p before after paths le (earlier, own, is, rest, side) =
    let f : UpdatePath → ℕ = λ u. if u.pair == p then c * u.before + j * u.after else 0 in
    omega (
      arith,
      ap (sum_by f) is,
      sum_by-append f earlier own,
      none_yet c j n p before after earlier (omega (arith, le)) rest,
      of_other c j n p own (λ same. omega (arith, same, le)) side.own,
    )

pub whole_weight : (net : Network) (c j n p : ℕ) (before after : List PairRoutes) (paths : List UpdatePath) → IsPathRouting net before → IsPathRouting net after →
    length after ≡ length before → n ≤ length before → p < n → ArePaths n before after paths →
    sum_by (λ u. if u.pair == p then c * u.before + j * u.after else 0) paths ≡ c * SHARE_UNIT + j * SHARE_UNIT
whole_weight net c j zero p before after paths old new same le below is = absurd (omega (arith, below))
whole_weight net c j (suc n) p before after paths old new same le below (earlier, own, is, rest, side) =
    let f : UpdatePath → ℕ = λ u. if u.pair == p then c * u.before + j * u.after else 0 in
    elim (cases_lt p n) [
      | inl lt ↦ omega (
        arith,
        ap (sum_by f) is,
        sum_by-append f earlier own,
        whole_weight net c j n p before after earlier old new same (omega (arith, le)) lt rest,
        of_other c j n p own (λ e. omega (arith, e, lt)) side.own,
      )
      | inr ge ↦
          let e : n ≡ p = omega (arith, ge, below) in
          let last : sum_by f own ≡ c * SHARE_UNIT + j * SHARE_UNIT =
          ap (λ q. sum_by (λ (u : UpdatePath). if u.pair == q then c * u.before + j * u.after else 0) own) (sym e)
          ∙ own_whole net c j n (routes_at before n) (routes_at after n) own (split_at net before n old (omega (arith, le))) (split_at net after n new (omega (arith, le, same))) side
          in
          omega (arith, ap (sum_by f) is, sum_by-append f earlier own, none_yet c j n p before after earlier (omega (arith, ge)) rest, last)
    ]

-- the weights of each pair at a stage
pub whole_weights : (steps stage : ℕ) (paths : List UpdatePath) (weights : List ℕ) → stage ≤ steps → weights ≡ map (weight_at_stage steps stage) paths →
    AreWholeWeights paths steps weights
whole_weights steps stage paths weights le are net before after old new same sides p below =
    let f : UpdatePath → ℕ = λ u. if u.pair == p then (steps - stage) * u.before + stage * u.after else 0 in
    let terms = sum_below-same (length paths) (λ k. if (update_at paths k).pair == p then slice_index weights k else 0) (λ k. f (update_at paths k))
    (λ k inside. ap (λ (w : ℕ). if (update_at paths k).pair == p then w else 0)
    (ap (λ (l : List ℕ). slice_index l k) are ∙ get_or-map (weight_at_stage steps stage) paths k no_update 0 inside))
    in
    let whole : (steps - stage) * SHARE_UNIT + stage * SHARE_UNIT ≡ steps * SHARE_UNIT = omega (arith, le) in
    terms ∙ (sums_all f paths ∙ (whole_weight net (steps - stage) stage (length before) p before after paths old new same (omega arith) below sides ∙ whole))
