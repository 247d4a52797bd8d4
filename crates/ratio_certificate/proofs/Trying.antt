-- What a try of other weights of one link says.
use Rattle.std.proofs.Common.{◌≡◌, ℕ, ◌+◌, ◌*◌, ◌/◌, ◌^◌, ◌≤◌, List, set, sym, subst, inl, inr, slice_index}
use Rattle.std.specs.Prelude.{IfNone, IfOk, Result, Ok, Err, Option, Some, None}
use Rattle.te_model.specs.declared.memory.Memory.{Memory}
use Rattle.te_model.specs.declared.network.Network.{Network}
use Rattle.te_model.specs.declared.route.PairRoutes.{PairRoutes}
use Rattle.te_model.specs.declared.demand.DemandSet.{DemandSet}
use Rattle.te_model.specs.Network.{capacity_of}
use Rattle.best_blocks.specs.Under.{IsNeedUnder}
use Rattle.best_blocks.proofs.NeedLaws.{needs_are_one}
use Rattle.ratio_certificate.specs.declared.weighting.Weighting.{Weighting}
use Rattle.ratio_certificate.specs.Polished.{ImprovesBy64th}
use Rattle.ratio_certificate.specs.Steps.{HelpsNot, IsSettledAt}
use Rattle.ratio_certificate.specs.Weighting.{IsWeighting}

-- weights whose own need does not improve the need help not
pub helps_not : (net : Network) (routes : List PairRoutes) (wanted : DemandSet) (e need : ℕ) (weights : List ℕ) (other : Weighting) → 1 ≤ capacity_of net e →
    other.link ≡ e → other.weights ≡ weights → IsWeighting net routes wanted other → (ImprovesBy64th need other.need → ⊥) →
    HelpsNot net routes wanted e need weights
helps_not net routes wanted e need weights other some link_is weights_are is worse x under better =
    let own : IsNeedUnder net routes wanted other.link other.weights other.need = record { a = other.a; b = other.b; scale = is.scale_is; need_is = is.need_is } in
    let here = subst (λ l. IsNeedUnder net routes wanted l other.weights other.need) link_is own in
    let there = subst (λ (ws : List ℕ). IsNeedUnder net routes wanted e ws other.need) weights_are here in
    let same : x ≡ other.need = needs_are_one net routes wanted e weights x other.need some under there in
    worse (subst (ImprovesBy64th need) same better)

-- the weight of link h can be stepped in two ways
pub settled_at : (net : Network) (routes : List PairRoutes) (wanted : DemandSet) (e need : ℕ) (weights : List ℕ) (h : ℕ) →
    (slice_index weights h ≤ 2 ^ 27 → HelpsNot net routes wanted e need (set weights h (2 * slice_index weights h))) →
    (2 ≤ slice_index weights h → HelpsNot net routes wanted e need (set weights h ((slice_index weights h + 1) / 2))) →
    IsSettledAt net routes wanted e need weights h
settled_at net routes wanted e need weights h double half weight (inl (some, small, is)) =
    subst (λ w. HelpsNot net routes wanted e need (set weights h w)) (sym is) (double small)
settled_at net routes wanted e need weights h double half weight (inr (two, is)) =
    subst (λ w. HelpsNot net routes wanted e need (set weights h w)) (sym is) (half two)

-- what follows from there being no value
pub none_gives : {X : Type 0} → (r : Result (Option X) Memory) (P Q : Type 0) → (P → Q) → IfOk r (λ o. IfNone o P) → IfOk r (λ o. IfNone o Q)
none_gives (Ok (Some x)) P Q says none = tt
none_gives (Ok None) P Q says none = says none
none_gives (Err e) P Q says none = tt

pub none_gives_both : {X : Type 0} → (r : Result (Option X) Memory) (P Q S : Type 0) → (P → Q → S) → IfOk r (λ o. IfNone o P) → IfOk r (λ o. IfNone o Q) →
    IfOk r (λ o. IfNone o S)
none_gives_both (Ok (Some x)) P Q S says first second = tt
none_gives_both (Ok None) P Q S says first second = says first second
none_gives_both (Err e) P Q S says first second = tt

-- what follows from three facts of a value that may be there
pub value_gives : {X : Type 0} → (r : Result X Memory) (P Q R S : X → Type 0) → ((x : X) → P x → Q x → R x → S x) → IfOk r P → IfOk r Q → IfOk r R → IfOk r S
value_gives (Ok x) P Q R S says first second third = says x first second third
value_gives (Err e) P Q R S says first second third = tt
