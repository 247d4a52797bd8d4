-- The most used link, and the quotient of two greatest utilisations.
use Rattle.std.proofs.Common.{◌≡◌, ℕ, suc, ◌+◌, ◌*◌, ◌^◌, ◌<◌, ◌≤◌, Bool, true, false, List, length, arith, refl, ap, ◌∙◌, ◌==◌, slice_index}
use Rattle.std.specs.Prelude.{if◌then◌else◌, nat_lt}
use Rattle.std.proofs.lemmas.Bool.{eqb-true}
use Rattle.std.proofs.lemmas.Nat.{mul-le}
use Rattle.std.proofs.Math.Nat.{div-zero}
use Rattle.te_model.specs.declared.certificate.Head.{Head}
use Rattle.te_model.specs.declared.network.Network.{Network}
use Rattle.te_model.specs.declared.units.TheConstants.{RATIO_UNIT}
use Rattle.te_model.specs.Counting.{all_below}
use Rattle.te_model.specs.Division.{quotient_up}
use Rattle.te_model.specs.Flow.{load}
use Rattle.te_model.specs.Network.{capacity_of, link_count}
use Rattle.te_model.specs.Path.{share}
use Rattle.te_model.proofs.Searches.{all_below_at}
use Rattle.te_model.proofs.Sums.{sum_below-zero}
use Rattle.ratio_witness.specs.declared.witness.Witness.{Witness}
use Rattle.ratio_witness.specs.Rules.{demand_of}
use Rattle.ratio_witness.specs.Verdict.{ratio_shown}
use Rattle.ratio_witness.specs.Witness.{most_used_link, rival_share, utilisation_ratio}

-- one link more
pub most_used_more : (net : Network) (on : ℕ → ℕ) (n m next : ℕ) → m ≡ most_used_link net on n →
    next ≡ (if nat_lt (on m * capacity_of net n) (on n * capacity_of net m) then n else m) → next ≡ most_used_link net on (n + 1)
most_used_more net on n m next same is =
    let more : suc n ≡ n + 1 = omega arith in
    is
    ∙ ap (λ k. if nat_lt (on k * capacity_of net n) (on n * capacity_of net k) then n else k) same
    ∙ ap (most_used_link net on) more

-- a load by a capacity, and millionths of a capacity by a load
pub load_by_capacity : (f c : ℕ) → f ≤ 2 ^ 66 → c ≤ 2 ^ 32 → f * c < 2 ^ 128
load_by_capacity f c small few = omega (arith, mul-le f c (2 ^ 66) (2 ^ 32) small few)

pub capacity_by_load : (c f : ℕ) → c ≤ 1000000 * 2 ^ 32 → f ≤ 2 ^ 66 → c * f < 2 ^ 128
capacity_by_load c f few small = omega (arith, mul-le c f (1000000 * 2 ^ 32) (2 ^ 66) few small)

pub quotient_of_none : (x y : ℕ) → y ≡ 0 → quotient_up x y ≡ 0
quotient_of_none x y none = rw none (div-zero _)

-- the quotient by equal parts
pub same_quotient : (net : Network) (on by_rival : ℕ → ℕ) (e h e' h' unit ch ce : ℕ) → e ≡ e' → h ≡ h' → unit ≡ RATIO_UNIT →
    ch ≡ capacity_of net h → ce ≡ capacity_of net e →
    quotient_up (unit * ch * on e) (by_rival h * ce) ≡ quotient_up (RATIO_UNIT * capacity_of net h' * on e') (by_rival h' * capacity_of net e')
same_quotient net on by_rival e h e' h' unit ch ce same_e same_h is_unit is_ch is_ce =
    ap (λ u. quotient_up (u * ch * on e) (by_rival h * ce)) is_unit
    ∙ ap (λ c. quotient_up (RATIO_UNIT * c * on e) (by_rival h * ce)) is_ch
    ∙ ap (λ c. quotient_up (RATIO_UNIT * capacity_of net h * on e) (by_rival h * c)) is_ce
    ∙ ap (λ k. quotient_up (RATIO_UNIT * capacity_of net k * on e) (by_rival k * capacity_of net e)) same_h
    ∙ ap (λ k. quotient_up (RATIO_UNIT * capacity_of net h' * on k) (by_rival h' * capacity_of net k)) same_e

-- without a demand nothing is loaded
no_load : (n : ℕ) (demand : ℕ → ℕ) (flows : ℕ → ℕ → ℕ) (e : ℕ) → all_below n (λ p. demand p == 0) ≡ true → load n demand flows e ≡ 0
no_load n demand flows e all = sum_below-zero n (λ p. demand p * flows p e) (λ p below.
    let none : demand p ≡ 0 = eqb-true (demand p) 0 (all_below_at n (λ q. demand q == 0) p all below) in
    rw none (omega arith))

unloaded : (net : Network) (on by_rival : ℕ → ℕ) (b : Bool) → (b ≡ true → (e : ℕ) → by_rival e ≡ 0) →
    utilisation_ratio net on by_rival ≡ (if b then 0 else utilisation_ratio net on by_rival)
unloaded net on by_rival false none = refl
unloaded net on by_rival true none =
    let e = most_used_link net on (link_count net) in
    let h = most_used_link net by_rival (link_count net) in
    let zero_load = none refl h in
    let under : by_rival h * capacity_of net e ≡ 0 = rw zero_load (omega arith) in
    quotient_of_none (RATIO_UNIT * capacity_of net h * on e) (by_rival h * capacity_of net e) under

-- the quotient of the loads is the performance ratio
pub shown_by : (h : Head) (w : Witness) (loads by_rival : List ℕ) →
    ((e : ℕ) → slice_index loads e ≡ load (length h.routes) (demand_of w) (share h.routes) e) →
    ((e : ℕ) → slice_index by_rival e ≡ load (length h.routes) (demand_of w) (rival_share w.rival) e) →
    utilisation_ratio h.network (slice_index loads) (slice_index by_rival) ≡ ratio_shown h w
shown_by h w loads by_rival is is_rival =
    let n = length h.routes in
    let f = load n (demand_of w) (share h.routes) in
    let g = load n (demand_of w) (rival_share w.rival) in
    let same : slice_index loads ≡ f = λ i e. is e i in
    let same_rival : slice_index by_rival ≡ g = λ i e. is_rival e i in
    ap (λ (on : ℕ → ℕ). utilisation_ratio h.network on (slice_index by_rival)) same
    ∙ ap (λ (by_rival : ℕ → ℕ). utilisation_ratio h.network f by_rival) same_rival
    ∙ unloaded h.network f g (all_below n (λ p. demand_of w p == 0)) (λ all e. no_load n (demand_of w) (rival_share w.rival) e all)
