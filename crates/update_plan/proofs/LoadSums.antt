-- The load of a link, path by path.
use Rattle.std.proofs.Common.{◌≡◌, ℕ, suc, Bool, true, false, refl, ◌+◌, ◌*◌, ◌^◌, ◌<◌, ◌≤◌, List, length, arith, ap, ◌∙◌, All}
use Rattle.std.specs.Prelude.{slice_index, if◌then◌else◌}
use Rattle.std.proofs.lemmas.List.Elements.{All-get_or}
use Rattle.std.proofs.lemmas.Nat.{mul-le}
use Rattle.te_model.specs.declared.network.Network.{Network}
use Rattle.te_model.specs.Counting.{sum_below}
use Rattle.te_model.specs.Path.{amount_on, has_number}
use Rattle.te_model.proofs.Conditionals.{if_le-self}
use Rattle.te_model.proofs.Sums.{sum_below-bound}
use Rattle.update_plan.specs.declared.loads.WeightKind.{WeightKind}
use Rattle.update_plan.specs.declared.loads.WeightKind.TheVariants.{Before, After, Growth, Decline}
use Rattle.update_plan.specs.declared.path.UpdatePath.{UpdatePath}
use Rattle.update_plan.specs.Loads.{IsUpdatePath, weight_of}
use Rattle.update_plan.specs.Paths.{no_update, update_at}

-- the load of link e by the first n paths
abbrev pub first_load : List ℕ → List UpdatePath → WeightKind → ℕ → ℕ → ℕ
first_load demand paths kind n e =
    sum_below n (λ k. if has_number (update_at paths k).links e then slice_index demand (update_at paths k).pair * weight_of kind (update_at paths k) else 0)

pub load_more : (demand : List ℕ) (paths : List UpdatePath) (kind : WeightKind) (n e : ℕ) →
    first_load demand paths kind (n + 1) e
    ≡ first_load demand paths kind n e + amount_on (update_at paths n).links (slice_index demand (update_at paths n).pair * weight_of kind (update_at paths n)) e
load_more demand paths kind n e = let next : n + 1 ≡ suc n = omega arith in ap (λ m. first_load demand paths kind m e) next

-- the amount of a path by its demand and its weight
pub amount_is : (demand : List ℕ) (paths : List UpdatePath) (kind : WeightKind) (k : ℕ) (u : UpdatePath) (d w : ℕ) → u ≡ update_at paths k →
    d ≡ slice_index demand u.pair → w ≡ weight_of kind u → d * w ≡ slice_index demand (update_at paths k).pair * weight_of kind (update_at paths k)
amount_is demand paths kind k u d w same demands weighs =
    ap (λ x. x * w) demands
    ∙ (ap (λ x. slice_index demand u.pair * x) weighs ∙ ap (λ (v : UpdatePath). slice_index demand v.pair * weight_of kind v) same)

weight_small : (kind : WeightKind) (u : UpdatePath) → u.before ≤ 1000000 → u.after ≤ 1000000 → weight_of kind u ≤ 1000000
weight_small Before u before after = before
weight_small After u before after = after
weight_small Growth u before after = omega (arith, after)
weight_small Decline u before after = omega (arith, before)

pub amount_small : (net : Network) (demand : List ℕ) (paths : List UpdatePath) (kind : WeightKind) (k : ℕ) → All (λ d. d ≤ 2 ^ 32) demand →
    All (IsUpdatePath net (length demand)) paths → k < length paths →
    slice_index demand (update_at paths k).pair * weight_of kind (update_at paths k) ≤ 4294967296 * 1000000
amount_small net demand paths kind k small are below =
    let is = All-get_or (IsUpdatePath net (length demand)) paths k no_update below are in
    let d = All-get_or (λ d. d ≤ 2 ^ 32) demand (update_at paths k).pair 0 is.pair small in
    mul-le (slice_index demand (update_at paths k).pair) (weight_of kind (update_at paths k)) 4294967296 1000000 d (weight_small kind (update_at paths k) is.before is.after)

pub load_small : (net : Network) (demand : List ℕ) (paths : List UpdatePath) (kind : WeightKind) (n e : ℕ) → All (λ d. d ≤ 2 ^ 32) demand →
    All (IsUpdatePath net (length demand)) paths → n ≤ length paths → first_load demand paths kind n e ≤ n * (4294967296 * 1000000)
load_small net demand paths kind n e small are le =
    sum_below-bound n (4294967296 * 1000000)
    (λ k. if has_number (update_at paths k).links e then slice_index demand (update_at paths k).pair * weight_of kind (update_at paths k) else 0)
    (λ k below. omega (
      arith,
      if_le-self (has_number (update_at paths k).links e) (slice_index demand (update_at paths k).pair * weight_of kind (update_at paths k)),
      amount_small net demand paths kind k small are (omega (arith, below, le)),
    ))
