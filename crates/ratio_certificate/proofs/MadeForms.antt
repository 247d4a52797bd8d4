-- The format of a made certificate has room for its network, and for its set, which stays within the limits.
use Rattle.std.proofs.Common.{◌≡◌, ℕ, ◌*◌, ◌^◌, ◌≤◌, Bool, true, false, ◌==◌, cond, arith, refl, ◌∙◌, inl, inr, slice_index}
use Rattle.std.proofs.lemmas.Bool.Decides.{nat_tests}
use Rattle.std.proofs.lemmas.List.{length-map}
use Rattle.std.proofs.lemmas.List.Elements.{All-get_or}
use Rattle.std.proofs.lemmas.Nat.{mul-le}
use Rattle.te_model.specs.declared.network.Network.{Network}
use Rattle.te_model.specs.declared.demand.DemandSet.{DemandSet}
use Rattle.te_model.specs.declared.demand.DemandSet.TheVariants.{All, Margin, Box}
use Rattle.te_model.specs.Network.{is_well_formed}
use Rattle.te_model.specs.SmallMargin.{HasSmallMargin}
use Rattle.te_model.specs.Upgrade.{box_of}
use Rattle.te_model.specs.Validity.{has_margin_numbers}
use Rattle.te_model.proofs.Valid.{square_small}
use Rattle.te_model.proofs.Upgrading.{scaled_at}
use Rattle.te_model.proofs.WellFormed.{few_links, few_nodes}
use Rattle.best_blocks.specs.Conditions.{IsSetWithin}
use Rattle.ratio_certificate.specs.Form.{fits_first_format, is_box, made_format, made_set, set_in, HasFormOfFormat, IsFormatFor}

-- the numbers of a margin within the limits
pub small_margin : (n : ℕ) (set : DemandSet) → IsSetWithin n set → HasSmallMargin set
small_margin n All within = tt
small_margin n (Margin num den base) within =
    let numbers : has_margin_numbers (Margin num den base) ≡ true = within.0 in
    (grind (arith, nat_tests), grind (arith, nat_tests), within.1.small)
small_margin n (Box lower upper) within = tt

-- the box of a margin within the limits is within them
box_within : (n : ℕ) (set : DemandSet) → IsSetWithin n set → IsSetWithin n (box_of set)
box_within n All within = tt
box_within n (Margin num den base) within =
    let numbers : has_margin_numbers (Margin num den base) ≡ true = within.0 in
    let few : num ≤ 1000 = grind (arith, nat_tests) in
    let less : den ≤ num = grind (arith, nat_tests) in
    let squares : den * den ≤ num * num = mul-le den den num num less less in
    record {
      lower_count = length-map base.demand (λ d. d * (den * den)) ∙ within.1.count;
      upper_count = length-map base.demand (λ d. d * (num * num)) ∙ within.1.count;
      each = λ p below.
          let demand : slice_index base.demand p ≤ 2 ^ 32 = All-get_or (λ d. d ≤ 2 ^ 32) base.demand p 0 (omega (arith, below, within.1.count)) within.1.small in
          let low = scaled_at (den * den) base.demand p in
          let high = scaled_at (num * num) base.demand p in
          let order = mul-le (slice_index base.demand p) (den * den) (slice_index base.demand p) (num * num) (omega arith) squares in
          let most = square_small (slice_index base.demand p) num demand few in
          (omega (arith, low, high, order), omega (arith, high, most));
    }
box_within n (Box lower upper) within = within

pub set_within : (n format : ℕ) (set : DemandSet) → IsSetWithin n set → IsSetWithin n (set_in format set)
set_within n format set within = go (format == 2)
  where
    go : (second : Bool) → IsSetWithin n (cond second (box_of set) set)
    go false = within
    go true = box_within n set within

no_box : (set : DemandSet) → is_box set ≡ false → HasFormOfFormat 1 set
no_box All is = tt
no_box (Margin num den base) is = refl
no_box (Box lower upper) is = cc

no_margin : (set : DemandSet) → HasFormOfFormat 2 (box_of set)
no_margin All = tt
no_margin (Margin num den base) = refl
no_margin (Box lower upper) = refl

pub format_for : (net : Network) (set : DemandSet) → is_well_formed net ≡ true → IsFormatFor net (made_set net set) (made_format net set)
format_for net set formed = go (fits_first_format net set) refl
  where
    go : (fits : Bool) → fits_first_format net set ≡ fits → IsFormatFor net (set_in (cond fits 1 2) set) (cond fits 1 2)
    go true is =
        let free : is_box set ≡ false = grind (arith, nat_tests) in
        record { known = inl refl; nodes = grind (arith, nat_tests); links = grind (arith, nat_tests); form = no_box set free }
    go false is = record { known = inr refl; nodes = few_nodes net formed; links = few_links net formed; form = no_margin set }

-- every matrix is a set of both formats
pub made_all : (net : Network) → made_set net All ≡ All
made_all net = go (fits_first_format net All)
  where
    go : (fits : Bool) → set_in (cond fits 1 2) All ≡ All
    go true = refl
    go false = refl
