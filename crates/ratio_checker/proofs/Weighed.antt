-- I3 by the two sums of its bounds.
use Rattle.std.proofs.Common.{◌≡◌, ◌≤◌, ℕ, ◌+◌, ◌*◌, ◌^◌, add-one, refl, arith, nat_le}
use Rattle.std.proofs.lemmas.Bool.{le-leb}
use Rattle.te_model.specs.declared.certificate.Block.{Block}
use Rattle.te_model.specs.declared.demand.DemandSet.{DemandSet}
use Rattle.te_model.specs.declared.demand.DemandSet.TheVariants.{All, Margin, Box}
use Rattle.te_model.specs.Certificate.{plus_of, minus_of}
use Rattle.te_model.specs.Demand.{lower_of, upper_of}
use Rattle.te_model.specs.Inequalities.{keeps_bounds, weigh}
use Rattle.te_model.proofs.Sizes.{bound_term}
use Rattle.te_model.proofs.Sums.{sum_below-zero}

-- a sum with the term of one pair more, and how great it is at most
pub weighed_more : (p sum bound number : ℕ) (f g : ℕ → ℕ) → sum ≡ weigh p f g → sum ≤ p * 2 ^ 88 → bound ≡ f p → number ≡ g p →
    f p ≤ 2 ^ 52 → g p ≤ 2 ^ 36 → (sum + bound * number ≡ weigh (p + 1) f g) × (sum + bound * number ≤ (p + 1) * 2 ^ 88)
weighed_more p sum bound number f g is small is_bound is_number low few =
    rw (is_bound, is_number) (rw (add-one, is) refl, omega (arith, bound_term (f p) (g p) low few))

pub keeps_by_sums : (set : DemandSet) (n : ℕ) (b : Block) (gain loss : ℕ) → gain ≡ weigh n (upper_of set) (plus_of b) →
    loss ≡ weigh n (lower_of set) (minus_of b) → nat_le gain loss ≡ keeps_bounds set n b
keeps_by_sums All n b gain loss is_gain is_loss =
    let nothing : weigh n (upper_of All) (plus_of b) ≡ 0 = sum_below-zero n (λ p. 0 * plus_of b p) (λ p below. omega arith) in
    le-leb gain loss (omega (arith, is_gain, nothing))
keeps_by_sums (Margin num den base) n b gain loss is_gain is_loss = rw (is_gain, is_loss) refl
keeps_by_sums (Box lower upper) n b gain loss is_gain is_loss = rw (is_gain, is_loss) refl
