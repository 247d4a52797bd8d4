use Rattle.std.proofs.Common.{◌≡◌, ◌*◌, ◌<◌, ℕ, zero, suc, List, max, slice_index, arith, refl, ap, ◌∙◌}
use Rattle.te_model.specs.declared.units.TheConstants.{RATIO_UNIT, SHARE_UNIT}
use Rattle.te_model.specs.Network.{link_count, capacity_of}
use Rattle.te_model.specs.Division.{quotient_up}
use Rattle.te_model.specs.Counting.{greatest_below}
use Rattle.routing.specs.Utilisation.{parts_on}
use Rattle.routing.proofs.routes.Routing.greatest_utilisation.Goals as goal

greatest_same : (n : ℕ) (f g : ℕ → ℕ) → ((k : ℕ) → k < n → f k ≡ g k) → greatest_below n f ≡ greatest_below n g
greatest_same zero f g same = refl
greatest_same (suc n) f g same =
    ap (λ x. max x (f n)) (greatest_same n f g (λ k below. same k (omega arith))) ∙ ap (λ x. max (greatest_below n g) x) (same n (omega arith))

pub returns : goal.returns
returns c =
    let net = c.args.net.now in
    c.greatest_under.ensures
    ∙ greatest_same (link_count net) (λ e. quotient_up (slice_index c.deref.result.now e * RATIO_UNIT) (SHARE_UNIT * capacity_of net e))
    (parts_on net c.args.self.now.routes c.args.matrix.now.demand)
    (λ e below. ap (λ x. quotient_up (x * RATIO_UNIT) (SHARE_UNIT * capacity_of net e))
    (ap (λ (l : List ℕ). slice_index l e) c.deref.ensures.value ∙ c.in_ok-loads.ensures.loads.each e below))
