use Rattle.std.proofs.Common.{◌≡◌, ◌*◌, max, ap, sym, refl, ◌∙◌}
use Rattle.te_model.proofs.Quotients.{is_quotient_up}
use Rattle.worst_matrices.specs.Means.{in_128_bits}
use Rattle.worst_matrices.proofs.NearestDemands.{product_fits, is_scaled_mean}
use Rattle.worst_matrices.proofs.members.demand_between.Goals as goal

pub returns-clause-nearest : goal.returns-clause-nearest
returns-clause-nearest c =
    let x = c.args.scale.x in
    let y = c.args.scale.y in
    let x_is = c.from-x.ensures in
    let y_is = c.from-y.ensures in
    let some = c.requires.scale.denominator.0 in
    let few = c.requires.scale.numerator in
    let scaled_is : c.saturating_mul-2.result ≡ in_128_bits (c.args.sum * x) = c.saturating_mul-2.ensures ∙ ap (λ k. in_128_bits (c.args.sum * k)) x_is in
    let over_is : c.max-over.result ≡ max (in_128_bits (c.args.weight * y)) 1 =
    c.max-over.ensures ∙ ap (λ k. max k 1) (c.saturating_mul.ensures ∙ ap (λ k. in_128_bits (c.args.weight * k)) y_is) in
    let mean = is_scaled_mean c.saturating_add.result c.max-over.result c.saturating_mul-2.result c.args.sum c.args.weight x y c.saturating_add.ensures scaled_is over_is in
    let low_is : c.saturating_mul-3.result ≡ x * c.args.lower =
    c.saturating_mul-3.ensures ∙ (rw x_is (rw c.from.ensures (product_fits x c.args.lower few c.requires.lower))) in
    let high_is : c.saturating_mul-4.result ≡ x * c.args.upper =
    c.saturating_mul-4.ensures ∙ (rw x_is (rw c.from-2.ensures (product_fits x c.args.upper few c.requires.upper))) in
    let least = is_quotient_up (x * c.args.lower) y c.ceil_div-least.result some
    (rw (sym low_is) (rw (sym y_is) c.ceil_div-least.ensures.enough))
    (λ k enough. c.ceil_div-least.ensures.least k (rw low_is (rw y_is enough))) in
    c.min-2.ensures ∙ (rw c.from-3.ensures (rw c.min.ensures (rw c.max.ensures (rw mean (rw least (rw high_is (rw y_is refl)))))))
