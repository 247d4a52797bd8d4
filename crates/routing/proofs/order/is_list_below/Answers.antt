use Rattle.std.proofs.Common.{arith, refl}
use Rattle.std.proofs.lemmas.Bool.Decides.{nat_tests}
use Rattle.std.proofs.lemmas.Cmp.{same_from_slice_cmp_tested}
use Rattle.std.specs.Ordering.{is_lt, nat_cmp}
use Rattle.te_model.specs.Validity.{list_below}
use Rattle.routing.proofs.order.is_list_below.Goals as goal

pub returns : goal.returns
returns c =
    same_from_slice_cmp_tested nat_cmp is_lt list_below refl (λ _ _. refl) (λ _ _. refl) (λ x y xs ys o h. grind (arith, nat_tests))
    c.args.a.now c.args.b.now c.lt.result c.lt.ensures
