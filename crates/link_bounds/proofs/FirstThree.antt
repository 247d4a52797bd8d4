-- The first of I1 to I3 that fails of a block, told by the first of all four: I4 comes last.
use Rattle.std.proofs.Common.{◌≡◌, ◌∙◌, ℕ, zero, suc, ◌+◌, ◌*◌, Bool, true, false, Option, Some, None, length, ap, refl, sym}
use Rattle.te_model.specs.declared.certificate.Block.{Block}
use Rattle.te_model.specs.declared.certificate.Head.{Head}
use Rattle.te_model.specs.declared.inequality.InequalityFault.{InequalityFault}
use Rattle.te_model.specs.Counting.{first_below, or_else, unless}
use Rattle.te_model.specs.Inequalities.{block_failure, covers_share, failure_at, keeps_bounds, pays_weights, potentials_failure, rises_within_weight, row_failure, shares_failure, starts_at_zero}
use Rattle.te_model.specs.Network.{link_count, node_count}
use Rattle.te_model.specs.Feasible.{infeasibility}
use Rattle.te_model.proofs.FeasibleBlocks.{block_failure-parts}

-- what fails there has not this number
abbrev IsOther : ℕ → Option InequalityFault → Type 0
IsOther number found = (f : InequalityFault) → found ≡ Some f → f.number ≡ number → ⊥

other_first : (number : ℕ) (x y : Option InequalityFault) → IsOther number x → IsOther number y → IsOther number (or_else x y)
other_first number (Some f) y one two = one
other_first number None y one two = two

other_below : (number n : ℕ) (found : ℕ → Option InequalityFault) → ((k : ℕ) → IsOther number (found k)) → IsOther number (first_below n found)
other_below number zero found each = λ f is same. cc
other_below number (suc n) found each = other_first number (first_below n found) (found n) (other_below number n found each) (each n)

other_unless : (r k : ℕ) (holds : Bool) → (r ≡ 4 → ⊥) → IsOther 4 (unless holds (failure_at r k))
other_unless r k true other = λ f is same. cc
other_unless r k false other = λ f is same. other (number_of f is ∙ same)
  where
    number_of : (f : InequalityFault) → Some (failure_at r k) ≡ Some f → r ≡ f.number
    number_of f is = let one : failure_at r k ≡ f = cc in ap (λ (x : InequalityFault). x.number) one

-- none of the first three is the fourth
three_are_other : (head : Head) (b : Block) → IsOther 4 (infeasibility head b)
three_are_other head b =
    let net = head.network in
    other_first 4 (potentials_failure net b) _
    (other_below 4 (node_count net) (row_failure net b) (λ i.
    other_first 4 (unless (starts_at_zero b i) (failure_at 1 (i * (link_count net + 1)))) _
    (other_unless 1 (i * (link_count net + 1)) (starts_at_zero b i) (λ is. cc))
    (other_below 4 (link_count net) (λ h. unless (rises_within_weight net b i h) (failure_at 1 (i * (link_count net + 1) + 1 + h)))
    (λ h. other_unless 1 (i * (link_count net + 1) + 1 + h) (rises_within_weight net b i h) (λ is. cc)))))
    (other_first 4 (shares_failure head.routes b) _
    (other_below 4 (length head.routes) (λ p. unless (covers_share head.routes b p) (failure_at 2 p))
    (λ p. other_unless 2 p (covers_share head.routes b p) (λ is. cc)))
    (other_first 4 (unless (keeps_bounds head.set (length head.routes) b) (failure_at 3 0)) None
    (other_unless 3 0 (keeps_bounds head.set (length head.routes) b) (λ is. cc))
    (λ f is same. cc)))

-- where the fourth fails first none of the three does
none_before : (three : Option InequalityFault) (pays : Bool) (f : InequalityFault) → IsOther 4 three → or_else three (unless pays (failure_at 4 0)) ≡ Some f →
    f.number ≡ 4 → None ≡ three
none_before (Some x) pays f other is same = absurd (other f is same)
none_before None pays f other is same = refl

-- and where another fails first it is one of them
same_before : (three : Option InequalityFault) (pays : Bool) (f : InequalityFault) → or_else three (unless pays (failure_at 4 0)) ≡ Some f →
    (f.number ≡ 4 → ⊥) → Some f ≡ three
same_before (Some x) pays f is other = sym is
same_before None true f is other = cc
same_before None false f is other = absurd (other (sym (number_of is)))
  where
    number_of : Some (failure_at 4 0) ≡ Some f → 4 ≡ f.number
    number_of is = let one : failure_at 4 0 ≡ f = cc in ap (λ (x : InequalityFault). x.number) one

none_at_all : (three : Option InequalityFault) (pays : Bool) → or_else three (unless pays (failure_at 4 0)) ≡ None → None ≡ three
none_at_all (Some x) pays is = cc
none_at_all None pays is = refl

pub fourth_first : (head : Head) (b : Block) (f : InequalityFault) → block_failure head b ≡ Some f → f.number ≡ 4 → None ≡ infeasibility head b
fourth_first head b f is same =
    none_before (infeasibility head b) (pays_weights head.network b head.ratio) f (three_are_other head b) (sym (block_failure-parts head b) ∙ is) same

pub other_fails_first : (head : Head) (b : Block) (f : InequalityFault) → block_failure head b ≡ Some f → (f.number ≡ 4 → ⊥) → Some f ≡ infeasibility head b
other_fails_first head b f is other =
    same_before (infeasibility head b) (pays_weights head.network b head.ratio) f (sym (block_failure-parts head b) ∙ is) other

pub none_fails : (head : Head) (b : Block) → block_failure head b ≡ None → None ≡ infeasibility head b
none_fails head b is = none_at_all (infeasibility head b) (pays_weights head.network b head.ratio) (sym (block_failure-parts head b) ∙ is)
