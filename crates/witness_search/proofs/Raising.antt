-- A witness that is raised by matrices that are found.
use Rattle.std.proofs.Common.{◌≡◌, inl, inr, ℕ, ◌-◌, ◌^◌, ◌<◌, true, List, length, None, arith, refl, ap, sym, subst}
use Rattle.std.specs.Prelude.{min}
use Rattle.std.proofs.lemmas.Bool.{le-leb}
use Rattle.te_model.specs.declared.certificate.Head.{Head}
use Rattle.te_model.specs.declared.demand.DemandSet.{DemandSet}
use Rattle.te_model.specs.declared.demand.DemandSet.TheVariants.{All as AllMatrices, Margin, Box}
use Rattle.te_model.specs.declared.demand.Matrix.{Matrix}
use Rattle.te_model.specs.declared.route.PairRoutes.{PairRoutes}
use Rattle.ratio_witness.specs.declared.witness.Witness.{Witness}
use Rattle.ratio_witness.specs.Text.{IsWitnessOf}
use Rattle.ratio_witness.specs.Verdict.{is_in_set, ratio_shown, verdict_fault}
use Rattle.ratio_witness.proofs.Verdicts.{no_faults}
use Rattle.worst_matrices.specs.declared.members.ScaledMatrix.{ScaledMatrix}
use Rattle.worst_matrices.specs.Members.{IsOfSet, IsScaledMember}
use Rattle.witness_search.specs.declared.attempt.Attempt.{Attempt}
use Rattle.witness_search.specs.Attempts.{CanTry}
use Rattle.witness_search.specs.Candidates.{witness_by}
use Rattle.witness_search.specs.Challenge.{found_tried, IsAttemptOf, IsGreaterOf, IsRaised}
use Rattle.witness_search.proofs.ChosenWitness.{attempt_witness}

-- a matrix that is found can be tried
pub can_try_found : (h : Head) (m : ScaledMatrix) → IsScaledMember h.set (length h.routes) m → CanTry h (found_tried m)
can_try_found h m is = record { demands = is.demands; x = is.scale.numerator; y = is.scale.denominator }

-- and is of the set
in_set : (set' : DemandSet) (m : ScaledMatrix) (w : Witness) (p : ℕ) → IsOfSet set' m.x m.y m.demand.demand → w.demand ≡ m.demand → w.x ≡ m.x → w.y ≡ m.y →
    p < length m.demand.demand → is_in_set set' w p ≡ true
in_set AllMatrices m w p is demand x y below = refl
in_set (Margin num den base) m w p is demand x y below = rw (demand, x, y) (is p below)
in_set (Box lower upper) m w p is demand x y below = rw (demand, x, y) (is p below)

-- the witness of an attempt of it is no less than another, where its ratio is greater than the bound of one that is no less
taken : (h : Head) (Routes : List ℕ → List PairRoutes → Type 0) (own w : Witness) (m : ScaledMatrix) (a : Attempt) → IsScaledMember h.set (length h.routes) m →
    IsRaised h Routes own w → IsAttemptOf h Routes m a → w.bound < min a.ratio (10 ^ 19 - 1) → IsRaised h Routes own (witness_by a)
taken h Routes own w m a member was is less =
    let new = witness_by a in
    let shown = is.ratio in
    record {
      of_head = attempt_witness h Routes (found_tried m) a is;
      yes = no_faults h new
          (λ p below. in_set h.set m new p member.of_set is.demand is.scale.0 is.scale.1 (omega (arith, below, member.demands.count)))
          (le-leb (min a.ratio (10 ^ 19 - 1)) (ratio_shown h a.witness) (omega (arith, shown)));
      no_less = omega (arith, was.no_less, less);
      which = inr (record {
        routes = is.routes;
        routed = subst (λ (d : Matrix). Routes d.demand is.routes) (sym is.demand) is.routed;
        rival = is.rival;
        bound = ap (λ (r : ℕ). min r (10 ^ 19 - 1)) is.ratio;
      });
    }

pub raised_by : (h : Head) (Routes : List ℕ → List PairRoutes → Type 0) (own w greater : Witness) (m : ScaledMatrix) (a : Attempt) →
    IsScaledMember h.set (length h.routes) m → IsRaised h Routes own w → IsAttemptOf h Routes m a → IsGreaterOf w a greater → IsRaised h Routes own greater
raised_by h Routes own w greater m a member was is (inl (less, same)) = subst (IsRaised h Routes own) (sym same) (taken h Routes own w m a member was is less)
raised_by h Routes own w greater m a member was is (inr (no_less, same)) = subst (IsRaised h Routes own) (sym same) was

-- a witness is no less than itself
pub raised_self : (h : Head) (Routes : List ℕ → List PairRoutes → Type 0) (own : Witness) → IsWitnessOf h own → verdict_fault h own ≡ None → IsRaised h Routes own own
raised_self h Routes own of_head none = record { of_head = of_head; yes = none; no_less = omega arith; which = inl refl }
