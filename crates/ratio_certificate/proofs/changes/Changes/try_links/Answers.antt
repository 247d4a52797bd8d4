use Rattle.std.proofs.Common.{◌≡◌, arith, sym, subst, inl, inr}
use Rattle.std.proofs.lemmas.Bool.{cases_lt}
use Rattle.ratio_certificate.specs.Changing.{IsSettledIn}
use Rattle.ratio_certificate.proofs.changes.Changes.try_links.Goals as goal

pub loop-h-preserved : goal.loop-h-preserved
loop-h-preserved c = λ h first below.
    let here = rw c.in-None.is at c.in_ok-weighting.ensures.none in
    elim (cases_lt h c.loop-h.h) [
      | inl lt ↦ c.loop-h.invariant h first lt
      | inr ge ↦
          let last : h ≡ c.loop-h.h = omega arith in
          subst (IsSettledIn c.args.self.now) (sym last) here
    ]

pub returns-clause-none : goal.returns-clause-none
returns-clause-none c = λ h first below. c.loop-h.invariant h first (omega arith)

pub returns-in-Some-clause-some : goal.returns-in-Some-clause-some
returns-in-Some-clause-some c = rw c.in-Some.is at c.in_ok-weighting.ensures.some
