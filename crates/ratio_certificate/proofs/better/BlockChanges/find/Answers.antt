use Rattle.std.proofs.Common.{◌≡◌, List, length, ap, arith, sym, subst, inl, inr}
use Rattle.std.proofs.lemmas.Bool.{cases_lt}
use Rattle.te_model.specs.declared.network.Link.{Link}
use Rattle.ratio_certificate.specs.BlockChanges.{IsSettledOn}
use Rattle.ratio_certificate.proofs.better.BlockChanges.find.Goals as goal

pub loop-h-preserved : goal.loop-h-preserved
loop-h-preserved c = λ h below.
    let here = rw c.in-None.is at c.in_ok-other.ensures.none in
    elim (cases_lt h c.loop-h.h) [
      | inl lt ↦ c.loop-h.invariant h lt
      | inr ge ↦
          let last : h ≡ c.loop-h.h = omega arith in
          subst (IsSettledOn c.args.self.now) (sym last) here
    ]

pub returns-clause-none : goal.returns-clause-none
returns-clause-none c = λ h below.
    let count = ap (λ (ls : List Link). length ls) c.as_slice-h-end.ensures in
    c.loop-h.invariant h (omega (arith, below, count, c.loop-h-test.false))
