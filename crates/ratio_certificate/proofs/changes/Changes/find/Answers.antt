use Rattle.std.proofs.Common.{List, length, ap, arith, inl, inr}
use Rattle.std.proofs.lemmas.Bool.{cases_lt}
use Rattle.te_model.specs.declared.network.Link.{Link}
use Rattle.ratio_certificate.proofs.Trying.{none_gives}
use Rattle.ratio_certificate.proofs.changes.Changes.find.Goals as goal

pub returns-in-None-clause-none : goal.returns-in-None-clause-none
returns-in-None-clause-none c =
    let later = rw c.in-None.is at c.in_ok-change.ensures.none in
    none_gives c.try_links-in-None.result _ _
    (λ earlier h below. elim (cases_lt h c.args.from) [
      | inl lt ↦ earlier h (omega arith) lt
      | inr ge ↦ later h ge (omega (arith, below, ap (λ (ls : List Link). length ls) c.as_slice-links.ensures))
    ])
    c.try_links-in-None.ensures.none

pub try_links-requires-clause-last : goal.try_links-requires-clause-last
try_links-requires-clause-last c = omega (arith, ap (λ (ls : List Link). length ls) c.as_slice-links.ensures)

pub returns-in-None-clause-link : goal.returns-in-None-clause-link
returns-in-None-clause-link c = c.try_links-in-None.ensures.link

pub returns-in-None-clause-some : goal.returns-in-None-clause-some
returns-in-None-clause-some c = c.try_links-in-None.ensures.some
