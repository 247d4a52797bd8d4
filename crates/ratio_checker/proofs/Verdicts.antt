-- The first link at which an inequality fails.
use Rattle.std.proofs.Common.{◌≡◌, ℕ, ◌<◌, Option, Some, None, ap, refl, sym, ◌∙◌}
use Rattle.std.specs.Prelude.{◌↔◌}
use Rattle.te_model.specs.declared.certificate.Certificate.{Certificate}
use Rattle.te_model.specs.declared.inequality.InequalityFault.{InequalityFault}
use Rattle.te_model.specs.Counting.{first_below}
use Rattle.te_model.specs.Network.{link_count}
use Rattle.te_model.specs.Certificate.{block_of}
use Rattle.te_model.specs.Inequalities.{LinkFailure, of_link, block_failure, first_failure, Holds}
use Rattle.te_model.specs.First.{IsFirstFailure}
use Rattle.te_model.proofs.Least.{first_is_least}
use Rattle.te_model.specs.Ratio.{IsObliviousRatio}
use Rattle.te_model.specs.Validity.{IsValid}
use Rattle.te_model.proofs.Failures.{holds_from_none, none_from_holds}
use Rattle.te_model.proofs.Oblivious.{holds_is_oblivious}
use Rattle.ratio_checker.specs.Finding.{finding_of}
use Rattle.ratio_checker.specs.declared.finding.Finding.{Finding}
use Rattle.ratio_checker.specs.declared.finding.Finding.TheVariants.{Yes, No}
use Rattle.te_model.proofs.Searches.{first_below_found}

pub first_failure_found : (c : Certificate) (e : ℕ) (f : InequalityFault) → e < link_count c.head.network →
    first_below e (λ k. of_link k (block_failure c.head (block_of c.blocks k))) ≡ None →
    block_failure c.head (block_of c.blocks e) ≡ Some f →
    first_failure c ≡ Some (record { link = e; rule = f.number; place = f.place })
first_failure_found c e f below before fails =
    first_below_found (link_count c.head.network) e (λ k. of_link k (block_failure c.head (block_of c.blocks k))) _ below before
    (ap (of_link e) fails)

yes_from_none : (o : Option LinkFailure) → o ≡ None → finding_of o ≡ Yes
yes_from_none o e = ap finding_of e

pub none_from_yes : (o : Option LinkFailure) → finding_of o ≡ Yes → o ≡ None
none_from_yes None e = refl
none_from_yes (Some f) e = cc

pub yes_is_holds : (c : Certificate) (r : Finding) → r ≡ finding_of (first_failure c) → (r ≡ Yes) ↔ Holds c
yes_is_holds c r is = (
  λ said. holds_from_none c (none_from_yes (first_failure c) (sym is ∙ said)),
  λ holds. is ∙ yes_from_none (first_failure c) (none_from_holds c holds),
)

pub yes_is_ratio : (c : Certificate) (r : Finding) → IsValid c → r ≡ finding_of (first_failure c) → r ≡ Yes →
    IsObliviousRatio c.head.network c.head.routes c.head.set c.head.ratio
yes_is_ratio c r valid is said = holds_is_oblivious c valid ((yes_is_holds c r is).0 said)

pub failure_from_no : (o : Option LinkFailure) (link rule place : ℕ) → finding_of o ≡ No link rule place →
    o ≡ Some (record { link = link; rule = rule; place = place })
failure_from_no None link rule place e = cc
failure_from_no (Some f) link rule place e =
    let l : f.link ≡ link = cc in
    let r : f.rule ≡ rule = cc in
    let p : f.place ≡ place = cc in
    λ i. Some (record { link = l i; rule = r i; place = p i })

pub no_is_first : (c : Certificate) (r : Finding) → r ≡ finding_of (first_failure c) → (link rule place : ℕ) → r ≡ No link rule place →
    IsFirstFailure c (record { link = link; rule = rule; place = place })
no_is_first c r is link rule place said =
    first_is_least c (record { link = link; rule = rule; place = place })
    (failure_from_no (first_failure c) link rule place (sym is ∙ said))
