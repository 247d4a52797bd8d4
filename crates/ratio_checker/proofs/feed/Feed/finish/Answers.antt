use Rattle.std.proofs.Common.{◌≡◌, subst, sym}
use Rattle.te_model.specs.Ratio.{IsObliviousRatio}
use Rattle.ratio_checker.specs.declared.finding.Finding.TheVariants.{Yes}
use Rattle.ratio_checker.proofs.Verdicts.{yes_is_holds, yes_is_ratio, no_is_first}
use Rattle.ratio_checker.proofs.feed.Feed.finish.Goals as goal

pub returns-clause-yes : goal.returns-clause-yes
returns-clause-yes c = λ head blocks stands.
    yes_is_holds (record { head = head; blocks = blocks }) c.first_finding.result (c.first_finding.ensures head blocks stands)

pub returns-clause-no : goal.returns-clause-no
returns-clause-no c = λ head blocks stands.
    no_is_first (record { head = head; blocks = blocks }) c.first_finding.result (c.first_finding.ensures head blocks stands)

pub returns-clause-ratio : goal.returns-clause-ratio
returns-clause-ratio c =
    let head = c.requires.0 in
    let blocks = c.requires.1 in
    let stands = c.requires.2 in
    subst (λ h. c.first_finding.result ≡ Yes → IsObliviousRatio h.network h.routes h.set h.ratio) (sym stands.same)
    (yes_is_ratio (record { head = head; blocks = blocks }) c.first_finding.result stands.valid (c.first_finding.ensures head blocks stands))
