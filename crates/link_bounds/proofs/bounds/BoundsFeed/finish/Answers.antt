use Rattle.std.proofs.Common.{◌∙◌, subst, sym}
use Rattle.te_model.specs.declared.certificate.Certificate.{Certificate}
use Rattle.te_model.specs.Feasible.{first_infeasibility}
use Rattle.te_model.specs.Laws.{LinksJoinNodes}
use Rattle.te_model.proofs.ValidParts.{valid_parts}
use Rattle.ratio_checker.proofs.FormedHeads.{head_links}
use Rattle.ratio_checker.proofs.Verdicts.{none_from_yes}
use Rattle.link_bounds.specs.Feeds.{HasNeeds}
use Rattle.link_bounds.proofs.bounds.BoundsFeed.finish.Goals as goal

pub table_text-requires-clause-ends : goal.table_text-requires-clause-ends
table_text-requires-clause-ends c =
    let stands = c.requires.2 in
    let parts = (valid_parts (record { head = c.requires.0; blocks = c.requires.1 })).0 stands.valid in
    subst (λ h. LinksJoinNodes h.network) (sym stands.same) (head_links c.requires.0 parts.head)

pub returns-in_ok-text-in-Yes : goal.returns-in_ok-text-in-Yes
returns-in_ok-text-in-Yes c = λ head blocks stands.
    let cert : Certificate = record { head = head; blocks = blocks } in (
      none_from_yes (first_infeasibility cert) (sym (c.finding.ensures head blocks stands) ∙ c.in-Yes.is),
      c.in_ok-text-in-Yes.ensures cert (sym stands.same) (subst (HasNeeds cert) (sym c.as_slice.ensures.value) stands.needs),
    )
