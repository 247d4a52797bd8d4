use Rattle.std.proofs.Common.{◌∙◌, ◌-◌, sym, ap, refl, length}
use Rattle.te_model.specs.Network.{link_count}
use Rattle.ratio_checker.specs.Feeds.{failure_below, failure_without}
use Rattle.ratio_checker.specs.Finding.{finding_of}
use Rattle.ratio_checker.proofs.FedBlocks.{absent_to, found_first}
use Rattle.ratio_checker.proofs.feed.Feed.first_finding.Goals as goal

pub returns-in-Yes : goal.returns-in-Yes
returns-in-Yes c = λ head blocks stands.
    let feed = c.args.self.now in
    let links = link_count head.network in
    let judged = c.judge_absent.ensures
    ∙ ap (λ list. finding_of (failure_without feed.head.routes feed.next (length list - feed.next))) c.as_slice.ensures
    ∙ ap (λ h. finding_of (failure_without h.routes feed.next (link_count h.network - feed.next))) stands.same
    in
    found_first (failure_below feed.next head blocks) (failure_without head.routes feed.next (links - feed.next)) feed.found c.judge_absent.result
    stands.found (λ yes. judged) (λ other. absurd (other c.in-Yes.is))
    ∙ ap finding_of (sym (absent_to head blocks feed.next links stands.before stands.within))

pub returns-in_default : goal.returns-in_default
returns-in_default c = λ head blocks stands.
    let feed = c.args.self.now in
    let links = link_count head.network in
    found_first (failure_below feed.next head blocks) (failure_without head.routes feed.next (links - feed.next)) feed.found feed.found
    stands.found (λ yes. absurd (c.in_default.not-Yes yes)) (λ other. refl)
    ∙ ap finding_of (sym (absent_to head blocks feed.next links stands.before stands.within))
