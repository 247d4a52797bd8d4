use Rattle.std.proofs.Common.{◌∙◌, ◌-◌, [], length, sym, ap, refl}
use Rattle.te_model.specs.Counting.{or_else}
use Rattle.te_model.specs.Network.{link_count}
use Rattle.ratio_checker.specs.Finding.{finding_of}
use Rattle.link_bounds.specs.Feeds.{infeasibility_from}
use Rattle.link_bounds.proofs.FedBlocks.{no_block_more}
use Rattle.link_bounds.proofs.FirstInfeasible.{from_first_whole}
use Rattle.link_bounds.proofs.bounds.BoundsFeed.finding.Goals as goal

pub returns : goal.returns
returns c = λ head blocks stands.
    let feed = c.args.self.now in
    let links = link_count head.network in
    let first = infeasibility_from head blocks 0 feed.next in
    c.found_below.ensures first stands.found
    ∙ ap (λ list. finding_of (or_else first (infeasibility_from feed.head [] feed.next (length list - feed.next)))) c.as_slice.ensures
    ∙ ap (λ h. finding_of (or_else first (infeasibility_from h [] feed.next (link_count h.network - feed.next)))) stands.same
    ∙ ap finding_of (sym (no_block_more head blocks feed.next links stands.before stands.within)
    ∙ from_first_whole (record { head = head; blocks = blocks }) links refl)
