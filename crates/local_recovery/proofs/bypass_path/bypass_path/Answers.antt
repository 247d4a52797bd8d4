use Rattle.std.proofs.Common.{◌≡◌, ◌<◌, ℕ, Some, List, [], ◌∷◌, ap, sym, subst, ◌∙◌}
use Rattle.std.specs.Prelude.{MatchBool, slice_index_or}
use Rattle.std.proofs.lemmas.Result.{IfOk-weaker}
use Rattle.te_model.specs.Network.{head_of, node_count, no_link, tail_of}
use Rattle.shortest_path.specs.Costs.{costs_of}
use Rattle.shortest_path.specs.Least.{IsLeastWalk, links_of}
use Rattle.shortest_path.proofs.Sound.{sound}
use Rattle.local_recovery.specs.Recovery.{IsBypassPath, open_links}
use Rattle.local_recovery.proofs.bypass_path.bypass_path.Goals as goal

pub least_walk-requires-clause-sound : goal.least_walk-requires-clause-sound
least_walk-requires-clause-sound c = sound c.args.net.now c.requires.network

pub least_walk-requires-clause-src : goal.least_walk-requires-clause-src
least_walk-requires-clause-src c =
    subst (λ ls. (slice_index_or ls c.args.link no_link).tail < node_count c.args.net.now) (sym c.as_slice.ensures)
    ((sound c.args.net.now c.requires.network).tails c.args.link c.requires.link)

pub least_walk-requires-clause-dst : goal.least_walk-requires-clause-dst
least_walk-requires-clause-dst c =
    subst (λ ls. (slice_index_or ls c.args.link no_link).head < node_count c.args.net.now) (sym c.as_slice.ensures)
    ((sound c.args.net.now c.requires.network).heads c.args.link c.requires.link)

pub returns-then-has_failed : goal.returns-then-has_failed
returns-then-has_failed c =
    let net = c.args.net.now in
    let failed = c.args.failed.now in
    let costs = c.args.costs.now in
    let h = c.args.link in
    let link = slice_index_or c.as_slice.result.now h no_link in
    IfOk-weaker c.least_walk.result (λ p. IsLeastWalk net costs c.args.open.now link.tail link.head (links_of p)) (λ p. IsBypassPath net failed h (links_of p))
    (λ p walk.
    subst (λ b. MatchBool b (IsLeastWalk net (costs_of net) (open_links failed) (tail_of net h) (head_of net h) (links_of p)) (links_of p ≡ Some (h ∷ []))) c.if-has_failed.ensures
    (subst (λ cs. IsLeastWalk net cs (open_links failed) (tail_of net h) (head_of net h) (links_of p)) c.requires.costs.are
    (subst (λ os. IsLeastWalk net costs os (tail_of net h) (head_of net h) (links_of p)) c.requires.open_marks
    (subst (λ ls. IsLeastWalk net costs c.args.open.now (slice_index_or ls h no_link).tail (slice_index_or ls h no_link).head (links_of p)) c.as_slice.ensures walk))))
    c.least_walk.ensures

pub returns-in_ok-links : goal.returns-in_ok-links
returns-in_ok-links c =
    let net = c.args.net.now in
    let h = c.args.link in
    subst (λ b. MatchBool b (IsLeastWalk net (costs_of net) (open_links c.args.failed.now) (tail_of net h) (head_of net h) (Some c.new.result)) (Some c.new.result ≡ Some (h ∷ [])))
    c.if-has_failed.ensures (ap (λ (links : List ℕ). Some links) (c.new.ensures ∙ c.in_ok-links.ensures.items))
