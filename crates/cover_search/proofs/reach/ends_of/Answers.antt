use Rattle.std.proofs.Common.{◌≡◌, ◌∙◌, ℕ, List, length, replicate, ap, refl, rules}
use Rattle.std.proofs.lemmas.List.{length-replicate}
use Rattle.cover_search.specs.declared.transport.EndShare.{EndShare}
use Rattle.cover_search.proofs.Reaching.{ends_reaching}
use Rattle.cover_search.proofs.reach.ends_of.Goals as goal

pub returns : goal.returns
returns c = λ (shares : List EndShare).
    let t = c.args.transport.now in
    let sources : c.sources.inside.list.items ≡ c.in_ok-sources.sources = search rules in
    let forward : c.new.result ≡ replicate (length t.tails) 0 = search rules in
    let backward : c.new-2.result ≡ replicate (length t.tails) 0 = search rules in
    ends_reaching t
    (record { sources = c.sources.inside.list.items; destinations = c.in_ok-destinations.destinations; forward = c.new.result; backward = c.new-2.result; last = 1 })
    c.requires.nodes c.requires.unreceived refl
    (ap (λ (l : List ℕ). length l) sources ∙ rw c.as_slice.ensures at c.in_ok-sources.ensures.count)
    (rw c.as_slice-2.ensures at c.in_ok-destinations.ensures.count)
    (ap (λ (l : List ℕ). length l) forward ∙ length-replicate {A = ℕ} (length t.tails) 0)
    (ap (λ (l : List ℕ). length l) backward ∙ length-replicate {A = ℕ} (length t.tails) 0)
    (rw sources (rw c.as_slice.ensures at c.in_ok-sources.ensures.marks))
    (rw c.as_slice-2.ensures at c.in_ok-destinations.ensures.marks)
    shares
