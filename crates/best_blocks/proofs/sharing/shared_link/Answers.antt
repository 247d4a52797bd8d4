use Rattle.std.proofs.Common.{◌<◌, ℕ, List, length, slice_index, ap, sym, subst, ◌∙◌}
use Rattle.te_model.specs.Path.{source_of}
use Rattle.best_blocks.specs.Marks.{AreSourceMarks}
use Rattle.best_blocks.proofs.SharedLinks.{shared_is}
use Rattle.best_blocks.proofs.sharing.shared_link.Goals as goal

pub sources_of-requires-clause-shares : goal.sources_of-requires-clause-shares
sources_of-requires-clause-shares c = ap (λ (xs : List ℕ). length xs) c.deref.ensures.value ∙ c.in_ok-shares.ensures.count

pub sources_of-requires-clause-pairs : goal.sources_of-requires-clause-pairs
sources_of-requires-clause-pairs c = λ p below.
    subst (λ n. source_of c.args.routing.now.routes p < n) (sym (ap (λ (names : List (List ℕ)). length names) c.as_slice-nodes.ensures)) (c.requires.nodes p below).0

pub returns-clause-shared : goal.returns-clause-shared
returns-clause-shared c =
    let net = c.args.net.now in
    let routes = c.args.routing.now.routes in
    let set = c.args.set.now in
    let marks = c.in_ok-marks.marks.items in
    let shares = c.in_ok-shares.shares.items in
    let are = subst (λ (xs : List ℕ). AreSourceMarks (length c.as_slice-nodes.result.now) (length routes) routes set (slice_index xs) marks) c.deref.ensures.value c.in_ok-marks.ensures in
    shared_is net routes set c.args.link c.args.list.now c.new.result shares c.new-2.result marks c.new-3.result (c.new.ensures ∙ c.in_ok-copied.ensures.items)
    c.new-2.ensures c.new-3.ensures c.requires.link c.requires.list c.requires.some c.in_ok-shares.ensures
    (subst (λ n. AreSourceMarks n (length routes) routes set (slice_index shares) marks) (ap (λ (names : List (List ℕ)). length names) c.as_slice-nodes.ensures) are)
