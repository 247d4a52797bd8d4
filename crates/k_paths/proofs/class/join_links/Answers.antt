use Rattle.std.proofs.Common.{◌++◌, ◌∷◌, [], ℕ, List, append_assoc, ap, ◌∙◌}
use Rattle.k_paths.proofs.class.join_links.Goals as goal

pub returns : goal.returns
returns c =
    let first = c.args.first in
    let way = c.args.way.now in
    c.in_ok-extend_from_slice.ensures.items
    ∙ (ap (λ (l : List ℕ). l ++ way) (c.in_ok-push.ensures.items ∙ ap (λ (l : List ℕ). l ++ first ∷ []) c.in_ok-links.ensures.items)
    ∙ append_assoc c.args.prefix.now (first ∷ []) way)
