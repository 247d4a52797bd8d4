use Rattle.std.proofs.Common.{[], ◌∷◌, refl, lit<}
use Rattle.scheme_tests.proofs.tree_embed_tests.aside.Goals as goal

pub embed-requires-clause-order : goal.embed-requires-clause-order
embed-requires-clause-order c = rw c.requires (record { moves = (0, 1) ∷ []; below = (lit< tt, lit< tt, tt); is = refl })
