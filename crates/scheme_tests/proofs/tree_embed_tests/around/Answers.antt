use Rattle.std.proofs.Common.{[], ◌∷◌}
use Rattle.std.proofs.lemmas.List.Sorted.{IsPermutation-refl}
use Rattle.scheme_tests.proofs.tree_embed_tests.around.Goals as goal

pub embed-requires-clause-order : goal.embed-requires-clause-order
embed-requires-clause-order c = rw c.requires (IsPermutation-refl (0 ∷ 1 ∷ 2 ∷ []))
