-- Links of a way, and one way more.
use Rattle.std.proofs.Common.{◌≡◌, ℕ, List, [], ◌∷◌, ◌++◌, ◌∙◌}
use Rattle.std.proofs.lemmas.List.{append_assoc}

-- the next of the links that are left
pub link_more : (links rest whole : List ℕ) (h : ℕ) → links ++ h ∷ rest ≡ whole → links ++ h ∷ [] ++ rest ≡ whole
link_more links rest whole h is = append_assoc links (h ∷ []) rest ∙ is
