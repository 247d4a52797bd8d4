-- Walks whose loops are left out.
use Rattle.std.specs.Prelude.{◌≡◌, ℕ, ◌==◌, List, [], ◌∷◌, if◌then◌else◌}
use Rattle.std.specs.List.{list_any}
use Rattle.te_model.specs.declared.network.Network.{Network}
use Rattle.te_model.specs.Network.{head_of}

-- the node at which the walk from s ends
abbrev pub end_of : Network → ℕ → List ℕ → ℕ
end_of net s [] = s
end_of net s (h ∷ hs) = end_of net (head_of net h) hs

-- what follows the last visit of node s in a walk that begins there
abbrev pub after_last : Network → ℕ → List ℕ → List ℕ
after_last net s [] = []
after_last net s (h ∷ hs) = if list_any (λ k. head_of net k == s) (h ∷ hs) then after_last net s hs else h ∷ hs

-- the walk from s without its loops: from each node it goes on at that node's last visit
abbrev pub IsCut : Network → ℕ → List ℕ → List ℕ → Type 0
IsCut net s walk [] = after_last net s walk ≡ []
IsCut net s walk (h ∷ cut) = (rest : List ℕ) × (after_last net s walk ≡ h ∷ rest) × IsCut net (head_of net h) rest cut
