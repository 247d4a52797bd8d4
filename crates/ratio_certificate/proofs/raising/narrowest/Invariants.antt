use Rattle.std.proofs.Common.{◌≡◌, ℕ, ◌≤◌, true, take}
use Rattle.std.specs.Prelude.{All}
use Rattle.te_model.specs.Network.{capacity_of}
use Rattle.te_model.specs.Path.{has_number}
use Rattle.ratio_certificate.proofs.raising.narrowest.Given as goal

abbrev pub invariant-loop-link : goal.invariant-loop-link
invariant-loop-link l =
    All (λ h. l.least ≤ capacity_of l.net h) (take l.link-index l.path)
    × ((h : ℕ) × (has_number l.path h ≡ true) × (capacity_of l.net h ≡ l.least))
