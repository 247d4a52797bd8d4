-- What the allocations of a pair guard, as the code finds it.
use Rattle.std.proofs.Common.{ℕ, ◌<◌, ◌≤◌, List, arith}
use Rattle.std.proofs.lemmas.List.Elements.{All-weaker}
use Rattle.te_model.specs.declared.route.PathShare.{PathShare}
use Rattle.routing.specs.Shares.{AreLinksOnce}
use Rattle.fault_rates.specs.Tables.{AreSimplePaths}

-- paths over the links of a network are paths over as many or more
pub simple_within : (few many : ℕ) (paths : List PathShare) → few ≤ many → AreSimplePaths few paths → AreSimplePaths many paths
simple_within few many paths le simple =
    All-weaker (λ s. AreLinksOnce few s.links) (λ s. AreLinksOnce many s.links)
    (λ s once. (once.0, All-weaker (λ h. h < few) (λ h. h < many) (λ h inside. omega (arith, inside, le)) s.links once.1)) paths simple
