-- Laws of repriced certificates, as statements.
use Rattle.std.specs.Prelude.{◌≡◌, ◌≤◌, IsTrue}
use Rattle.te_model.specs.declared.certificate.Certificate.{Certificate}
use Rattle.te_model.specs.declared.network.Network.{Network}
use Rattle.te_model.specs.Feasible.{AreFeasible, first_infeasibility}
use Rattle.te_model.specs.Inequalities.{Holds, first_failure}
use Rattle.te_model.specs.Network.{is_well_formed}
use Rattle.link_bounds.specs.SameLinks.{AreSameLinks}
use Rattle.te_model.specs.Validity.{IsValid}
use Rattle.link_bounds.specs.Repriced.{greatest_need, has_ratio_on, repriced}

-- another network of the certificate's links, on which the blocks need a ratio that a file can spell
pub record CanReprice (c : Certificate) (net : Network) : Type 0 where
  pub formed : IsTrue (is_well_formed net)
  pub same : AreSameLinks c.head.network net
  pub small : IsTrue (has_ratio_on c net)

-- A valid certificate stays valid, and the first of its inequalities that fails is the first of I1 to I3: the ratio pays.
abbrev pub RepricingKeepsValidity : Type 0
RepricingKeepsValidity = (c : Certificate) (net : Network) → IsValid c → CanReprice c net → IsValid (repriced c net)

abbrev pub RepricingKeepsFailures : Type 0
RepricingKeepsFailures =
    (c : Certificate) (net : Network) → IsValid c → CanReprice c net → first_failure (repriced c net) ≡ first_infeasibility c

-- So where the blocks are feasible all of its inequalities hold.
abbrev pub RepricedHolds : Type 0
RepricedHolds = (c : Certificate) (net : Network) → IsValid c → CanReprice c net → AreFeasible c → Holds (repriced c net)

-- On its own network a certificate whose inequalities hold has no greater ratio.
abbrev pub RepricingLowersRatio : Type 0
RepricingLowersRatio = (c : Certificate) → IsValid c → Holds c → greatest_need c.head.network c.blocks ≤ c.head.ratio

-- Of two repricings the last one counts.
abbrev pub LastRepricingCounts : Type 0
LastRepricingCounts = (c : Certificate) (net other : Network) → repriced (repriced c net) other ≡ repriced c other
