-- The form of a made certificate: its format, and its set in this format.
use Rattle.std.specs.Prelude.{◌≡◌, ◌⊎◌, ℕ, ◌≤◌, Bool, true, false, not, ◌&&◌, ◌==◌, nat_le, if◌then◌else◌, ⊤}
use Rattle.te_model.specs.declared.network.Network.{Network}
use Rattle.te_model.specs.declared.demand.DemandSet.{DemandSet}
use Rattle.te_model.specs.declared.demand.DemandSet.TheVariants.{All, Margin, Box}
use Rattle.te_model.specs.declared.limits.TheConstants.{FORMAT_1}
use Rattle.te_model.specs.Formats.{limits_of}
use Rattle.te_model.specs.Network.{node_count, link_count}
use Rattle.te_model.specs.Upgrade.{box_of}

-- whether the set has a lower and an upper bound of its own for each pair
abbrev pub is_box : DemandSet → Bool
is_box All = false
is_box (Margin num den base) = false
is_box (Box lower upper) = true

-- a set of the matrices between bounds
abbrev pub HasBounds : DemandSet → Type 0
HasBounds All = ⊥
HasBounds (Margin num den base) = ⊤
HasBounds (Box lower upper) = ⊤

-- whether the first format has room for the network, and sets of this form
abbrev pub fits_first_format : Network → DemandSet → Bool
fits_first_format net set = nat_le (node_count net) FORMAT_1.nodes && nat_le (link_count net) FORMAT_1.links && not (is_box set)

-- the first format where it can be, and else the second
abbrev pub made_format : Network → DemandSet → ℕ
made_format net set = if fits_first_format net set then 1 else 2

-- the set in a format: the second has no margins, so that a margin stands as its box there
abbrev pub set_in : ℕ → DemandSet → DemandSet
set_in format set = if format == 2 then box_of set else set

-- the set as it stands in the certificate
abbrev pub made_set : Network → DemandSet → DemandSet
made_set net set = set_in (made_format net set) set

-- a format has no boxes or no margins
abbrev pub HasFormOfFormat : ℕ → DemandSet → Type 0
HasFormOfFormat format All = ⊤
HasFormOfFormat format (Margin num den base) = format ≡ 1
HasFormOfFormat format (Box lower upper) = format ≡ 2

-- one of the two formats, which has room for the network, and sets of this form
pub record IsFormatFor (net : Network) (set : DemandSet) (format : ℕ) : Type 0 where
  pub known : (format ≡ 1) ⊎ (format ≡ 2)
  pub nodes : node_count net ≤ (limits_of format).nodes
  pub links : link_count net ≤ (limits_of format).links
  pub form : HasFormOfFormat format set
