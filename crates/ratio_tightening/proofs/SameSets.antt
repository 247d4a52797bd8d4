-- A certificate that is made of the network and the set of a valid one has that set, and limits that are no wider.
use Rattle.std.proofs.Common.{◌≡◌, ℕ, ◌≤◌, Bool, true, false, cond, length, arith, refl, ◌==◌}
use Rattle.std.proofs.lemmas.Bool.{false≢true, le-leb}
use Rattle.std.proofs.lemmas.Bool.Decides.{nat_tests}
use Rattle.te_model.specs.declared.certificate.Certificate.{Certificate}
use Rattle.te_model.specs.declared.demand.DemandSet.{DemandSet}
use Rattle.te_model.specs.declared.demand.DemandSet.TheVariants.{All, Margin, Box}
use Rattle.te_model.specs.declared.limits.Limits.{Limits}
use Rattle.te_model.specs.declared.limits.TheConstants.{FORMAT_1, FORMAT_2}
use Rattle.te_model.specs.declared.network.Network.{Network}
use Rattle.te_model.specs.Formats.{limits_of}
use Rattle.te_model.specs.Network.{link_count, node_count}
use Rattle.te_model.specs.Shape.{is_shaped_set}
use Rattle.te_model.specs.Validity.{IsValid}
use Rattle.ratio_certificate.specs.Form.{fits_first_format, made_format, made_set, set_in}
use Rattle.ratio_tightening.proofs.ValidRoutings.{certificate_shape, counts_of, HasCounts}

-- what the limits of the first format hold has it
fits : (net : Network) (set : DemandSet) (pairs : ℕ) → HasCounts FORMAT_1 (node_count net) (link_count net) → is_shaped_set FORMAT_1 pairs set ≡ true →
    fits_first_format net set ≡ true
fits net (All) pairs counts shaped =
    let nodes = le-leb (node_count net) FORMAT_1.nodes counts.few_nodes in
    let links = le-leb (link_count net) FORMAT_1.links counts.few_links in
    grind (arith, nat_tests)
fits net (Margin num den base) pairs counts shaped =
    let nodes = le-leb (node_count net) FORMAT_1.nodes counts.few_nodes in
    let links = le-leb (link_count net) FORMAT_1.links counts.few_links in
    grind (arith, nat_tests)
fits net (Box lower upper) pairs counts shaped = absurd (false≢true shaped)

-- a set of the second format is in no need of a box
no_margin : (format pairs : ℕ) (set : DemandSet) → is_shaped_set FORMAT_2 pairs set ≡ true → set_in format set ≡ set
no_margin format pairs All shaped = go (format == 2)
  where
    go : (b : Bool) → cond b All All ≡ All
    go true = refl
    go false = refl
no_margin format pairs (Margin num den base) shaped = absurd (false≢true shaped)
no_margin format pairs (Box lower upper) shaped = go (format == 2)
  where
    go : (b : Bool) → cond b (Box lower upper) (Box lower upper) ≡ Box lower upper
    go true = refl
    go false = refl

pub set_same : (c : Certificate) → IsValid c → made_set c.head.network c.head.set ≡ c.head.set
set_same c valid = go (c.head.format == 2) (certificate_shape c valid).set (counts_of c valid)
  where
    net : Network
    net = c.head.network

    pairs : ℕ
    pairs = length c.head.routes

    go : (second : Bool) → is_shaped_set (cond second FORMAT_2 FORMAT_1) pairs c.head.set ≡ true →
        HasCounts (cond second FORMAT_2 FORMAT_1) (node_count net) (link_count net) → made_set net c.head.set ≡ c.head.set
    go true shaped counts = no_margin (made_format net c.head.set) pairs c.head.set shaped
    go false shaped counts = rw (fits net c.head.set pairs counts shaped) refl

-- its limits are no wider than those of the certificate's format
pub record AreWithinLimits (narrow wide : Limits) : Type 0 where
  pub nodes : narrow.nodes ≤ wide.nodes
  pub links : narrow.links ≤ wide.links

pub limits_wider : (c : Certificate) → IsValid c → AreWithinLimits (limits_of (made_format c.head.network c.head.set)) (limits_of c.head.format)
limits_wider c valid = go (c.head.format == 2) (certificate_shape c valid).set (counts_of c valid)
  where
    net : Network
    net = c.head.network

    pairs : ℕ
    pairs = length c.head.routes

    at_most : (b : Bool) → AreWithinLimits (cond b FORMAT_2 FORMAT_1) FORMAT_2
    at_most true = record { nodes = omega arith; links = omega arith }
    at_most false = record { nodes = omega arith; links = omega arith }

    go : (second : Bool) → is_shaped_set (cond second FORMAT_2 FORMAT_1) pairs c.head.set ≡ true →
        HasCounts (cond second FORMAT_2 FORMAT_1) (node_count net) (link_count net) →
        AreWithinLimits (limits_of (made_format net c.head.set)) (cond second FORMAT_2 FORMAT_1)
    go true shaped counts = at_most (made_format net c.head.set == 2)
    go false shaped counts = rw (fits net c.head.set pairs counts shaped) (record { nodes = omega arith; links = omega arith })
