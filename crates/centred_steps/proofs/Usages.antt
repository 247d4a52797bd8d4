-- Usages of the links of a list that is the network's.
use Rattle.std.proofs.Common.{◌≡◌, ℕ, ◌*◌, ◌/◌, List, get_or, ap}
use Rattle.te_model.specs.declared.network.Link.{Link}
use Rattle.te_model.specs.declared.network.Network.{Network}
use Rattle.te_model.specs.declared.units.TheConstants.{RATIO_UNIT}
use Rattle.te_model.specs.Network.{no_link}
use Rattle.multiplicative_lengths.specs.Growth.{usage_of}

pub usage_at : (net : Network) (links : List Link) (loads : List ℕ) (h : ℕ) → links ≡ net.links →
    get_or loads h 0 * RATIO_UNIT / (get_or links h no_link).capacity ≡ usage_of net loads h
usage_at net links loads h are = ap (λ (ls : List Link). get_or loads h 0 * RATIO_UNIT / (get_or ls h no_link).capacity) are
