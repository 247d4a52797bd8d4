-- A link that is read from the list of a network, and the nodes where it starts and ends.
use Rattle.std.proofs.Common.{◌≡◌, ◌<◌, ℕ, List, length, get_or, arith, ap}
use Rattle.te_model.specs.declared.network.Link.{Link}
use Rattle.te_model.specs.declared.network.Network.{Network}
use Rattle.te_model.specs.Network.{link_count, node_count, no_link}
use Rattle.shortest_path.specs.Links.{HasSoundLinks}

pub read_place : (net : Network) (links : List Link) (h : ℕ) → links ≡ net.links → h < length links → h < link_count net
read_place net links h is below = omega (arith, below, ap (λ (ls : List Link). length ls) is)

pub read_tail : (net : Network) (links : List Link) (h : ℕ) → HasSoundLinks net → links ≡ net.links → h < length links → (get_or links h no_link).tail < node_count net
read_tail net links h sound is below = omega (arith, ap (λ (ls : List Link). (get_or ls h no_link).tail) is, sound.tails h (read_place net links h is below))

pub read_head : (net : Network) (links : List Link) (h : ℕ) → HasSoundLinks net → links ≡ net.links → h < length links → (get_or links h no_link).head < node_count net
read_head net links h sound is below = omega (arith, ap (λ (ls : List Link). (get_or ls h no_link).head) is, sound.heads h (read_place net links h is below))
