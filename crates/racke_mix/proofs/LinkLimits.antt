-- A link leads from one node to another.
use Rattle.std.proofs.Common.{◌≡◌, ℕ, ◌<◌, true, arith}
use Rattle.std.proofs.lemmas.Bool.Decides.{nat_tests}
use Rattle.te_model.specs.declared.network.Network.{Network}
use Rattle.te_model.specs.Network.{link_count, tail_of, head_of, is_well_formed}
use Rattle.te_model.proofs.SoundLinks.{sound_links}

pub ends_apart : (net : Network) (h : ℕ) → is_well_formed net ≡ true → h < link_count net → tail_of net h ≡ head_of net h → ⊥
ends_apart net h formed below same = let sound = sound_links net formed h below in grind (arith, nat_tests)
