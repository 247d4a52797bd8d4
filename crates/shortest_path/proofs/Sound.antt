-- What a well-formed network has.
use Rattle.std.proofs.Common.{◌≡◌, ◌≤◌, true, refl}
use Rattle.std.proofs.lemmas.List.{length-map}
use Rattle.std.proofs.lemmas.List.Elements.{All-map, All-from_get_or}
use Rattle.te_model.specs.declared.network.Network.{Network}
use Rattle.te_model.proofs.SoundLinks.{costs_small}
use Rattle.te_model.proofs.WellFormed.{few_links, few_nodes, links_join}
use Rattle.te_model.specs.Network.{is_well_formed, no_link}
use Rattle.te_model.specs.declared.network.Link.{Link}
use Rattle.shortest_path.specs.Costs.{HasCosts, costs_of}
use Rattle.shortest_path.specs.Links.{HasSoundLinks}

pub sound : (net : Network) → is_well_formed net ≡ true → HasSoundLinks net
sound net formed = record {
  few = few_nodes net formed;
  few_links = few_links net formed;
  tails = λ h below. (links_join net formed h below).0;
  heads = λ h below. (links_join net formed h below).1;
}

-- the costs of a well-formed network
pub has_costs : (net : Network) → is_well_formed net ≡ true → HasCosts net (costs_of net)
has_costs net formed = record {
  are = refl;
  count = length-map net.links (λ (l : Link). l.cost);
  positive = All-map (λ c. 1 ≤ c) (λ (l : Link). l.cost) net.links (All-from_get_or (λ (l : Link). 1 ≤ l.cost) net.links no_link (λ h below. (costs_small net formed h below).0));
  small = All-map (λ c. c ≤ 65535) (λ (l : Link). l.cost) net.links (All-from_get_or (λ (l : Link). l.cost ≤ 65535) net.links no_link (λ h below. (costs_small net formed h below).1));
}
