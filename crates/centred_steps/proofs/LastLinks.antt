-- Links of the network, listed by the nodes to which they lead.
use Rattle.std.proofs.Common.{◌≡◌, ◌<◌, ℕ, true, List, Option, Some, None, length, set, arith, sym, subst, ◌∙◌, inl, inr}
use Rattle.std.proofs.lemmas.Bool.{cases_eq}
use Rattle.std.proofs.lemmas.List.{get_or-set_same, get_or-set_other, length-set}
use Rattle.std.specs.Prelude.{slice_index_or}
use Rattle.te_model.specs.declared.network.Link.{Link}
use Rattle.te_model.specs.declared.network.Network.{Network}
use Rattle.te_model.specs.Network.{is_well_formed, link_count, no_link, node_count}
use Rattle.te_model.proofs.WellFormed.{links_join}
use Rattle.centred_steps.specs.Ways.{AreLastLinks}

-- a link of the network more
pub last_put : (net : Network) (lasts : List (Option ℕ)) (v h : ℕ) → v < length lasts → h < link_count net → AreLastLinks net lasts →
    AreLastLinks net (set lasts v (Some h))
last_put net lasts v h below inside are = record {
  count = length-set lasts v (Some h) ∙ are.count;
  each = λ u k is. elim (cases_eq u v) [
    | inl same ↦
        let here : slice_index_or (set lasts v (Some h)) u None ≡ Some h =
        subst (λ w. slice_index_or (set lasts v (Some h)) w None ≡ Some h) (sym same) (get_or-set_same lasts v (Some h) None below)
        in
        let one : h ≡ k = cc in
        omega (arith, one, inside)
    | inr other ↦ are.each u k (sym (get_or-set_other lasts v u (Some h) None other) ∙ is)
  ];
}

-- where a link of the list of links starts and ends
pub ends_inside : (net : Network) (links : List Link) (h : ℕ) → links ≡ net.links → is_well_formed net ≡ true → h < link_count net →
    ((slice_index_or links h no_link).tail < node_count net) × ((slice_index_or links h no_link).head < node_count net)
ends_inside net links h is formed inside =
    subst (λ (ls : List Link). ((slice_index_or ls h no_link).tail < node_count net) × ((slice_index_or ls h no_link).head < node_count net)) (sym is)
    (links_join net formed h inside)
