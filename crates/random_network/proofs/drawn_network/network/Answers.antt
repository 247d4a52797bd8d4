use Rattle.std.proofs.Common.{◌≡◌, ◌∙◌, sym, subst, arith}
use Rattle.std.specs.Prelude.{IsTrue, ◌≤◌}
use Rattle.te_model.specs.declared.network.Network.{Network}
use Rattle.te_model.specs.Network.{is_well_formed, link_count}
use Rattle.random_network.specs.Drawn.{IsConnected, network_of}
use Rattle.random_network.proofs.Connected.{drawn_connected, drawn_links}
use Rattle.random_network.proofs.Drawing.{network_is}
use Rattle.random_network.proofs.Formed.{drawn_well_formed}
use Rattle.random_network.proofs.drawn_network.network.Goals as goal

made : (c : goal.After-new-2) → ◌≡◌ {A = Network} (record { names = c.new.result; links = c.new-2.result }) (network_of c.args.nodes c.args.seed)
made c =
    let seed = c.args.seed in
    let ring = c.in_ok-add_ring.ensures in
    network_is c.args.nodes seed _ c.new-links.result.items c.add_ring.new.links.items _ (c.new.ensures ∙ c.in_ok-names.ensures) c.new-links.ensures.items
    (ring.ring seed c.network_words-rng.ensures) (c.new-2.ensures ∙ c.in_ok-add_chords.ensures seed (ring.state seed c.network_words-rng.ensures))

pub returns-clause-drawn : goal.returns-clause-drawn
returns-clause-drawn c = made c

pub returns-clause-well_formed : goal.returns-clause-well_formed
returns-clause-well_formed c =
    subst (λ (net : Network). IsTrue (is_well_formed net)) (sym (made c)) (drawn_well_formed c.args.nodes c.args.seed c.requires.some c.requires.few)

pub returns-clause-links : goal.returns-clause-links
returns-clause-links c = subst (λ (net : Network). 1 ≤ link_count net) (sym (made c)) (drawn_links c.args.nodes c.args.seed (omega (arith, c.requires.some)))

pub returns-clause-connected : goal.returns-clause-connected
returns-clause-connected c = subst IsConnected (sym (made c)) (drawn_connected c.args.nodes c.args.seed)
