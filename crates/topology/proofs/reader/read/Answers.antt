use Rattle.std.proofs.Common.{◌≡◌, ◌≤◌, Ok, true}
use Rattle.std.proofs.lemmas.Result.{IfOk-weaker}
use Rattle.te_model.specs.Network.{is_well_formed, link_count}
use Rattle.topology.proofs.SoundLemmas.{topology-sound, topology-has-links}
use Rattle.topology.proofs.reader.read.Goals as goal

pub returns : goal.returns
returns c =
    let bytes = c.args.bytes.now in
    let network = rw c.new-rows.ensures at c.read_table.ensures.network in
    record {
      network = network;
      well_formed = IfOk-weaker c.read_table.result _ (λ net. is_well_formed net ≡ true) (topology-sound bytes) network;
      links = IfOk-weaker c.read_table.result _ (λ net. 1 ≤ link_count net) (topology-has-links bytes) network;
      refused = rw c.new-rows.ensures at c.read_table.ensures.refused;
    }
