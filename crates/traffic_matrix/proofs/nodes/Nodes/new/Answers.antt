use Rattle.std.proofs.Common.{◌≡◌, ◌∙◌, ◌<◌, []}
use Rattle.te_model.specs.Network.{node_count, name_at}
use Rattle.traffic_matrix.proofs.NodeLemmas.{names-more, item-at, bytes_of}
use Rattle.traffic_matrix.proofs.nodes.Nodes.new.Goals as goal

pub loop-name-preserved : goal.loop-name-preserved
loop-name-preserved c =
    let net = c.args.net.now in
    let i = c.loop-name.name-index in
    let low : i < node_count net = rw c.as_slice-name-items.ensures at c.loop-name-test.true in
    let is : bytes_of c.in_ok-from_slice.field-0 ≡ name_at net i =
    c.in_ok-from_slice.ensures.items ∙ c.as_bytes.ensures.value ∙ c.as_str.ensures
    ∙ item-at c.as_slice-name-items.result.now net.names i c.name-item.result [] c.as_slice-name-items.ensures c.loop-name-test.true c.name-item.is in
    rw c.in_ok-insert.ensures.keys (names-more net i c.in_ok-from_slice.field-0 c.loop-name.names.keys c.requires low is c.loop-name.invariant)
