use Rattle.std.proofs.Common.{Bool, true, List, length, ap, sym, ◌∙◌, subst}
use Rattle.std.proofs.lemmas.List.{length-replicate}
use Rattle.te_model.specs.declared.name.Name.{Name}
use Rattle.te_model.specs.Network.{link_count}
use Rattle.te_model.proofs.Lists.{written_whole}
use Rattle.shortest_path.specs.Least.{AreLeastSums}
use Rattle.shortest_path.specs.Links.{every_link}
use Rattle.shortest_path.proofs.Sound.{sound}
use Rattle.tree_embed.proofs.sums.sums_toward.Goals as goal

pub toward-requires-clause-sound : goal.toward-requires-clause-sound
toward-requires-clause-sound c = sound c.args.net.now c.requires.network

pub toward-requires-clause-marks : goal.toward-requires-clause-marks
toward-requires-clause-marks c =
    ap (λ (l : List Bool). length l) c.requires.every ∙ length-replicate (link_count c.args.net.now) true

pub toward-requires-clause-limit : goal.toward-requires-clause-limit
toward-requires-clause-limit c = c.requires.limit

pub returns-clause-sums : goal.returns-clause-sums
returns-clause-sums c =
    let net = c.args.net.now in
    let lengths = c.args.lengths.now in
    let node = c.args.node in
    let row = c.toward.new.sums in
    let made = c.in_ok-row.row in
    let are = subst (λ (m : List Bool). AreLeastSums net lengths m node row) c.requires.every c.toward.ensures.sums in
    let nodes = c.in_ok-row.ensures.len ∙ ap (λ (l : List Name). length l) c.as_slice.ensures in
    let whole = written_whole made.len row made.items (are.count ∙ (sym nodes ∙ made.ok.0)) made.ok.0 in
    subst (AreLeastSums net lengths (every_link net) node) (sym (c.new.ensures ∙ whole)) are
