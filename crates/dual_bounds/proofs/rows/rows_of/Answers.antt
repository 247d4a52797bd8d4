use Rattle.std.proofs.Common.{ℕ, ◌+◌, ◌<◌, List, [], ◌∷◌, ◌++◌, length, take, get_or, arith, sym, subst}
use Rattle.std.proofs.lemmas.List.{take_all, take_more}
use Rattle.te_model.specs.declared.certificate.Row.{Row}
use Rattle.shortest_path.specs.declared.rows.Direction.TheVariants.{Forward}
use Rattle.shortest_path.specs.Paths.{ArePotentials}
use Rattle.shortest_path.specs.Rows.{IsSearchGraph}
use Rattle.shortest_path.proofs.Sound.{sound}
use Rattle.dual_bounds.specs.Rows.{AreSourceRows}
use Rattle.dual_bounds.proofs.SourceRows.{no_source_rows, source_row_added}
use Rattle.dual_bounds.proofs.rows.rows_of.Goals as goal

pub new-requires : goal.new-requires
new-requires c = sound c.args.net.now c.requires.network

pub loop-node-init : goal.loop-node-init
loop-node-init c = (
  c.in_ok-searches.ensures,
  subst (AreSourceRows c.args.net.now c.args.lengths.now []) (sym c.in_ok-rows.ensures.items) (no_source_rows c.args.net.now c.args.lengths.now),
)

pub potentials_from-requires-clause-along : goal.potentials_from-requires-clause-along
potentials_from-requires-clause-along c = c.loop-node.invariant.0

pub loop-node-preserved : goal.loop-node-preserved
loop-node-preserved c =
    let net = c.args.net.now in
    let lengths = c.args.lengths.now in
    let nodes = c.args.nodes.now in
    let i = c.loop-node.node-index in
    let below : i < length nodes = omega arith in
    let node = get_or nodes i 0 in
    let row : Row = record { source = node; potential = c.new-in-loop-node.result } in
    let potentials = subst (λ (p : List ℕ). ArePotentials net lengths node p) (sym c.new-in-loop-node.ensures) c.in_ok-potential.ensures.potentials in
    let more = source_row_added net lengths (take i nodes) c.loop-node.rows.items row c.loop-node.invariant.1 potentials in (
      subst (IsSearchGraph net Forward) (sym c.in_ok-potential.ensures.same) c.loop-node.invariant.0,
      subst (λ (rs : List Row). AreSourceRows net lengths (take (i + 1) nodes) rs) (sym c.in_ok-push.ensures.items)
          (subst (λ (ns : List ℕ). AreSourceRows net lengths ns (c.loop-node.rows.items ++ row ∷ [])) (sym (take_more nodes i 0 below)) more),
    )

pub returns : goal.returns
returns c =
    subst (λ (ns : List ℕ). AreSourceRows c.args.net.now c.args.lengths.now ns c.loop-node.rows.items) (take_all c.loop-node.node-index c.args.nodes.now c.loop-node-test.false)
    c.loop-node.invariant.1
