use Rattle.std.proofs.Common.{ap, sym, ◌∙◌, subst}
use Rattle.tree_embed.specs.Centers.{IsCenter}
use Rattle.tree_embed.specs.Tables.{AreTables, center_in}
use Rattle.tree_embed.proofs.embedding.Tree.center.Goals as goal

pub returns-clause-center : goal.returns-clause-center
returns-clause-center c =
    let tables = subst (λ e. AreTables e c.self.inside.sums c.self.inside.centers) c.self.view_is c.self.invariant.0 in
    let is = c.center_in.ensures ∙ ap (λ t. center_in t c.args.level c.args.node) c.as_slice.ensures in
    subst (IsCenter c.args.self.now c.args.level c.args.node) (sym is) (tables.centers_are c.args.level c.args.node c.requires.level c.requires.node)
