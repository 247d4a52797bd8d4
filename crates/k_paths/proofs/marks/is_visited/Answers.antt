use Rattle.std.proofs.Common.{◌||◌, ◌==◌, ap, sym, ◌∙◌}
use Rattle.std.proofs.lemmas.Bool.{eq-eqb, ne_eqb}
use Rattle.std.specs.List.{list_any}
use Rattle.std.specs.Prelude.{slice_index_or}
use Rattle.te_model.specs.Network.{no_link}
use Rattle.k_paths.proofs.marks.is_visited.Goals as goal

pub returns-then-src-node : goal.returns-then-src-node
returns-then-src-node c =
    let leads = list_any (λ k. (slice_index_or c.args.links.now k no_link).head == c.args.node) c.args.prefix.now in
    let same = eq-eqb c.args.src c.args.node c.if-src-node.true in
    same ∙ sym (ap (λ b. b || leads) same)

pub returns-else-src-node : goal.returns-else-src-node
returns-else-src-node c =
    let leads = list_any (λ k. (slice_index_or c.args.links.now k no_link).head == c.args.node) c.args.prefix.now in
    c.leads_to.ensures ∙ sym (ap (λ b. b || leads) (ne_eqb c.args.src c.args.node c.if-src-node.false))
