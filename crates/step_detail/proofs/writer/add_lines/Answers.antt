use Rattle.std.proofs.Common.{◌≡◌, ◌≤◌, ◌^◌, ◌++◌, sym, subst}
use Rattle.std.specs.Prelude.{OnOk}
use Rattle.std.proofs.lemmas.List.Elements.{All-get_or}
use Rattle.step_detail.specs.declared.breakdown.Breakdown.{Breakdown}
use Rattle.step_detail.specs.Breakdown.{lines_of}
use Rattle.step_detail.proofs.writer.add_lines.Goals as goal

pub print_links-requires-clause-demands : goal.print_links-requires-clause-demands
print_links-requires-clause-demands c = c.requires.demands.count

pub print_links-requires-clause-small : goal.print_links-requires-clause-small
print_links-requires-clause-small c = λ p below. All-get_or (λ d. d ≤ 2 ^ 32) c.args.matrix.now.demand p 0 below c.requires.demands.small

pub print_pairs-requires-clause-least : goal.print_pairs-requires-clause-least
print_pairs-requires-clause-least c = c.requires.least c.in-Pairs.is

pub returns-in-Links : goal.returns-in-Links
returns-in-Links c =
    subst (λ (b : Breakdown). OnOk c.print_links.result (c.print_links.new.text.items ≡ c.args.text.now.items
    ++ lines_of b c.args.network.now c.args.failed.now c.args.matrix.now.demand c.args.least.now c.args.word.now c.args.step.now)) (sym c.in-Links.is)
    c.print_links.ensures

pub returns-in-Pairs : goal.returns-in-Pairs
returns-in-Pairs c =
    subst (λ (b : Breakdown). OnOk c.print_pairs.result (c.print_pairs.new.text.items ≡ c.args.text.now.items
    ++ lines_of b c.args.network.now c.args.failed.now c.args.matrix.now.demand c.args.least.now c.args.word.now c.args.step.now)) (sym c.in-Pairs.is)
    c.print_pairs.ensures

pub returns-in-Paths : goal.returns-in-Paths
returns-in-Paths c =
    subst (λ (b : Breakdown). OnOk c.print_paths.result (c.print_paths.new.text.items ≡ c.args.text.now.items
    ++ lines_of b c.args.network.now c.args.failed.now c.args.matrix.now.demand c.args.least.now c.args.word.now c.args.step.now)) (sym c.in-Paths.is)
    c.print_paths.ensures
