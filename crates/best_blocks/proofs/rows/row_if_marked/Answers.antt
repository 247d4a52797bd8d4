use Rattle.std.proofs.Common.{◌≡◌, ℕ, true, Option, Vec, Global}
use Rattle.std.proofs.lemmas.Result.{IfOk-weaker}
use Rattle.shortest_path.specs.Paths.{AreDistances}
use Rattle.best_blocks.specs.Rows.{is_marked}
use Rattle.best_blocks.proofs.rows.row_if_marked.Goals as goal

pub returns-then-is_marked-clause-marked : goal.returns-then-is_marked-clause-marked
returns-then-is_marked-clause-marked c =
    let net = c.args.net.now in
    let weights = c.args.weights.now in
    let node = c.args.node in
    IfOk-weaker c.row_from.result (λ (r : Vec (Option ℕ) Global). AreDistances net weights node r.items)
    (λ (r : Vec (Option ℕ) Global). is_marked c.args.marks.now node ≡ true → AreDistances net weights node r.items) (λ r are marked. are) c.row_from.ensures.distances

pub returns-else-is_marked-clause-other : goal.returns-else-is_marked-clause-other
returns-else-is_marked-clause-other c = λ unmarked. c.new.ensures.items
