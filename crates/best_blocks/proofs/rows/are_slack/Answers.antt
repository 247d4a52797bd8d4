use Rattle.std.proofs.Common.{◌≡◌, ◌<◌, true, ℕ, List, length, take, get_or, arith, sym, subst, ◌∙◌}
use Rattle.std.specs.Prelude.{All}
use Rattle.std.proofs.lemmas.List.{take_more}
use Rattle.std.proofs.lemmas.List.Elements.{All-push}
use Rattle.best_blocks.specs.Rows.{is_slack_for}
use Rattle.best_blocks.proofs.rows.are_slack.Goals as goal

pub loop-link-preserved : goal.loop-link-preserved
loop-link-preserved c =
    let test : ℕ → Type 0 = λ h. is_slack_for c.args.net.now c.args.row.now c.args.old.now c.args.new.now h ≡ true in
    let links = c.args.links.now in
    let i = c.loop-link.link-index in
    let below : i < length links = omega arith in
    let slack : test (get_or links i 0) = sym c.is_slack.ensures ∙ c.if-not-is_slack.false in
    subst (λ (hs : List ℕ). All test hs) (sym (take_more links i 0 below)) (All-push test (take i links) (get_or links i 0) c.loop-link.invariant slack)
