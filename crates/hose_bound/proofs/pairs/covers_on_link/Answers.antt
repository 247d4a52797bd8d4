use Rattle.std.proofs.Common.{◌≡◌, ℕ, ◌+◌, ◌∙◌, sym, ap, Some, ◌==◌, get_or, nat_le}
use Rattle.std.specs.Prelude.{slice_index}
use Rattle.std.proofs.lemmas.List.{get_or_default}
use Rattle.std.proofs.lemmas.Option.{none-some}
use Rattle.te_model.specs.Path.{no_routes, routes_at, source_of, destination_of}
use Rattle.hose_bound.specs.declared.hose.HoseBlock.{HoseBlock}
use Rattle.hose_bound.specs.Verdict.{covers_pair}
use Rattle.hose_bound.proofs.Absent.{first_block, no_block, zeros_cover}
use Rattle.hose_bound.proofs.pairs.covers_on_link.Goals.{in_default-via-in-Some+else-block-link, in_default-via-in_default}
use Rattle.hose_bound.proofs.pairs.covers_on_link.Goals as goal

pub returns-in-Some : goal.returns-in-Some
returns-in-Some c =
    let p = c.args.p in
    let block = c.in-Some.block.now in
    let routes = c.args.routes.now in
    let at : routes_at routes p ≡ get_or routes p c.index-routes-p.result = get_or_default routes p no_routes c.index-routes-p.result c.requires.pair in
    c.covers_ends.ensures
    ∙ ap (λ t. nat_le c.args.share (slice_index block.tails t.pair.src + slice_index block.heads t.pair.dst)) (sym at)
    ∙ ap (λ s. nat_le s (slice_index block.tails (source_of routes p) + slice_index block.heads (destination_of routes p))) c.requires.share
    ∙ ap (λ b. covers_pair routes c.args.link b p) (sym (first_block c.args.blocks.now c.args.link block c.in-Some.ensures.value c.if-block-link.true))

-- a first block of another link
of_another_link : (x y : HoseBlock) (link : ℕ) → Some y ≡ Some x → ¬ (y.link ≡ link) → ¬ (x.link ≡ link)
of_another_link x y link same other e = let first : x ≡ y = cc in other (sym (ap (λ b. b.link) first) ∙ e)

pub returns-in_default : goal.returns-in_default
returns-in_default c =
    let absent = no_block c.args.blocks.now c.args.link c.requires.ascend (λ x first. elim c.in_default.branch [
      | in_default-via-in-Some+else-block-link w ↦ of_another_link x w.in-Some.block.now c.args.link (w.in-Some.ensures.value ∙ first) w.if-block-link.false
      | in_default-via-in_default w ↦ absurd (none-some x (w.in_default.ensures.value ∙ first))
    ]) in
    ap (λ n. n == 0) c.requires.share ∙ zeros_cover c.args.routes.now c.args.blocks.now c.args.link c.args.p absent
