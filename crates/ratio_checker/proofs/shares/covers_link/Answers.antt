use Rattle.std.proofs.Common.{◌≡◌, ◌∙◌, sym, ap, arith, Some, None, ◌==◌, get_or}
use Rattle.std.proofs.lemmas.List.{get_or_default}
use Rattle.te_model.specs.Certificate.{potential}
use Rattle.te_model.specs.Inequalities.{covers_share}
use Rattle.te_model.specs.Path.{no_routes, routes_at, share, source_of, destination_of}
use Rattle.ratio_checker.specs.Uncovered.{covers_by}
use Rattle.ratio_checker.proofs.Absent.{first_block, no_block, share_alone}
use Rattle.ratio_checker.proofs.WeightOn.{weight_on_le}
use Rattle.ratio_checker.proofs.shares.covers_link.Goals.{in_default-via-in-Some+else-block-link, in_default-via-in_default}
use Rattle.ratio_checker.proofs.shares.covers_link.Goals as goal

pub returns-in-Some : goal.returns-in-Some
returns-in-Some c =
    let p = c.args.p in
    let block = c.in-Some.block.now in
    let routes = c.args.head.now.routes in
    let at : routes_at routes p ≡ get_or c.as_slice.result.now p c.index-as_slice-p.result =
    get_or_default routes p no_routes c.index-as_slice-p.result c.requires.pair ∙ ap (λ list. get_or list p c.index-as_slice-p.result) (sym c.as_slice.ensures) in
    c.covers_share.ensures
    ∙ ap (λ t. covers_by block p c.args.share (potential block t.pair.src t.pair.dst)) (sym at)
    ∙ ap (λ s. covers_by block p s (potential block (source_of routes p) (destination_of routes p))) (c.requires.share ∙ ap (share routes p) (sym c.if-block-link.true))
    ∙ ap (λ b. covers_share routes b p) (sym (first_block c.args.blocks.now c.args.link block c.in-Some.ensures.value c.if-block-link.true))

pub covers_share-requires-clause-share : goal.covers_share-requires-clause-share
covers_share-requires-clause-share c =
    omega (
      arith,
      c.requires.share,
      weight_on_le (routes_at c.args.head.now.routes c.args.p).paths c.args.link,
      c.requires.head.limits.shares c.args.p,
    )

pub returns-in_default : goal.returns-in_default
returns-in_default c =
    let absent = no_block c.args.blocks.now c.args.link c.requires.ascend (λ x first. elim c.in_default.branch [
      | in_default-via-in-Some+else-block-link w ↦
          let is : Some w.in-Some.block.now ≡ Some x = w.in-Some.ensures.value ∙ first in
          let same : x ≡ w.in-Some.block.now = cc in
          λ e. w.if-block-link.false (sym (ap (λ b. b.link) same) ∙ e)
      | in_default-via-in_default w ↦
          let is : None ≡ Some x = w.in_default.ensures.value ∙ first in
          cc
    ]) in
    ap (λ n. n == 0) c.requires.share ∙ share_alone c.args.head.now.routes c.args.blocks.now c.args.link c.args.p absent
