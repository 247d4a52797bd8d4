use Rattle.std.proofs.Common.{Some, ◌++◌, map, take, arith, sym, ap, ◌∙◌}
use Rattle.std.specs.Prelude.{slice_index_or}
use Rattle.std.proofs.lemmas.List.{take_all, take_more}
use Rattle.shortest_path.specs.Least.{links_of}
use Rattle.local_recovery.specs.Recovery.{walk_over}
use Rattle.local_recovery.proofs.BypassWalks.{walk_over_more, walk_over_none, stand_read}
use Rattle.local_recovery.proofs.bypass.walk_over.Goals as goal

pub returns-in-None : goal.returns-in-None
returns-in-None c =
    sym (walk_over_none (map links_of c.args.bypass_paths.now) c.args.links.now c.loop-link.link-index c.loop-link-test.true
    (stand_read c.args.bypass_paths.now c.args.links.now c.loop-link.link-index c.index-bypass_paths-link.result c.loop-link-test.true c.requires c.index-bypass_paths-link.is
    ∙ ap links_of c.in-None.is))

pub loop-link-preserved : goal.loop-link-preserved
loop-link-preserved c =
    let bypass_paths = map links_of c.args.bypass_paths.now in
    let i = c.loop-link.link-index in
    let here = stand_read c.args.bypass_paths.now c.args.links.now i c.index-bypass_paths-link.result c.loop-link-test.true c.requires c.index-bypass_paths-link.is
    ∙ ap links_of c.in-Some.is in
    ap (walk_over bypass_paths) (take_more c.args.links.now i 0 c.loop-link-test.true)
    ∙ (walk_over_more bypass_paths (take i c.args.links.now) (slice_index_or c.args.links.now i 0) c.loop-link.walk.items c.in-Some.path.links c.loop-link.invariant here
    ∙ ap Some (sym (c.in_ok-extend_from_slice-in-Some.ensures.items ∙ ap (λ xs. c.loop-link.walk.items ++ xs) c.as_slice.ensures)))

pub returns : goal.returns
returns c =
    sym c.loop-link.invariant
    ∙ ap (walk_over (map links_of c.args.bypass_paths.now)) (take_all c.loop-link.link-index c.args.links.now (omega (arith, c.loop-link-test.false)))
