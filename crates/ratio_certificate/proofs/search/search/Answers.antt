use Rattle.std.proofs.Common.{ℕ, List, length, ap, ◌∙◌}
use Rattle.std.proofs.lemmas.List.{length-replicate, length-set}
use Rattle.ratio_certificate.proofs.Searched.{own_weightings, weightings_after}
use Rattle.ratio_certificate.proofs.search.search.Goals as goal

pub loop-preserved : goal.loop-preserved
loop-preserved c =
    let p = c.args.problem.now in (
      weightings_after p.net.now p.routing.now.routes p.set.now c.args.links.now c.args.list.now c.loop.list c.search_at.new.list c.loop.invariant.0 c.in_ok-search_at-in-Some.ensures,
      length-set c.loop.searches.items c.in-Some.k _ ∙ c.loop.invariant.1,
    )

pub loop-init : goal.loop-init
loop-init c = (
  c.requires.list,
  ap (λ (xs : List ℕ). length xs) (c.in_ok-searches.ensures.items_if_clones_equal (λ y same. same)) ∙ length-replicate (length c.args.links.now) 0,
)

pub search_at-requires-clause-list : goal.search_at-requires-clause-list
search_at-requires-clause-list c =
    let p = c.args.problem.now in
    own_weightings p.net.now p.routing.now.routes p.set.now c.args.links.now c.args.list.now c.loop.list c.loop.invariant.0

pub search_at-requires-clause-place : goal.search_at-requires-clause-place
search_at-requires-clause-place c = c.in-Some.ensures.some.within
