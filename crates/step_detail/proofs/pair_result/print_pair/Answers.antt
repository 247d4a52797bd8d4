use Rattle.std.proofs.Common.{◌<◌, ◌≤◌, List, All, length, ap, sym, subst, ◌∙◌, ℕ}
use Rattle.te_model.specs.declared.route.PathShare.{PathShare}
use Rattle.te_model.specs.declared.limits.TheConstants.{FORMAT_2}
use Rattle.te_model.specs.declared.units.TheConstants.{SHARE_UNIT}
use Rattle.routing.specs.Split.{total_weight}
use Rattle.step_detail.specs.Pairs.{mean_cost}
use Rattle.step_detail.proofs.Pairs.{links_within, pair_put, paths_short, whole_at_most}
use Rattle.step_detail.proofs.pair_result.print_pair.Goals as goal

pub name_of-requires : goal.name_of-requires
name_of-requires c = c.requires.pair.src

pub name_of-requires-2 : goal.name_of-requires-2
name_of-requires-2 c = c.requires.pair.dst

pub mean_cost-requires-clause-links : goal.mean_cost-requires-clause-links
mean_cost-requires-clause-links c =
    let routes = c.args.routes.now in
    subst (λ (ss : List PathShare). All (λ (p : PathShare). All (λ h. h < length c.args.costs.now) p.links) ss) (sym c.as_slice-paths.ensures)
    (links_within c.args.net.now routes.pair.src routes.pair.dst routes.paths c.args.costs.now c.requires.costs.count c.requires.paths)

pub mean_cost-requires-clause-short : goal.mean_cost-requires-clause-short
mean_cost-requires-clause-short c =
    let routes = c.args.routes.now in
    subst (λ (ss : List PathShare). All (λ (p : PathShare). length p.links ≤ FORMAT_2.nodes) ss) (sym c.as_slice-paths.ensures)
    (paths_short c.args.net.now routes.pair.src routes.pair.dst routes.paths c.requires.network c.requires.pair.src c.requires.paths)

pub mean_cost-requires-clause-small : goal.mean_cost-requires-clause-small
mean_cost-requires-clause-small c = c.requires.costs.small

pub mean_cost-requires-clause-whole : goal.mean_cost-requires-clause-whole
mean_cost-requires-clause-whole c =
    subst (λ (ss : List PathShare). total_weight ss ≤ SHARE_UNIT) (sym c.as_slice-paths.ensures) (whole_at_most c.args.routes.now.paths c.requires.rates)

pub returns : goal.returns
returns c =
    let net = c.args.net.now in
    let routes = c.args.routes.now in
    rw (
      c.in_ok-push.ensures.items,
      c.in_ok-print_number_or_dash-2.ensures,
      c.in_ok-print_number_or_dash.ensures,
      c.in_ok-print_number-6.ensures,
      c.in_ok-print_number-5.ensures,
      c.in_ok-print_number-4.ensures,
      c.in_ok-print_number-3.ensures,
      c.in_ok-print_number-2.ensures,
      c.in_ok-print_number.ensures,
      c.in_ok-print_field-2.ensures,
      c.in_ok-print_field.ensures,
      c.in_ok-extend_from_slice.ensures.items,
      c.as_bytes.ensures.value,
    )
    (pair_put net c.args.word.now c.args.text.now.items routes c.args.outcome.now c.args.least c.name_of.result.now c.name_of-2.result.now
    c.from.result c.from-2.result c.from-3.result c.from-4.result c.from-5.result (length c.as_slice-paths.result.now) c.mean_cost.result c.in_millionths.result
    c.name_of.ensures
    c.name_of-2.ensures
    c.from.ensures
    c.from-2.ensures
    c.from-3.ensures
    c.from-4.ensures
    c.from-5.ensures
    (ap (λ (ss : List PathShare). length ss) c.as_slice-paths.ensures)
    (c.mean_cost.ensures ∙ (ap (λ (ss : List PathShare). mean_cost c.args.costs.now ss) c.as_slice-paths.ensures
    ∙ ap (λ (l : List ℕ). mean_cost l routes.paths) c.requires.costs.are))
    c.in_millionths.ensures)
