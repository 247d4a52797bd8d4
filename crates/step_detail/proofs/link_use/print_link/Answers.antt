use Rattle.std.proofs.Common.{◌<◌, ◌≤◌, ◌*◌, List, get_or, slice_index, ap, sym, subst, ◌∙◌}
use Rattle.te_model.specs.declared.network.Link.{Link}
use Rattle.te_model.specs.declared.units.TheConstants.{RATIO_UNIT}
use Rattle.te_model.specs.Division.{quotient_up}
use Rattle.te_model.specs.Network.{name_at, no_link, node_count}
use Rattle.te_model.proofs.WellFormed.{capacities_positive, links_join}
use Rattle.step_detail.proofs.Lines.{link_put}
use Rattle.step_detail.proofs.link_use.print_link.Goals as goal

pub name_of-requires : goal.name_of-requires
name_of-requires c =
    let net = c.args.net.now in
    subst (λ (ls : List Link). (get_or ls c.args.link no_link).tail < node_count net) (sym c.as_slice.ensures) (links_join net c.requires.network c.args.link c.requires.link).0

pub name_of-requires-2 : goal.name_of-requires-2
name_of-requires-2 c =
    let net = c.args.net.now in
    subst (λ (ls : List Link). (get_or ls c.args.link no_link).head < node_count net) (sym c.as_slice.ensures) (links_join net c.requires.network c.args.link c.requires.link).1

pub utilisation-requires : goal.utilisation-requires
utilisation-requires c =
    subst (λ (ls : List Link). 1 ≤ (get_or ls c.args.link no_link).capacity) (sym c.as_slice.ensures)
    (capacities_positive c.args.net.now c.requires.network c.args.link c.requires.link)

pub utilisation-requires-2 : goal.utilisation-requires-2
utilisation-requires-2 c =
    subst (λ (ls : List Link). 1 ≤ (get_or ls c.args.link no_link).capacity) (sym c.as_slice.ensures)
    (capacities_positive c.args.net.now c.requires.network c.args.link c.requires.link)

pub returns : goal.returns
returns c =
    let net = c.args.net.now in
    let failed = c.args.failed.now in
    let asked = c.args.asked.now in
    let carried = c.args.carried.now in
    let e = c.args.link in
    rw (
      c.in_ok-push.ensures.items,
      c.in_ok-print_number-6.ensures,
      c.in_ok-print_number-5.ensures,
      c.in_ok-print_number-4.ensures,
      c.in_ok-print_number-3.ensures,
      c.in_ok-print_field-3.ensures,
      c.in_ok-print_number-2.ensures,
      c.in_ok-print_field-2.ensures,
      c.in_ok-print_field.ensures,
      c.in_ok-print_number.ensures,
      c.in_ok-extend_from_slice.ensures.items,
      c.as_bytes.ensures.value,
    )
    (link_put net failed asked carried c.args.word.now e c.args.text.now.items c.name_of.result.now c.name_of-2.result.now c.yes_or_no.result.now
    c.from.result c.from-2.result c.from-3.result c.utilisation.result c.utilisation-2.result
    (c.name_of.ensures ∙ ap (λ (ls : List Link). name_at net (get_or ls e no_link).tail) c.as_slice.ensures)
    (c.name_of-2.ensures ∙ ap (λ (ls : List Link). name_at net (get_or ls e no_link).head) c.as_slice.ensures)
    (c.from.ensures ∙ ap (λ (ls : List Link). (get_or ls e no_link).capacity) c.as_slice.ensures)
    c.yes_or_no.ensures
    c.from-2.ensures
    c.from-3.ensures
    (c.utilisation.ensures ∙ ap (λ (ls : List Link). quotient_up (slice_index asked e * RATIO_UNIT) (get_or ls e no_link).capacity) c.as_slice.ensures)
    (c.utilisation-2.ensures ∙ ap (λ (ls : List Link). quotient_up (slice_index carried e * RATIO_UNIT) (get_or ls e no_link).capacity) c.as_slice.ensures))
