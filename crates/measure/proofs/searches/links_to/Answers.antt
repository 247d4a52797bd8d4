use Rattle.std.proofs.Common.{◌≤◌, ◌^◌, ◌∙◌, ℕ, List, All, length, arith, ap, sym, subst}
use Rattle.te_model.specs.declared.network.Link.{Link}
use Rattle.shortest_path.proofs.Sound.{sound}
use Rattle.measure.proofs.CostLimits.{costs_limit}
use Rattle.measure.proofs.searches.links_to.Goals as goal

pub links_over-requires-clause-sound : goal.links_over-requires-clause-sound
links_over-requires-clause-sound c = sound c.args.net.now c.requires.network

pub links_over-requires-clause-lengths : goal.links_over-requires-clause-lengths
links_over-requires-clause-lengths c = ap (λ (l : List ℕ). length l) c.deref.ensures.value ∙ c.in_ok-lengths.ensures.count

pub links_over-requires-clause-marks : goal.links_over-requires-clause-marks
links_over-requires-clause-marks c = omega (arith, c.deref-2.ensures.len, c.in_ok-open.ensures.len, ap (λ (ls : List Link). length ls) c.as_slice.ensures)

pub links_over-requires-clause-positive : goal.links_over-requires-clause-positive
links_over-requires-clause-positive c = subst (λ (l : List ℕ). All (λ x. 1 ≤ x) l) (sym c.deref.ensures.value) c.in_ok-lengths.ensures.positive

pub links_over-requires-clause-limit : goal.links_over-requires-clause-limit
links_over-requires-clause-limit c =
    subst (λ (l : List ℕ). All (λ x. x ≤ 2 ^ 28) l) (sym c.deref.ensures.value)
    (costs_limit c.args.net.now c.in_ok-lengths.lengths.items c.in_ok-lengths.ensures)
