use Rattle.std.proofs.Common.{◌≡◌, ℕ, ◌*◌, ◌<◌, ◌≤◌, List, length, get_or, arith, ap, ◌∙◌}
use Rattle.std.specs.Prelude.{max}
use Rattle.te_model.specs.declared.network.Link.{Link}
use Rattle.te_model.specs.declared.units.TheConstants.{SHARE_UNIT}
use Rattle.te_model.specs.Network.{link_count, no_link}
use Rattle.update_plan.specs.declared.path.TheConstants.{MAX_STEPS}
use Rattle.update_plan.proofs.StepCounts.{of_link, one_more}
use Rattle.te_model.proofs.Choices.{ord_max_is}
use Rattle.update_plan.proofs.steps.least_steps.Goals as goal

pub returns-then-steps-from-clause-none : goal.returns-then-steps-from-clause-none
returns-then-steps-from-clause-none c =
    let net = c.args.net.now in
    let loads = c.args.loads.now in
    let h = c.loop-h.h in
    let steps = c.steps_on-steps.result in
    let whole = c.in_millionths-whole.ensures ∙ ap (λ (ls : List Link). SHARE_UNIT * (get_or ls h no_link).capacity) c.as_slice-links.ensures in
    let here = of_link net loads h c.in_millionths-whole.result (get_or c.as_slice-before.result.now h 0) (get_or c.as_slice-after.result.now h 0)
    (get_or c.as_slice-growth.result.now h 0) (get_or c.as_slice-decline.result.now h 0) steps whole
    (ap (λ (l : List ℕ). get_or l h 0) c.as_slice-before.ensures) (ap (λ (l : List ℕ). get_or l h 0) c.as_slice-after.ensures)
    (ap (λ (l : List ℕ). get_or l h 0) c.as_slice-growth.ensures) (ap (λ (l : List ℕ). get_or l h 0) c.as_slice-decline.ensures)
    c.steps_on-steps.ensures.least
    in
    let many : MAX_STEPS < steps = omega (arith, c.if-steps-from.true, c.from.ensures) in
    record {
      inside = omega (arith, c.loop-h-test.true, ap (λ (ls : List Link). length ls) c.as_slice-links.ensures);
      none = λ K some few enough. let le = (here K some few).0 enough in omega (arith, le, few, many);
      first = λ g below. (c.loop-h.invariant.least MAX_STEPS (omega arith) (omega arith)).1 c.loop-h.invariant.few g below;
    }

pub loop-h-preserved : goal.loop-h-preserved
loop-h-preserved c =
    let net = c.args.net.now in
    let loads = c.args.loads.now in
    let h = c.loop-h.h in
    let most = c.loop-h.most in
    let steps = c.steps_on-steps.result in
    let whole = c.in_millionths-whole.ensures ∙ ap (λ (ls : List Link). SHARE_UNIT * (get_or ls h no_link).capacity) c.as_slice-links.ensures in
    let here = of_link net loads h c.in_millionths-whole.result (get_or c.as_slice-before.result.now h 0) (get_or c.as_slice-after.result.now h 0)
    (get_or c.as_slice-growth.result.now h 0) (get_or c.as_slice-decline.result.now h 0) steps whole
    (ap (λ (l : List ℕ). get_or l h 0) c.as_slice-before.ensures) (ap (λ (l : List ℕ). get_or l h 0) c.as_slice-after.ensures)
    (ap (λ (l : List ℕ). get_or l h 0) c.as_slice-growth.ensures) (ap (λ (l : List ℕ). get_or l h 0) c.as_slice-decline.ensures)
    c.steps_on-steps.ensures.least
    in
    let few : steps ≤ MAX_STEPS = omega (arith, c.if-steps-from.false, c.from.ensures) in
    let next : c.max-most.result ≡ max most steps = c.max-most.ensures ∙ ord_max_is most steps in
    let both = one_more net loads most steps h c.loop-h.invariant.least here in
    record {
      some = omega (arith, next, c.loop-h.invariant.some);
      few = omega (arith, next, c.loop-h.invariant.few, few);
      least = λ K one up. (
        λ enough. omega (arith, next, (both K one up).0 enough),
        λ le. (both K one up).1 (omega (arith, next, le)),
      );
    }

pub returns-clause-steps : goal.returns-clause-steps
returns-clause-steps c =
    let net = c.args.net.now in
    let all : link_count net ≡ c.loop-h.h = omega (arith, c.loop-h-test.false, c.loop-h.auto.h-end, ap (λ (ls : List Link). length ls) c.as_slice-links.ensures) in
    record {
      some = c.loop-h.invariant.some;
      few = c.loop-h.invariant.few;
      least = λ K some few. (
        λ enough. (c.loop-h.invariant.least K some few).0 (λ e below. enough e (omega (arith, below, all))),
        λ le e below. (c.loop-h.invariant.least K some few).1 le e (omega (arith, below, all)),
      );
    }
