use Rattle.std.proofs.Common.{◌<◌, ◌≤◌, ◌^◌, ℕ, List, length, get_or, arith, ap}
use Rattle.std.proofs.lemmas.List.Elements.{All-get_or, All-push}
use Rattle.te_model.specs.declared.network.Link.{Link}
use Rattle.te_model.proofs.Choices.{pushed_count}
use Rattle.robust_routing.proofs.weights.first_weights_of.Goals as goal

pub loop-h-init : goal.loop-h-init
loop-h-init c =
    let none = ap (λ (l : List ℕ). length l) c.in_ok-weights.ensures.items in
    (none, λ k d below. absurd (omega (arith, below, none)))

pub loop-h-preserved : goal.loop-h-preserved
loop-h-preserved c =
    rw c.in_ok-push.ensures.items (
      pushed_count c.loop-h.weights.items c.first_weight.result c.loop-h.h c.loop-h.invariant.0,
      All-push (λ (w : ℕ). (1 ≤ w) × (w ≤ 2 ^ 27)) c.loop-h.weights.items c.first_weight.result c.loop-h.invariant.1 c.first_weight.ensures,
    )

pub returns : goal.returns
returns c =
    let weights = c.loop-h.weights.items in
    let limits : (h : ℕ) → h < length weights → (1 ≤ get_or weights h 0) × (get_or weights h 0 ≤ 2 ^ 27) =
    λ h below. All-get_or (λ (w : ℕ). (1 ≤ w) × (w ≤ 2 ^ 27)) weights h 0 below c.loop-h.invariant.1
    in
    record {
      count = omega (arith, c.loop-h.invariant.0, c.loop-h-test.false, c.loop-h.auto.h-end, ap (λ (l : List Link). length l) c.as_slice-links.ensures);
      limits = record { some = λ h below. (limits h below).0; small = λ h below. (limits h below).1 };
    }
