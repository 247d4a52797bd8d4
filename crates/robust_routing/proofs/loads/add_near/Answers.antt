use Rattle.std.proofs.Common.{◌≡◌, ◌∙◌, ◌^◌, ◌≤◌, ◌<◌, ℕ, arith, ap}
use Rattle.centred_steps.specs.Ways.{AreLastLinks}
use Rattle.robust_routing.specs.Near.{amount_on, nearness_on}
use Rattle.robust_routing.specs.Sweep.{amount, nearness}
use Rattle.robust_routing.specs.Tables.{number_in}
use Rattle.robust_routing.proofs.NearLoads.{load_of_far, load_of_near}
use Rattle.robust_routing.proofs.loads.add_near.Goals as goal
use Rattle.robust_routing.proofs.loads.add_near.Goals.{then-nearness-ge-LEAST_NEARNESS, then-pair-from, else-pair-from, else-nearness-ge-LEAST_NEARNESS}

pub loop-p-preserved : goal.loop-p-preserved
loop-p-preserved c =
    let r = c.args.round.now in
    let net = c.args.round.now.net.now in
    let shares = c.args.shares.now in
    let quotients = c.args.quotients.now in
    let link = c.args.link in
    let greatest = c.args.greatest in
    let p = c.loop-p.p in
    let first = c.args.loads.now in
    let quotient = c.number-quotient.ensures.exact in
    let near : c.nearness-nearness.result ≡ nearness_on r quotients link greatest p =
    c.nearness-nearness.ensures.exact ∙ ap (nearness r.sweep greatest) quotient
    in
    elim c.if-nearness-ge-LEAST_NEARNESS.branch [
      | then-nearness-ge-LEAST_NEARNESS w ↦
          let lasts : AreLastLinks net w.if-pair-from.lasts = elim w.if-pair-from.branch [
            | then-pair-from v ↦ rw v.lasts-is v.turn.ensures.lasts
            | else-pair-from v ↦ rw v.lasts-is c.loop-p.invariant.0
          ]
          in
          let is : w.amount-amount.result ≡ amount_on r shares quotients link greatest p =
          w.amount-amount.ensures
          ∙ (ap (λ (k : ℕ). amount r.sweep k c.number-quotient.result w.number.result) near
          ∙ (ap (λ (k : ℕ). amount r.sweep (nearness_on r quotients link greatest p) k w.number.result) quotient
          ∙ ap (λ (k : ℕ). amount r.sweep (nearness_on r quotients link greatest p) (number_in quotients link p) k) w.number.ensures.exact))
          in
          let enough : 2 ^ 17 ≤ nearness_on r quotients link greatest p = omega (arith, w.if-nearness-ge-LEAST_NEARNESS.true, near) in
          rw (w.lasts-is, w.loads-is) (
            lasts,
            record { count = w.add_load_along.auto.loads ∙ c.loop-p.invariant.1.count; small = w.add_load_along.ensures.small },
            load_of_near r shares quotients link greatest p w.amount-amount.result first c.loop-p.loads w.add_load_along.new.loads w.if-pair-from.lasts
                c.loop-p.invariant.2 enough lasts is w.add_load_along.ensures.added,
          )
      | else-nearness-ge-LEAST_NEARNESS w ↦
          let short : nearness_on r quotients link greatest p < 2 ^ 17 = omega (arith, w.if-nearness-ge-LEAST_NEARNESS.false, near) in
          rw (w.lasts-is, w.loads-is) (
            c.loop-p.invariant.0,
            c.loop-p.invariant.1,
            load_of_far r shares quotients link greatest p first c.loop-p.loads c.loop-p.invariant.2 short,
          )
    ]
