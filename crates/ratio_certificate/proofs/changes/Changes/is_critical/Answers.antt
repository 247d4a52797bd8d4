use Rattle.std.proofs.Common.{◌≡◌, ◌<◌, true, false, length, arith, sym, subst, ◌∙◌, inl, inr}
use Rattle.std.proofs.lemmas.Bool.{cases_lt}
use Rattle.best_blocks.specs.Rows.{is_marked}
use Rattle.ratio_certificate.specs.Changing.{IsTightFrom}
use Rattle.ratio_certificate.proofs.CriticalLinks.{tight_read}
use Rattle.ratio_certificate.proofs.changes.Changes.is_critical.Goals as goal
use Rattle.ratio_certificate.proofs.changes.Changes.is_critical.Goals.{else-self-i-via-then-self-i+else-is_tight_in, else-self-i-via-else-self-i}

pub returns-then-is_tight_in-clause-some : goal.returns-then-is_tight_in-clause-some
returns-then-is_tight_in-clause-some c = λ yes.
    let it = c.args.self.now in
    let inside : c.loop-i.i < length it.metric.now.rows = omega (arith, c.loop-i-test.true, c.requires.changes.critical.count, c.requires.changes.metric.rows_are.count) in
    let same =
    tight_read it.problem.net.now it.metric.now.rows c.as_slice-rows.result.now c.index-rows-i.result c.as_slice.result.now c.loop-i.i c.args.link
    c.as_slice-weights.result.now it.metric.now.weights inside c.as_slice-rows.ensures c.index-rows-i.is c.as_slice.ensures c.as_slice-weights.ensures
    in
    (c.loop-i.i, c.if-self-i.true, sym same ∙ sym c.is_tight_in.ensures ∙ c.if-is_tight_in.true)

pub loop-i-preserved : goal.loop-i-preserved
loop-i-preserved c = λ k below marked tight.
    let it = c.args.self.now in
    let i = c.loop-i.i in
    let inside : i < length it.metric.now.rows = omega (arith, c.loop-i-test.true, c.requires.changes.critical.count, c.requires.changes.metric.rows_are.count) in
    elim (cases_lt k i) [
      | inl lt ↦ c.loop-i.invariant k lt marked tight
      | inr ge ↦
          let last : k ≡ i = omega (arith, ge, below) in
          let here : IsTightFrom it i c.args.link = subst (λ j. IsTightFrom it j c.args.link) last tight in
          elim c.else-self-i.branch [
            | else-self-i-via-then-self-i+else-is_tight_in w ↦
                let same =
                tight_read it.problem.net.now it.metric.now.rows c.as_slice-rows.result.now w.index-rows-i.result w.as_slice.result.now i c.args.link
                c.as_slice-weights.result.now it.metric.now.weights inside c.as_slice-rows.ensures w.index-rows-i.is w.as_slice.ensures c.as_slice-weights.ensures
                in
                let contrary : false ≡ true = sym w.if-is_tight_in.false ∙ w.is_tight_in.ensures ∙ same ∙ here in
                cc
            | else-self-i-via-else-self-i w ↦
                let mark : is_marked it.critical.now i ≡ true = subst (λ j. is_marked it.critical.now j ≡ true) last marked in
                let contrary : false ≡ true = sym w.if-self-i.false ∙ mark in
                cc
          ]
    ]
