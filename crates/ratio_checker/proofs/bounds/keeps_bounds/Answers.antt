use Rattle.std.proofs.Common.{◌≡◌, ◌∙◌, ap, arith, subst, List, ℕ, nat_le, slice_index}
use Rattle.te_model.specs.Certificate.{minus_of, plus_of}
use Rattle.te_model.specs.Demand.{lower_of, upper_of}
use Rattle.te_model.specs.Inequalities.{keeps_bounds}
use Rattle.ratio_checker.proofs.Weighed.{keeps_by_sums, weighed_more}
use Rattle.ratio_checker.proofs.bounds.keeps_bounds.Goals as goal

pub loop-p-preserved : goal.loop-p-preserved
loop-p-preserved c =
    let i = c.loop-p.invariant in
    let p = c.loop-p.p in
    let set = c.args.set.now in
    let block = c.args.block.now in
    let more : c.number_at-more.result ≡ plus_of block p =
    c.number_at-more.ensures ∙ ap (λ (ns : List ℕ). slice_index ns p) c.as_slice.ensures in
    let less : c.number_at-less.result ≡ minus_of block p =
    c.number_at-less.ensures ∙ ap (λ (ns : List ℕ). slice_index ns p) c.as_slice-in-loop-p.ensures in
    let gain = weighed_more p c.loop-p.gain c.upper.result c.number_at-more.result (upper_of set) (plus_of block) i.0 i.2 c.upper.ensures more
    (c.requires.upper p) (c.requires.block.plus p) in
    let loss = weighed_more p c.loop-p.loss c.lower.result c.number_at-less.result (lower_of set) (minus_of block) i.1 i.3 c.lower.ensures less
    (c.requires.lower p) (c.requires.block.minus p) in
    (gain.0, loss.0, gain.1, loss.1)

pub returns : goal.returns
returns c =
    let done : c.loop-p.p ≡ c.args.pairs = omega (arith, c.loop-p-test.false, c.loop-p.auto.p-end) in
    subst (λ n. nat_le c.loop-p.gain c.loop-p.loss ≡ keeps_bounds c.args.set.now n c.args.block.now) done
    (keeps_by_sums c.args.set.now c.loop-p.p c.args.block.now c.loop-p.gain c.loop-p.loss c.loop-p.invariant.0 c.loop-p.invariant.1)
