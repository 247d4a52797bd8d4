use Rattle.std.proofs.Common.{inl, inr, ◌≡◌, ℕ, ◌+◌, ◌<◌, ◌≤◌, arith, ap, ◌∙◌}
use Rattle.std.proofs.lemmas.Bool.{cases_lt}
use Rattle.std.proofs.lemmas.List.{get_or_default}
use Rattle.te_model.specs.declared.route.PathShare.{PathShare}
use Rattle.shortest_path.specs.Paths.{sum_along}
use Rattle.routing.specs.Merge.{no_path}
use Rattle.rate_sweeps.specs.Choices.{IsFirstLeastPlace, cost_at}
use Rattle.rate_sweeps.proofs.paths.cheapest.Goals as goal
use Rattle.rate_sweeps.proofs.paths.cheapest.Goals.{then-sum-least, else-sum-least}

-- a place more, at which the number is less than at the first least place of those before
taken : (number : ℕ → ℕ) (k place : ℕ) → IsFirstLeastPlace number k place → number k < number place → IsFirstLeastPlace number (k + 1) k
taken number k place is less = record {
  least = λ j below. elim (cases_lt j k) [
    | inl lt ↦ omega (arith, is.least j lt, less)
    | inr ge ↦ let same : j ≡ k = omega (arith, below, ge) in omega (arith, ap number same)
  ];
  first = λ j below. omega (arith, is.least j below, less);
}

-- or no less
kept : (number : ℕ → ℕ) (k place : ℕ) → IsFirstLeastPlace number k place → number place ≤ number k → IsFirstLeastPlace number (k + 1) place
kept number k place is le = record {
  least = λ j below. elim (cases_lt j k) [
    | inl lt ↦ is.least j lt
    | inr ge ↦ let same : j ≡ k = omega (arith, below, ge) in omega (arith, ap number same, le)
  ];
  first = is.first;
}

pub loop-k-preserved : goal.loop-k-preserved
loop-k-preserved c =
    let lengths = c.args.lengths.now in
    let paths = c.args.paths.now in
    let k = c.loop-k.k in
    let cost = cost_at lengths paths in
    let so = c.loop-k.invariant in
    let sum : c.length_along-sum.result ≡ cost k =
    c.length_along-sum.ensures.sum
    ∙ ap (sum_along lengths) (c.as_slice-in-loop-k.ensures ∙ ap (λ (s : PathShare). s.links) (get_or_default paths k c.index-paths-k.result no_path c.loop-k-test.true))
    in
    elim c.if-sum-least.branch [
      | then-sum-least w ↦
          let less : cost k < cost c.loop-k.place = omega (arith, w.if-sum-least.true, sum, so.2) in
          rw (w.place-is, w.least-is) (c.loop-k-test.true, taken cost k c.loop-k.place so.1 less, sum)
      | else-sum-least w ↦
          let le : cost c.loop-k.place ≤ cost k = omega (arith, w.if-sum-least.false, sum, so.2) in
          rw (w.place-is, w.least-is) (so.0, kept cost k c.loop-k.place so.1 le, so.2)
    ]
