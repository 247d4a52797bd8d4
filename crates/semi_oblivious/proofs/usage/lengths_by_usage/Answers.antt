use Rattle.std.proofs.Common.{rules, ◌≡◌, ℕ, ◌+◌, ◌≤◌, ◌<◌, ◌^◌, List, [], ◌∷◌, ◌++◌, All, length, map, take, get_or, arith, ap, sym, ◌∙◌, subst}
use Rattle.std.proofs.lemmas.List.{length-append, map_more}
use Rattle.std.proofs.lemmas.List.Elements.{All-get_or, All-push}
use Rattle.rate_sweeps.specs.Lengths.{greatest_number}
use Rattle.semi_oblivious.specs.Lengths.{length_by_usage}
use Rattle.semi_oblivious.proofs.usage.lengths_by_usage.Goals as goal

pub length_by_usage-requires-clause-usage : goal.length_by_usage-requires-clause-usage
length_by_usage-requires-clause-usage c = All-get_or (λ (x : ℕ). x < 2 ^ 84) c.args.usage.now c.loop-u.u-index 0 c.loop-u-test.true c.requires.small

-- one length more
more : (usage before after : List ℕ) (i : ℕ) → i < length usage →
    (length before ≡ i) × All (λ x. x ≤ 2 ^ 14) before × (before ≡ map (length_by_usage (greatest_number usage)) (take i usage)) →
    after ≡ before ++ length_by_usage (greatest_number usage) (get_or usage i 0) ∷ [] →
    (length after ≡ i + 1) × All (λ x. x ≤ 2 ^ 14) after × (after ≡ map (length_by_usage (greatest_number usage)) (take (i + 1) usage))
more usage before after i inside far pushed =
    let length_of = length_by_usage (greatest_number usage) in
    let next = length_of (get_or usage i 0) in (
      omega (arith, ap (λ (l : List ℕ). length l) pushed, length-append before (next ∷ []), far.0),
      subst (All (λ (x : ℕ). x ≤ 2 ^ 14)) (sym pushed) (All-push (λ (x : ℕ). x ≤ 2 ^ 14) before next far.1 (omega arith)),
      pushed ∙ (ap (λ (l : List ℕ). l ++ next ∷ []) far.2 ∙ sym (map_more length_of usage i 0 inside)),
    )

pub loop-u-preserved : goal.loop-u-preserved
loop-u-preserved c = more c.args.usage.now c.loop-u.lengths.items _ c.loop-u.u-index c.loop-u-test.true c.loop-u.invariant (search rules)
