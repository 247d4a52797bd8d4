use Rattle.std.proofs.Common.{◌≡◌, ◌^◌, ◌≤◌, ℕ, List, length, replicate, All, arith, ap, rules, sym, ◌∙◌, subst}
use Rattle.std.proofs.lemmas.List.{length-replicate}
use Rattle.std.proofs.lemmas.List.Elements.{All-replicate}
use Rattle.certificate_tests.proofs.update_plan_tests.even_matrix.Goals as goal

pub returns : goal.returns
returns c =
    let count = c.args.count in
    let each = c.from.result in
    let made : c.in_ok-demand.demand.items ≡ replicate count each = search rules in
    let same : c.new.result ≡ replicate count each = c.new.ensures ∙ made in
    let small : each ≤ 2 ^ 32 = omega (arith, c.from.ensures, c.ranges.demand) in
    record {
      count = ap (λ (l : List ℕ). length l) same ∙ length-replicate {A = ℕ} count each;
      small = subst (λ (l : List ℕ). All (λ d. d ≤ 2 ^ 32) l) (sym same) (All-replicate (λ d. d ≤ 2 ^ 32) count each small);
    }
