use Rattle.std.proofs.Common.{rules, ◌≡◌, ℕ, ◌+◌, ◌≤◌, ◌^◌, List, length, map, add-one, arith, ap, sym, ◌∙◌, subst, All}
use Rattle.std.proofs.lemmas.List.Elements.{All-nil, All-push}
use Rattle.te_model.specs.Network.{link_count}
use Rattle.te_model.proofs.Choices.{made_more}
use Rattle.rate_sweeps.specs.Lengths.{loads_by_capacity}
use Rattle.semi_oblivious.specs.Lengths.{lengths_by_usage, square_of, usage_lengths}
use Rattle.semi_oblivious.proofs.usage.usage_lengths.Goals as goal

pub loop-init : goal.loop-init
loop-init c =
    let links = link_count c.args.net.now in
    let none = sym {A = List (List ℕ)} c.in_ok-lists.ensures.items in (
      c.in_ok-lengths.ensures.count ∙ (ap (λ (l : List ℕ). length l) c.deref-2.ensures.value ∙ c.in_ok-usage.ensures.count),
      c.in_ok-lengths.ensures.small,
      subst (All (λ l. length l ≡ links)) none (All-nil (λ (l : List ℕ). length l ≡ links)),
      subst (All (λ l. All (λ x. x ≤ 2 ^ 28) l)) none (All-nil (λ (l : List ℕ). All (λ x. x ≤ 2 ^ 28) l)),
      c.in_ok-lengths.ensures.lengths ∙ ap (λ (u : List ℕ). lengths_by_usage u 0) c.deref-2.ensures.value,
      c.in_ok-lists.ensures.items,
    )

pub loop-preserved : goal.loop-preserved
loop-preserved c =
    let usage = c.in_ok-usage.usage.items in
    let n = c.loop.counter in
    let before = c.loop.lists.items in
    let next : c.in_ok-next.next.items ≡ lengths_by_usage usage (n + 1) =
    c.in_ok-next.ensures.squares ∙ (ap (map square_of) (c.deref-in-loop.ensures.value ∙ c.loop.invariant.4) ∙ ap (lengths_by_usage usage) (sym (add-one n)))
    in
    let made : c.new.result ≡ lengths_by_usage usage n = c.new.ensures ∙ c.loop.invariant.4 in
    let pushed = sym {A = List (List ℕ)} c.in_ok-push.ensures.items in
    let count : length c.new.result ≡ link_count c.args.net.now = ap (λ (l : List ℕ). length l) c.new.ensures ∙ c.loop.invariant.0 in
    let small : All (λ x. x ≤ 2 ^ 28) c.new.result =
    subst (λ (l : List ℕ). All (λ x. x ≤ 2 ^ 28) l) (sym {A = List ℕ} c.new.ensures) (λ k d below. omega (arith, c.loop.invariant.1 k d below))
    in (
      search rules,
      c.in_ok-next.ensures.small,
      subst (All (λ l. length l ≡ link_count c.args.net.now)) pushed (All-push (λ l. length l ≡ link_count c.args.net.now) before c.new.result c.loop.invariant.2 count),
      subst (All (λ l. All (λ x. x ≤ 2 ^ 28) l)) pushed (All-push (λ l. All (λ x. x ≤ 2 ^ 28) l) before c.new.result c.loop.invariant.3 small),
      next,
      made_more (lengths_by_usage usage) n c.new.result before c.push.new.self.items c.loop.invariant.5 c.in_ok-push.ensures.items made,
    )

pub returns-clause-exact : goal.returns-clause-exact
returns-clause-exact c =
    let usage = c.in_ok-usage.usage.items in
    let seven : c.loop.counter ≡ 7 = omega arith in
    let of_loads = c.in_ok-usage.ensures.usage ∙ ap (loads_by_capacity c.args.net.now) c.deref.ensures.value in (
      c.in_ok-loads.loads.items,
      c.in_ok-loads.ensures.loads,
      c.loop.invariant.5 ∙ (ap (λ (n : ℕ). usage_lengths n usage) seven ∙ ap (usage_lengths 7) of_loads),
    )
