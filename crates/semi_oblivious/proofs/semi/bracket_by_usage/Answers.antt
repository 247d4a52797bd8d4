use Rattle.std.proofs.Common.{◌≡◌, ℕ, ◌≤◌, ◌^◌, List, All, length, arith, sym, subst}
use Rattle.std.proofs.lemmas.List.Elements.{All-push}
use Rattle.te_model.specs.Network.{link_count}
use Rattle.routing.specs.Routes.{AreDemands}
use Rattle.semi_oblivious.proofs.semi.bracket_by_usage.Goals as goal

pub usage_lengths-requires-clause-pairs : goal.usage_lengths-requires-clause-pairs
usage_lengths-requires-clause-pairs c = omega (arith, c.requires.count, c.requires.pairs)

pub usage_lengths-requires-clause-demands : goal.usage_lengths-requires-clause-demands
usage_lengths-requires-clause-demands c = subst (λ n. AreDemands n c.args.matrix.now.demand) (sym c.requires.count) c.requires.demands

pub bracket_on_paths-requires-clause-lengths : goal.bracket_on_paths-requires-clause-lengths
bracket_on_paths-requires-clause-lengths c =
    let fits = λ (l : List ℕ). length l ≡ link_count c.args.net.now in
    subst (All fits) (sym {A = List (List ℕ)} c.deref.ensures.value)
    (subst (All fits) (sym {A = List (List ℕ)} c.in_ok-push.ensures.items)
    (All-push fits c.in_ok-lengths.lengths.items c.args.offered c.in_ok-lengths.ensures.count c.requires.lengths))

pub bracket_on_paths-requires-clause-limit : goal.bracket_on_paths-requires-clause-limit
bracket_on_paths-requires-clause-limit c =
    let are_small = λ (l : List ℕ). All (λ x. x ≤ 2 ^ 28) l in
    subst (All are_small) (sym {A = List (List ℕ)} c.deref.ensures.value)
    (subst (All are_small) (sym {A = List (List ℕ)} c.in_ok-push.ensures.items)
    (All-push are_small c.in_ok-lengths.lengths.items c.args.offered c.in_ok-lengths.ensures.small c.requires.limit))
