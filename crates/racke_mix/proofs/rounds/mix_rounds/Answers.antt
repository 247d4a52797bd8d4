use Rattle.std.proofs.Common.{◌≡◌, ℕ, ◌+◌, ◌≤◌, ◌++◌, ◌∷◌, [], List, All, arith, ap, sym, ◌∙◌, subst}
use Rattle.multiplicative_lengths.specs.Growth.{greatest_usage, grown_multipliers}
use Rattle.racke_mix.specs.declared.round.Round.{Round}
use Rattle.racke_mix.specs.Mix.{IsTreeRound}
use Rattle.racke_mix.proofs.Mixing.{MixSoFar, mix_done, mix_more, mix_none}
use Rattle.racke_mix.proofs.rounds.mix_rounds.Goals as goal

pub loop-tree-preserved : goal.loop-tree-preserved
loop-tree-preserved c =
    let net = c.args.net.now in
    let seed = c.args.seed in
    let j = c.loop-tree._tree in
    let multipliers = c.loop-tree.multipliers.items in
    let next = c.in_ok-multipliers-2.multipliers.items in
    let rounds = c.loop-tree.rounds.items in
    let round = c.in_ok-round.round in
    let (loads, put, grows) = c.in_ok-multipliers-2.ensures in
    let grows : next ≡ grown_multipliers net loads (greatest_usage net loads) multipliers =
    grows ∙ ap (λ (m : List ℕ). grown_multipliers net loads (greatest_usage net loads) m) c.deref-in-loop-tree.ensures.value
    in
    let is = subst (λ (m : List ℕ). IsTreeRound net c.loop-tree.rng m round) c.deref.ensures.value c.in_ok-round.ensures.round in
    let pushed : c.push.new.self.items ≡ rounds ++ round ∷ [] = c.in_ok-push.ensures.items in
    subst (λ (rs : List Round). MixSoFar net seed (j + 1) c.draw_round.new.rng next rs) (sym pushed)
    (mix_more net seed j c.loop-tree.rng c.draw_round.new.rng multipliers loads next rounds round c.loop-tree.invariant is c.in_ok-round.ensures.state put grows)

pub loop-tree-init : goal.loop-tree-init
loop-tree-init c =
    subst (λ (rs : List Round). MixSoFar c.args.net.now c.args.seed 0 c.words_of-rng.result c.in_ok-multipliers.multipliers.items rs) (sym c.new-rounds.ensures.items)
    (mix_none c.args.net.now c.args.seed c.words_of-rng.result c.in_ok-multipliers.multipliers.items c.words_of-rng.ensures c.in_ok-multipliers.ensures)

pub returns : goal.returns
returns c =
    mix_done c.args.net.now c.args.seed c.loop-tree._tree c.args.trees c.loop-tree.rng c.loop-tree.multipliers.items c.loop-tree.rounds.items c.loop-tree.invariant
    (omega (arith, c.loop-tree-test.false, c.loop-tree.auto._tree-end))

pub draw_round-requires-clause-some : goal.draw_round-requires-clause-some
draw_round-requires-clause-some c = subst (All (λ (m : ℕ). 1 ≤ m)) (sym c.deref.ensures.value) c.loop-tree.invariant.far.grown.some
