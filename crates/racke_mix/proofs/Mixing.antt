-- The rounds of the mix, one after the other.
use Rattle.std.proofs.Common.{◌≡◌, ℕ, ◌+◌, ◌<◌, List, [], ◌∷◌, ◌++◌, All, length, arith, refl, ap, sym, ◌∙◌, subst}
use Rattle.std.proofs.lemmas.List.{get_or_append_left, get_or_push}
use Rattle.std.proofs.lemmas.List.Elements.{All-from_get_or}
use Rattle.rand_chacha.specs.ChaCha.{ChaCha}
use Rattle.te_model.specs.declared.network.Network.{Network}
use Rattle.te_model.specs.Network.{node_count}
use Rattle.te_model.proofs.Choices.{pushed_count, pushed_each}
use Rattle.random_words.specs.Words.{generator}
use Rattle.random_words.proofs.Moving.{generator_round}
use Rattle.multiplicative_lengths.specs.Growth.{first_multipliers, greatest_usage, grown_multipliers}
use Rattle.multiplicative_lengths.proofs.Rounds.{RoundsSoFar, rounds_more, rounds_none}
use Rattle.racke_mix.specs.declared.round.Round.{Round}
use Rattle.racke_mix.specs.Mix.{AreTreeLoads, IsMix, IsTreeRound, generator_at, loads_at, no_round, round_at}

-- the round of these multipliers, with its place among the rounds of the seed
abbrev pub IsRoundAt : Network → ℕ → ℕ → List ℕ → Round → Type 0
IsRoundAt net seed i multipliers round = IsTreeRound net (generator_at net seed i) multipliers round

-- the first j rounds with the loads of their trees, and what the next one begins with
pub record MixSoFar (net : Network) (seed j : ℕ) (rng : ChaCha) (multipliers : List ℕ) (rounds : List Round) : Type 0 where
  pub loads : List (List ℕ)
  pub loads_count : length loads ≡ j
  pub are_loads : (i : ℕ) → i < j → AreTreeLoads net (round_at rounds i).tree (loads_at loads i)
  pub rng_is : rng ≡ generator_at net seed j
  pub far : RoundsSoFar Round no_round (IsRoundAt net seed) net (loads_at loads) (λ i. greatest_usage net (loads_at loads i)) j multipliers rounds

pub mix_none : (net : Network) (seed : ℕ) (rng : ChaCha) (multipliers : List ℕ) → rng ≡ generator seed 0 0 → multipliers ≡ first_multipliers net →
    MixSoFar net seed 0 rng multipliers []
mix_none net seed rng multipliers start first = record {
  loads = [];
  loads_count = refl;
  are_loads = λ i below. absurd (omega arith);
  rng_is = start ∙ ap (generator seed 0) (omega arith);
  far = rounds_none Round no_round (IsRoundAt net seed) net (loads_at []) (λ i. greatest_usage net (loads_at [] i)) multipliers first;
}

pub mix_more : (net : Network) (seed j : ℕ) (rng rng' : ChaCha) (multipliers loads next : List ℕ) (rounds : List Round) (round : Round) →
    MixSoFar net seed j rng multipliers rounds → IsTreeRound net rng multipliers round →
    rng' ≡ record rng { word_pos = rng.word_pos + (node_count net + 1) } → AreTreeLoads net round.tree loads →
    next ≡ grown_multipliers net loads (greatest_usage net loads) multipliers →
    MixSoFar net seed (j + 1) rng' next (rounds ++ round ∷ [])
mix_more net seed j rng rng' multipliers loads next rounds round so is on put grows = record {
  loads = so.loads ++ loads ∷ [];
  loads_count = pushed_count so.loads loads j so.loads_count;
  are_loads = pushed_each (λ i (r : Round). AreTreeLoads net r.tree (loads_at (so.loads ++ loads ∷ []) i)) rounds round no_round j so.far.count
      (λ i below. subst (AreTreeLoads net (round_at rounds i).tree) (kept i below) (so.are_loads i below))
      (subst (AreTreeLoads net round.tree) (sym new) put);
  rng_is = generator_round seed 0 (node_count net + 1) j rng rng' so.rng_is on;
  far = rounds_more Round no_round (IsRoundAt net seed) net (loads_at so.loads) (loads_at (so.loads ++ loads ∷ []))
      (λ i. greatest_usage net (loads_at so.loads i)) (λ i. greatest_usage net (loads_at (so.loads ++ loads ∷ []) i)) j multipliers next rounds round so.far
      kept (λ i below. ap (greatest_usage net) (kept i below)) (subst (λ (g : ChaCha). IsTreeRound net g multipliers round) so.rng_is is) (omega arith)
      (grows ∙ ap (λ l. grown_multipliers net l (greatest_usage net l) multipliers) (sym new));
}
  where
    kept : (i : ℕ) → i < j → loads_at so.loads i ≡ loads_at (so.loads ++ loads ∷ []) i
    kept i below = sym (get_or_append_left so.loads (loads ∷ []) [] i (omega (arith, so.loads_count, below)))

    new : loads_at (so.loads ++ loads ∷ []) j ≡ loads
    new = get_or_push so.loads loads [] j so.loads_count

pub mix_done : (net : Network) (seed j trees : ℕ) (rng : ChaCha) (multipliers : List ℕ) (rounds : List Round) →
    MixSoFar net seed j rng multipliers rounds → j ≡ trees → IsMix net trees seed rounds
mix_done net seed j trees rng multipliers rounds so done = record {
  count = so.far.count ∙ done;
  loads = so.loads;
  are_loads = λ i below. so.are_loads i (omega (arith, done, below));
  each = λ i below. so.far.each i (omega (arith, done, below));
}

-- the trees of the mix are of its network
pub own_trees : (net : Network) (trees seed : ℕ) (rounds : List Round) → IsMix net trees seed rounds → All (λ r. r.tree.network ≡ net) rounds
own_trees net trees seed rounds mix = All-from_get_or (λ (r : Round). r.tree.network ≡ net) rounds no_round (λ j below.
    ap (λ t. t.network) (mix.each j (omega (arith, mix.count, below))).tree)
