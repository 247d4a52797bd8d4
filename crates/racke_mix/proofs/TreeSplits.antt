-- The tree paths of a pair, round by round, and the split of its demand over them.
use Rattle.std.proofs.Common.{◌≡◌, ℕ, ◌+◌, ◌<◌, ◌≤◌, true, List, [], ◌∷◌, ◌++◌, Some, All, length, get_or, arith, refl, ◌∙◌}
use Rattle.std.specs.Prelude.{IsTrue}
use Rattle.std.proofs.lemmas.List.Elements.{All-nil, All-push}
use Rattle.te_model.specs.declared.network.Network.{Network}
use Rattle.te_model.specs.declared.route.Pair.{Pair}
use Rattle.te_model.specs.declared.route.PairRoutes.{PairRoutes}
use Rattle.te_model.specs.declared.route.PathShare.{PathShare}
use Rattle.te_model.specs.Path.{is_path}
use Rattle.te_model.proofs.Choices.{pushed_count, pushed_each}
use Rattle.tree_embed.specs.TreePaths.{IsTreePath}
use Rattle.routing.specs.Even.{IsEvenMix}
use Rattle.routing.proofs.EvenSplits.{even_few, even_split}
use Rattle.scheme.specs.Fixed.{IsSplitBy}
use Rattle.scheme.proofs.Plans.{related}
use Rattle.racke_mix.specs.declared.round.Round.{Round}
use Rattle.racke_mix.specs.Mix.{AreTreePaths, IsMixSplit, round_at}
use Rattle.racke_mix.specs.Racke.{IsRackePlan, IsRackeRouting}

-- the tree paths of the first k rounds
pub record PathsSoFar (net : Network) (rounds : List Round) (s t k : ℕ) (paths : List (List ℕ)) : Type 0 where
  pub count : length paths ≡ k
  pub each : (j : ℕ) → j < k → IsTreePath (round_at rounds j).tree s t (Some (get_or paths j []))
  pub sound : All (λ p. IsTrue (is_path net s t p)) paths

pub paths_more : (net : Network) (rounds : List Round) (s t k : ℕ) (paths : List (List ℕ)) (path : List ℕ) → PathsSoFar net rounds s t k paths →
    IsTreePath (round_at rounds k).tree s t (Some path) → is_path net s t path ≡ true → PathsSoFar net rounds s t (k + 1) (paths ++ path ∷ [])
paths_more net rounds s t k paths path far is sound = record {
  count = pushed_count paths path k far.count;
  each = pushed_each (λ j p. IsTreePath (round_at rounds j).tree s t (Some p)) paths path [] k far.count far.each is;
  sound = All-push (λ p. IsTrue (is_path net s t p)) paths path far.sound sound;
}

pub paths_done : (net : Network) (rounds : List Round) (s t k : ℕ) (paths : List (List ℕ)) → PathsSoFar net rounds s t k paths → k ≡ length rounds →
    AreTreePaths rounds s t paths
paths_done net rounds s t k paths far done = record { count = far.count ∙ done; each = λ j below. far.each j (omega (arith, done, below)) }

pub mix_split : (net : Network) (rounds : List Round) (pair : Pair) (paths : List (List ℕ)) (merged : List PathShare) → 1 ≤ length rounds → length rounds ≤ 16 →
    AreTreePaths rounds pair.src pair.dst paths → All (λ p. IsTrue (is_path net pair.src pair.dst p)) paths → IsEvenMix paths merged →
    IsSplitBy (IsMixSplit rounds) 16 net (record { pair = pair; paths = merged })
mix_split net rounds pair paths merged some few are sound so = record {
  split = even_split net pair paths merged (omega (arith, are.count, some)) (omega (arith, are.count, few)) sound so;
  few = omega (arith, even_few paths merged so, are.count, few);
  by_rule = (paths, are, so);
}

-- the plan's own routing stands in the relation
pub racke_related : (trees seed : ℕ) (net : Network) (pairs : List Pair) (rounds : List Round) (fixed routes : List PairRoutes) →
    IsRackePlan trees seed net pairs rounds fixed → routes ≡ fixed → IsRackeRouting trees seed net rounds fixed routes
racke_related trees seed net pairs rounds fixed routes is same =
    record { mix = is.mix; routing = related (IsMixSplit rounds) 16 net pairs fixed routes is.routing same }
