-- Each network and seed have a mix of any number of trees.
use Rattle.std.proofs.Common.{◌≡◌, ℕ, zero, suc, ◌+◌, ◌^◌, ◌<◌, ◌≤◌, true, List, [], ◌∷◌, ◌++◌, Some, All, length, arith, refl, ap, sym, ◌∙◌, subst}
use Rattle.rand_chacha.specs.ChaCha.{ChaCha}
use Rattle.te_model.specs.declared.network.Network.{Network}
use Rattle.te_model.specs.Network.{capacity_of, head_of, is_well_formed, link_count, node_count, tail_of}
use Rattle.te_model.proofs.Choices.{list_exists}
use Rattle.te_model.proofs.WellFormed.{links_join}
use Rattle.random_words.specs.Words.{generator, word_on}
use Rattle.multiplicative_lengths.specs.Growth.{first_multipliers, greatest_usage, grown_multipliers, length_of, lengths_of}
use Rattle.multiplicative_lengths.specs.Loads.{loads_of}
use Rattle.multiplicative_lengths.proofs.EachLink.{count_each}
use Rattle.multiplicative_lengths.proofs.LengthLimits.{lengths_limit, lengths_some}
use Rattle.multiplicative_lengths.proofs.Multiplying.{HaveGrown, first_grown, next_grown}
use Rattle.multiplicative_lengths.proofs.Rounds.{multipliers_grown}
use Rattle.tree_embed.specs.Embedding.{Embedding, IsEmbedding}
use Rattle.tree_embed.specs.TreePaths.{IsTreePath}
use Rattle.tree_embed.proofs.Existence.{tree_paths_exist}
use Rattle.racke_mix.specs.declared.round.Round.{Round}
use Rattle.racke_mix.specs.Draws.{scale_by}
use Rattle.racke_mix.specs.Laws.{MixesExist}
use Rattle.racke_mix.specs.Mix.{AreTreeLoads, IsMix, IsTreeRound, generator_at, loads_at, round_at, tree_multipliers}
use Rattle.racke_mix.proofs.LinkLimits.{ends_apart}
use Rattle.racke_mix.proofs.Mixing.{MixSoFar, mix_done, mix_more, mix_none}
use Rattle.racke_mix.proofs.OrdersExist.{order_exists}
use Rattle.racke_mix.proofs.PathLinks.{link_is_path}

-- a tree has loads
tree_loads_exist : (tree : Embedding) → IsEmbedding tree → (loads : List ℕ) × AreTreeLoads tree.network tree loads
tree_loads_exist tree is =
    let net = tree.network in
    let (paths, count, each) = list_exists (λ h path. IsTreePath tree (tail_of net h) (head_of net h) (Some path)) [] (link_count net) path in
    (loads_of net (capacity_of net) paths, (paths, record { count = count; each = each }, refl))
  where
    path : (h : ℕ) → h < link_count tree.network → (path : List ℕ) × IsTreePath tree (tail_of tree.network h) (head_of tree.network h) (Some path)
    path h below =
        let net = tree.network in
        let (tail_below, head_below) = links_join net is.formed h below in
        let (p, leads, sound) =
        tree_paths_exist tree is (tail_of net h) (head_of net h) tail_below head_below (ends_apart net h is.formed below) (link_is_path net h below)
        in
        (p, leads)

-- the tree of a round is within the limits
embedding_of_round : (net : Network) (rng : ChaCha) (j : ℕ) (multipliers : List ℕ) (round : Round) → is_well_formed net ≡ true → HaveGrown net j multipliers →
    IsTreeRound net rng multipliers round → IsEmbedding round.tree
embedding_of_round net rng j multipliers round formed far is = subst IsEmbedding (sym is.tree) (record {
  formed = formed;
  count = ap (λ (l : List ℕ). length l) is.lengths ∙ count_each net (length_of net multipliers);
  small = subst (λ l. All (λ x. x ≤ 2 ^ 28) l) (sym is.lengths) (lengths_limit net multipliers);
  positive = subst (λ l. All (λ x. 1 ≤ x) l) (sym is.lengths) (lengths_some net multipliers formed far.count far.some);
  ordered = is.order.nodes;
  low = omega (arith, is.scale);
  high = omega (arith, is.scale);
})

-- .. of a mix
pub embedding_of_mix : (net : Network) (trees seed : ℕ) (rounds : List Round) → is_well_formed net ≡ true → IsMix net trees seed rounds →
    (j : ℕ) → j < trees → IsEmbedding (round_at rounds j).tree
embedding_of_mix net trees seed rounds formed mix j below =
    let loads = mix.loads in
    let far = multipliers_grown net (loads_at loads) (λ i. greatest_usage net (loads_at loads i)) j (λ i lt. omega arith) in
    embedding_of_round net (generator_at net seed j) j (tree_multipliers net loads j) (round_at rounds j) formed far (mix.each j below)

-- multipliers have a round
round_exists : (net : Network) (rng : ChaCha) (multipliers : List ℕ) → (round : Round) × IsTreeRound net rng multipliers round
round_exists net rng multipliers =
    let n = node_count net in
    let lengths = lengths_of net multipliers in
    let scale = scale_by (word_on rng n) in
    let (order, is) = order_exists (word_on rng) n in (
      record { lengths = lengths; order = order; scale = scale; tree = record { network = net; lengths = lengths; order = order; scale = scale } },
      record { lengths = refl; order = is; scale = refl; tree = refl },
    )

-- the first j rounds, and what the next one begins with
record FirstRounds (net : Network) (seed j : ℕ) : Type 0 where
  rng : ChaCha
  multipliers : List ℕ
  rounds : List Round
  so : MixSoFar net seed j rng multipliers rounds
  far : HaveGrown net j multipliers

first_rounds : (net : Network) → is_well_formed net ≡ true → (seed j : ℕ) → FirstRounds net seed j
first_rounds net formed seed zero = record {
  rng = generator seed 0 0;
  multipliers = first_multipliers net;
  rounds = [];
  so = mix_none net seed (generator seed 0 0) (first_multipliers net) refl refl;
  far = first_grown net (first_multipliers net) refl;
}
first_rounds net formed seed (suc j) =
    let r = first_rounds net formed seed j in
    let e : j + 1 ≡ suc j = omega arith in
    let (round, is) = round_exists net r.rng r.multipliers in
    let own : round.tree.network ≡ net = ap (λ t. t.network) is.tree in
    let (loads, put) =
    subst (λ n. (loads : List ℕ) × AreTreeLoads n round.tree loads) own
    (tree_loads_exist round.tree (embedding_of_round net r.rng j r.multipliers round formed r.far is))
    in
    let next = grown_multipliers net loads (greatest_usage net loads) r.multipliers in
    let rng' : ChaCha = record r.rng { word_pos = r.rng.word_pos + (node_count net + 1) } in
    record {
      rng = rng';
      multipliers = next;
      rounds = r.rounds ++ round ∷ [];
      so = subst (λ k. MixSoFar net seed k rng' next (r.rounds ++ round ∷ [])) e
          (mix_more net seed j r.rng rng' r.multipliers loads next r.rounds round r.so is refl put refl);
      far = subst (λ k. HaveGrown net k next) e (next_grown net j loads (greatest_usage net loads) r.multipliers next r.far (omega arith) refl);
    }

pub mixes_exist : MixesExist
mixes_exist net formed trees seed =
    let r = first_rounds net formed seed trees in
    (r.rounds, mix_done net seed trees trees r.rng r.multipliers r.rounds r.so refl)
