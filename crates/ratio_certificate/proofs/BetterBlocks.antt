-- Changes of one weight of a block: what their best blocks are and need.
use Rattle.std.proofs.Common.{◌≡◌, ℕ, ◌+◌, ◌*◌, ◌/◌, ◌^◌, ◌<◌, ◌≤◌, true, List, length, arith, sym, subst, ◌∙◌, inl, inr, set, slice_index}
use Rattle.std.proofs.lemmas.Bool.Decides.{nat_tests}
use Rattle.std.proofs.lemmas.List.{length-set}
use Rattle.std.proofs.lemmas.List.Elements.{All-set}
use Rattle.std.specs.Prelude.{All}
use Rattle.te_model.specs.declared.network.Network.{Network}
use Rattle.te_model.specs.declared.route.PairRoutes.{PairRoutes}
use Rattle.te_model.specs.declared.certificate.Block.{Block}
use Rattle.te_model.specs.declared.demand.DemandSet.{DemandSet}
use Rattle.te_model.specs.Network.{is_well_formed, link_count}
use Rattle.te_model.specs.Validity.{has_block_numbers}
use Rattle.te_model.proofs.Valid.{block_small}
use Rattle.te_model.proofs.WellFormed.{capacities_positive, few_nodes}
use Rattle.best_blocks.specs.declared.metric.Metric.{Metric}
use Rattle.best_blocks.specs.declared.sharing.SharedLink.{SharedLink}
use Rattle.best_blocks.specs.Best.{IsBestBlock}
use Rattle.best_blocks.specs.Conditions.{IsRoutingWithin}
use Rattle.best_blocks.specs.Metric.{IsMetric}
use Rattle.best_blocks.specs.Need.{need_of, HasNumbers}
use Rattle.best_blocks.specs.Scale.{HasNoScale}
use Rattle.best_blocks.specs.Sharing.{IsSharedLink}
use Rattle.best_blocks.proofs.BlockValid.{best_valid}
use Rattle.best_blocks.proofs.NeedLaws.{need_of_block, needs_are_one}
use Rattle.best_blocks.proofs.NoBest.{no_best_block}
use Rattle.best_blocks.proofs.Scaled.{needed_distances}
use Rattle.best_blocks.proofs.ValidNumbers.{block_numbers}
use Rattle.ratio_certificate.specs.Better.{IsBetterBlock}
use Rattle.ratio_certificate.specs.BlockChanges.{HasNoBetterStep, HasNoBetterWith, IsBestWith}
use Rattle.ratio_certificate.specs.Polished.{HasNoBetterChange, ImprovesBy64th, IsChange, IsDoublingOrHalving}
use Rattle.ratio_certificate.proofs.Certificates.{head_of_set}
use Rattle.ratio_certificate.proofs.Weighed.{all_small, each_small}

-- the weights of a block with its numbers
pub weights_small : (net : Network) (block : Block) → HasNumbers net block → All (λ w. w ≤ 2 ^ 28) block.weights
weights_small net block has =
    all_small block.weights (link_count net) (2 ^ 28) has.weights (λ h below. (block_small net block has.numbers has.small).weights h)

step_small : (old new : ℕ) → old ≤ 2 ^ 28 → IsDoublingOrHalving old new → new ≤ 2 ^ 28
step_small old new small (inl (some, few, is)) = omega (arith, few, is)
step_small old new small (inr (two, is)) = omega (arith, small, two, is)

-- a step of a weight stays within the limit
pub stepped_small : (net : Network) (block : Block) (h weight : ℕ) → HasNumbers net block → IsDoublingOrHalving (slice_index block.weights h) weight → weight ≤ 2 ^ 28
stepped_small net block h weight has step =
    step_small (slice_index block.weights h) weight ((block_small net block has.numbers has.small).weights h) step

-- a change keeps weights within the limit
pub change_small : (old new : List ℕ) → IsChange old new → All (λ w. w ≤ 2 ^ 28) old → All (λ w. w ≤ 2 ^ 28) new
change_small old new change small =
    let few = step_small (slice_index old change.link) change.weight (each_small old small change.link) change.step in
    subst (All (λ w. w ≤ 2 ^ 28)) (sym change.new_is) (All-set (λ w. w ≤ 2 ^ 28) old change.link change.weight few small)

-- the link of a block with its numbers
pub link_inside : (net : Network) (block : Block) → HasNumbers net block → block.link < link_count net
link_inside net block has =
    let numbers : has_block_numbers net block ≡ true = has.numbers in
    grind (arith, nat_tests)

-- the numbers of the best block of changed weights
pub numbers_with : (net : Network) (routes : List PairRoutes) (wanted : DemandSet) (old : Block) (h weight : ℕ) (new : Block) → is_well_formed net ≡ true →
    IsRoutingWithin net routes → HasNumbers net old → IsDoublingOrHalving (slice_index old.weights h) weight → IsBestWith net routes wanted old h weight new →
    HasNumbers net new
numbers_with net routes wanted old h weight new formed within has step best =
    let weights = set old.weights h weight in
    let head = head_of_set net routes wanted in
    let small = All-set (λ w. w ≤ 2 ^ 28) old.weights h weight (stepped_small net old h weight has step) (weights_small net old has) in
    block_numbers head new
    (best_valid head old.link weights new formed within (few_nodes net formed) (link_inside net old has) (length-set old.weights h weight ∙ has.weights) small best)

-- a best block of changed weights that improves the need
pub better_with : (net : Network) (routes : List PairRoutes) (wanted : DemandSet) (old : Block) (h weight : ℕ) (new : Block) → HasNumbers net old →
    h < link_count net → IsDoublingOrHalving (slice_index old.weights h) weight → IsBestWith net routes wanted old h weight new →
    ImprovesBy64th (need_of net old) (need_of net new) → IsBetterBlock net routes wanted old new
better_with net routes wanted old h weight new has below step best better = record {
  link_is = best.link_is;
  change = record {
    link = h;
    within = omega (arith, below, has.weights);
    weight = weight;
    step = step;
    new_is = best.weights_are;
  };
  best = subst (λ e. IsBestBlock net routes wanted e new.weights new) (sym best.link_is)
      (subst (λ (ws : List ℕ). IsBestBlock net routes wanted old.link ws new) (sym best.weights_are) best);
  better = better;
}

-- the same of needs as they were reckoned
pub improves_read : (x y need other : ℕ) → x ≡ need → y ≡ other → ImprovesBy64th x y → ImprovesBy64th need other
improves_read x y need other is_x is_y better = (omega (arith, better.0, is_x, is_y), omega (arith, better.1, is_x, is_y))

-- where one best block of the weights does not improve the need, none does
pub no_better_with : (net : Network) (routes : List PairRoutes) (wanted : DemandSet) (old : Block) (h weight : ℕ) (new : Block) → is_well_formed net ≡ true →
    HasNumbers net old → IsBestWith net routes wanted old h weight new → (ImprovesBy64th (need_of net old) (need_of net new) → ⊥) →
    HasNoBetterWith net routes wanted old h weight
no_better_with net routes wanted old h weight new formed has best worse alike is better =
    let e = old.link in
    let weights = set old.weights h weight in
    let same : need_of net alike ≡ need_of net new =
    needs_are_one net routes wanted e weights (need_of net alike) (need_of net new) (capacities_positive net formed e (link_inside net old has))
    (need_of_block net routes wanted e weights alike is) (need_of_block net routes wanted e weights new best)
    in
    worse (subst (ImprovesBy64th (need_of net old)) same better)

-- weights without a scale have no best block
pub no_best_under : (net : Network) (routes : List PairRoutes) (wanted : DemandSet) (l : SharedLink) (m : Metric) (e : ℕ) (weights : List ℕ) →
    IsRoutingWithin net routes → IsSharedLink net routes wanted l → IsMetric net routes l.marks m → l.link ≡ e → m.weights ≡ weights →
    HasNoScale wanted (length routes) (slice_index l.shares) (slice_index m.distances) → (new : Block) → IsBestBlock net routes wanted e weights new → ⊥
no_best_under net routes wanted l m e weights within shared metric link_is weights_are none new best =
    let there = subst (λ k. IsBestBlock net routes wanted k weights new) (sym link_is) best in
    let here = subst (λ (ws : List ℕ). IsBestBlock net routes wanted l.link ws new) (sym weights_are) there in
    no_best_block net routes wanted l.link m.weights (slice_index l.shares) (slice_index m.distances) shared.shares_are.each
    (needed_distances net routes wanted l m within shared metric) none new here

-- the weight of a link can be stepped in two ways
pub no_better_step : (net : Network) (routes : List PairRoutes) (wanted : DemandSet) (old : Block) (h : ℕ) →
    ((1 ≤ slice_index old.weights h) × (slice_index old.weights h ≤ 2 ^ 27) → HasNoBetterWith net routes wanted old h (2 * slice_index old.weights h)) →
    (2 ≤ slice_index old.weights h → HasNoBetterWith net routes wanted old h ((slice_index old.weights h + 1) / 2)) → HasNoBetterStep net routes wanted old h
no_better_step net routes wanted old h double half weight (inl (some, few, is)) = subst (HasNoBetterWith net routes wanted old h) (sym is) (double (some, few))
no_better_step net routes wanted old h double half weight (inr (two, is)) = subst (HasNoBetterWith net routes wanted old h) (sym is) (half two)

-- where no step of a weight helps, no change does
pub no_better_change : (net : Network) (routes : List PairRoutes) (wanted : DemandSet) (old : Block) → HasNumbers net old →
    ((h : ℕ) → h < link_count net → HasNoBetterStep net routes wanted old h) → HasNoBetterChange net routes wanted old
no_better_change net routes wanted old has settled weights change changed best better =
    let at = subst (λ (ws : List ℕ). IsBestBlock net routes wanted old.link ws changed) change.new_is best in
    settled change.link (omega (arith, change.within, has.weights)) change.weight change.step changed at better
