-- A list of blocks that are polished: a step at one place, and that there is an end.
use Rattle.std.proofs.Common.{◌≡◌, ◌∙◌, ◌⊎◌, ℕ, zero, suc, ◌<◌, ◌≤◌, true, List, length, set, ap, arith, inl, inr, refl, subst, sym}
use Rattle.std.specs.Prelude.{All, sum_by, IfOk, IfSome, Result, Ok, Err, Option, Some, None}
use Rattle.std.proofs.lemmas.Bool.{cases_eq, cases_lt}
use Rattle.std.proofs.lemmas.List.{get_or-set_same, get_or-set_other, length-set}
use Rattle.std.proofs.lemmas.List.Elements.{All-from_get_or, All-get_or}
use Rattle.std.proofs.lemmas.List.Sums.{sum_by-set}
use Rattle.te_model.specs.declared.certificate.Block.{Block}
use Rattle.te_model.specs.declared.demand.DemandSet.{DemandSet}
use Rattle.te_model.specs.declared.memory.Memory.{Memory}
use Rattle.te_model.specs.declared.network.Network.{Network}
use Rattle.te_model.specs.declared.route.PairRoutes.{PairRoutes}
use Rattle.te_model.specs.Certificate.{empty_block}
use Rattle.te_model.specs.Network.{is_well_formed}
use Rattle.te_model.specs.Validity.{block_at}
use Rattle.best_blocks.specs.Conditions.{IsRoutingWithin}
use Rattle.best_blocks.specs.Need.{need_of}
use Rattle.ratio_certificate.specs.Polished.{HasNoBetterChange, IsFine, IsWorstBlock}
use Rattle.ratio_certificate.proofs.BetterExists.{better_or_none}
use Rattle.ratio_certificate.proofs.Finding.{fine_or_coarse, worst_exists}
use Rattle.ratio_certificate.proofs.Stepping.{worst_only}
use Rattle.ratio_tightening.specs.Polishing.{AreReached, CanPolish, IsAfterSteps, IsDone, IsStep}
use Rattle.ratio_tightening.proofs.FinerExist.{finer_exists}
use Rattle.ratio_tightening.proofs.Steps.{gap_of_block, step_can, step_falls}

-- what follows of the value from two things that are said of it
pub some_gives_both : {X : Type 0} → (r : Result (Option X) Memory) (P Q S : X → Type 0) → ((x : X) → P x → Q x → S x) → IfOk r (λ o. IfSome o P) →
    IfOk r (λ o. IfSome o Q) → IfOk r (λ o. IfSome o S)
some_gives_both (Ok (Some x)) P Q S says first second = says x first second
some_gives_both (Ok None) P Q S says first second = tt
some_gives_both (Err e) P Q S says first second = tt

-- the blocks where one is put in place
set_here : (blocks : List Block) (i : ℕ) (b : Block) → i < length blocks → block_at (set blocks i b) i ≡ b
set_here blocks i b below = get_or-set_same blocks i b (empty_block 0) below

set_there : (blocks : List Block) (i k : ℕ) (b : Block) → (k ≡ i → ⊥) → block_at (set blocks i b) k ≡ block_at blocks k
set_there blocks i k b other = get_or-set_other blocks i k b (empty_block 0) other

pub reached_start : (net : Network) (routes : List PairRoutes) (wanted : DemandSet) (blocks : List Block) → AreReached net routes wanted blocks blocks
reached_start net routes wanted blocks = record { count = refl; each = λ k below. (0, refl) }

pub reached_more : (net : Network) (routes : List PairRoutes) (wanted : DemandSet) (start blocks : List Block) (i : ℕ) (b : Block) → i < length blocks →
    AreReached net routes wanted start blocks → IsStep net routes wanted (block_at blocks i) b → AreReached net routes wanted start (set blocks i b)
reached_more net routes wanted start blocks i b below are step = record {
  count = length-set blocks i b ∙ are.count;
  each = λ k inside. elim (cases_eq k i) [
    | inl same ↦
        let here = set_here blocks i b below in
        let so_far = are.each k inside in
        let last = subst (λ (x : Block). IsStep net routes wanted x (block_at (set blocks i b) k)) (ap (block_at blocks) (sym same))
        (subst (λ (x : Block). IsStep net routes wanted (block_at blocks i) x) (sym here ∙ ap (block_at (set blocks i b)) (sym same)) step)
        in
        (suc so_far.0, (block_at blocks k, so_far.1, last))
    | inr other ↦
        let so_far = are.each k inside in
        let there = set_there blocks i k b other in
        (so_far.0, subst (λ (x : Block). IsAfterSteps net routes wanted so_far.0 (block_at start k) x) (sym there) so_far.1)
  ];
}

pub can_more : (net : Network) (routes : List PairRoutes) (wanted : DemandSet) (blocks : List Block) (i : ℕ) (b : Block) → is_well_formed net ≡ true →
    IsRoutingWithin net routes → i < length blocks → All (CanPolish net routes) blocks → IsStep net routes wanted (block_at blocks i) b →
    All (CanPolish net routes) (set blocks i b)
can_more net routes wanted blocks i b formed within below can step =
    All-from_get_or (CanPolish net routes) (set blocks i b) (empty_block 0) (λ k inside. elim (cases_eq k i) [
      | inl same ↦
          subst (λ j. CanPolish net routes (block_at (set blocks i b) j)) (sym same) (subst (CanPolish net routes) (sym (set_here blocks i b below))
          (step_can net routes wanted (block_at blocks i) b formed within (All-get_or (CanPolish net routes) blocks i (empty_block 0) below can) step))
      | inr other ↦
          let count = length-set blocks i b in
          subst (CanPolish net routes) (sym (set_there blocks i k b other)) (All-get_or (CanPolish net routes) blocks k (empty_block 0) (omega (arith, inside, count)) can)
    ])

-- how much is left to do
abbrev pub gap_in : Network → List Block → ℕ
gap_in net blocks = sum_by (gap_of_block net) blocks

pub gap_falls : (net : Network) (routes : List PairRoutes) (wanted : DemandSet) (blocks : List Block) (i : ℕ) (b : Block) → is_well_formed net ≡ true →
    i < length blocks → CanPolish net routes (block_at blocks i) → IsStep net routes wanted (block_at blocks i) b → gap_in net (set blocks i b) < gap_in net blocks
gap_falls net routes wanted blocks i b formed below can step =
    let changed = sum_by-set (gap_of_block net) blocks i b (empty_block 0) below in
    let falls = step_falls net routes wanted (block_at blocks i) b formed can step in
    omega (arith, changed, falls)

-- where the first that needs most is fine and settled the blocks are done
pub done_at : (net : Network) (routes : List PairRoutes) (wanted : DemandSet) (blocks : List Block) (k : ℕ) → IsWorstBlock net blocks k →
    IsFine (block_at blocks k).weights (block_at blocks k).b → HasNoBetterChange net routes wanted (block_at blocks k) → IsDone net routes wanted blocks
done_at net routes wanted blocks k worst fine settled = record {
  fine = λ j other. subst (λ i. IsFine (block_at blocks i).weights (block_at blocks i).b) (sym (same j other)) fine;
  settled = λ j other. subst (λ i. HasNoBetterChange net routes wanted (block_at blocks i)) (sym (same j other)) settled;
}
  where
    same : (j : ℕ) → IsWorstBlock net blocks j → j ≡ k
    same j other = worst_only (length blocks) (λ i. need_of net (block_at blocks i)) j k other worst

pub none_done : (net : Network) (routes : List PairRoutes) (wanted : DemandSet) (blocks : List Block) → length blocks ≡ 0 → IsDone net routes wanted blocks
none_done net routes wanted blocks none = record {
  fine = λ k worst. let below = worst.within in absurd (omega (arith, below, none));
  settled = λ k worst. let below = worst.within in absurd (omega (arith, below, none));
}

-- a step of the block, or it is fine and settled
step_or_settled : (net : Network) (routes : List PairRoutes) (wanted : DemandSet) (b : Block) → is_well_formed net ≡ true → IsRoutingWithin net routes →
    CanPolish net routes b → ((new : Block) × IsStep net routes wanted b new) ⊎ (IsFine b.weights b.b × HasNoBetterChange net routes wanted b)
step_or_settled net routes wanted b formed within can = elim (fine_or_coarse b.weights b.b) [
  | inl fine ↦ elim (better_or_none net routes wanted b formed within can.share can.numbers) [
    | inl better ↦ inl (better.0, inr (fine, better.1))
    | inr none ↦ inr (fine, none)
  ]
  | inr coarse ↦ let finer = finer_exists b in inl (finer.0, inl (coarse, finer.1))
]

-- a step at some place, or the blocks are done
pub record IsStepAt (net : Network) (routes : List PairRoutes) (wanted : DemandSet) (blocks : List Block) (k : ℕ) (new : Block) : Type 0 where
  pub within : k < length blocks
  pub step : IsStep net routes wanted (block_at blocks k) new

step_or_done : (net : Network) (routes : List PairRoutes) (wanted : DemandSet) (blocks : List Block) → is_well_formed net ≡ true → IsRoutingWithin net routes →
    All (CanPolish net routes) blocks → ((k : ℕ) × (new : Block) × IsStepAt net routes wanted blocks k new) ⊎ IsDone net routes wanted blocks
step_or_done net routes wanted blocks formed within can = elim (cases_lt 0 (length blocks)) [
  | inl some ↦ at_worst (worst_exists (length blocks) (λ j. need_of net (block_at blocks j)) some)
  | inr none ↦ inr (none_done net routes wanted blocks (omega (arith, none)))
]
  where
    at_worst : (k : ℕ) × IsWorstBlock net blocks k → ((k : ℕ) × (new : Block) × IsStepAt net routes wanted blocks k new) ⊎ IsDone net routes wanted blocks
    at_worst (k, worst) =
        elim (step_or_settled net routes wanted (block_at blocks k) formed within (All-get_or (CanPolish net routes) blocks k (empty_block 0) worst.within can)) [
          | inl step ↦ inl (k, step.0, record { within = worst.within; step = step.1 })
          | inr settled ↦ inr (done_at net routes wanted blocks k worst settled.0 settled.1)
        ]

polished_from : (net : Network) (routes : List PairRoutes) (wanted : DemandSet) (start : List Block) → is_well_formed net ≡ true → IsRoutingWithin net routes →
    (left : ℕ) (blocks : List Block) → AreReached net routes wanted start blocks → All (CanPolish net routes) blocks → gap_in net blocks ≤ left →
    (list : List Block) × AreReached net routes wanted start list × IsDone net routes wanted list
polished_from net routes wanted start formed within zero blocks so_far can bound = elim (step_or_done net routes wanted blocks formed within can) [
  | inl step ↦
      let falls = gap_falls net routes wanted blocks step.0 step.1 formed step.2.within (All-get_or (CanPolish net routes) blocks step.0 (empty_block 0) step.2.within can) step.2.step in
      absurd (omega (arith, falls, bound))
  | inr done ↦ (blocks, so_far, done)
]
polished_from net routes wanted start formed within (suc left) blocks so_far can bound = elim (step_or_done net routes wanted blocks formed within can) [
  | inl step ↦
      let falls = gap_falls net routes wanted blocks step.0 step.1 formed step.2.within (All-get_or (CanPolish net routes) blocks step.0 (empty_block 0) step.2.within can) step.2.step in
      polished_from net routes wanted start formed within left (set blocks step.0 step.1)
      (reached_more net routes wanted start blocks step.0 step.1 step.2.within so_far step.2.step)
      (can_more net routes wanted blocks step.0 step.1 formed within step.2.within can step.2.step) (omega (arith, falls, bound))
  | inr done ↦ (blocks, so_far, done)
]

pub done_exist : (net : Network) (routes : List PairRoutes) (wanted : DemandSet) (start : List Block) → is_well_formed net ≡ true → IsRoutingWithin net routes →
    All (CanPolish net routes) start → (list : List Block) × AreReached net routes wanted start list × IsDone net routes wanted list
done_exist net routes wanted start formed within can =
    polished_from net routes wanted start formed within (gap_in net start) start (reached_start net routes wanted start) can (omega arith)
