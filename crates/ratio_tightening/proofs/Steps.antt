-- What steps of a block keep: its link, its validity and its feasibility. It needs no more after them, and each leaves less to do.
use Rattle.std.proofs.Common.{◌≡◌, ◌∙◌, ℕ, zero, suc, ◌-◌, ◌+◌, ◌*◌, ◌^◌, ◌<◌, ◌≤◌, true, List, length, ap, arith, inl, inr, refl, subst, sym}
use Rattle.std.proofs.lemmas.List.{length-set}
use Rattle.std.proofs.lemmas.List.Elements.{All-from_get_or}
use Rattle.te_model.specs.declared.certificate.Block.{Block}
use Rattle.te_model.specs.declared.certificate.Head.{Head}
use Rattle.te_model.specs.declared.demand.DemandSet.{DemandSet}
use Rattle.te_model.specs.declared.network.Network.{Network}
use Rattle.te_model.specs.declared.route.PairRoutes.{PairRoutes}
use Rattle.te_model.specs.Feasible.{IsFeasible}
use Rattle.te_model.specs.Formats.{limits_of}
use Rattle.te_model.specs.Network.{capacity_of, is_well_formed, node_count}
use Rattle.te_model.specs.Validity.{IsValidBlock}
use Rattle.te_model.proofs.FeasibleBlocks.{feasible_of}
use Rattle.te_model.proofs.Valid.{block_small}
use Rattle.te_model.proofs.WellFormed.{capacities_positive, few_nodes}
use Rattle.best_blocks.specs.Best.{IsBestBlock}
use Rattle.best_blocks.specs.Conditions.{IsRoutingWithin, IsSetWithin}
use Rattle.best_blocks.specs.Need.{need_of, HasNumbers}
use Rattle.best_blocks.specs.Sharing.{HasShare}
use Rattle.best_blocks.proofs.BlockValid.{best_valid}
use Rattle.best_blocks.proofs.Holding.{best_holds}
use Rattle.best_blocks.proofs.Needs.{is_need}
use Rattle.best_blocks.proofs.ValidNumbers.{block_numbers}
use Rattle.ratio_certificate.specs.Better.{IsBetterBlock}
use Rattle.ratio_certificate.specs.Polished.{IsChange}
use Rattle.ratio_certificate.proofs.BetterBlocks.{change_small, link_inside}
use Rattle.ratio_certificate.proofs.Certificates.{head_of_set}
use Rattle.ratio_tightening.specs.Polishing.{CanPolish, IsAfterSteps, IsStep}
use Rattle.ratio_tightening.proofs.FinerFeasible.{finer_b, finer_feasible, finer_link, finer_need}
use Rattle.ratio_tightening.proofs.FinerNumbers.{finer_count, finer_numbers, finer_valid, scale_of, valid_count}

change_count : (old new : List ℕ) → IsChange old new → length new ≡ length old
change_count old new change = ap (λ (ws : List ℕ). length ws) change.new_is ∙ length-set old change.link change.weight

-- a better block is valid
better_valid : (h : Head) (old new : Block) → is_well_formed h.network ≡ true → IsRoutingWithin h.network h.routes → node_count h.network ≤ (limits_of h.format).nodes →
    HasNumbers h.network old → IsBetterBlock h.network h.routes h.set old new → IsValidBlock h new
better_valid h old new formed within fits has better =
    let small = block_small h.network old has.numbers has.small in
    let inside = link_inside h.network old has in
    let link = better.link_is in
    best_valid h new.link new.weights new formed within fits (omega (arith, inside, link)) (change_count old.weights new.weights better.change ∙ has.weights)
    (change_small old.weights new.weights better.change (All-from_get_or (λ w. w ≤ 2 ^ 28) old.weights 0 (λ k below. small.weights k))) better.best

-- so steps can go on
pub step_can : (net : Network) (routes : List PairRoutes) (wanted : DemandSet) (old new : Block) → is_well_formed net ≡ true → IsRoutingWithin net routes →
    CanPolish net routes old → IsStep net routes wanted old new → CanPolish net routes new
step_can net routes wanted old new formed within can (inl (coarse, finer)) = record {
  share = subst (HasShare routes) (sym (finer_link old new finer)) can.share;
  numbers = finer_numbers net old new coarse finer can.numbers;
  count = finer_count old new finer can.count;
}
step_can net routes wanted old new formed within can (inr (fine, better)) =
    let h = head_of_set net routes wanted in
    let valid = better_valid h old new formed within (few_nodes net formed) can.numbers better in
    record { share = subst (HasShare routes) (sym better.link_is) can.share; numbers = block_numbers h new valid; count = valid_count h new valid }

-- the link stays
pub step_link : (net : Network) (routes : List PairRoutes) (wanted : DemandSet) (old new : Block) → IsStep net routes wanted old new → new.link ≡ old.link
step_link net routes wanted old new (inl (coarse, finer)) = finer_link old new finer
step_link net routes wanted old new (inr (fine, better)) = better.link_is

-- the need does not rise
pub step_need : (net : Network) (routes : List PairRoutes) (wanted : DemandSet) (old new : Block) → is_well_formed net ≡ true → CanPolish net routes old →
    IsStep net routes wanted old new → need_of net new ≤ need_of net old
step_need net routes wanted old new formed can (inl (coarse, finer)) =
    let scale = scale_of net old can.numbers.numbers in
    finer_need net old new coarse finer scale.some (capacities_positive net formed old.link (link_inside net old can.numbers))
step_need net routes wanted old new formed can (inr (fine, better)) = let less = better.better.0 in omega (arith, less)

-- what falls with each step: the need, and then how far b is below 2^36
abbrev pub gap_of_block : Network → Block → ℕ
gap_of_block net b = need_of net b * 2 ^ 37 + (2 ^ 36 - b.b)

finer_falls : (need new_need b new_b : ℕ) → new_need ≤ need → 1 ≤ b → b < 2 ^ 35 → new_b ≡ 2 * b → new_need * 2 ^ 37 + (2 ^ 36 - new_b) < need * 2 ^ 37 + (2 ^ 36 - b)
finer_falls need new_need b new_b less some room is = omega (arith, less, some, room, is)

better_falls : (need new_need b new_b : ℕ) → new_need < need → new_need * 2 ^ 37 + (2 ^ 36 - new_b) < need * 2 ^ 37 + (2 ^ 36 - b)
better_falls need new_need b new_b less = omega (arith, less)

pub step_falls : (net : Network) (routes : List PairRoutes) (wanted : DemandSet) (old new : Block) → is_well_formed net ≡ true → CanPolish net routes old →
    IsStep net routes wanted old new → gap_of_block net new < gap_of_block net old
step_falls net routes wanted old new formed can (inl (coarse, finer)) =
    let scale = scale_of net old can.numbers.numbers in
    let less = step_need net routes wanted old new formed can (inl (coarse, finer)) in
    finer_falls (need_of net old) (need_of net new) old.b new.b less scale.some coarse.1 (finer_b old new finer)
step_falls net routes wanted old new formed can (inr (fine, better)) = better_falls (need_of net old) (need_of net new) old.b new.b better.better.0

-- what each step keeps some steps keep
pub reached_keeps : (net : Network) (routes : List PairRoutes) (wanted : DemandSet) (P : Block → Type 0) →
    ((x y : Block) → P x → IsStep net routes wanted x y → P y) → (n : ℕ) (old new : Block) → P old → IsAfterSteps net routes wanted n old new → P new
reached_keeps net routes wanted P step zero old new at is = subst P (sym is) at
reached_keeps net routes wanted P step (suc n) old new at (before, so_far, last) =
    step before new (reached_keeps net routes wanted P step n old before at so_far) last

-- a block of link e that needs no more than this, from which steps can go on
pub record IsPolishable (net : Network) (routes : List PairRoutes) (e top : ℕ) (b : Block) : Type 0 where
  pub can : CanPolish net routes b
  pub link : b.link ≡ e
  pub need : need_of net b ≤ top

pub polishable_step : (net : Network) (routes : List PairRoutes) (wanted : DemandSet) (e top : ℕ) → is_well_formed net ≡ true → IsRoutingWithin net routes →
    (x y : Block) → IsPolishable net routes e top x → IsStep net routes wanted x y → IsPolishable net routes e top y
polishable_step net routes wanted e top formed within x y is step = record {
  can = step_can net routes wanted x y formed within is.can step;
  link = step_link net routes wanted x y step ∙ is.link;
  need = let less = step_need net routes wanted x y formed is.can step in let most = is.need in omega (arith, less, most);
}

-- the same of a valid block of the head
pub record IsValidStill (h : Head) (e top : ℕ) (b : Block) : Type 0 where
  pub polishable : IsPolishable h.network h.routes e top b
  pub valid : IsValidBlock h b

pub valid_step : (h : Head) (e top : ℕ) → is_well_formed h.network ≡ true → IsRoutingWithin h.network h.routes → node_count h.network ≤ (limits_of h.format).nodes →
    (x y : Block) → IsValidStill h e top x → IsStep h.network h.routes h.set x y → IsValidStill h e top y
valid_step h e top formed within fits x y is (inl (coarse, finer)) = record {
  polishable = polishable_step h.network h.routes h.set e top formed within x y is.polishable (inl (coarse, finer));
  valid = finer_valid h x y coarse finer is.polishable.can.numbers is.valid;
}
valid_step h e top formed within fits x y is (inr (fine, better)) = record {
  polishable = polishable_step h.network h.routes h.set e top formed within x y is.polishable (inr (fine, better));
  valid = better_valid h x y formed within fits is.polishable.can.numbers better;
}

-- the head with another ratio
abbrev with_need : Head → ℕ → Head
with_need h ratio = record { format = h.format; network = h.network; routes = h.routes; set = h.set; ratio = ratio }

-- a best block is feasible
best_feasible : (h : Head) (b : Block) → IsRoutingWithin h.network h.routes → IsBestBlock h.network h.routes h.set b.link b.weights b → 1 ≤ b.b →
    1 ≤ capacity_of h.network b.link → IsFeasible h b
best_feasible h b within best some some_capacity =
    let need = need_of h.network b in
    let holds = best_holds (with_need h need) b.link b.weights b within best (is_need h.network b need some some_capacity refl).enough in
    let feasible = feasible_of (with_need h need) b holds in
    record { starts = feasible.starts; rises = feasible.rises; covers = feasible.covers; bounds = feasible.bounds }

-- the same of a feasible one
pub record IsFeasibleStill (h : Head) (b : Block) : Type 0 where
  pub can : CanPolish h.network h.routes b
  pub feasible : IsFeasible h b

pub feasible_step : (h : Head) → is_well_formed h.network ≡ true → IsRoutingWithin h.network h.routes → IsSetWithin (length h.routes) h.set →
    (x y : Block) → IsFeasibleStill h x → IsStep h.network h.routes h.set x y → IsFeasibleStill h y
feasible_step h formed within bounds x y is (inl (coarse, finer)) = record {
  can = step_can h.network h.routes h.set x y formed within is.can (inl (coarse, finer));
  feasible = finer_feasible h x y formed within bounds is.can.count coarse finer is.feasible;
}
feasible_step h formed within bounds x y is (inr (fine, better)) =
    let can = step_can h.network h.routes h.set x y formed within is.can (inr (fine, better)) in
    let scale = scale_of h.network y can.numbers.numbers in
    record {
      can = can;
      feasible = best_feasible h y within better.best scale.some (capacities_positive h.network formed y.link (link_inside h.network y can.numbers));
    }
