use Rattle.std.proofs.Common.{◌≡◌, ◌∙◌, ℕ, ◌+◌, ◌≤◌, ◌^◌, List, length, replicate, slice_index, arith, ap, rules, subst, sym}
use Rattle.std.proofs.lemmas.List.{length-replicate}
use Rattle.te_model.specs.declared.route.PathShare.{PathShare}
use Rattle.te_model.specs.Network.{link_count}
use Rattle.te_model.specs.Path.{routes_at}
use Rattle.te_model.proofs.Lists.{written_whole, zeros}
use Rattle.fault_rates.specs.Plan.{allocations_at, amount_of_paths}
use Rattle.fault_rates.specs.Tables.{AreSimplePaths}
use Rattle.fault_rates.proofs.Judged.{few_allocated}
use Rattle.te_model.proofs.Sums.{sum_below-next}
use Rattle.fault_rates.proofs.sums.allocated.Goals as goal

pub loop-p-init : goal.loop-p-init
loop-p-init c =
    let links = c.link_count-links.result in
    let same : links ≡ link_count c.args.net.now = c.link_count-links.ensures in
    let cleared : c.in_ok-sums.sums.items ≡ replicate links 0 = search rules in
    record {
      count = ap (λ (l : List ℕ). length l) cleared ∙ (length-replicate {A = ℕ} links 0 ∙ same);
      each = λ e. ap (λ (l : List ℕ). slice_index l e) cleared ∙ zeros links e;
    }

pub add_allocations-requires-clause-few : goal.add_allocations-requires-clause-few
add_allocations-requires-clause-few c =
    omega (arith, c.requires.adds.few c.loop-p.p c.loop-p-test.true, ap (λ (ps : List PathShare). length ps) c.paths_of-paths.ensures)

pub add_allocations-requires-clause-count : goal.add_allocations-requires-clause-count
add_allocations-requires-clause-count c =
    ap (λ (l : List ℕ). length l) c.allocations_of-allocation.ensures
    ∙ (c.requires.shaped.paths c.loop-p.p c.loop-p-test.true ∙ sym (ap (λ (ps : List PathShare). length ps) c.paths_of-paths.ensures))

pub add_allocations-requires-clause-paths : goal.add_allocations-requires-clause-paths
add_allocations-requires-clause-paths c =
    let count : length c.deref_mut.result.now ≡ link_count c.args.net.now =
    ap (λ (l : List ℕ). length l) c.deref_mut.ensures.value ∙ c.loop-p.invariant.count in
    subst (λ (ps : List PathShare). AreSimplePaths (length c.deref_mut.result.now) ps) (sym c.paths_of-paths.ensures)
    (subst (λ n. AreSimplePaths n (routes_at c.args.routes.now c.loop-p.p).paths) (sym count) (c.requires.adds.paths c.loop-p.p c.loop-p-test.true))

pub add_allocations-requires-clause-small : goal.add_allocations-requires-clause-small
add_allocations-requires-clause-small c = λ i.
    subst (λ (l : List ℕ). slice_index l i ≤ 2 ^ 32) (sym c.allocations_of-allocation.ensures) (c.requires.small c.loop-p.p i)

pub add_allocations-requires-clause-room : goal.add_allocations-requires-clause-room
add_allocations-requires-clause-room c = λ h.
    omega (
      arith,
      ap (λ (l : List ℕ). slice_index l h) c.deref_mut.ensures.value,
      c.loop-p.invariant.each h,
      few_allocated c.args.net.now c.args.routes.now c.args.plan.now c.requires c.loop-p.p h (omega (arith, c.loop-p-test.true)),
      c.loop-p-test.true,
      c.requires.adds.pairs,
    )

pub loop-p-preserved : goal.loop-p-preserved
loop-p-preserved c =
    let routes = c.args.routes.now in
    let plan = c.args.plan.now in
    let p = c.loop-p.p in
    let old = c.loop-p.sums.items in
    let new = c.add_allocations.new.sums in
    let lent : c.deref_mut.result.now ≡ old = c.deref_mut.ensures.value in
    let kept : length new ≡ length old = c.add_allocations.auto.sums ∙ ap (λ (l : List ℕ). length l) lent in
    let amount = λ (q e : ℕ). amount_of_paths (routes_at routes q).paths (slice_index (allocations_at plan q)) e in
    let added : (e : ℕ) → slice_index new e ≡ slice_index old e + amount p e =
    λ e.
    c.add_allocations.ensures e
    ∙ (ap (λ (l : List ℕ). slice_index l e + amount_of_paths c.paths_of-paths.result.now (slice_index c.allocations_of-allocation.result.now) e) lent
    ∙ (ap (λ (ps : List PathShare). slice_index old e + amount_of_paths ps (slice_index c.allocations_of-allocation.result.now) e) c.paths_of-paths.ensures
    ∙ ap (λ (l : List ℕ). slice_index old e + amount_of_paths (routes_at routes p).paths (slice_index l) e) c.allocations_of-allocation.ensures))
    in
    rw (written_whole c.loop-p.sums.len new old kept c.loop-p.sums.ok.0) (record {
      count = kept ∙ c.loop-p.invariant.count;
      each = λ e. omega (arith, added e, c.loop-p.invariant.each e, sum_below-next p (λ q. amount q e));
    })
