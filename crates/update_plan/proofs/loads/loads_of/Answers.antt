use Rattle.std.proofs.Common.{◌≡◌, ℕ, ◌*◌, ◌<◌, List, length, slice_index, arith, ap, ◌∙◌}
use Rattle.std.proofs.lemmas.List.{get_or_read}
use Rattle.te_model.specs.Path.{amount_on}
use Rattle.te_model.proofs.Lists.{written_whole}
use Rattle.update_plan.specs.Loads.{weight_of}
use Rattle.update_plan.specs.Paths.{no_update, update_at}
use Rattle.update_plan.proofs.LoadSums.{amount_is, amount_small, load_more, load_small}
use Rattle.update_plan.proofs.loads.loads_of.Goals as goal

pub add_wide_along-requires-clause-room : goal.add_wide_along-requires-clause-room
add_wide_along-requires-clause-room c e =
    let net = c.args.net.now in
    let demands = c.args.demands.now in
    let paths = c.args.paths.now in
    let kind = c.args.kind in
    let k = c.loop-path.path-index in
    let u = c.path-item.result in
    let below : k < length paths = omega (arith, c.loop-path-test.true) in
    let item : u ≡ update_at paths k = get_or_read paths k u below c.path-item.is no_update in
    let amount : c.from.result * c.from-in-loop-path.result ≡ slice_index demands (update_at paths k).pair * weight_of kind (update_at paths k) =
    amount_is demands paths kind k u c.from.result c.from-in-loop-path.result item c.from.ensures (c.from-in-loop-path.ensures ∙ c.weight_of.ensures)
    in
    omega (
      arith,
      ap (λ (l : List ℕ). slice_index l e) c.deref_mut.ensures.value,
      c.loop-path.invariant.each e,
      load_small net demands paths kind k e c.requires.demands c.requires.paths (omega arith),
      amount,
      amount_small net demands paths kind k c.requires.demands c.requires.paths below,
    )

pub loop-path-preserved : goal.loop-path-preserved
loop-path-preserved c =
    let demands = c.args.demands.now in
    let paths = c.args.paths.now in
    let kind = c.args.kind in
    let k = c.loop-path.path-index in
    let u = c.path-item.result in
    let old = c.loop-path.loads.items in
    let new = c.add_wide_along.new.loads in
    let lent : c.deref_mut.result.now ≡ old = c.deref_mut.ensures.value in
    let kept : length new ≡ length old = c.add_wide_along.auto.loads ∙ ap (λ (l : List ℕ). length l) lent in
    let item : u ≡ update_at paths k = get_or_read paths k u (omega (arith, c.loop-path-test.true)) c.path-item.is no_update in
    let amount : c.from.result * c.from-in-loop-path.result ≡ slice_index demands (update_at paths k).pair * weight_of kind (update_at paths k) =
    amount_is demands paths kind k u c.from.result c.from-in-loop-path.result item c.from.ensures (c.from-in-loop-path.ensures ∙ c.weight_of.ensures)
    in
    let links : c.as_slice.result.now ≡ (update_at paths k).links = c.as_slice.ensures ∙ ap (λ v. v.links) item in
    let was : (e : ℕ) → slice_index c.deref_mut.result.now e ≡ slice_index old e = λ e. ap (λ (l : List ℕ). slice_index l e) lent in
    let puts : (e : ℕ) → amount_on c.as_slice.result.now (c.from.result * c.from-in-loop-path.result) e
    ≡ amount_on (update_at paths k).links (slice_index demands (update_at paths k).pair * weight_of kind (update_at paths k)) e =
    λ e. ap (λ (l : List ℕ). amount_on l (c.from.result * c.from-in-loop-path.result) e) links ∙ ap (λ a. amount_on (update_at paths k).links a e) amount
    in
    rw (written_whole c.loop-path.loads.len new old kept c.loop-path.loads.ok.0) (record {
      count = kept ∙ c.loop-path.invariant.count;
      beyond = λ e wide. c.add_wide_along.ensures.beyond e wide ∙ (was e ∙ c.loop-path.invariant.beyond e wide);
      each = λ e. omega (arith, c.add_wide_along.ensures.added e, was e, c.loop-path.invariant.each e, load_more demands paths kind k e, puts e);
    })
