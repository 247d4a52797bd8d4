use Rattle.std.proofs.Common.{◌≡◌, ◌<◌, ◌≤◌, ◌+◌, ℕ, List, slice_index, length, take, arith, ap, ◌∙◌}
use Rattle.std.proofs.lemmas.List.{take_all}
use Rattle.std.proofs.lemmas.List.Elements.{All-get_or}
use Rattle.te_model.specs.Path.{amount_on}
use Rattle.te_model.proofs.Amounts.{amount_on-next, amount_step}
use Rattle.multiplicative_lengths.proofs.Loading.{none_beyond}
use Rattle.multiplicative_lengths.proofs.loads.add_wide_along.Goals as goal

pub overflow_add-loads : goal.overflow_add-loads
overflow_add-loads c =
    let links = c.args.links.now in
    let i = c.loop-link.link-index in
    let next = slice_index links i in
    omega (arith, c.loop-link.invariant next, amount_on-next links c.args.amount i c.requires.distinct c.loop-link-test.true, c.requires.room next)

pub loop-link-preserved : goal.loop-link-preserved
loop-link-preserved c e =
    let links = c.args.links.now in
    let i = c.loop-link.link-index in
    let inside = All-get_or (λ h. h < length c.args.loads.now) links i 0 c.loop-link-test.true c.requires.links in
    amount_step c.args.loads.now c.loop-link.loads links c.args.amount i e (c.loop-link.invariant e) c.requires.distinct c.loop-link-test.true
    (omega (arith, inside, c.loop-link.auto.loads))

-- where all links are taken
taken_all : (loads new links : List ℕ) (i amount e : ℕ) → slice_index new e ≡ slice_index loads e + amount_on (take i links) amount e → length links ≤ i →
    slice_index new e ≡ slice_index loads e + amount_on links amount e
taken_all loads new links i amount e so_far end =
    so_far ∙ ap (λ (l : List ℕ). slice_index loads e + amount_on l amount e) (take_all i links end)

pub returns-clause-added : goal.returns-clause-added
returns-clause-added c e =
    taken_all c.args.loads.now c.loop-link.loads c.args.links.now c.loop-link.link-index c.args.amount e (c.loop-link.invariant e) (omega (arith, c.loop-link-test.false))

pub returns-clause-beyond : goal.returns-clause-beyond
returns-clause-beyond c e wide =
    let links = c.args.links.now in
    let added = taken_all c.args.loads.now c.loop-link.loads links c.loop-link.link-index c.args.amount e (c.loop-link.invariant e) (omega (arith, c.loop-link-test.false)) in
    omega (arith, added, none_beyond links c.args.amount e (λ k below. omega (arith, c.type_inv.links k)) wide)
