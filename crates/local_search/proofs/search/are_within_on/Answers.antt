use Rattle.std.proofs.Common.{◌*◌, ◌<◌, ◌≤◌, slice_index, arith, refl, sym, ◌∙◌, subst, below_more}
use Rattle.std.proofs.lemmas.Bool.{false≢true}
use Rattle.te_model.specs.Network.{capacity_of, link_count}
use Rattle.te_model.proofs.Amounts.{has_at, has_number_at}
use Rattle.local_search.specs.Loads.{load_after}
use Rattle.local_search.proofs.search.are_within_on.Goals as goal

pub returns : goal.returns
returns c =
    let net = c.args.net.now in
    let loads = c.args.loads.now in (
      λ t e below used.
          let (k, inside, at) = has_at c.args.links.now e used in
          subst (λ x. load_after (slice_index loads x) c.args.shift.now.from.now c.args.shift.now.to.now c.args.shift.now.amount x ≤ c.args.times * capacity_of net x) at
          (c.loop-link.invariant k (omega (arith, inside, c.loop-link-test.false)) (subst (λ x. x < link_count net) (sym at) below)),
      λ within. refl,
    )

pub loop-link-preserved : goal.loop-link-preserved
loop-link-preserved c =
    let net = c.args.net.now in
    let loads = c.args.loads.now in
    let links = c.args.links.now in
    below_more (λ k. slice_index links k < link_count net → load_after (slice_index loads (slice_index links k)) c.args.shift.now.from.now c.args.shift.now.to.now c.args.shift.now.amount
    (slice_index links k) ≤ c.args.times * capacity_of net (slice_index links k)) c.loop-link.link-index c.loop-link.invariant
    (c.is_within.ensures.0 c.if-not-is_within.false)

pub returns-then-not-is_within : goal.returns-then-not-is_within
returns-then-not-is_within c = (
  λ t. absurd (false≢true t),
  λ within. absurd (false≢true (sym c.if-not-is_within.true ∙ c.is_within.ensures.1
      (λ below. within (slice_index c.args.links.now c.loop-link.link-index) below (has_number_at c.args.links.now c.loop-link.link-index c.loop-link-test.true)))),
)
