use Rattle.std.proofs.Common.{◌≡◌, ◌∙◌, ℕ, ◌-◌, ◌<◌, List, length, get_or, slice_index, replicate, arith, ap, rules, subst}
use Rattle.std.proofs.lemmas.List.{get_or_default, length-replicate, take_all}
use Rattle.std.proofs.lemmas.List.Elements.{All-get_or, All-nil}
use Rattle.routing.specs.declared.shares.PairShare.{PairShare}
use Rattle.te_model.proofs.Lists.{zeros}
use Rattle.hose_bound.specs.Covering.{CoverShares, end_of, other_end, raised_at}
use Rattle.hose_bound.proofs.Raising.{one_share_least, one_share_more}
use Rattle.routing.proofs.Sharing.{no_share}
use Rattle.hose_bound.proofs.covers.least_numbers.Goals as goal

pub loop-pair-init : goal.loop-pair-init
loop-pair-init c =
    let cleared : c.new-numbers.result ≡ replicate c.args.nodes 0 = search rules in
    record {
      count = ap (λ (l : List ℕ). length l) cleared ∙ length-replicate {A = ℕ} c.args.nodes 0;
      cover = All-nil _;
      least = λ bound cover i. (let none = ap (λ (l : List ℕ). slice_index l i) cleared ∙ zeros c.args.nodes i in omega (arith, none));
    }

pub raise-requires : goal.raise-requires
raise-requires c =
    let shares = c.args.shares.now in
    let k = c.loop-pair.pair-index in
    let s = get_or shares k no_share in
    let inside = All-get_or (λ t. t.pair < length c.args.routes.now) shares k no_share c.loop-pair-test.true c.requires.pairs in
    let ends = c.requires.ends s.pair inside in
    record { node = omega (arith, ends, c.end_of-node.ensures, c.loop-pair.invariant.count) }

pub loop-pair-preserved : goal.loop-pair-preserved
loop-pair-preserved c =
    let routes = c.args.routes.now in
    let shares = c.args.shares.now in
    let others = c.args.others.now in
    let old = c.loop-pair.numbers in
    let k = c.loop-pair.pair-index in
    let below = c.loop-pair-test.true in
    let s = get_or shares k no_share in
    let is : s ≡ get_or shares k s = get_or_default shares k no_share s below in
    let due : c.saturating_sub.result ≡ s.share - slice_index others (end_of (other_end c.args.end) routes s.pair) =
    c.saturating_sub.ensures
    ∙ ap (λ n. s.share - n) (c.number_at-other.ensures ∙ ap (slice_index others) (c.end_of.ensures ∙ ap (λ e. end_of e routes s.pair) c.other_end.ensures))
    in
    let raised = λ (i : ℕ).
    c.raise.ensures.raised i
    ∙ (ap (λ n. raised_at (slice_index old) n c.saturating_sub.result i) c.end_of-node.ensures ∙ ap (λ n. raised_at (slice_index old) (end_of c.args.end routes s.pair) n i) due)
    in
    record {
      count = c.raise.ensures.count ∙ c.loop-pair.invariant.count;
      cover = one_share_more c.args.end routes shares k s (slice_index old) (slice_index c.raise.new.numbers) (slice_index others) below is c.loop-pair.invariant.cover raised;
      least = λ bound cover i.
          one_share_least c.args.end routes shares k s (slice_index old) (slice_index c.raise.new.numbers) (slice_index others) bound below is cover
          (c.loop-pair.invariant.least bound cover) raised i;
    }

pub returns : goal.returns
returns c = record {
  count = c.loop-pair.invariant.count;
  cover = subst (λ (l : List PairShare). CoverShares c.args.end c.args.routes.now l (slice_index c.loop-pair.numbers) (slice_index c.args.others.now))
      (take_all c.loop-pair.pair-index c.args.shares.now c.loop-pair-test.false) c.loop-pair.invariant.cover;
  least = c.loop-pair.invariant.least;
}
