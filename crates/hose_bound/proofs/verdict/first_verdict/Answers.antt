use Rattle.std.proofs.Common.{◌<◌, ap, sym, ◌∙◌, arith, refl, subst, Some, None}
use Rattle.std.specs.Prelude.{All}
use Rattle.te_model.specs.Counting.{unless}
use Rattle.te_model.specs.Inequalities.{failure_at, of_link}
use Rattle.te_model.specs.Network.{link_count}
use Rattle.te_model.proofs.Searches.{first_below_more}
use Rattle.te_model.proofs.WellFormed.{few_nodes, few_links, capacities_small}
use Rattle.ratio_checker.specs.Ascending.{AscendsFrom}
use Rattle.hose_bound.specs.Judging.{IsSmallBlock}
use Rattle.hose_bound.specs.Verdict.{hose_block_of, pays_numbers, failure_on, verdict_of}
use Rattle.hose_bound.proofs.UncoveredPairs.{fault_here, found_on}
use Rattle.hose_bound.proofs.Valid.{small_blocks, blocks_in_order, valid_amounts, simple_of, whole_of}
use Rattle.hose_bound.proofs.Verdicts.{failure_found}
use Rattle.hose_bound.proofs.verdict.first_verdict.Goals as goal

pub loop-e-init : goal.loop-e-init
loop-e-init c =
    let net = c.args.net.now in
    let cert = c.args.cert.now in
    let is = sym c.as_slice-blocks.ensures in
    record {
      none = refl;
      ascend = subst (AscendsFrom (λ b. b.link) 0) is (blocks_in_order net cert c.requires.cert);
      same = λ k above. ap (λ bs. hose_block_of bs k) c.as_slice-blocks.ensures;
      small = subst (All IsSmallBlock) is (small_blocks net cert c.requires.cert);
    }

pub first_uncovered-uncovered-requires-clause-blocks : goal.first_uncovered-uncovered-requires-clause-blocks
first_uncovered-uncovered-requires-clause-blocks c =
    subst (All IsSmallBlock) (sym c.as_slice-blocks.ensures) (small_blocks c.args.net.now c.args.cert.now c.requires.cert)

pub first_uncovered-uncovered-requires-clause-ascend : goal.first_uncovered-uncovered-requires-clause-ascend
first_uncovered-uncovered-requires-clause-ascend c =
    subst (AscendsFrom (λ b. b.link) 0) (sym c.as_slice-blocks.ensures) (blocks_in_order c.args.net.now c.args.cert.now c.requires.cert)

pub first_uncovered-uncovered-requires-clause-paths : goal.first_uncovered-uncovered-requires-clause-paths
first_uncovered-uncovered-requires-clause-paths c =
    simple_of c.args.net.now c.args.routes.now (few_links c.args.net.now c.requires.network) c.requires.routing

pub first_uncovered-uncovered-requires-clause-whole : goal.first_uncovered-uncovered-requires-clause-whole
first_uncovered-uncovered-requires-clause-whole c = whole_of c.args.net.now c.args.routes.now c.requires.routing

pub first_uncovered-uncovered-requires-clause-links : goal.first_uncovered-uncovered-requires-clause-links
first_uncovered-uncovered-requires-clause-links c = rw c.as_slice-links.ensures (few_links c.args.net.now c.requires.network)

pub bound_failure_on-requires-clause-nodes : goal.bound_failure_on-requires-clause-nodes
bound_failure_on-requires-clause-nodes c = few_nodes c.args.net.now c.requires.network

pub bound_failure_on-requires-clause-amounts : goal.bound_failure_on-requires-clause-amounts
bound_failure_on-requires-clause-amounts c = valid_amounts c.args.net.now c.args.cert.now c.requires.cert

pub bound_failure_on-requires-clause-capacity : goal.bound_failure_on-requires-clause-capacity
bound_failure_on-requires-clause-capacity c = capacities_small c.args.net.now c.requires.network c.loop-e.e

pub returns-in-Some : goal.returns-in-Some
returns-in-Some c =
    let net = c.args.net.now in
    let routes = c.args.routes.now in
    let cert = c.args.cert.now in
    let none = c.loop-e.invariant.none in
    let below : c.loop-e.e < link_count net = grind arith in
    let first = rw (c.as_slice-blocks.ensures, c.as_slice-links.ensures) at c.first_uncovered-uncovered.ensures in
    let pairs = c.fault_of_pairs-pairs.ensures ∙ fault_here net routes cert c.first_uncovered-uncovered.result c.loop-e.e first below none in
    let bound = c.bound_failure_on.ensures
    ∙ ap (λ b. unless (pays_numbers net cert.hose cert.bound c.loop-e.e b) (failure_at 2 0)) (c.loop-e.invariant.same c.loop-e.e (omega arith)) in
    c.verdict_on.ensures
    ∙ sym (ap verdict_of (failure_found net routes cert c.loop-e.e c.in-Some.failure below none
    (sym (found_on net routes cert c.loop-e.e c.fault_of_pairs-pairs.result c.bound_failure_on.result (Some c.in-Some.failure) c.in-Some.ensures pairs bound))))

pub loop-e-preserved : goal.loop-e-preserved
loop-e-preserved c =
    let net = c.args.net.now in
    let routes = c.args.routes.now in
    let cert = c.args.cert.now in
    let e = c.loop-e.e in
    let below : e < link_count net = grind arith in
    let first = rw (c.as_slice-blocks.ensures, c.as_slice-links.ensures) at c.first_uncovered-uncovered.ensures in
    let pairs = c.fault_of_pairs-pairs.ensures ∙ fault_here net routes cert c.first_uncovered-uncovered.result e first below c.loop-e.invariant.none in
    let bound = c.bound_failure_on.ensures ∙ ap (λ b. unless (pays_numbers net cert.hose cert.bound e b) (failure_at 2 0)) (c.loop-e.invariant.same e (omega arith)) in
    let none = sym (found_on net routes cert e c.fault_of_pairs-pairs.result c.bound_failure_on.result None c.in_default.ensures pairs bound) in
    record {
      none = first_below_more e (λ k. of_link k (failure_on net routes cert k)) c.loop-e.invariant.none (ap (of_link e) none);
      ascend = c.blocks_after-blocks.ensures.ascend;
      same = λ k later. c.blocks_after-blocks.ensures.same k (omega arith) ∙ c.loop-e.invariant.same k (omega arith);
      small = c.blocks_after-blocks.ensures.rest c.loop-e.invariant.small;
    }
