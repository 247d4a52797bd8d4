use Rattle.std.proofs.Common.{◌≡◌, ◌<◌, ◌^◌, ◌≤◌, ℕ, List, arith, slice_index, subst, sym}
use Rattle.std.proofs.lemmas.Bool.Decides.{nat_tests}
use Rattle.te_model.specs.Network.{link_count}
use Rattle.te_model.proofs.Valid.{block_small}
use Rattle.te_model.proofs.WellFormed.{capacities_positive}
use Rattle.best_blocks.specs.Need.{need_by, need_of}
use Rattle.best_blocks.proofs.Needs.{is_need}
use Rattle.best_blocks.proofs.capacity.need.Goals as goal

pub need_by-requires-clause-link : goal.need_by-requires-clause-link
need_by-requires-clause-link c = let numbers = c.requires.numbers in grind (arith, nat_tests)

pub need_by-requires-clause-weights : goal.need_by-requires-clause-weights
need_by-requires-clause-weights c = λ h.
    subst (λ (ws : List ℕ). slice_index ws h ≤ 2 ^ 28) (sym c.as_slice.ensures)
    ((block_small c.args.net.now c.args.block.now c.requires.numbers c.requires.small).weights h)

pub need_by-requires-clause-a : goal.need_by-requires-clause-a
need_by-requires-clause-a c = (block_small c.args.net.now c.args.block.now c.requires.numbers c.requires.small).a

pub need_by-requires-clause-b : goal.need_by-requires-clause-b
need_by-requires-clause-b c = (block_small c.args.net.now c.args.block.now c.requires.numbers c.requires.small).b

pub returns-clause-need : goal.returns-clause-need
returns-clause-need c =
    let net = c.args.net.now in
    let block = c.args.block.now in
    let numbers = c.requires.numbers in
    let inside : block.link < link_count net = grind (arith, nat_tests) in
    let small = block_small net block c.requires.numbers c.requires.small in
    let value : c.need_by.result ≡ need_of net block =
    subst (λ (ws : List ℕ). c.need_by.result ≡ need_by net block.link ws block.a block.b) c.as_slice.ensures c.need_by.ensures
    in
    is_need net block c.need_by.result small.b.0 (capacities_positive net c.requires.network block.link inside) value

pub returns-clause-value : goal.returns-clause-value
returns-clause-value c =
    let net = c.args.net.now in
    let block = c.args.block.now in
    subst (λ (ws : List ℕ). c.need_by.result ≡ need_by net block.link ws block.a block.b) c.as_slice.ensures c.need_by.ensures
