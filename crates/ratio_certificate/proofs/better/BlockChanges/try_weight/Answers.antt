use Rattle.std.proofs.Common.{sym}
use Rattle.ratio_certificate.proofs.BetterBlocks.{better_with, improves_read, no_better_with, numbers_with}
use Rattle.ratio_certificate.proofs.better.BlockChanges.try_weight.Goals as goal

pub need-requires-in-Some-clause-numbers : goal.need-requires-in-Some-clause-numbers
need-requires-in-Some-clause-numbers c =
    let it = c.args.self.now in
    let are = c.requires.changes in
    let best = rw c.in-Some.is at c.in_ok-other.ensures.best in
    (numbers_with it.net.now it.routing.now.routes it.set.now it.block.now c.args.link c.args.weight c.in-Some.other are.network are.routing are.numbers
    c.requires.step best).numbers

pub need-requires-in-Some-clause-small : goal.need-requires-in-Some-clause-small
need-requires-in-Some-clause-small c =
    let it = c.args.self.now in
    let are = c.requires.changes in
    let best = rw c.in-Some.is at c.in_ok-other.ensures.best in
    (numbers_with it.net.now it.routing.now.routes it.set.now it.block.now c.args.link c.args.weight c.in-Some.other are.network are.routing are.numbers
    c.requires.step best).small

pub returns-then-improves-clause-some : goal.returns-then-improves-clause-some
returns-then-improves-clause-some c =
    let it = c.args.self.now in
    let are = c.requires.changes in
    let best = rw c.in-Some.is at c.in_ok-other.ensures.best in
    let better = improves_read _ _ _ _ c.need.ensures.value c.need-in-Some.ensures.value (c.improves.ensures.better c.if-improves.true) in (
      better_with it.net.now it.routing.now.routes it.set.now it.block.now c.args.link c.args.weight c.in-Some.other are.numbers c.requires.link c.requires.step
          best better,
      numbers_with it.net.now it.routing.now.routes it.set.now it.block.now c.args.link c.args.weight c.in-Some.other are.network are.routing are.numbers
          c.requires.step best,
    )

pub returns-else-improves-clause-none : goal.returns-else-improves-clause-none
returns-else-improves-clause-none c =
    let it = c.args.self.now in
    let are = c.requires.changes in
    let best = rw c.in-Some.is at c.in_ok-other.ensures.best in
    no_better_with it.net.now it.routing.now.routes it.set.now it.block.now c.args.link c.args.weight c.in-Some.other are.network are.numbers best
    (λ better. c.improves.ensures.not c.if-improves.false (improves_read _ _ _ _ (sym c.need.ensures.value) (sym c.need-in-Some.ensures.value) better))

pub returns-in-None-clause-none : goal.returns-in-None-clause-none
returns-in-None-clause-none c =
    let none = rw c.in-None.is at c.in_ok-other.ensures.none in
    λ new is better. none new is
