use Rattle.std.proofs.Common.{◌∙◌, ap}
use Rattle.std.specs.List.{slice_get}
use Rattle.ratio_checker.proofs.LinkPairLists.{first_pair, no_first}
use Rattle.ratio_checker.proofs.link_pairs.LinkPairs.first_share.Goals as goal

pub returns-in-Some : goal.returns-in-Some
returns-in-Some c = λ routes e are.
    let own = c.args.self.now in
    first_pair routes e own.pairs.items own.shares.items c.in-Some.pair.now are (c.in-Some.ensures.value ∙ ap (λ xs. slice_get xs 0) c.deref.ensures.value)

pub returns-in-None : goal.returns-in-None
returns-in-None c = λ routes e are.
    let own = c.args.self.now in
    no_first routes e own.pairs.items own.shares.items are (c.in-None.ensures.value ∙ ap (λ xs. slice_get xs 0) c.deref.ensures.value)
