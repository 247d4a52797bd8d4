use Rattle.std.proofs.Common.{◌≡◌, ◌≤◌, ℕ, true, List, arith, ap, ◌∙◌, subst, min}
use Rattle.std.proofs.lemmas.List.{get_or_read}
use Rattle.std.proofs.lemmas.List.Elements.{All-get_or}
use Rattle.std.proofs.lemmas.List.Sums.{sum_by_push}
use Rattle.std.proofs.lemmas.Result.{IfOk-weaker}
use Rattle.te_model.specs.declared.route.PathShare.{PathShare}
use Rattle.routing.specs.Merge.{IsMerge, links_at, no_path, path_at}
use Rattle.routing.specs.Split.{total_weight}
use Rattle.local_search.specs.Moves.{IsShift}
use Rattle.local_search.proofs.Shifts.{shift_from_merge}
use Rattle.local_search.proofs.shifting.paths_after.Goals as goal

pub merge-requires : goal.merge-requires
merge-requires c =
    let left = c.take_off.new.paths.items in
    let part : PathShare = record { links = c.new.result; weight = c.min-units.result } in
    let pushed = ap total_weight c.in_ok-push.ensures.items ∙ sum_by_push (λ (s : PathShare). s.weight) left part in
    omega (arith, pushed, c.take_off.ensures.weights (λ l. true), c.requires.whole)

pub returns : goal.returns
returns c =
    let xs = c.args.paths.items in
    let k = c.args.from in
    let left = c.take_off.new.paths.items in
    let part : PathShare = record { links = c.new.result; weight = c.min-units.result } in
    let read = get_or_read xs k c.index.result.now c.requires.place c.index.ensures no_path in
    let units : c.min-units.result ≡ min c.args.size (path_at xs k).weight =
    c.min-units.ensures ∙ ap (λ (s : PathShare). min c.args.size s.weight) read
    in
    let some : 1 ≤ c.min-units.result =
    omega (arith, units, c.requires.size, All-get_or (λ s. 1 ≤ s.weight) xs k no_path c.requires.place c.requires.positive)
    in
    let links : c.new.result ≡ c.args.to.now = c.new.ensures ∙ c.in_ok-links.ensures.items in
    IfOk-weaker c.merge.result (λ new. IsMerge c.push.new.self.items new.items)
    (λ new. IsShift xs (links_at xs k) c.args.to.now (min c.args.size (path_at xs k).weight) new.items) (λ new merge.
    subst (λ n. IsShift xs (links_at xs k) c.args.to.now n new.items) units
    (shift_from_merge xs left new.items k c.min-units.result c.args.to.now part c.take_off.ensures
    (ap (λ (l : List ℕ). record { links = l; weight = c.min-units.result }) links) some
    (subst (λ (l : List PathShare). IsMerge l new.items) c.in_ok-push.ensures.items merge))) c.merge.ensures
