use Rattle.std.proofs.Common.{◌≡◌, ◌<◌, ℕ, List, ◌∷◌, ◌++◌, [], length, slice_index, take, arith, ap, sym, ◌∙◌, rules}
use Rattle.std.proofs.lemmas.List.{map-id, take_all}
use Rattle.std.proofs.lemmas.Iterator.Adapters.{YieldsList-from_vec}
use Rattle.std.proofs.lemmas.Iterator.Consumers.{YieldsList-end, YieldsList-turn}
use Rattle.te_model.specs.declared.route.Path.{Path}
use Rattle.te_model.specs.declared.route.PathShare.{PathShare}
use Rattle.routing.specs.Normal.{weighted_paths}
use Rattle.valiant_mix.proofs.Splits.{links_in_order}
use Rattle.valiant_mix.proofs.EvenShares.{so_far_count, weighted_more}
use Rattle.valiant_mix.proofs.even.with_weights.Goals as goal

pub bounds-weights-len : goal.bounds-weights-len
bounds-weights-len c =
    let xs = c.args.paths.items in
    let road = YieldsList-from_vec {s = c.into_iter-path-iterator.result} xs (search rules) (search rules) in
    let turn = YieldsList-turn road c.loop-path.yielded c.loop-path.path-iterator c.loop-path.yielded_by c.next.result c.next.new.self c.in-Some.path c.in-Some.is c.next.ensures.steps in
    let count = so_far_count c.loop-path.yielded c.args.weights.now (omega (arith, turn.0, c.requires.count)) in
    omega (arith, turn.0, count, ap (λ (l : List PathShare). length l) c.loop-path.invariant, c.requires.count, c.len-in-loop-path.ensures, c.loop-path.made.ok.0)

pub offset_bounds-weights-len : goal.offset_bounds-weights-len
offset_bounds-weights-len c =
    let xs = c.args.paths.items in
    let road = YieldsList-from_vec {s = c.into_iter-path-iterator.result} xs (search rules) (search rules) in
    let turn = YieldsList-turn road c.loop-path.yielded c.loop-path.path-iterator c.loop-path.yielded_by c.next.result c.next.new.self c.in-Some.path c.in-Some.is c.next.ensures.steps in
    let count = so_far_count c.loop-path.yielded c.args.weights.now (omega (arith, turn.0, c.requires.count)) in
    omega (arith, turn.0, count, ap (λ (l : List PathShare). length l) c.loop-path.invariant, c.requires.count, c.requires.few, c.len-in-loop-path.ensures, c.loop-path.made.ok.0)

pub loop-path-preserved : goal.loop-path-preserved
loop-path-preserved c =
    let xs = c.args.paths.items in
    let paths = c.loop-path.yielded in
    let weights = c.args.weights.now in
    let path = c.in-Some.path in
    let road = YieldsList-from_vec {s = c.into_iter-path-iterator.result} xs (search rules) (search rules) in
    let turn = YieldsList-turn road c.loop-path.yielded c.loop-path.path-iterator c.loop-path.yielded_by c.next.result c.next.new.self c.in-Some.path c.in-Some.is c.next.ensures.steps in
    let below : length paths < length weights = omega (arith, turn.0, c.requires.count) in
    let count = so_far_count paths weights below in
    let here : c.len-in-loop-path.result ≡ length paths =
    omega (arith, count, ap (λ (l : List PathShare). length l) c.loop-path.invariant, c.len-in-loop-path.ensures, c.loop-path.made.ok.0)
    in
    c.in_ok-push.ensures.items
    ∙ (ap (λ (l : List PathShare). l ++ (record { links = path.links; weight = slice_index weights c.len-in-loop-path.result }) ∷ []) c.loop-path.invariant
    ∙ (ap (λ (k : ℕ). weighted_paths (links_in_order paths) (take (length paths) weights) ++ (record { links = path.links; weight = slice_index weights k }) ∷ []) here
    ∙ weighted_more paths path weights below))

pub returns : goal.returns
returns c =
    let xs = c.args.paths.items in
    let weights = c.args.weights.now in
    let road = YieldsList-from_vec {s = c.into_iter-path-iterator.result} xs (search rules) (search rules) in
    let done = YieldsList-end road c.loop-path.yielded c.loop-path.path-iterator c.loop-path.yielded_by c.next.result c.next.new.self c.in-None.is c.next.ensures.steps in
    let all : c.loop-path.yielded ≡ xs = sym (map-id c.loop-path.yielded) ∙ done.0 in
    c.loop-path.invariant
    ∙ (ap (λ (l : List Path). weighted_paths (links_in_order l) (take (length l) weights)) all
    ∙ ap (weighted_paths (links_in_order xs)) (take_all (length xs) weights (omega (arith, c.requires.count))))
