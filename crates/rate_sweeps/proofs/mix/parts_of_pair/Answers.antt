use Rattle.std.proofs.Common.{◌≡◌, ℕ, ◌+◌, ◌<◌, List, [], ◌∷◌, ◌++◌, All, length, map, take, get_or, arith, ap, sym, ◌∙◌, subst}
use Rattle.std.proofs.lemmas.List.{get_or_read, get_or-map, map_more, map_push, take_all}
use Rattle.std.proofs.lemmas.List.Elements.{All-get_or, All-push}
use Rattle.te_model.specs.declared.route.Path.{Path}
use Rattle.te_model.specs.declared.route.PathShare.{PathShare}
use Rattle.rate_sweeps.specs.declared.mix.Sweep.{Sweep}
use Rattle.rate_sweeps.specs.Sweeps.{IsWeight, links_in, paths_in, paths_of_pair}
use Rattle.rate_sweeps.proofs.mix.parts_of_pair.Goals as goal

-- a sweep of the list has a path for the pair
inside : (sweeps : List Sweep) (pair i : ℕ) (s : Sweep) → i < length sweeps → s ≡ get_or sweeps i s → All (λ (x : Sweep). pair < length x.paths) sweeps → pair < length s.paths
inside sweeps pair i s below at all =
    subst (λ (x : Sweep). pair < length x.paths) (sym at) (All-get_or (λ (x : Sweep). pair < length x.paths) sweeps i s below all)

pub bounds-as_slice-pair : goal.bounds-as_slice-pair
bounds-as_slice-pair c =
    subst (λ (l : List Path). c.args.pair < length l) (sym c.as_slice.ensures)
    (inside c.args.sweeps.now c.args.pair c.loop-sweep.sweep-index c.sweep-item.result c.loop-sweep-test.true c.sweep-item.is c.requires.paths)

-- the part of one sweep more
part_more : (sweeps : List Sweep) (pair i : ℕ) (before after : List PathShare) (s : Sweep) (links : List ℕ) (weight : ℕ) → i < length sweeps →
    s ≡ get_or sweeps i s → links ≡ get_or (paths_in s) pair [] → IsWeight weight → after ≡ before ++ (record { links = links; weight = weight }) ∷ [] →
    (map (λ (q : PathShare). q.links) before ≡ paths_of_pair (take i sweeps) pair) × All (λ (q : PathShare). IsWeight q.weight) before →
    (map (λ (q : PathShare). q.links) after ≡ paths_of_pair (take (i + 1) sweeps) pair) × All (λ (q : PathShare). IsWeight q.weight) after
part_more sweeps pair i before after s links weight inside at is counts pushed far =
    let part : PathShare = record { links = links; weight = weight } in
    let way = λ (s : Sweep). get_or (paths_in s) pair [] in (
      ap (map (λ (q : PathShare). q.links)) pushed
          ∙ (map_push (λ (q : PathShare). q.links) before part
          ∙ (ap (λ (l : List (List ℕ)). l ++ links ∷ []) far.0
          ∙ (ap (λ (l : List ℕ). map way (take i sweeps) ++ l ∷ []) (is ∙ ap way at) ∙ sym (map_more way sweeps i s inside)))),
      subst (All (λ (q : PathShare). IsWeight q.weight)) (sym pushed) (All-push (λ (q : PathShare). IsWeight q.weight) before part far.1 counts),
    )

pub loop-sweep-preserved : goal.loop-sweep-preserved
loop-sweep-preserved c =
    let sweeps = c.args.sweeps.now in
    let pair = c.args.pair in
    let i = c.loop-sweep.sweep-index in
    let s = c.sweep-item.result in
    let lent = c.as_slice.result.now in
    let none : Path = record { links = [] } in
    let below = inside sweeps pair i s c.loop-sweep-test.true c.sweep-item.is c.requires.paths in
    let links : c.new.result ≡ get_or (paths_in s) pair [] =
    c.new.ensures
    ∙ (c.in_ok-links.ensures.items
    ∙ (c.as_slice-in-loop-sweep.ensures
    ∙ (ap links_in (get_or_read lent pair c.index-as_slice-pair.result (subst (λ (l : List Path). pair < length l) (sym c.as_slice.ensures) below) c.index-as_slice-pair.is none)
    ∙ (ap (λ (l : List Path). (get_or l pair none).links) c.as_slice.ensures ∙ sym (get_or-map links_in s.paths pair none [] below)))))
    in
    let counts : IsWeight s.weight =
    subst (λ (x : Sweep). IsWeight x.weight) (sym c.sweep-item.is) (All-get_or (λ (x : Sweep). IsWeight x.weight) sweeps i s c.loop-sweep-test.true c.requires.weights)
    in
    part_more sweeps pair i c.loop-sweep.parts.items c.push.new.self.items s c.new.result s.weight c.loop-sweep-test.true c.sweep-item.is links counts
    c.in_ok-push.ensures.items c.loop-sweep.invariant

pub returns-clause-paths : goal.returns-clause-paths
returns-clause-paths c =
    let sweeps = c.args.sweeps.now in
    c.loop-sweep.invariant.0
    ∙ ap (λ (l : List Sweep). paths_of_pair l c.args.pair) (take_all c.loop-sweep.sweep-index sweeps (omega (arith, c.loop-sweep-test.false)))

pub returns-clause-weights : goal.returns-clause-weights
returns-clause-weights c = c.loop-sweep.invariant.1
