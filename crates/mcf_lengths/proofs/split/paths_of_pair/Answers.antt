use Rattle.std.proofs.Common.{◌≡◌, ℕ, ◌+◌, ◌<◌, List, [], ◌∷◌, ◌++◌, All, length, map, take, get_or, arith, ap, sym, ◌∙◌, subst}
use Rattle.std.proofs.lemmas.List.{get_or_default, get_or-map, map_more, map_push, take_all}
use Rattle.std.proofs.lemmas.List.Elements.{All-get_or}
use Rattle.te_model.specs.declared.route.Path.{Path}
use Rattle.rate_sweeps.specs.Sweeps.{links_in}
use Rattle.mcf_lengths.specs.declared.round.FlowRound.{FlowRound}
use Rattle.mcf_lengths.specs.Rounds.{paths_of_round, round_paths_of_pair}
use Rattle.mcf_lengths.proofs.split.paths_of_pair.Goals as goal

-- a round of the list has a path for the pair
inside : (rounds : List FlowRound) (pair i : ℕ) (r : FlowRound) → i < length rounds → r ≡ get_or rounds i r → All (λ (x : FlowRound). pair < length x.paths) rounds →
    pair < length r.paths
inside rounds pair i r below at all =
    subst (λ (x : FlowRound). pair < length x.paths) (sym at) (All-get_or (λ (x : FlowRound). pair < length x.paths) rounds i r below all)

pub bounds-as_slice-pair : goal.bounds-as_slice-pair
bounds-as_slice-pair c =
    subst (λ (l : List Path). c.args.pair < length l) (sym c.as_slice.ensures)
    (inside c.args.rounds.now c.args.pair c.loop-round.round-index c.round-item.result c.loop-round-test.true c.round-item.is c.requires)

-- the path of one round more
path_more : (rounds : List FlowRound) (pair i : ℕ) (before after : List Path) (r : FlowRound) (links : List ℕ) → i < length rounds → r ≡ get_or rounds i r →
    links ≡ get_or (paths_of_round r) pair [] → after ≡ before ++ (record { links = links }) ∷ [] → map links_in before ≡ round_paths_of_pair (take i rounds) pair →
    map links_in after ≡ round_paths_of_pair (take (i + 1) rounds) pair
path_more rounds pair i before after r links below at is pushed far =
    let way = λ (x : FlowRound). get_or (paths_of_round x) pair [] in
    ap (map links_in) pushed
    ∙ (map_push links_in before (record { links = links })
    ∙ (ap (λ (l : List (List ℕ)). l ++ links ∷ []) far
    ∙ (ap (λ (l : List ℕ). map way (take i rounds) ++ l ∷ []) (is ∙ ap way at) ∙ sym (map_more way rounds i r below))))

pub loop-round-preserved : goal.loop-round-preserved
loop-round-preserved c =
    let rounds = c.args.rounds.now in
    let pair = c.args.pair in
    let i = c.loop-round.round-index in
    let r = c.round-item.result in
    let lent = c.as_slice.result.now in
    let none : Path = record { links = [] } in
    let below = inside rounds pair i r c.loop-round-test.true c.round-item.is c.requires in
    let links : c.new.result ≡ get_or (paths_of_round r) pair [] =
    c.new.ensures
    ∙ (c.in_ok-links.ensures.items
    ∙ (c.as_slice-in-loop-round.ensures
    ∙ (ap links_in (get_or_default lent pair c.index-as_slice-pair.result none (subst (λ (l : List Path). pair < length l) (sym c.as_slice.ensures) below))
    ∙ (ap (λ (l : List Path). (get_or l pair none).links) c.as_slice.ensures ∙ sym (get_or-map links_in r.paths pair none [] below)))))
    in
    path_more rounds pair i c.loop-round.paths.items c.push.new.self.items r c.new.result c.loop-round-test.true c.round-item.is links
    c.in_ok-push.ensures.items c.loop-round.invariant

pub returns : goal.returns
returns c =
    let rounds = c.args.rounds.now in
    c.loop-round.invariant
    ∙ ap (λ (l : List FlowRound). round_paths_of_pair l c.args.pair) (take_all c.loop-round.round-index rounds (omega (arith, c.loop-round-test.false)))
