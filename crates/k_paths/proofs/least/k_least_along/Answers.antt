use Rattle.std.proofs.Common.{◌⊎◌, inl, inr, ◌≡◌, ◌+◌, ◌<◌, ◌++◌, ◌∷◌, [], ℕ, List, Vec, Global, length, map, arith, ap, sym, ◌∙◌, subst, rules, ◌≤◌, ◌^◌}
use Rattle.std.specs.Prelude.{All, vec_len}
use Rattle.std.proofs.lemmas.List.{length-map, map_push, nil_from_length}
use Rattle.std.proofs.lemmas.Bool.{eqb-true}
use Rattle.std.proofs.lemmas.List.Elements.{All-weaker}
use Rattle.te_model.specs.declared.route.Path.{Path}
use Rattle.shortest_path.specs.Paths.{IsBelow}
use Rattle.shortest_path.proofs.Sound.{sound}
use Rattle.k_paths.specs.declared.candidate.Candidate.{Candidate}
use Rattle.te_model.specs.declared.network.Network.{Network}
use Rattle.shortest_path.specs.Costs.{HasCosts}
use Rattle.k_paths.specs.declared.candidate.BoundedClass.{BoundedClass}
use Rattle.k_paths.specs.Search.{AreFirst, IsDueSearch, candidate_links}
use Rattle.k_paths.proofs.Candidates.{links_read}
use Rattle.k_paths.proofs.Rounds.{FoundSoFar, links_inside, are_first, found_more, found_end, found_none}
use Rattle.k_paths.proofs.least.k_least_along.Goals as goal
use Rattle.k_paths.proofs.least.k_least_along.Goals.{then-len-k+in_ok-candidates-2, else-len-k, then-loop-candidates-test+else-not-is_empty, else-loop-candidates-test}

pub first_class-requires-clause-sound : goal.first_class-requires-clause-sound
first_class-requires-clause-sound c = sound c.args.net.now c.requires.network

pub advance-requires-clause-sound : goal.advance-requires-clause-sound
advance-requires-clause-sound c = sound c.args.net.now c.requires.network

pub first_of-best-requires-clause-links : goal.first_of-best-requires-clause-links
first_of-best-requires-clause-links c =
    let net = c.args.net.now in
    let ways = c.args.ways.now in
    let cs = c.loop-candidates.candidates.items in
    let found = map (λ (p : Path). p.links) c.loop-candidates.found.items in
    let room : length found < c.args.k = omega (arith, length-map c.loop-candidates.found.items (λ (p : Path). p.links), c.len.ensures, c.loop-candidates-test.true, c.loop-candidates.found.ok.0) in
    let (now, behind) = c.loop-candidates.invariant.search' room in
    subst (λ l. (k : ℕ) → k < length l → All (λ h. h < length c.as_slice.result.now) (candidate_links l k)) (sym c.deref.ensures.value)
    (subst (λ costs. (k : ℕ) → k < length cs → All (λ h. h < length costs) (candidate_links cs k)) (sym c.as_slice.ensures)
    (links_inside net c.args.src ways.dst ways.costs cs c.requires.ways.costs now.least))

-- what the choice of the first candidate says of the candidates and the costs themselves
first_is : (net : Network) (cs cs' : List Candidate) (costs costs' : List ℕ) (i : ℕ) → cs' ≡ cs → costs' ≡ costs → HasCosts net costs →
    ((k : ℕ) → k < length cs' → (candidate_links cs' k ≡ candidate_links cs' i) ⊎ IsBelow costs' (candidate_links cs' i) (candidate_links cs' k)) → AreFirst net (candidate_links cs i) cs
first_is net cs cs' costs costs' i same same_costs has first =
    are_first net costs cs i has
    (subst (λ (l : List Candidate). (k : ℕ) → k < length l → (candidate_links l k ≡ candidate_links l i) ⊎ IsBelow costs (candidate_links l i) (candidate_links l k)) same
    (subst (λ x. (k : ℕ) → k < length cs' → (candidate_links cs' k ≡ candidate_links cs' i) ⊎ IsBelow x (candidate_links cs' i) (candidate_links cs' k)) same_costs first))

pub advance-requires-clause-first : goal.advance-requires-clause-first
advance-requires-clause-first c =
    let net = c.args.net.now in
    let cs = c.loop-candidates.candidates.items in
    let i = c.first_of-best.result in
    let inside : i < length cs = subst (λ (l : List Candidate). i < length l) c.deref.ensures.value c.first_of-best.ensures.inside in
    let best : c.deref-then-len-k.result.now ≡ candidate_links cs i =
    c.deref-then-len-k.ensures.value ∙ (c.in_ok-links.ensures.items ∙ (c.as_slice-in-loop-candidates.ensures ∙ links_read cs i c.index.result.now inside c.index.ensures))
    in
    subst (λ b. AreFirst net b cs) (sym best)
    (first_is net cs c.deref.result.now c.args.ways.now.costs c.as_slice.result.now i c.deref.ensures.value c.as_slice.ensures c.requires.ways.costs c.first_of-best.ensures.first)

pub advance-requires-clause-outgoing : goal.advance-requires-clause-outgoing
advance-requires-clause-outgoing c = c.requires.outgoing

pub advance-requires-clause-search : goal.advance-requires-clause-search
advance-requires-clause-search c =
    let found = map (λ (p : Path). p.links) c.loop-candidates.found.items in
    let room : length found < c.args.k =
    omega (arith, length-map c.loop-candidates.found.items (λ (p : Path). p.links), c.len.ensures, c.loop-candidates-test.true, c.loop-candidates.found.ok.0)
    in
    (found, c.loop-candidates.invariant.search' room)

pub loop-candidates-preserved : goal.loop-candidates-preserved
loop-candidates-preserved c =
    let net = c.args.net.now in
    let s = c.args.src in
    let ways = c.args.ways.now in
    let cs = c.loop-candidates.candidates.items in
    let had = c.loop-candidates.found.items in
    let found = map (λ (p : Path). p.links) had in
    let i = c.first_of-best.result in
    let inside : i < length cs = subst (λ (l : List Candidate). i < length l) c.deref.ensures.value c.first_of-best.ensures.inside in
    let links : c.in_ok-links.links.items ≡ candidate_links cs i =
    c.in_ok-links.ensures.items ∙ (c.as_slice-in-loop-candidates.ensures ∙ links_read cs i c.index.result.now inside c.index.ensures)
    in
    let first = first_is net cs c.deref.result.now c.args.ways.now.costs c.as_slice.result.now i c.deref.ensures.value c.as_slice.ensures c.requires.ways.costs c.first_of-best.ensures.first in
    let pushed : c.push.new.self.items ≡ had ++ (record { links = c.new.result }) ∷ [] = search rules in
    let path : Path = record { links = c.new.result } in
    let now : map (λ (p : Path). p.links) c.push.new.self.items ≡ found ++ candidate_links cs i ∷ [] =
    ap (λ l. map (λ (p : Path). p.links) l) pushed ∙ (map_push (λ (p : Path). p.links) had path ∙ ap (λ l. found ++ l ∷ []) (c.new.ensures ∙ links))
    in
    let room : length found < c.args.k = omega (arith, length-map had (λ (p : Path). p.links), c.len.ensures, c.loop-candidates-test.true, c.loop-candidates.found.ok.0) in
    let next = c.if-len-k.candidates.items in
    let rest = c.if-len-k.bounded.items in
    let then_search : length found + 1 < c.args.k → IsDueSearch net s ways (found ++ candidate_links cs i ∷ []) next rest =
    elim c.if-len-k.branch [
      | then-len-k+in_ok-candidates-2 w ↦ λ more.
          let new = w.in_ok-candidates-2.candidates in
          let left = w.advance.new.bounded in
          let search' : IsDueSearch net s ways (found ++ candidate_links cs i ∷ []) new.items left.items =
          subst (λ b. IsDueSearch net s ways (found ++ b ∷ []) new.items left.items) (w.deref-then-len-k.ensures.value ∙ links)
          (w.in_ok-candidates-2.ensures found (c.loop-candidates.invariant.search' room))
          in
          subst (λ (v : Vec Candidate Global). IsDueSearch net s ways (found ++ candidate_links cs i ∷ []) v.items rest) (sym w.candidates-is)
          (subst (λ (v : Vec BoundedClass Global). IsDueSearch net s ways (found ++ candidate_links cs i ∷ []) new.items v.items) (sym w.bounded-is) search')
      | else-len-k w ↦ λ more.
          absurd (omega (arith, more, w.if-len-k.false, c.len-in-loop-candidates.ensures, length-map had (λ (p : Path). p.links), c.loop-candidates.found.ok.0))
    ]
    in
    subst (λ f. FoundSoFar net s ways c.args.k f next rest) (sym now)
    (found_more net s ways c.args.k found cs next c.loop-candidates.bounded.items rest i c.requires.ways c.loop-candidates.invariant inside room first then_search)

pub returns : goal.returns
returns c =
    let cs = c.loop-candidates.candidates.items in
    let found = map (λ (p : Path). p.links) c.loop-candidates.found.items in
    found_end c.args.net.now c.args.src c.args.ways.now c.args.k found cs c.loop-candidates.bounded.items c.loop-candidates.invariant
    (elim c.loop-candidates-test.branch [
      | then-loop-candidates-test+else-not-is_empty w ↦
          let count = eqb-true (vec_len c.loop-candidates.candidates) 0 (sym w.is_empty.ensures ∙ w.if-not-is_empty.false) in
          let none : cs ≡ [] = nil_from_length cs (omega (arith, count, c.loop-candidates.candidates.ok.0)) in
          inr none
      | else-loop-candidates-test w ↦
          inl (omega (arith, length-map c.loop-candidates.found.items (λ (p : Path). p.links), c.len.ensures, w.loop-candidates-test.false, c.loop-candidates.found.ok.0, c.loop-candidates.invariant.few))
    ])

pub first_of-best-requires-clause-costs : goal.first_of-best-requires-clause-costs
first_of-best-requires-clause-costs c =
    let costs = c.args.ways.now.costs in
    subst (All (λ x. x ≤ 2 ^ 28)) (sym c.as_slice.ensures)
    (All-weaker (λ x. x ≤ 65535) (λ x. x ≤ 2 ^ 28) (λ x le. omega (arith, le)) costs c.requires.ways.costs.small)

pub loop-candidates-init : goal.loop-candidates-init
loop-candidates-init c =
    let net = c.args.net.now in
    let s = c.args.src in
    let ways = c.args.ways.now in
    let cs = c.in_ok-candidates.candidates.items in
    subst (λ (l : List BoundedClass). FoundSoFar net s ways c.args.k (map (λ (p : Path). p.links) c.new-found.result.items) cs l) (sym c.new-bounded.ensures.items)
    (subst (λ (l : List Path). FoundSoFar net s ways c.args.k (map (λ (p : Path). p.links) l) cs []) (sym c.new-found.ensures.items)
    (found_none net s ways c.args.k cs c.in_ok-candidates.ensures))

pub loop-candidates-smaller : goal.loop-candidates-smaller
loop-candidates-smaller c =
    omega (arith, c.in_ok-push.ensures.len, c.len.ensures, c.loop-candidates-test.true, c.loop-candidates.found.ok.0, c.push.new.self.ok.0)
