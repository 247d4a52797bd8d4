use Rattle.std.proofs.Common.{◌≡◌, ◌++◌, ◌∷◌, [], arith, sym, ◌∙◌, subst, length, List, ap}
use Rattle.std.proofs.lemmas.Grind.{common_steps}
use Rattle.std.proofs.lemmas.Slice.Eq.{slice_eq-Decides}
use Rattle.std.proofs.lemmas.Bool.Decides.{Decides-eqb}
use Rattle.std.proofs.lemmas.Bool.{false≢true}
use Rattle.std.specs.List.{Contains}
use Rattle.std.proofs.lemmas.List.Elements.{Contains-push}
use Rattle.std.proofs.lemmas.List.{length-append}
use Rattle.k_paths.specs.declared.candidate.Candidate.{Candidate}
use Rattle.k_paths.proofs.Splitting.{NextSoFar, next_start, next_kept, next_split, next_end}
use Rattle.k_paths.proofs.search.split_best.Goals as goal

pub loop-candidate-init : goal.loop-candidate-init
loop-candidate-init c =
    let old = c.args.candidates.items in
    let was = c.args.bounded.now.items in
    subst (λ (l : List Candidate). NextSoFar c.args.net.now c.args.src c.args.ways.now c.args.best.now old old l was was) (sym c.new-next.ensures.items)
    (next_start c.args.net.now c.args.src c.args.ways.now c.args.best.now old was)

pub loop-candidate-preserved-then-eq : goal.loop-candidate-preserved-then-eq
loop-candidate-preserved-then-eq c =
    let net = c.args.net.now in
    let ways = c.args.ways.now in
    let best = c.args.best.now in
    let old = c.args.candidates.items in
    let was = c.args.bounded.now.items in
    let rest = c.pop.new.self.items in
    let candidate = c.in-Some.candidate in
    let next = c.loop-candidate.next.items in
    let bounded = c.loop-candidate.bounded.items in
    let popped : c.loop-candidate.candidates.items ≡ rest ++ candidate ∷ [] = c.in-Some.ensures.items in
    let so = subst (λ l. NextSoFar net c.args.src ways best old l next was bounded) popped c.loop-candidate.invariant in
    let same : c.as_slice.result.now ≡ best = (slice_eq-Decides Decides-eqb _ _ _ c.eq.ensures).0 c.if-eq.true in
    next_split net c.args.src ways best old rest candidate next was bounded c.split.new.bounded.items c.requires.least so
    (sym c.as_slice.ensures ∙ same) c.in_ok-split.ensures

pub loop-candidate-preserved : goal.loop-candidate-preserved
loop-candidate-preserved c =
    let old = c.args.candidates.items in
    let was = c.args.bounded.now.items in
    let rest = c.pop.new.self.items in
    let so = subst (λ l. NextSoFar c.args.net.now c.args.src c.args.ways.now c.args.best.now old l c.loop-candidate.next.items was c.loop-candidate.bounded.items)
    c.in-Some.ensures.items c.loop-candidate.invariant in
    subst (λ n. NextSoFar c.args.net.now c.args.src c.args.ways.now c.args.best.now old rest n was c.loop-candidate.bounded.items) (sym c.in_ok-push.ensures.items)
    (next_kept c.args.net.now c.args.src c.args.ways.now c.args.best.now old rest c.in-Some.candidate c.loop-candidate.next.items was c.loop-candidate.bounded.items
    c.requires.least c.requires.first so
    (λ e. false≢true (sym c.if-eq.false ∙ (slice_eq-Decides Decides-eqb _ _ _ c.eq.ensures).1 (c.as_slice.ensures ∙ e))))

pub returns : goal.returns
returns c = λ found search'.
    let none : c.loop-candidate.candidates.items ≡ [] = grind (arith, common_steps) in
    let old = c.args.candidates.items in
    let was = c.args.bounded.now.items in
    let next = c.loop-candidate.next.items in
    let bounded = c.loop-candidate.bounded.items in
    next_end c.args.net.now c.args.src c.args.ways.now c.args.best.now old next was bounded c.requires.ways c.requires.first
    (subst (λ l. NextSoFar c.args.net.now c.args.src c.args.ways.now c.args.best.now old l next was bounded) none c.loop-candidate.invariant)
    found search'

pub split-requires-clause-sound : goal.split-requires-clause-sound
split-requires-clause-sound c = c.requires.sound

pub split-requires-clause-outgoing : goal.split-requires-clause-outgoing
split-requires-clause-outgoing c = c.requires.outgoing

pub split-requires-clause-least : goal.split-requires-clause-least
split-requires-clause-least c =
    let candidate = c.in-Some.candidate in
    let there = subst (λ (l : List Candidate). Contains l candidate) (sym c.in-Some.ensures.items) (Contains-push c.pop.new.self.items candidate) in
    c.requires.least candidate (c.loop-candidate.invariant.still candidate there)

pub loop-candidate-smaller-then-eq : goal.loop-candidate-smaller-then-eq
loop-candidate-smaller-then-eq c =
    omega (arith, ap (λ (l : List Candidate). length l) c.in-Some.ensures.items, length-append c.pop.new.self.items (c.in-Some.candidate ∷ []))

pub loop-candidate-smaller : goal.loop-candidate-smaller
loop-candidate-smaller c =
    omega (arith, ap (λ (l : List Candidate). length l) c.in-Some.ensures.items, length-append c.pop.new.self.items (c.in-Some.candidate ∷ []))
