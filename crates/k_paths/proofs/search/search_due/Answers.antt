use Rattle.std.proofs.Common.{◌≡◌, ◌<◌, ◌≤◌, ◌^◌, ◌++◌, ◌∷◌, [], ℕ, List, All, length, take, arith, ap, sym, ◌∙◌, subst, get_or}
use Rattle.std.specs.List.{swap_remove}
use Rattle.std.specs.List.Sorted.{IsPermutation}
use Rattle.std.proofs.lemmas.List.Elements.{All-weaker}
use Rattle.std.proofs.lemmas.List.Sorted.{IsPermutation-swap_remove}
use Rattle.k_paths.specs.declared.candidate.Candidate.{Candidate}
use Rattle.k_paths.specs.declared.candidate.BoundedClass.{BoundedClass}
use Rattle.k_paths.specs.Classes.{IsLeastIn, IsLeastOfClass}
use Rattle.k_paths.specs.Search.{AreBehind, IsWithin, candidate_links}
use Rattle.k_paths.proofs.Bounds.{DueSoFar, due_start, due_none, due_some, taken_in}
use Rattle.k_paths.proofs.Rounds.{links_inside}
use Rattle.k_paths.proofs.search.search_due.Goals as goal

-- what is left of a list, without the class at a place
taken_out : (old new : List BoundedClass) (i : ℕ) (c : BoundedClass) → i < length old → c ≡ get_or old i c → new ≡ swap_remove old i c → IsPermutation old (c ∷ new)
taken_out old new i c below value is = subst (λ l. IsPermutation old (c ∷ l)) (sym is) (IsPermutation-swap_remove old i c below value)

pub loop-next-init : goal.loop-next-init
loop-next-init c = due_start c.args.net.now c.args.src c.args.ways.now c.args.candidates.now.items c.args.bounded.now.items c.requires.least c.requires.bounds

pub due-requires-clause-links : goal.due-requires-clause-links
due-requires-clause-links c =
    let ways = c.args.ways.now in
    let cs = c.loop-next.candidates.items in
    subst (λ (l : List Candidate). (k : ℕ) → k < length l → All (λ h. h < length c.as_slice.result.now) (candidate_links l k)) (sym c.deref.ensures.value)
    (subst (λ (costs : List ℕ). (k : ℕ) → k < length cs → All (λ h. h < length costs) (candidate_links cs k)) (sym c.as_slice.ensures)
    (links_inside c.args.net.now c.args.src ways.dst ways.costs cs c.requires.ways.costs c.loop-next.invariant.least))

pub due-requires-clause-costs : goal.due-requires-clause-costs
due-requires-clause-costs c =
    let costs = c.args.ways.now.costs in
    subst (All (λ x. x ≤ 2 ^ 28)) (sym c.as_slice.ensures)
    (All-weaker (λ x. x ≤ 65535) (λ x. x ≤ 2 ^ 28) (λ x le. omega (arith, le)) costs c.requires.ways.costs.small)

pub swap_remove-class-requires : goal.swap_remove-class-requires
swap_remove-class-requires c =
    omega (arith, c.in-Some.ensures, ap (λ (l : List BoundedClass). length l) c.deref-in-loop-next.ensures.value, c.loop-next.bounded.ok.0)

pub least_of-requires-clause-sound : goal.least_of-requires-clause-sound
least_of-requires-clause-sound c = c.requires.sound

pub least_of-requires-clause-class : goal.least_of-requires-clause-class
least_of-requires-clause-class c =
    let bounded = c.loop-next.bounded.items in
    let class = c.swap_remove-class.result in
    let below : c.in-Some.next < length bounded = omega (arith, c.in-Some.ensures, ap (λ (l : List BoundedClass). length l) c.deref-in-loop-next.ensures.value) in
    let same = taken_out bounded c.swap_remove-class.new.self.items c.in-Some.next class below c.swap_remove-class.ensures.value c.swap_remove-class.ensures.items in
    c.loop-next.invariant.bounds class (taken_in bounded c.swap_remove-class.new.self.items class same)

pub loop-next-preserved-in-Some-branch-2 : goal.loop-next-preserved-in-Some-branch-2
loop-next-preserved-in-Some-branch-2 c =
    let net = c.args.net.now in
    let s = c.args.src in
    let ways = c.args.ways.now in
    let bounded = c.loop-next.bounded.items in
    let cs = c.loop-next.candidates.items in
    let rest = c.swap_remove-class.new.self.items in
    let class = c.swap_remove-class.result in
    let m = c.in-Some-2.found.items in
    let below : c.in-Some.next < length bounded = omega (arith, c.in-Some.ensures, ap (λ (l : List BoundedClass). length l) c.deref-in-loop-next.ensures.value) in
    let same = taken_out bounded rest c.in-Some.next class below c.swap_remove-class.ensures.value c.swap_remove-class.ensures.items in
    let is : IsLeastOfClass net s ways.dst m (length class.prefix) class.excluded × (take (length class.prefix) m ≡ class.prefix) =
    subst (IsLeastIn net s ways.dst class.prefix class.excluded) c.in-Some-2.is c.in_ok-found.ensures
    in
    let pushed : c.push.new.self.items ≡ cs ++ (record { links = m; fixed = length class.prefix; excluded = class.excluded }) ∷ [] =
    c.in_ok-push.ensures.items
    ∙ (ap (λ l. cs ++ (record { links = l; fixed = length c.as_slice-in-Some-2.result.now; excluded = class.excluded }) ∷ []) c.new.ensures
    ∙ ap (λ (l : List ℕ). cs ++ (record { links = m; fixed = length l; excluded = class.excluded }) ∷ []) c.as_slice-in-Some-2.ensures)
    in
    subst (λ l. DueSoFar net s ways c.args.candidates.now.items c.args.bounded.now.items l rest) (sym pushed)
    (due_some net s ways c.args.candidates.now.items c.args.bounded.now.items cs bounded rest class m c.loop-next.invariant same is.0 is.1)

pub loop-next-preserved : goal.loop-next-preserved
loop-next-preserved c =
    let net = c.args.net.now in
    let s = c.args.src in
    let ways = c.args.ways.now in
    let bounded = c.loop-next.bounded.items in
    let rest = c.swap_remove-class.new.self.items in
    let class = c.swap_remove-class.result in
    let below : c.in-Some.next < length bounded = omega (arith, c.in-Some.ensures, ap (λ (l : List BoundedClass). length l) c.deref-in-loop-next.ensures.value) in
    let same = taken_out bounded rest c.in-Some.next class below c.swap_remove-class.ensures.value c.swap_remove-class.ensures.items in
    let none : (q : List ℕ) → IsWithin net s ways.dst class q → ⊥ = subst (IsLeastIn net s ways.dst class.prefix class.excluded) c.in_default-2.is c.in_ok-found.ensures in
    due_none net s ways c.args.candidates.now.items c.args.bounded.now.items c.loop-next.candidates.items bounded rest class c.loop-next.invariant same none

pub loop-next-smaller-in-Some-branch-2 : goal.loop-next-smaller-in-Some-branch-2
loop-next-smaller-in-Some-branch-2 c = omega (arith, c.swap_remove-class.ensures.len, c.loop-next.bounded.ok.0, c.swap_remove-class.new.self.ok.0)

pub loop-next-smaller : goal.loop-next-smaller
loop-next-smaller c = omega (arith, c.swap_remove-class.ensures.len, c.loop-next.bounded.ok.0, c.swap_remove-class.new.self.ok.0)

pub returns : goal.returns
returns c = λ found search'.
    let behind : AreBehind c.args.ways.now.costs c.loop-next.candidates.items c.loop-next.bounded.items =
    subst (λ (l : List BoundedClass). AreBehind c.args.ways.now.costs c.loop-next.candidates.items l) c.deref-in-loop-next.ensures.value
    (subst (λ (l : List Candidate). AreBehind c.args.ways.now.costs l c.deref-in-loop-next.result.now) c.deref.ensures.value
    (subst (λ (l : List ℕ). AreBehind l c.deref.result.now c.deref-in-loop-next.result.now) c.as_slice.ensures c.in_default.ensures))
    in
    (c.loop-next.invariant.search' found search', behind)
