use Rattle.std.proofs.Common.{◌≡◌, ◌+◌, ◌<◌, [], ℕ, List, None, Vec, Global, length, get_or, arith, ap, sym, ◌∙◌, subst}
use Rattle.std.proofs.lemmas.List.Elements.{All-nil}
use Rattle.te_model.specs.declared.network.Link.{Link}
use Rattle.te_model.specs.Network.{link_count, no_link, tail_of}
use Rattle.shortest_path.specs.Graph.{distance_at}
use Rattle.shortest_path.proofs.FirstLinks.{some_read}
use Rattle.shortest_path.proofs.ReadLinks.{read_place, read_tail}
use Rattle.k_paths.proofs.OpenSums.{UnsummedSoFar, unsummed_more, unsummed_skip}
use Rattle.k_paths.proofs.sums.unsummed.Goals as goal
use Rattle.k_paths.proofs.sums.unsummed.Goals.{then-is_none+in_ok-push, else-is_none}

pub loop-h-init : goal.loop-h-init
loop-h-init c =
    let net = c.args.net.now in
    let none : UnsummedSoFar net c.args.sums.now 0 [] = record { few = omega arith; links = All-nil (λ k. k < link_count net); has = λ k below none. absurd (omega (arith, below)) } in
    subst (λ (l : List ℕ). UnsummedSoFar net c.args.sums.now 0 l) (sym c.new-list.ensures.items) none

pub bounds-sums-links : goal.bounds-sums-links
bounds-sums-links c =
    omega (arith, read_tail c.args.net.now c.as_slice-links.result.now c.loop-h.h c.requires.sound c.as_slice-links.ensures c.loop-h-test.true, c.requires.count)

pub overflow_cast-h : goal.overflow_cast-h
overflow_cast-h c =
    omega (arith, read_place c.args.net.now c.as_slice-links.result.now c.loop-h.h c.as_slice-links.ensures c.loop-h-test.true, c.requires.sound.few_links)

pub loop-h-preserved : goal.loop-h-preserved
loop-h-preserved c =
    let net = c.args.net.now in
    let sums = c.args.sums.now in
    let h = c.loop-h.h in
    let list = c.loop-h.list.items in
    let inside = read_place net c.as_slice-links.result.now h c.as_slice-links.ensures c.loop-h-test.true in
    let tail : (get_or c.as_slice-links.result.now h no_link).tail ≡ tail_of net h = ap (λ (l : List Link). (get_or l h no_link).tail) c.as_slice-links.ensures in
    elim c.if-is_none.branch [
      | then-is_none+in_ok-push w ↦
          subst (λ (v : Vec ℕ Global). UnsummedSoFar net sums (h + 1) v.items) (sym w.list-is)
          (subst (λ l. UnsummedSoFar net sums (h + 1) l) (sym w.in_ok-push.ensures.items) (unsummed_more net sums h list c.loop-h.invariant inside))
      | else-is_none w ↦
          let some : distance_at sums (get_or c.as_slice-links.result.now h no_link).tail ≡ None → ⊥ =
          some_read (distance_at sums (get_or c.as_slice-links.result.now h no_link).tail) c.is_none.result c.is_none.ensures w.if-is_none.false
          in
          subst (λ (v : Vec ℕ Global). UnsummedSoFar net sums (h + 1) v.items) (sym w.list-is)
          (unsummed_skip net sums h list c.loop-h.invariant (λ none. some (ap (distance_at sums) tail ∙ none)))
    ]

pub returns-clause-few : goal.returns-clause-few
returns-clause-few c = omega (arith, c.loop-h.invariant.few, c.loop-h.far-h, ap (λ (l : List Link). length l) c.as_slice-links.ensures)

pub returns-clause-links : goal.returns-clause-links
returns-clause-links c = c.loop-h.invariant.links

pub returns-clause-has : goal.returns-clause-has
returns-clause-has c = λ h below none.
    let reached : h < c.loop-h.h = omega (arith, below, c.loop-h-test.false, ap (λ (l : List Link). length l) c.as_slice-links.ensures) in
    c.loop-h.invariant.has h reached none
