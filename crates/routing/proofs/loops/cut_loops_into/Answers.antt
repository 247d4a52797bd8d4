use Rattle.std.proofs.Common.{◌≡◌, ℕ, List, [], ◌∷◌, ◌++◌, length, get_or, arith, ap, sym, ◌∙◌, subst, rules, ◌<◌, All}
use Rattle.std.proofs.lemmas.Grind.{common_steps}
use Rattle.std.proofs.lemmas.List.Elements.{All-head, All-rest}
use Rattle.te_model.specs.declared.network.Link.{Link}
use Rattle.te_model.specs.Network.{head_of, no_link, link_count}
use Rattle.te_model.proofs.Chains.{walk_links}
use Rattle.routing.specs.Loops.{after_last, end_of}
use Rattle.routing.proofs.Cutting.{CutSoFar, cut_begin, cut_more, cut_end, after-le}
use Rattle.routing.proofs.loops.cut_loops_into.Goals as goal

pub after_last-rest-requires : goal.after_last-rest-requires
after_last-rest-requires c = walk_links c.args.net.now c.args.src (end_of c.args.net.now c.args.src c.args.walk.now) c.args.walk.now c.requires

pub loop-h-init : goal.loop-h-init
loop-h-init c =
    let net = c.args.net.now in
    let walk = c.args.walk.now in
    let links = walk_links net c.args.src (end_of net c.args.src walk) walk c.requires in
    subst (λ (r : List ℕ). CutSoFar net c.args.src walk c.clear.new.self.items r) (sym c.after_last-rest.ensures)
    (subst (λ (k : List ℕ). CutSoFar net c.args.src walk k (after_last net c.args.src walk)) (sym c.clear.ensures.items)
    (cut_begin net c.args.src walk links))

pub loop-h-preserved : goal.loop-h-preserved
loop-h-preserved c =
    let net = c.args.net.now in
    let walk = c.args.walk.now in
    let cut = c.loop-h.cut.items in
    let h = c.in-Some.h.now in
    let hs = c.in-Some.tail.now in
    let begins : c.loop-h.rest.now ≡ c.in-Some.h.now ∷ c.in-Some.tail.now = c.in-Some.ensures.cases.0 in
    let far = subst (λ (r : List ℕ). CutSoFar net c.args.src walk cut r) begins c.loop-h.invariant in
    let pushed : c.push.new.self.items ≡ cut ++ h ∷ [] = search rules in
    let node : (get_or c.as_slice.result.now h no_link).head ≡ head_of net h = ap (λ (ls : List Link). (get_or ls h no_link).head) c.as_slice.ensures in
    let rest : c.after_last-rest-in-Some.result.now ≡ after_last net (head_of net h) hs =
    c.after_last-rest-in-Some.ensures ∙ ap (λ v. after_last net v hs) node
    in
    subst (λ (k : List ℕ). CutSoFar net c.args.src walk k c.after_last-rest-in-Some.result.now) (sym pushed)
    (subst (λ (r : List ℕ). CutSoFar net c.args.src walk (cut ++ h ∷ []) r) (sym rest) (cut_more net c.args.src walk cut h hs far))

pub loop-h-smaller : goal.loop-h-smaller
loop-h-smaller c =
    let net = c.args.net.now in
    let hs = c.in-Some.tail.now in
    let begins : c.loop-h.rest.now ≡ c.in-Some.h.now ∷ c.in-Some.tail.now = c.in-Some.ensures.cases.0 in
    let v = (get_or c.as_slice.result.now c.in-Some.h.now no_link).head in
    omega (arith, ap (λ (l : List ℕ). length l) begins, after-le net v hs, ap (λ (l : List ℕ). length l) c.after_last-rest-in-Some.ensures)

pub returns : goal.returns
returns c =
    let none : c.loop-h.rest.now ≡ [] = search (rules, common_steps) in
    cut_end c.args.net.now c.args.src c.args.walk.now c.loop-h.cut.items
    (subst (λ (r : List ℕ). CutSoFar c.args.net.now c.args.src c.args.walk.now c.loop-h.cut.items r) none c.loop-h.invariant)

pub after_last-rest-requires-in-Some : goal.after_last-rest-requires-in-Some
after_last-rest-requires-in-Some c =
    All-rest (λ h. h < link_count c.args.net.now) c.in-Some.h.now c.in-Some.tail.now c.loop-h.rest.now c.in-Some.ensures.cases.0 c.loop-h.invariant.links

pub bounds-as_slice-h : goal.bounds-as_slice-h
bounds-as_slice-h c =
    let inside = All-head (λ h. h < link_count c.args.net.now) c.in-Some.h.now c.in-Some.tail.now
    (subst (All (λ h. h < link_count c.args.net.now)) c.in-Some.ensures.cases.0 c.loop-h.invariant.links)
    in
    omega (arith, inside, ap (λ (ls : List Link). length ls) c.as_slice.ensures)
