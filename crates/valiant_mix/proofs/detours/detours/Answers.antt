use Rattle.std.proofs.Common.{◌≡◌, ◌+◌, ◌∙◌, ℕ, List, arith, ap, sym, subst}
use Rattle.std.proofs.lemmas.List.{map_push}
use Rattle.te_model.specs.declared.route.Path.{Path}
use Rattle.te_model.specs.Network.{node_count}
use Rattle.te_model.proofs.WellFormed.{few_nodes}
use Rattle.valiant_mix.specs.Valiant.{AreDetours, IsDetour}
use Rattle.valiant_mix.proofs.DetoursMade.{IsFound, detours_more, detours_same}
use Rattle.valiant_mix.proofs.Splits.{links_in_order}
use Rattle.valiant_mix.proofs.detours.detours.Goals as goal
use Rattle.valiant_mix.proofs.detours.detours.Goals.{in-Some+in_ok-push-in-Some, in-None}

pub loop-middle-init : goal.loop-middle-init
loop-middle-init c = ap links_in_order c.in_ok-paths.ensures.items

pub overflow_cast-middle : goal.overflow_cast-middle
overflow_cast-middle c =
    let few = few_nodes c.args.net.now c.requires.network in
    omega (arith, few, c.loop-middle-test.true, c.requires.legs.count)

pub loop-middle-preserved : goal.loop-middle-preserved
loop-middle-preserved c =
    let net = c.args.net.now in
    let s = c.args.src in
    let t = c.args.dst in
    let m = c.loop-middle.middle in
    let before = c.loop-middle.paths.items in
    let found : IsFound net s t m c.in_ok-path.field-0 = c.in_ok-path.ensures in
    elim c.match-branch-3.branch [
      | in-Some+in_ok-push-in-Some w ↦
          let is : IsDetour net s t m w.in-Some.path.links = subst (IsFound net s t m) w.in-Some.is found in
          subst (AreDetours net s t (m + 1))
          (sym (ap links_in_order (ap (λ v. v.items) w.paths-is ∙ w.in_ok-push-in-Some.ensures.items) ∙ map_push (λ (p : Path). p.links) before w.in-Some.path))
          (detours_more net s t m (links_in_order before) w.in-Some.path.links c.loop-middle.invariant is)
      | in-None w ↦
          let none : (path : List ℕ) → IsDetour net s t m path → ⊥ = subst (IsFound net s t m) w.in-None.is found in
          subst (λ l. AreDetours net s t (m + 1) (links_in_order l)) (sym (ap (λ v. v.items) w.paths-is))
          (detours_same net s t m (links_in_order before) c.loop-middle.invariant none)
    ]

pub returns : goal.returns
returns c =
    let net = c.args.net.now in
    let end = c.loop-middle-test.false in
    let within = c.loop-middle.auto.middle-end in
    let count = c.requires.legs.count in
    let every : c.loop-middle.middle ≡ node_count net = omega (arith, end, within, count) in
    subst (λ n. AreDetours net c.args.src c.args.dst n (links_in_order c.loop-middle.paths.items)) every c.loop-middle.invariant
