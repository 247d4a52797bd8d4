use Rattle.std.proofs.Common.{◌≡◌, ◌++◌, Option, Some, None, length, take, sym, subst, rules, ◌≤◌, ◌∙◌, ℕ, Bool, List, All, ap}
use Rattle.te_model.specs.declared.route.Path.{Path}
use Rattle.te_model.proofs.Chains.{walk_links}
use Rattle.shortest_path.specs.Least.{IsLeastWalk, links_of, AreLeastSums}
use Rattle.k_paths.specs.Classes.{IsLeastOfClass}
use Rattle.k_paths.proofs.Prefixes.{deviation_none, deviation_some}
use Rattle.k_paths.proofs.class.detour.Goals as goal

pub class_marks-requires-clause-links : goal.class_marks-requires-clause-links
class_marks-requires-clause-links c = walk_links c.args.net.now c.args.src c.args.node c.args.prefix.now c.requires.prefix.chain

pub returns-in-None : goal.returns-in-None
returns-in-None c =
    let net = c.args.net.now in
    let ways = c.args.ways.now in
    let node = c.args.node in
    let marks = c.in_ok-marks.marks.items in
    let least : IsLeastWalk net ways.costs marks node ways.dst None =
    subst (λ x. IsLeastWalk net x marks node ways.dst None) c.as_slice-costs.ensures
    (subst (λ m. IsLeastWalk net c.as_slice-costs.result.now m node ways.dst None) c.deref-2.ensures.value
    (subst (λ (o : Option Path). IsLeastWalk net c.as_slice-costs.result.now c.deref-2.result.now node ways.dst (links_of o)) c.in-None.is c.in_ok-follow.ensures))
    in
    deviation_none net marks c.args.src ways.dst node ways.costs c.args.prefix.now c.args.excluded.now c.requires.ways.costs c.requires.prefix c.in_ok-marks.ensures.marks least

pub returns : goal.returns
returns c =
    let net = c.args.net.now in
    let ways = c.args.ways.now in
    let node = c.args.node in
    let prefix = c.args.prefix.now in
    let r = c.in-Some.rest.links in
    let marks = c.in_ok-marks.marks.items in
    let least : IsLeastWalk net ways.costs marks node ways.dst (Some r) =
    subst (λ x. IsLeastWalk net x marks node ways.dst (Some r)) c.as_slice-costs.ensures
    (subst (λ m. IsLeastWalk net c.as_slice-costs.result.now m node ways.dst (Some r)) c.deref-2.ensures.value
    (subst (λ (o : Option Path). IsLeastWalk net c.as_slice-costs.result.now c.deref-2.result.now node ways.dst (links_of o)) c.in-Some.is c.in_ok-follow.ensures))
    in
    let found : c.extend_from_slice.new.self.items ≡ prefix ++ r = search rules in
    subst (λ l. IsLeastOfClass net c.args.src ways.dst l (length prefix) c.args.excluded.now × (take (length prefix) l ≡ prefix)) (sym found)
    (deviation_some net marks c.args.src ways.dst node ways.costs prefix c.args.excluded.now r c.requires.ways.costs c.requires.prefix c.in_ok-marks.ensures.marks least)

pub least_sums-requires-clause-sound : goal.least_sums-requires-clause-sound
least_sums-requires-clause-sound c = c.requires.sound

pub follow-requires-clause-sound : goal.follow-requires-clause-sound
follow-requires-clause-sound c = c.requires.sound

pub follow-requires-clause-lengths : goal.follow-requires-clause-lengths
follow-requires-clause-lengths c = ap (λ (l : List ℕ). length l) c.as_slice-costs.ensures ∙ c.requires.ways.costs.count

pub follow-requires-clause-positive : goal.follow-requires-clause-positive
follow-requires-clause-positive c = subst (λ (l : List ℕ). All (λ x. 1 ≤ x) l) (sym c.as_slice-costs.ensures) c.requires.ways.costs.positive

pub follow-requires-clause-distances : goal.follow-requires-clause-distances
follow-requires-clause-distances c =
    let net = c.args.net.now in
    let ways = c.args.ways.now in
    subst (λ k. AreLeastSums net k c.deref-2.result.now ways.dst c.deref-3.result.now) (sym c.as_slice-costs.ensures)
    (subst (λ (m : List Bool). AreLeastSums net ways.costs m ways.dst c.deref-3.result.now) (c.deref.ensures.value ∙ sym c.deref-2.ensures.value)
    (subst (AreLeastSums net ways.costs c.deref.result.now ways.dst) (sym c.deref-3.ensures.value) c.in_ok-sums.ensures))
