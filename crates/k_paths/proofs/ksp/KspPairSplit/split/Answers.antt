use Rattle.std.proofs.Common.{◌≡◌, inl, inr, ℕ, ◌≤◌, List, [], map, arith, sym, ◌∙◌, subst, vec_len}
use Rattle.std.proofs.lemmas.Bool.{cases_lt, eq-eqb, eqb-true, false≢true}
use Rattle.std.proofs.lemmas.List.{length-map, nil_from_length}
use Rattle.te_model.specs.declared.route.Path.{Path}
use Rattle.k_paths.specs.Classes.{AreLeast}
use Rattle.k_paths.proofs.EvenSplits.{least_split, none_least}
use Rattle.k_paths.proofs.ksp.KspPairSplit.split.Goals as goal

pub returns-then-is_empty-clause-none : goal.returns-then-is_empty-clause-none
returns-then-is_empty-clause-none c =
    let paths = c.in_ok-paths.paths.items in
    let count = eqb-true (vec_len c.in_ok-paths.paths) 0 (sym c.is_empty.ensures ∙ c.if-is_empty.true) in
    let links = map (λ (p : Path). p.links) paths in
    let none : links ≡ [] =
    nil_from_length links (omega (arith, count, length-map paths (λ (p : Path). p.links), c.in_ok-paths.paths.ok.0))
    in
    none_least c.args.net.now c.args.pair.src c.args.pair.dst c.args.self.now.k links c.args.self.now.some
    (subst (λ t. AreLeast c.args.net.now c.args.pair.src t c.args.self.now.k links) c.requires.toward.1 c.in_ok-paths.ensures) none

pub returns-clause-some : goal.returns-clause-some
returns-clause-some c =
    let paths = c.in_ok-paths.paths in
    let order = map (λ (p : Path). p.links) paths.items in
    let some : 1 ≤ vec_len paths = elim (cases_lt 0 (vec_len paths)) [
      | inl lt ↦ lt
      | inr ge ↦ absurd (false≢true (sym c.if-is_empty.false ∙ (c.is_empty.ensures ∙ eq-eqb (vec_len paths) 0 (omega arith))))
    ]
    in
    least_split c.args.net.now c.args.pair c.args.self.now.k order c.in_ok-merged.merged.items c.args.self.now.few
    (omega (arith, some, length-map paths.items (λ (p : Path). p.links), paths.ok.0))
    (subst (λ t. AreLeast c.args.net.now c.args.pair.src t c.args.self.now.k order) c.requires.toward.1 c.in_ok-paths.ensures) c.in_ok-merged.ensures

pub k_least_along-requires-clause-apart : goal.k_least_along-requires-clause-apart
k_least_along-requires-clause-apart c = λ e. c.requires.pair.apart (e ∙ c.requires.toward.1)
