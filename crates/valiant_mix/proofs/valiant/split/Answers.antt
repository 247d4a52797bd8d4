use Rattle.std.proofs.Common.{◌≡◌, ◌<◌, ◌∙◌, inl, inr, length, vec_len, arith, sym}
use Rattle.std.proofs.lemmas.Bool.{cases_lt, eq-eqb, eqb-true, false≢true}
use Rattle.std.proofs.lemmas.List.{length-map}
use Rattle.te_model.specs.declared.route.Path.{Path}
use Rattle.valiant_mix.proofs.Splits.{detours_split, few_detours, links_in_order, some_detour, within_format}
use Rattle.valiant_mix.proofs.valiant.split.Goals as goal

pub returns-then-is_empty-clause-none : goal.returns-then-is_empty-clause-none
returns-then-is_empty-clause-none c = λ has.
    let paths = c.in_ok-paths.paths in
    let none : vec_len paths ≡ 0 = eqb-true (vec_len paths) 0 (sym c.is_empty.ensures ∙ c.if-is_empty.true) in
    let some = some_detour c.args.net.now c.args.pair (links_in_order paths.items) c.requires.network c.requires.pair has c.in_ok-paths.ensures in
    let count = length-map paths.items (λ (p : Path). p.links) in
    let size = paths.ok.0 in
    omega (arith, none, some, count, size)

pub even_shares-requires-clause-few : goal.even_shares-requires-clause-few
even_shares-requires-clause-few c =
    let paths = c.in_ok-paths.paths in
    let few = few_detours c.args.net.now c.args.pair.src c.args.pair.dst (links_in_order paths.items) c.requires.network c.in_ok-paths.ensures in
    let count = length-map paths.items (λ (p : Path). p.links) in
    let size = paths.ok.0 in
    omega (arith, few, count, size)

pub returns-clause-some : goal.returns-clause-some
returns-clause-some c =
    let net = c.args.net.now in
    let paths = c.in_ok-paths.paths in
    let order = links_in_order paths.items in
    let merged = c.in_ok-merged.merged.items in
    let count = length-map paths.items (λ (p : Path). p.links) in
    let size = paths.ok.0 in
    let some : 0 < length order = elim (cases_lt 0 (vec_len paths)) [
      | inl lt ↦ omega (arith, lt, count, size)
      | inr ge ↦ absurd (false≢true (sym c.if-is_empty.false ∙ (c.is_empty.ensures ∙ eq-eqb (vec_len paths) 0 (omega (arith, ge)))))
    ]
    in
    within_format net c.args.pair merged c.requires.network
    (detours_split net c.args.pair order merged c.requires.network some c.in_ok-paths.ensures c.in_ok-merged.ensures)
