use Rattle.std.proofs.Common.{◌≡◌, ℕ, ◌≤◌, Bool, true, false, get_or, arith, ap, sym, ◌∙◌, if◌then◌else◌}
use Rattle.std.proofs.lemmas.List.{get_or_read}
use Rattle.std.proofs.lemmas.List.Sums.{sum_by_more, sum_by_more_le_part}
use Rattle.te_model.specs.declared.route.PathShare.{PathShare}
use Rattle.te_model.specs.Path.{has_number}
use Rattle.routing.specs.Merge.{no_path}
use Rattle.routing.proofs.routes.weight_on.Goals as goal
use Rattle.routing.proofs.routes.weight_on.Goals.{then-contains, else-contains}

abbrev held : ℕ → PathShare → ℕ
held e s = if has_number s.links e then s.weight else 0

held-le : (e : ℕ) (s : PathShare) → held e s ≤ s.weight
held-le e s = at_most (has_number s.links e) s.weight
  where
    at_most : (b : Bool) (w : ℕ) → (if b then w else 0) ≤ w
    at_most true w = omega arith
    at_most false w = omega arith

pub overflow_add-weight : goal.overflow_add-weight
overflow_add-weight c =
    let read = ap (λ (s : PathShare). s.weight) (get_or_read c.args.paths.now c.loop-path.path-index c.path-item.result c.loop-path-test.true c.path-item.is no_path) in
    let le = sum_by_more_le_part (held c.args.link) (λ s. s.weight) c.args.paths.now c.loop-path.path-index no_path c.loop-path-test.true (held-le c.args.link) in
    omega (arith, read, le, c.loop-path.invariant, c.requires)

pub loop-path-preserved : goal.loop-path-preserved
loop-path-preserved c =
    let item = get_or_read c.args.paths.now c.loop-path.path-index c.path-item.result c.loop-path-test.true c.path-item.is no_path in
    let more = sum_by_more (held c.args.link) c.args.paths.now c.loop-path.path-index no_path c.loop-path-test.true in
    let here : held c.args.link c.path-item.result ≡ held c.args.link (get_or c.args.paths.now c.loop-path.path-index no_path) = ap (held c.args.link) item in
    let holds : c.contains.result ≡ has_number c.path-item.result.links c.args.link =
    c.contains.ensures.value ∙ ap (λ l. has_number l c.args.link) c.as_slice.ensures
    in
    elim c.if-contains.branch [
      | then-contains w ↦
          let is : held c.args.link c.path-item.result ≡ c.path-item.result.weight =
          ap (λ b. if b then c.path-item.result.weight else 0) (sym holds ∙ w.if-contains.true)
          in
          omega (arith, more, here, is, w.weight-is, c.loop-path.invariant)
      | else-contains w ↦
          let is : held c.args.link c.path-item.result ≡ 0 = ap (λ b. if b then c.path-item.result.weight else 0) (sym holds ∙ w.if-contains.false) in
          omega (arith, more, here, is, w.weight-is, c.loop-path.invariant)
    ]
