use Rattle.std.proofs.Common.{◌≡◌, ℕ, ◌+◌, ◌<◌, List, length, arith, ap, sym, ◌∙◌, subst}
use Rattle.std.proofs.lemmas.List.{get_or_read}
use Rattle.std.proofs.lemmas.Bool.{false≢true}
use Rattle.std.proofs.lemmas.Bool.Decides.{Decides-eqb}
use Rattle.std.proofs.lemmas.Slice.Eq.{slice_eq-Decides}
use Rattle.te_model.specs.declared.route.PathShare.{PathShare}
use Rattle.routing.specs.Merge.{IsAdded, links_at, no_path}
use Rattle.routing.proofs.Adding.{IsPlace, added_new, added_to}
use Rattle.std.proofs.lemmas.List.Sums.{get_or-le-sum_by}
use Rattle.routing.proofs.merging.add.Goals as goal
use Rattle.routing.proofs.merging.add.Goals.{else-place-len-via-then-place-len+else-eq, else-place-len-via-else-place-len}

pub returns-then-eq : goal.returns-then-eq
returns-then-eq c =
    let xs = c.args.merged.now.items in
    let i = c.place_of-place.result in
    let inside : i < length xs = omega (arith, c.if-place-len.true, c.len.ensures, c.args.merged.now.ok.0) in
    let same : c.as_slice-then-place-len.result.now ≡ c.as_slice-then-place-len-2.result.now = (slice_eq-Decides Decides-eqb _ _ _ c.eq.ensures).0 c.if-eq.true in
    let read = ap (λ (s : PathShare). s.links) (get_or_read xs i c.index.result.now inside c.index.ensures no_path) in
    let at : links_at xs i ≡ c.args.part.links = sym read ∙ (sym c.as_slice-then-place-len.ensures ∙ (same ∙ c.as_slice-then-place-len-2.ensures)) in
    let old = get_or_read xs i c.index_mut.result.now inside c.index_mut.ensures.value no_path in
    added_to xs i c.args.part (record { links = c.index_mut.result.now.links; weight = c.index_mut.result.now.weight + c.args.part.weight })
    c.requires.ascending inside at (ap (λ (s : PathShare). s.links) old ∙ at) (ap (λ (s : PathShare). s.weight + c.args.part.weight) old)

pub returns-in_ok-insert : goal.returns-in_ok-insert
returns-in_ok-insert c =
    let xs = c.args.merged.now.items in
    let i = c.place_of-place.result in
    let y = c.args.part in
    let links = c.as_slice-2.ensures in
    let place : IsPlace xs y.links i = subst (λ (l : List ℕ). IsPlace xs l i) links
    (subst (λ (l : List PathShare). IsPlace l c.as_slice-2.result.now i) c.as_slice.ensures.value
    (record { within = c.place_of-place.ensures.within; before = c.place_of-place.ensures.before; after = c.place_of-place.ensures.after }))
    in
    let apart : i < length xs → links_at xs i ≡ y.links → ⊥ = λ inside at. elim c.else-place-len.branch [
      | else-place-len-via-then-place-len+else-eq w ↦
          let read = ap (λ (s : PathShare). s.links) (get_or_read xs i w.index.result.now inside w.index.ensures no_path) in
          let same : w.as_slice-then-place-len.result.now ≡ w.as_slice-then-place-len-2.result.now =
          w.as_slice-then-place-len.ensures ∙ (read ∙ (at ∙ sym w.as_slice-then-place-len-2.ensures))
          in
          let is = (slice_eq-Decides Decides-eqb _ _ _ w.eq.ensures).1 same in
          false≢true (sym w.if-eq.false ∙ is)
      | else-place-len-via-else-place-len w ↦ omega (arith, inside, w.if-place-len.false, c.len.ensures, c.args.merged.now.ok.0)
    ]
    in
    subst (IsAdded xs y) (sym c.in_ok-insert.ensures.items) (added_new xs i y c.requires.ascending place apart)

pub overflow_add-index_mut : goal.overflow_add-index_mut
overflow_add-index_mut c =
    let xs = c.args.merged.now.items in
    let i = c.place_of-place.result in
    let inside : i < length xs = omega (arith, c.if-place-len.true, c.len.ensures, c.args.merged.now.ok.0) in
    let read = ap (λ (s : PathShare). s.weight) (get_or_read xs i c.index_mut.result.now inside c.index_mut.ensures.value no_path) in
    omega (arith, read, get_or-le-sum_by (λ (s : PathShare). s.weight) xs i no_path inside, c.requires.fits)
