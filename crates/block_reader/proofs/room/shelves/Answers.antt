use Rattle.std.proofs.Common.{◌≡◌, ◌∙◌, ◌++◌, ◌∷◌, [], length, sym, ap, subst, arith, inl, inr}
use Rattle.std.proofs.Math.ListN.{get_or-append}
use Rattle.std.proofs.Math.Seq.{get_or-append_seam}
use Rattle.std.specs.Prelude.{slice_index_or}
use Rattle.std.proofs.lemmas.Bool.{cases_lt}
use Rattle.block_reader.specs.Room.{IsShelf}
use Rattle.block_reader.proofs.room.shelves.Goals as goal

pub loop-count-preserved : goal.loop-count-preserved
loop-count-preserved c =
    let so_far = c.loop-count.invariant in
    let nodes = c.args.nodes in
    let old = c.loop-count.shelves.items in
    let rows = c.in_ok-rows.rows in (
      omega (arith, so_far.0, c.in_ok-push.ensures.len),
      λ k within. rw c.in_ok-push.ensures.items (elim (cases_lt k (length old)) [
        | inl below ↦ subst (IsShelf k nodes) (sym (get_or-append old (rows ∷ []) [] k below)) (so_far.1 k (omega arith))
        | inr past ↦
            let last : k ≡ length old = omega (arith, past, within, c.in_ok-push.ensures.len) in
            let same : k ≡ c.loop-count.count = omega (arith, last, so_far.0) in
            subst (IsShelf k nodes) (sym (ap (λ j. slice_index_or (old ++ rows ∷ []) j []) last ∙ get_or-append_seam old rows [] []))
            (subst (λ j. IsShelf j nodes rows) (sym same) c.in_ok-rows.ensures)
      ]),
    )
