use Rattle.std.proofs.Common.{◌≡◌, ◌<◌, ℕ, List, ◌∷◌, [], ◌++◌, length, get_or, arith, subst, ap, ◌∙◌, sym, inl, inr, All}
use Rattle.std.proofs.Math.ListN.{set}
use Rattle.std.proofs.lemmas.List.{length-set, get_or_past}
use Rattle.te_model.specs.declared.network.Link.{Link}
use Rattle.te_model.specs.Network.{link_at, link_count, no_link}
use Rattle.te_model.proofs.Lists.{written_whole}
use Rattle.shortest_path.specs.Links.{ends_of, arc_start}
use Rattle.shortest_path.specs.Rows.{AreArcRows, arc_row}
use Rattle.shortest_path.proofs.Building.{rows_more, start_inside}
use Rattle.std.proofs.lemmas.Bool.{cases_lt}
use Rattle.std.proofs.lemmas.List.Elements.{All-get_or, All-nil}
use Rattle.shortest_path.proofs.rows.rows_of.Goals as goal

pub loop-h-preserved : goal.loop-h-preserved
loop-h-preserved c =
    let net = c.args.net.now in
    let direction = c.args.direction in
    let h = c.loop-h.h in
    let before = c.loop-h.rows.items in
    let s = arc_start direction net h in
    let ends : c.ends-from.result ≡ ends_of direction (link_at net h) = c.ends-from.ensures ∙ ap (λ ls. ends_of direction (get_or ls h no_link)) c.as_slice-links.ensures in
    let added : c.add.new.rows ≡ set before s (arc_row before s ++ h ∷ []) =
    c.in_ok-add.ensures
    ∙ (ap (λ g. set g c.ends-from.result.0 (arc_row g c.ends-from.result.0 ++ h ∷ [])) c.deref_mut.ensures.value
    ∙ ap (λ (p : ℕ × ℕ). set before p.0 (arc_row before p.0 ++ h ∷ [])) ends)
    in
    let inside : s < length before =
    omega (arith, start_inside net direction h c.requires (subst (λ (ls : List Link). h < length ls) c.as_slice-links.ensures c.loop-h-test.true), c.loop-h.invariant.count)
    in
    let whole = written_whole c.loop-h.rows.len c.add.new.rows before (ap length added ∙ length-set before s (arc_row before s ++ h ∷ [])) c.loop-h.rows.ok.0 in
    rw (whole, added) (rows_more net direction h before inside c.loop-h.invariant)

pub returns : goal.returns
returns c =
    let net = c.args.net.now in
    let count : length c.as_slice-links.result.now ≡ link_count net = ap (λ (ls : List Link). length ls) c.as_slice-links.ensures in
    let every : c.loop-h.h ≡ link_count net = omega (arith, count) in
    subst (λ m. AreArcRows net c.args.direction m c.loop-h.rows.items) every c.loop-h.invariant

no_row : (rows : List (List ℕ)) (u : ℕ) → All (λ r. r ≡ []) rows → arc_row rows u ≡ []
no_row rows u none = elim (cases_lt u (length rows)) [
  | inl lt ↦ All-get_or (λ r. r ≡ []) rows u [] lt none
  | inr ge ↦ get_or_past rows u [] ge
]

pub loop-h-init : goal.loop-h-init
loop-h-init c =
    record {
      count = omega (arith, c.in_ok-rows.ensures.0, c.in_ok-rows.rows.ok.0, ap (λ (ns : List _). length ns) c.as_slice.ensures);
      sound = λ u. subst (All (λ h. (h < 0) × (arc_start c.args.direction c.args.net.now h ≡ u))) (sym (no_row c.in_ok-rows.rows.items u c.in_ok-rows.ensures.1))
          (All-nil (λ h. (h < 0) × (arc_start c.args.direction c.args.net.now h ≡ u)));
      complete = λ h below. absurd (omega (arith, below));
    }
