use Rattle.std.proofs.Common.{◌≡◌, ℕ, suc, Bool, true, false, ◌+◌, ◌++◌, ◌∷◌, [], List, arith, ap, sym, ◌∙◌, subst, if◌then◌else◌}
use Rattle.std.proofs.lemmas.List.{get_or_default, get_or_read}
use Rattle.te_model.specs.declared.route.PathShare.{PathShare}
use Rattle.routing.specs.Merge.{no_path, path_at}
use Rattle.path_budget.specs.Budget.{heavy_below}
use Rattle.path_budget.proofs.heavy.heaviest.Goals as goal
use Rattle.path_budget.proofs.heavy.heaviest.Goals.{then-is_heavy+in_ok-links+in_ok-push, else-is_heavy}

push_same : (kept before : List PathShare) (links : List ℕ) (weight : ℕ) (s : PathShare) → kept ≡ before → links ≡ s.links → weight ≡ s.weight →
    kept ++ (record { links = links; weight = weight }) ∷ [] ≡ before ++ s ∷ []
push_same kept before links weight s same_kept same_links same_weight =
    ap (λ (l : List PathShare). l ++ (record { links = links; weight = weight }) ∷ []) same_kept
    ∙ (ap (λ (l : List ℕ). before ++ (record { links = l; weight = weight }) ∷ []) same_links
    ∙ ap (λ (w : ℕ). before ++ (record { links = s.links; weight = w }) ∷ []) same_weight)

pub loop-i-preserved : goal.loop-i-preserved
loop-i-preserved c =
    let paths = c.args.paths.now in
    let i = c.loop-i.i in
    let before = heavy_below c.args.budget paths i in
    let next : i + 1 ≡ suc i = omega arith in
    let kept : (b : Bool) → c.is_heavy.result ≡ b → heavy_below c.args.budget paths (suc i) ≡ (if b then before ++ path_at paths i ∷ [] else before) =
    λ b is. ap (λ (b : Bool). if b then before ++ path_at paths i ∷ [] else before) (sym c.is_heavy.ensures ∙ is)
    in
    subst (λ n. c.if-is_heavy.kept.items ≡ heavy_below c.args.budget paths n) (sym next)
    (elim c.if-is_heavy.branch [
      | then-is_heavy+in_ok-links+in_ok-push w ↦
          let at = get_or_read paths i w.index-paths-i.result c.loop-i-test.true w.index-paths-i.is no_path in
          let links : w.new.result ≡ (path_at paths i).links =
          w.new.ensures ∙ (w.in_ok-links.ensures.items ∙ (w.as_slice.ensures ∙ ap (λ (s : PathShare). s.links) (sym w.index-paths-i.is ∙ at)))
          in
          ap (λ v. v.items) w.kept-is
          ∙ (w.in_ok-push.ensures.items
          ∙ (push_same _ before _ _ (path_at paths i) c.loop-i.invariant links (ap (λ (s : PathShare). s.weight) (get_or_default paths i _ no_path c.loop-i-test.true))
          ∙ sym (kept true w.if-is_heavy.true)))
      | else-is_heavy w ↦ ap (λ v. v.items) w.kept-is ∙ (c.loop-i.invariant ∙ sym (kept false w.if-is_heavy.false))
    ])
