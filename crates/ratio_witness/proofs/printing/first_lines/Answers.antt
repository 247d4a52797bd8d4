use Rattle.std.proofs.Common.{◌≡◌, ◌∙◌, ◌++◌, ◌∷◌, [], List, ap}
use Rattle.std.specs.Prelude.{codes}
use Rattle.number_tables.specs.declared.line.NumLine.{NumLine}
use Rattle.number_tables.specs.Due.{word_line}
use Rattle.ratio_witness.proofs.printing.first_lines.Goals as goal

-- three lines that are put into an empty list
three_put : (zero one two three : List NumLine) (a b c x y z : NumLine) → zero ≡ [] → one ≡ zero ++ a ∷ [] → two ≡ one ++ b ∷ [] → three ≡ two ++ c ∷ [] →
    a ≡ x → b ≡ y → c ≡ z → three ≡ x ∷ y ∷ z ∷ []
three_put zero one two three a b c x y z none put_a put_b put_c is_a is_b is_c =
    put_c ∙ ap (λ (l : List NumLine). l ++ c ∷ []) (put_b ∙ ap (λ (l : List NumLine). l ++ b ∷ []) (put_a ∙ ap (λ (l : List NumLine). l ++ a ∷ []) none))
    ∙ ap (λ (l : NumLine). l ∷ b ∷ c ∷ []) is_a ∙ ap (λ (l : NumLine). x ∷ l ∷ c ∷ []) is_b ∙ ap (λ (l : NumLine). x ∷ y ∷ l ∷ []) is_c

pub returns : goal.returns
returns c =
    let w = c.args.witness.now in
    three_put _ _ _ _ c.in_ok-bound.bound c.in_ok-scale.scale c.in_ok-demand.demand (word_line (codes "bound") (w.bound ∷ []))
    (word_line (codes "scale") (w.x ∷ w.y ∷ [])) (word_line (codes "demand") w.demand.demand) c.new-lines.ensures.items c.in_ok-push.ensures.items c.in_ok-push-2.ensures.items
    c.in_ok-push-3.ensures.items c.in_ok-bound.ensures c.in_ok-scale.ensures (c.in_ok-demand.ensures ∙ ap (word_line (codes "demand")) c.as_slice.ensures)
