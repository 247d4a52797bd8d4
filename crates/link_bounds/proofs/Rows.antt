-- The fields of a row one after another, and rows one after another.
use Rattle.std.proofs.Common.{◌≡◌, ◌∙◌, ℕ, ◌<◌, Bool, true, false, List, [], ◌∷◌, ◌++◌, append_assoc, ap, map, refl, slice_index}
use Rattle.std.specs.Prelude.{All, decimal, filter, flat_map}
use Rattle.std.specs.List.{join_with_byte, range_with_len}
use Rattle.std.proofs.lemmas.List.Elements.{All-head, All-tail, All-weaker}
use Rattle.te_model.specs.declared.certificate.Certificate.{Certificate}
use Rattle.te_model.specs.declared.certificate.Head.{Head}
use Rattle.te_model.specs.Network.{link_count}
use Rattle.te_model.proofs.Lists.{range-below}
use Rattle.link_bounds.specs.declared.needs.LinkNeed.{LinkNeed}
use Rattle.link_bounds.specs.Feeds.{HasNeeds}
use Rattle.link_bounds.specs.Needs.{has_share, need_at}
use Rattle.link_bounds.specs.Table.{bounds_text, header, need_row, row_of, row_where}

-- five fields after a text, and the end of the line
pub fields_after : (text a b c d e : List ℕ) →
    ((((((text ++ a) ++ 44 ∷ b) ++ 44 ∷ c) ++ 44 ∷ d) ++ 44 ∷ e) ++ 10 ∷ [])
    ≡ text ++ (join_with_byte 44 (a ∷ b ∷ c ∷ d ∷ e ∷ []) ++ 10 ∷ [])
fields_after text a b c d e =
    ap (λ (u : List ℕ). u ++ 10 ∷ [])
    (append_assoc ((((text ++ a) ++ 44 ∷ b) ++ 44 ∷ c)) (44 ∷ d) (44 ∷ e)
    ∙ append_assoc (((text ++ a) ++ 44 ∷ b)) (44 ∷ c) (44 ∷ (d ++ 44 ∷ e))
    ∙ append_assoc (text ++ a) (44 ∷ b) (44 ∷ (c ++ 44 ∷ (d ++ 44 ∷ e)))
    ∙ append_assoc text a (44 ∷ (b ++ 44 ∷ (c ++ 44 ∷ (d ++ 44 ∷ e)))))
    ∙ append_assoc text (a ++ 44 ∷ (b ++ 44 ∷ (c ++ 44 ∷ (d ++ 44 ∷ e)))) (10 ∷ [])

pub row_after : (text source target : List ℕ) (capacity : ℕ) (n : LinkNeed) →
    (((((((text ++ decimal n.link) ++ 44 ∷ source) ++ 44 ∷ target) ++ 44 ∷ decimal capacity) ++ 44 ∷ decimal n.need) ++ 10 ∷ []))
    ≡ text ++ row_of source target capacity n
row_after text source target capacity n = fields_after text (decimal n.link) source target (decimal capacity) (decimal n.need)

-- the row of a link that has a share, and nothing of one that has none
abbrev pub shared_row : Head → List ℕ → ℕ → List ℕ
shared_row head needs e = row_where (has_share head.routes e) head.network (record { link = e; need = slice_index needs e })

-- the rows of some links, where these are their needs
pub shared_rows : (c : Certificate) (needs links : List ℕ) → All (λ e. slice_index needs e ≡ need_at c e) links →
    flat_map (shared_row c.head needs) links
    ≡ flat_map (need_row c.head.network) (map (λ e. record { link = e; need = need_at c e }) (filter (has_share c.head.routes) links))
shared_rows c needs [] are = refl
shared_rows c needs (e ∷ es) are =
    at (shared_rows c needs es (All-tail (λ e. slice_index needs e ≡ need_at c e) e es are)) (has_share c.head.routes e) refl
  where
    row : ℕ → List ℕ
    row need = need_row c.head.network (record { link = e; need = need })

    at : flat_map (shared_row c.head needs) es
        ≡ flat_map (need_row c.head.network) (map (λ e. record { link = e; need = need_at c e }) (filter (has_share c.head.routes) es)) →
        (t : Bool) → has_share c.head.routes e ≡ t →
        flat_map (shared_row c.head needs) (e ∷ es)
        ≡ flat_map (need_row c.head.network) (map (λ e. record { link = e; need = need_at c e }) (filter (has_share c.head.routes) (e ∷ es)))
    at later true is =
        rw is
        (ap (λ (r : List ℕ). r ++ flat_map (shared_row c.head needs) es) (ap row (All-head (λ e. slice_index needs e ≡ need_at c e) e es are))
        ∙ ap (λ (rs : List ℕ). row (need_at c e) ++ rs) later)
    at later false is = rw is later

-- the table of all links
pub whole_table : (c : Certificate) (needs : List ℕ) (n : ℕ) → n ≡ link_count c.head.network → HasNeeds c needs →
    header ++ flat_map (shared_row c.head needs) (range_with_len 0 n) ≡ bounds_text c
whole_table c needs n is has =
    let links = link_count c.head.network in
    ap (λ k. header ++ flat_map (shared_row c.head needs) (range_with_len 0 k)) is
    ∙ ap (λ (rows : List ℕ). header ++ rows)
    (shared_rows c needs (range_with_len 0 links)
    (All-weaker (λ k. k < links) (λ e. slice_index needs e ≡ need_at c e) has.each (range_with_len 0 links) (range-below links links refl)))
