-- The text of a certificate, as its parts are read.
use Rattle.std.proofs.Common.{◌≡◌, ℕ, true, List, [], ◌∷◌, ◌++◌, length, map, refl, ap, ◌∙◌, append_assoc}
use Rattle.std.proofs.lemmas.List.{append-nil}
use Rattle.std.specs.Prelude.{codes}
use Rattle.std.specs.List.{flat_map}
use Rattle.std.proofs.lemmas.List.Concat.{flat_map-append}
use Rattle.te_model.specs.declared.certificate.Block.{Block}
use Rattle.te_model.specs.declared.certificate.Head.{Head}
use Rattle.te_model.specs.declared.certificate.Certificate.{Certificate}
use Rattle.te_model.specs.declared.demand.DemandSet.{DemandSet}
use Rattle.te_model.specs.declared.demand.DemandSet.TheVariants.{All, Margin, Box}
use Rattle.te_model.specs.Text.{numbers, words, row_line, pair_lines, network_lines, set_lines, head_lines, side_lines, block_lines, text}
use Rattle.cert_text.specs.Grammar.{has_bounds}
use Rattle.cert_text.specs.Pieces.{with_space, with_line_end, counted_text, listing_text, network_text, routes_text, set_text, format_text, head_text, number_line, sides_text, block_text, certificate_text}
use Rattle.cert_text.proofs.Productions.{joined, flat_map_map, flat_map_flat_map}

ended_words : (w : List ℕ) (xs : List ℕ) → with_line_end (words w xs) ≡ listing_text w xs
ended_words w xs = ap with_line_end (joined w xs) ∙ append_assoc w (flat_map with_space xs) (10 ∷ [])

set_lines_text : (s : DemandSet) → flat_map with_line_end (set_lines s) ≡ set_text s
set_lines_text All = refl
set_lines_text (Margin num den base) =
    let regroup : with_line_end (words (codes "set margin") (num ∷ den ∷ [])) ++ listing_text (codes "base") base.demand ≡ set_text (Margin num den base) = simp append_assoc in
    ap (λ (r : List ℕ). with_line_end (words (codes "set margin") (num ∷ den ∷ [])) ++ r) (append-nil (with_line_end (words (codes "base") base.demand)) ∙ ended_words (codes "base") base.demand) ∙ regroup
set_lines_text (Box lower upper) =
    ap (λ (r : List ℕ). codes "set box" ++ (10 ∷ r))
    (ap (λ (r : List ℕ). with_line_end (words (codes "lower") lower.demand) ++ r) (append-nil (with_line_end (words (codes "upper") upper.demand)))
    ∙ rw (ended_words (codes "lower") lower.demand, ended_words (codes "upper") upper.demand) refl)

routes_lines_text : (h : Head) → flat_map with_line_end (words (codes "pairs") (length h.routes ∷ []) ∷ flat_map pair_lines h.routes) ≡ routes_text h.routes
routes_lines_text h = ap (λ (r : List ℕ). counted_text (codes "pairs ") (length h.routes) ++ r) (flat_map_flat_map with_line_end pair_lines h.routes)

four : (a b c d : List (List ℕ)) → flat_map with_line_end (((a ++ b) ++ c) ++ d) ≡ flat_map with_line_end a ++ (flat_map with_line_end b ++ (flat_map with_line_end c ++ flat_map with_line_end d))
four a b c d =
    flat_map-append with_line_end ((a ++ b) ++ c) d
    ∙ ap (λ (x : List ℕ). x ++ flat_map with_line_end d) (flat_map-append with_line_end (a ++ b) c ∙ ap (λ (x : List ℕ). x ++ flat_map with_line_end c) (flat_map-append with_line_end a b))
    ∙ group (flat_map with_line_end a) (flat_map with_line_end b) (flat_map with_line_end c) (flat_map with_line_end d)
  where
    group : (a b c d : List ℕ) → ((a ++ b) ++ c) ++ d ≡ a ++ (b ++ (c ++ d))
    group a b c d = simp append_assoc

head_lines_text : (h : Head) → flat_map with_line_end (head_lines h) ≡ format_text h.format ++ head_text h
head_lines_text h =
    four (words (codes "yates-ratio") (h.format ∷ []) ∷ network_lines h.network) (words (codes "pairs") (length h.routes ∷ []) ∷ flat_map pair_lines h.routes) (set_lines h.set) (words (codes "ratio") (h.ratio ∷ []) ∷ [])
    ∙ ap (λ (x : List ℕ). (with_line_end (words (codes "yates-ratio") (h.format ∷ [])) ++ network_text h.network) ++ x)
    (same_parts _ _ _ _ _ _ (routes_lines_text h) (set_lines_text h.set) (append-nil (counted_text (codes "ratio ") h.ratio)))
    ∙ first_line (with_line_end (words (codes "yates-ratio") (h.format ∷ []))) (format_text h.format) (network_text h.network) _ refl
  where
    first_line : (t t' n r : List ℕ) → t ≡ t' → (t ++ n) ++ r ≡ t' ++ (n ++ r)
    first_line t t' n r e = rw e (append_assoc t' n r)

    same_parts : (a a' b b' c c' : List ℕ) → a ≡ a' → b ≡ b' → c ≡ c' → a ++ (b ++ c) ≡ a' ++ (b' ++ c')
    same_parts a a' b b' c c' e f g = rw (e, f, g) refl

both_lines_text : (b : Block) → flat_map with_line_end (words (codes "plus") b.plus ∷ words (codes "minus") b.minus ∷ []) ≡ sides_text true (b.plus, b.minus)
both_lines_text b =
    let minus : with_line_end (words (codes "minus") b.minus) ++ [] ≡ listing_text (codes "minus") b.minus = append-nil (with_line_end (words (codes "minus") b.minus)) ∙ ended_words (codes "minus") b.minus in
    ap (λ (x : List ℕ). with_line_end (words (codes "plus") b.plus) ++ x) minus ∙ ap (λ (x : List ℕ). x ++ listing_text (codes "minus") b.minus) (ended_words (codes "plus") b.plus)

sides_lines_text : (s : DemandSet) (b : Block) → flat_map with_line_end (side_lines s b) ≡ sides_text (has_bounds s) (b.plus, b.minus)
sides_lines_text All b = refl
sides_lines_text (Margin num den base) b = both_lines_text b
sides_lines_text (Box lower upper) b = both_lines_text b

block_lines_text : (s : DemandSet) (b : Block) → flat_map with_line_end (block_lines s b) ≡ block_text (has_bounds s) b
block_lines_text s b =
    let first = number_line (b.link ∷ b.a ∷ b.b ∷ length b.rows ∷ []) in
    flat_map-append with_line_end (numbers (b.link ∷ b.a ∷ b.b ∷ length b.rows ∷ []) ∷ numbers b.weights ∷ map row_line b.rows) (side_lines s b)
    ∙ group first (number_line b.weights) _ _ _ _ (flat_map_map with_line_end row_line b.rows) (sides_lines_text s b)
  where
    group : (a b c c' d d' : List ℕ) → c ≡ c' → d ≡ d' → (a ++ (b ++ c)) ++ d ≡ a ++ (b ++ (c' ++ d'))
    group a b c c' d d' e f = rw (e, f) (simp append_assoc)

flat_map_same : {X : Type 0} (f g : X → List ℕ) (xs : List X) → ((x : X) → f x ≡ g x) → flat_map f xs ≡ flat_map g xs
flat_map_same f g [] same = refl
flat_map_same f g (x ∷ xs) same = rw (same x, flat_map_same f g xs same) refl

-- the text of a certificate is that of its parts
pub text_is : (c : Certificate) → text c ≡ certificate_text c
text_is c =
    let h = c.head in
    let count = words (codes "blocks") (length c.blocks ∷ []) in
    let blocks : flat_map with_line_end (flat_map (block_lines h.set) c.blocks) ≡ flat_map (block_text (has_bounds h.set)) c.blocks =
    flat_map_flat_map with_line_end (block_lines h.set) c.blocks ∙ flat_map_same (λ b. flat_map with_line_end (block_lines h.set b)) (block_text (has_bounds h.set)) c.blocks (block_lines_text h.set) in
    flat_map-append with_line_end (head_lines h ++ (count ∷ flat_map (block_lines h.set) c.blocks)) (codes "end" ∷ [])
    ∙ ap (λ (x : List ℕ). x ++ (codes "end" ++ 10 ∷ [])) (flat_map-append with_line_end (head_lines h) (count ∷ flat_map (block_lines h.set) c.blocks))
    ∙ group (format_text h.format) (head_text h) (counted_text (codes "blocks ") (length c.blocks)) (codes "end" ++ 10 ∷ []) _ _ _ (head_lines_text h) blocks
  where
    group : (t h n e f b b' : List ℕ) → f ≡ t ++ h → b ≡ b' → (f ++ (n ++ b)) ++ e ≡ (t ++ (h ++ n)) ++ (b' ++ e)
    group t h n e f b b' p q = rw (p, q) (simp append_assoc)
