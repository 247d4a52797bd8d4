-- The texts of lines, as they are printed.
use Rattle.std.proofs.Common.{◌≡◌, ℕ, ◌+◌, ◌≤◌, ◌<◌, List, [], ◌∷◌, ◌++◌, length, take, get_or, map, sym, ap, ◌∙◌, append_assoc}
use Rattle.std.specs.Prelude.{codes}
use Rattle.std.specs.Fmt.{decimal}
use Rattle.std.specs.List.{flat_map}
use Rattle.te_model.specs.declared.route.PathShare.{PathShare}
use Rattle.te_model.specs.declared.route.PairRoutes.{PairRoutes}
use Rattle.te_model.specs.declared.network.Network.{Network}
use Rattle.te_model.specs.declared.certificate.Row.{Row}
use Rattle.te_model.specs.Text.{numbers, link_line, path_line, words}
use Rattle.std.proofs.lemmas.List.{take_all, take_more, flat_map_more}
use Rattle.std.proofs.lemmas.List.Concat.{flat_map-append}
use Rattle.cert_text.specs.Pieces.{with_space, with_line_end, counted_text, link_text, path_text, pair_text, network_text, row_text, number_line}
use Rattle.cert_text.proofs.Productions.{joined, flat_map_map}

-- `grind` is shown the call first
pub row_is : (r : Row) → row_text r ≡ decimal r.source ++ (flat_map with_space r.potential ++ 10 ∷ [])
row_is r = ap with_line_end (joined (decimal r.source) r.potential) ∙ append_assoc (decimal r.source) (flat_map with_space r.potential) (10 ∷ [])

pub path_is : (s : PathShare) → path_text s ≡ decimal s.weight ++ (with_space (length s.links) ++ (flat_map with_space s.links ++ 10 ∷ []))
path_is s = rw (joined (decimal (length s.links)) s.links) (simp append_assoc)

pub pair_is : (r : PairRoutes) → pair_text r ≡ (decimal r.pair.src ++ (with_space r.pair.dst ++ (with_space (length r.paths) ++ 10 ∷ []))) ++ flat_map path_text r.paths
pair_is r =
    let paths : flat_map with_line_end (map path_line r.paths) ≡ flat_map path_text r.paths = flat_map_map with_line_end path_line r.paths in
    ap (λ (y : List ℕ). with_line_end (numbers (r.pair.src ∷ r.pair.dst ∷ length r.paths ∷ [])) ++ y) paths ∙ ap (λ (y : List ℕ). y ++ flat_map path_text r.paths) (head r.pair.src r.pair.dst (length r.paths))
  where
    head : (a b c : ℕ) → with_line_end (numbers (a ∷ b ∷ c ∷ [])) ≡ decimal a ++ (with_space b ++ (with_space c ++ 10 ∷ []))
    head a b c = simp append_assoc

pub number_line_is : (n : ℕ) (ns : List ℕ) → number_line (n ∷ ns) ≡ decimal n ++ (flat_map with_space ns ++ 10 ∷ [])
number_line_is n ns = ap with_line_end (joined (decimal n) ns) ∙ append_assoc (decimal n) (flat_map with_space ns) (10 ∷ [])

-- pieces put at the end one after the other
pub put_three : (old a b c all : List ℕ) → all ≡ a ++ (b ++ c) → ((old ++ a) ++ b) ++ c ≡ old ++ all
put_three old a b c all e = rw e (simp append_assoc)

pub put_four : (old a b c d all : List ℕ) → all ≡ a ++ (b ++ (c ++ d)) → (((old ++ a) ++ b) ++ c) ++ d ≡ old ++ all
put_four old a b c d all e = rw e (simp append_assoc)

pub put_five : (old a b c d f all : List ℕ) → all ≡ (a ++ (b ++ (c ++ d))) ++ f → ((((old ++ a) ++ b) ++ c) ++ d) ++ f ≡ old ++ all
put_five old a b c d f all e = rw e (simp append_assoc)

pub network_is : (n : Network) → network_text n ≡ counted_text (codes "nodes ") (length n.names) ++ (flat_map with_line_end n.names ++ (counted_text (codes "links ") (length n.links) ++ flat_map link_text n.links))
network_is n =
    let links : flat_map with_line_end (map link_line n.links) ≡ flat_map link_text n.links = flat_map_map with_line_end link_line n.links in
    let count = words (codes "links") (length n.links ∷ []) in
    let after : flat_map with_line_end (n.names ++ (count ∷ map link_line n.links)) ≡ flat_map with_line_end n.names ++ (with_line_end count ++ flat_map link_text n.links) =
    flat_map-append with_line_end n.names (count ∷ map link_line n.links) ∙ ap (λ (y : List ℕ). flat_map with_line_end n.names ++ (with_line_end count ++ y)) links in
    ap (λ (y : List ℕ). with_line_end (words (codes "nodes") (length n.names ∷ [])) ++ y) after

-- the text of one item more, as a loop puts it at the end
pub one_more : {X : Type 0} (f : X → List ℕ) (old now more : List ℕ) (xs : List X) (i : ℕ) (x : X) → i < length xs → x ≡ get_or xs i x
    → now ≡ old ++ flat_map f (take i xs) → more ≡ now ++ f x → more ≡ old ++ flat_map f (take (i + 1) xs)
one_more {X} f old now more xs i x lt is was put =
    put ∙ ap (λ (o : List ℕ). o ++ f x) was ∙ flat_map_more f old (take i xs) x
    ∙ ap (λ (ys : List X). old ++ flat_map f ys) (ap (λ (y : X). take i xs ++ y ∷ []) is ∙ sym (take_more xs i x lt))

-- numbers that are put one after another, with a blank before each but the first
pub numbers_put : (old : List ℕ) (x : ℕ) (xs : List ℕ) → (old ++ decimal x) ++ flat_map with_space xs ≡ old ++ numbers (x ∷ xs)
numbers_put old x xs = append_assoc old (decimal x) (flat_map with_space xs) ∙ ap (λ (l : List ℕ). old ++ l) (sym (joined (decimal x) xs))
