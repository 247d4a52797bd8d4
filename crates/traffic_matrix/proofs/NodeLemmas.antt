-- The names of nodes, as the keys of a set.
use Rattle.std.proofs.Common.{ℕ, suc, ◌+◌, ◌<◌, ◌≡◌, ◌≢◌, ◌∙◌, refl, sym, ap, List, [], ◌∷◌, ◌++◌, length, map, take, get_or, Vec, Global, Bool, true, false, not, ◌||◌, cond, arith, if◌then◌else◌}
use Rattle.std.specs.Str.{bytes_eq}
use Rattle.std.specs.List.{list_any, position, position_or_len}
use Rattle.std.proofs.lemmas.Bool.{false≢true, false_from_ne_true, not-true}
use Rattle.std.proofs.lemmas.List.{map-append, get_or-take, get_or_default, take_more, length-take}
use Rattle.std.proofs.lemmas.Slice.Eq.{bytes_eq-Decides}
use Rattle.indexmap.specs.IndexSet.{insert_key}
use Rattle.te_model.specs.declared.network.Network.{Network}
use Rattle.te_model.specs.Network.{is_well_formed, node_count, name_at}
use Rattle.te_model.proofs.Searches.{all_below_at}
use Rattle.te_model.proofs.WellFormed.{well_formed_parts}
use Rattle.traffic_matrix.specs.Rows.{number_named}

abbrev Keys : Type 0
Keys = List (Vec ℕ Global)

abbrev pub bytes_of : Vec ℕ Global → List ℕ
bytes_of v = v.items

same-place : (name : List ℕ) (ks : Keys) → position_or_len (λ k. bytes_eq name (bytes_of k)) ks ≡ position_or_len (bytes_eq name) (map bytes_of ks)
same-place name [] = refl
same-place name (k ∷ ks) = ap (λ (n : ℕ). cond (not (bytes_eq name (bytes_of k))) (1 + n) 0) (same-place name ks)

same-length : (ks : Keys) → length ks ≡ length (map bytes_of ks)
same-length [] = refl
same-length (k ∷ ks) = ap (λ (n : ℕ). suc n) (same-length ks)

-- the place of a name among the keys
pub number-of-key : (name : List ℕ) (ks : Keys) → position (λ k. bytes_eq name (bytes_of k)) ks ≡ number_named (map bytes_of ks) name
number-of-key name ks = rw (same-place name ks, same-length ks) refl

any-bytes : (k : Vec ℕ Global) (ks : Keys) → list_any (λ j. bytes_eq (bytes_of k) (bytes_of j)) ks ≡ list_any (bytes_eq (bytes_of k)) (map bytes_of ks)
any-bytes k [] = refl
any-bytes k (x ∷ ks) = ap (λ (b : Bool). bytes_eq (bytes_of k) (bytes_of x) || b) (any-bytes k ks)

none-any : (name : List ℕ) (names : List (List ℕ)) → ((u : ℕ) → u < length names → get_or names u [] ≢ name) → list_any (bytes_eq name) names ≡ false
none-any name [] h = refl
none-any name (x ∷ xs) h =
    rw (false_from_ne_true (bytes_eq name x) (λ e. h 0 (omega arith) (sym ((bytes_eq-Decides name x).0 e)))) (none-any name xs (λ u low. h (suc u) (omega arith)))

-- a name of a well-formed network stands not before its place
pub new-here : (net : Network) (i : ℕ) → is_well_formed net ≡ true → i < node_count net → list_any (bytes_eq (name_at net i)) (take i net.names) ≡ false
new-here net i w low =
    let new = (well_formed_parts net w).new_names i low in
    none-any (name_at net i) (take i net.names) (λ u below same.
    let before : u < i = omega (arith, length-take i net.names) in
    let apart = not-true (bytes_eq (name_at net u) (name_at net i)) (all_below_at i (λ v. not (bytes_eq (name_at net v) (name_at net i))) u new before) in
    false≢true (sym apart ∙ (bytes_eq-Decides (name_at net u) (name_at net i)).1 (sym (get_or-take i net.names u [] before) ∙ same)))

one-more : (k : Vec ℕ Global) (ks : Keys) (b : Bool) → b ≡ false → map bytes_of (if b then ks else ks ++ k ∷ []) ≡ map bytes_of ks ++ bytes_of k ∷ []
one-more k ks b e = rw e (map-append bytes_of ks (k ∷ []))

-- a name that is new goes last
pub names-more : (net : Network) (i : ℕ) (k : Vec ℕ Global) (ks : Keys) → is_well_formed net ≡ true → i < node_count net → bytes_of k ≡ name_at net i → map bytes_of ks ≡ take i net.names
    → map bytes_of (insert_key (λ a b. bytes_eq (bytes_of a) (bytes_of b)) ks k) ≡ take (i + 1) net.names
names-more net i k ks w low is before =
    one-more k ks (list_any (λ j. bytes_eq (bytes_of k) (bytes_of j)) ks)
    (any-bytes k ks ∙ ap (λ (n : List ℕ). list_any (bytes_eq n) (map bytes_of ks)) is ∙ ap (list_any (bytes_eq (name_at net i))) before ∙ new-here net i w low)
    ∙ rw (before, is) (sym (take_more net.names i [] low))

pub item-at : {X : Type 0} (xs ys : List X) (i : ℕ) (x d : X) → xs ≡ ys → i < length xs → x ≡ get_or xs i x → x ≡ get_or ys i d
item-at {X} xs ys i x d e low is = is ∙ get_or_default xs i x d low ∙ ap (λ (zs : List X). get_or zs i d) e
