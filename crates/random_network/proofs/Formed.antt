-- A drawn network is well formed.
use Rattle.std.proofs.Common.{ℕ, ◌+◌, ◌-◌, ◌*◌, ◌/◌, ◌%◌, ◌<◌, ◌≤◌, ◌≡◌, ◌≢◌, ◌∙◌, refl, sym, subst, List, [], ◌∷◌, ◌++◌, length, get_or, All, Bool, true, false, not, cond, nat_le, arith, inl, inr}
use Rattle.std.specs.Prelude.{bytes_eq, codes, decimal}
use Rattle.std.specs.List.{flat_map, list_all, range_with_len}
use Rattle.std.proofs.Math.Nat.{mod-eq-sub-mod, mod-eq_of_lt, mod-lt}
use Rattle.std.proofs.lemmas.Bool.{cases_lt, false_from_ne_true, leb-true, not_from_false}
use Rattle.std.proofs.lemmas.Fmt.{decimal_digit, decimal_injective, decimal_step}
use Rattle.std.proofs.lemmas.List.{length-append}
use Rattle.std.proofs.lemmas.List.Elements.{All-append, All-cons, All-head, All-nil, All-tail}
use Rattle.std.proofs.lemmas.List.FromFn.{get_or-map-range_with_len, get_or-range_with_len, length-map-range_with_len, length-range_with_len}
use Rattle.std.proofs.lemmas.Slice.Eq.{bytes_eq-Decides}
use Rattle.te_model.specs.declared.network.Link.{Link}
use Rattle.te_model.specs.Network.{is_name, is_new_name, is_well_formed, link_at, name_at, node_count, no_link}
use Rattle.te_model.proofs.Searches.{all_below_at, all_below_from}
use Rattle.te_model.proofs.SoundLinks.{IsLink, sound_link}
use Rattle.te_model.proofs.Tests.{all_to_tests}
use Rattle.te_model.proofs.WellFormed.{well_formed_from}
use Rattle.random_words.specs.Words.{word_of_seed}
use Rattle.random_network.specs.Drawn.{both_ways, chord_links, chords_of, network_of, node_names, ring_links, ring_of}

drawn_link : (n i j w v : ℕ) → i < n → j < n → i ≢ j → IsLink n (record { tail = i; head = j; capacity = 1000 * (1 + w % 10); cost = 1 + v % 10 })
drawn_link n i j w v one two apart = record {
  tail = one;
  head = two;
  differ = apart;
  capacity_low = omega arith;
  capacity_high = omega arith;
  cost_low = omega arith;
  cost_high = omega arith;
}

both_sound : (n i j w v : ℕ) → i < n → j < n → i ≢ j → All (IsLink n) (both_ways i j w v)
both_sound n i j w v one two apart =
    let back : Link = record { tail = j; head = i; capacity = 1000 * (1 + w % 10); cost = 1 + v % 10 } in
    All-cons (IsLink n) (record { tail = i; head = j; capacity = 1000 * (1 + w % 10); cost = 1 + v % 10 }) (back ∷ []) (drawn_link n i j w v one two apart)
    (All-cons (IsLink n) back [] (drawn_link n j i w v two one (λ e. apart (sym e))) (All-nil (IsLink n)))

-- the node that stands a number of places on in the ring
step_on : (n i x : ℕ) → i < n → i < x → x < i + n → (x % n < n) × (i ≢ x % n)
step_on n i x inside above below =
    elim (cases_lt x n) [
      | inl low ↦ let e : x % n ≡ x = mod-eq_of_lt low in rw e (low, λ same. omega arith)
      | inr high ↦
          let less : x - n < n = omega arith in
          let e : x % n ≡ x - n = mod-eq-sub-mod high ∙ mod-eq_of_lt less in
          rw e (less, λ same. omega arith)
    ]

ring_sound : (n seed i : ℕ) → 2 ≤ n → i < n → All (IsLink n) (ring_links n seed i)
ring_sound n seed i two inside =
    let on = step_on n i (i + 1) inside (omega arith) (omega arith) in
    both_sound n i ((i + 1) % n) (word_of_seed seed 2 (2 * i)) (word_of_seed seed 2 (2 * i + 1)) inside on.0 on.1

chord_sound : (n seed i : ℕ) → 4 ≤ n → i < n → All (IsLink n) (chord_links n seed i)
chord_sound n seed i four inside =
    let first = 2 * n + 3 * i in
    let less : word_of_seed seed 2 first % (n - 3) < n - 3 = mod-lt (word_of_seed seed 2 first) (omega arith) in
    let on = step_on n i (i + 2 + word_of_seed seed 2 first % (n - 3)) inside (omega arith) (omega (arith, less)) in
    both_sound n i ((i + 2 + word_of_seed seed 2 first % (n - 3)) % n) (word_of_seed seed 2 (first + 1)) (word_of_seed seed 2 (first + 2)) inside on.0 on.1

All-flat_map : (P : Link → Type 0) (f : ℕ → List Link) (xs : List ℕ) → All (λ x. All P (f x)) xs → All P (flat_map f xs)
All-flat_map P f [] all = All-nil P
All-flat_map P f (x ∷ xs) all =
    All-append P (f x) (flat_map f xs) (All-head (λ x. All P (f x)) x xs all) (All-flat_map P f xs (All-tail (λ x. All P (f x)) x xs all))

all_links : (P : Link → Type 0) (f : ℕ → List Link) (n : ℕ) → ((i : ℕ) → i < n → All P (f i)) → All P (flat_map f (range_with_len 0 n))
all_links P f n each =
    All-flat_map P f (range_with_len 0 n)
    (λ k d low.
    let inside : k < n = omega (arith, length-range_with_len 0 n) in
    let e : get_or (range_with_len 0 n) k d ≡ k = get_or-range_with_len 0 n k d inside ∙ omega arith in
    subst (λ i. All P (f i)) (sym e) (each k inside))

-- two links for each number
two_each : (f : ℕ → List Link) → ((i : ℕ) → length (f i) ≡ 2) → (xs : List ℕ) → length (flat_map f xs) ≡ 2 * length xs
two_each f each [] = refl
two_each f each (x ∷ xs) = length-append (f x) (flat_map f xs) ∙ omega (arith, each x, two_each f each xs)

pub ring_length : (n seed : ℕ) → length (ring_of n seed) ≡ 2 * n
ring_length n seed = two_each (ring_links n seed) (λ i. refl) (range_with_len 0 n) ∙ omega (arith, length-range_with_len 0 n)

chords_sound : (n seed : ℕ) (b : Bool) → nat_le 4 n ≡ b →
    All (IsLink n) (cond b (flat_map (chord_links n seed) (range_with_len 0 (n / 2))) [])
chords_sound n seed true four =
    all_links (IsLink n) (chord_links n seed) (n / 2) (λ i low. chord_sound n seed i (leb-true 4 n four) (let at_most : n / 2 ≤ n = omega arith in omega arith))
chords_sound n seed false four = All-nil (IsLink n)

chords_few : (n seed : ℕ) (b : Bool) → length (cond b (flat_map (chord_links n seed) (range_with_len 0 (n / 2))) []) ≤ n
chords_few n seed true =
    omega (arith, two_each (chord_links n seed) (λ i. refl) (range_with_len 0 (n / 2)), length-range_with_len 0 (n / 2))
chords_few n seed false = omega arith

name_is : (n seed u : ℕ) → u < n → name_at (network_of n seed) u ≡ codes "n" ++ decimal u
name_is n seed u low = get_or-map-range_with_len (λ i. codes "n" ++ decimal i) 0 n u u [] low (omega arith)

-- an n and two different numbers
names_differ : (n seed u v : ℕ) → n ≤ 64 → u < v → v < n → name_at (network_of n seed) u ≢ name_at (network_of n seed) v
names_differ n seed u v few below low same =
    let spelled : codes "n" ++ decimal u ≡ codes "n" ++ decimal v = sym (name_is n seed u (omega arith)) ∙ same ∙ name_is n seed v low in
    let digits : decimal u ≡ decimal v = cc in
    let e : u ≡ v = decimal_injective u v (omega arith) (omega arith) digits in
    omega arith

-- a number below 64 has one or two digits
each_is_name : (i : ℕ) → i < 64 → is_name (codes "n" ++ decimal i) ≡ true
each_is_name i low =
    elim (cases_lt i 10) [
      | inl one ↦ rw (decimal_digit i one) (all_below_at 10 (λ k. is_name (codes "n" ++ (48 + k) ∷ [])) i refl one)
      | inr two ↦
          let tens : i / 10 < 10 = omega arith in
          rw (decimal_step i two (omega arith), decimal_digit (i / 10) tens)
          (all_below_at 64 (λ k. is_name (codes "n" ++ (48 + k / 10) ∷ (48 + k % 10) ∷ [])) i refl low)
    ]

all_names : (n : ℕ) → n ≤ 64 → list_all is_name (node_names n) ≡ true
all_names n few =
    all_to_tests is_name (λ name. is_name name ≡ true) (λ name is. is) (node_names n)
    (λ k d low.
    let inside : k < n = omega (arith, length-map-range_with_len (λ i. codes "n" ++ decimal i) 0 n) in
    rw (get_or-map-range_with_len (λ i. codes "n" ++ decimal i) 0 n k k d inside (omega arith)) (each_is_name k (omega arith)))

new_name : (n seed v : ℕ) → n ≤ 64 → v < n → is_new_name (network_of n seed) v ≡ true
new_name n seed v few low =
    let net = network_of n seed in
    all_below_from v (λ u. not (bytes_eq (name_at net u) (name_at net v)))
    (λ u below. not_from_false (bytes_eq (name_at net u) (name_at net v))
    (false_from_ne_true (bytes_eq (name_at net u) (name_at net v))
    (λ same. names_differ n seed u v few below low ((bytes_eq-Decides (name_at net u) (name_at net v)).0 same))))

pub nodes_are : (n seed : ℕ) → node_count (network_of n seed) ≡ n
nodes_are n seed = length-map-range_with_len (λ i. codes "n" ++ decimal i) 0 n

pub drawn_well_formed : (n seed : ℕ) → 2 ≤ n → n ≤ 64 → is_well_formed (network_of n seed) ≡ true
drawn_well_formed n seed two few =
    let net = network_of n seed in
    let nodes = nodes_are n seed in
    let sound : All (IsLink n) net.links =
    All-append (IsLink n) (ring_of n seed) (chords_of n seed) (all_links (IsLink n) (ring_links n seed) n (λ i low. ring_sound n seed i two low))
    (chords_sound n seed (nat_le 4 n) refl) in
    well_formed_from net (record {
      two_nodes = omega (arith, nodes);
      nodes = omega (arith, nodes);
      links = omega (arith, length-append (ring_of n seed) (chords_of n seed), ring_length n seed, chords_few n seed (nat_le 4 n));
      names = all_names n few;
      new_names = λ v low. new_name n seed v few (omega (arith, nodes));
      sound_links = λ h low. sound_link net h (subst (λ m. IsLink m (link_at net h)) (sym nodes) (sound h no_link low));
    })
