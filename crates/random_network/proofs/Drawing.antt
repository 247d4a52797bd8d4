-- The words that a drawn network takes, and a node or two links more.
use Rattle.std.proofs.Common.{ℕ, ◌+◌, ◌-◌, ◌*◌, ◌/◌, ◌%◌, ◌≤◌, ◌≡◌, ◌∙◌, refl, sym, ap, List, [], ◌∷◌, ◌++◌, append_assoc, cond, arith}
use Rattle.std.specs.List.{flat_map, range_with_len}
use Rattle.std.proofs.lemmas.Bool.{le-leb}
use Rattle.std.proofs.lemmas.List.{flat_map_more}
use Rattle.rand_chacha.specs.ChaCha.{ChaCha, key_of, word_at}
use Rattle.te_model.specs.declared.network.Link.{Link}
use Rattle.te_model.specs.declared.network.Network.{Network}
use Rattle.te_model.proofs.Lists.{range-more}
use Rattle.random_words.specs.Words.{generator, seed_bytes, word_of_seed, word_on}
use Rattle.random_network.specs.Drawn.{both_ways, chord_links, chords_of, network_of, node_names, ring_of}

-- k words on from where m were taken
word_of : (seed m k n : ℕ) (rng : ChaCha) → rng ≡ generator seed 2 m → m + k ≡ n → word_on rng k ≡ word_of_seed seed 2 n
unfolding word_of_seed
word_of seed m k n rng is sum =
    ap (λ (r : ChaCha). word_on r k) is ∙ ap (λ (p : ℕ). word_at 4 (key_of (seed_bytes seed 2)) 0 p) sum

-- the word that the generator gives next
pub next_word : (seed m : ℕ) (rng : ChaCha) → rng ≡ generator seed 2 m → word_at 4 rng.key rng.stream rng.word_pos ≡ word_of_seed seed 2 m
unfolding word_of_seed
next_word seed m rng is = ap (λ (r : ChaCha). word_at 4 r.key r.stream r.word_pos) is

-- k words later
pub moved : (seed m k n : ℕ) (rng next : ChaCha) → rng ≡ generator seed 2 m → next ≡ record rng { word_pos = rng.word_pos + k } →
    m + k ≡ n → next ≡ generator seed 2 n
moved seed m k n rng next is then sum = then ∙ rw is (ap (generator seed 2) sum)

-- the links that the next two words give
pub drawn_links : (seed m i j : ℕ) (rng : ChaCha) → rng ≡ generator seed 2 m →
    both_ways i j (word_on rng 0) (word_on rng 1) ≡ both_ways i j (word_of_seed seed 2 m) (word_of_seed seed 2 (m + 1))
drawn_links seed m i j rng is =
    ap (λ (w : ℕ). both_ways i j w (word_on rng 1)) (word_of seed m 0 m rng is (omega arith))
    ∙ ap (both_ways i j (word_of_seed seed 2 m)) (word_of seed m 1 (m + 1) rng is refl)

-- the links that the next two words give, after those before
pub both_added : (i j a b n : ℕ) (rng next : ChaCha) (old one both : List Link) (there back : Link) →
    a ≡ word_at 4 rng.key rng.stream rng.word_pos → b ≡ word_at 4 next.key next.stream next.word_pos → next ≡ record rng { word_pos = rng.word_pos + 1 } →
    n ≡ a % 10 → ◌≡◌ {A = Link} there (record { tail = i; head = j; capacity = 1000 * (1 + n); cost = 1 + b % 10 }) →
    ◌≡◌ {A = Link} back (record { tail = j; head = i; capacity = 1000 * (1 + n); cost = 1 + b % 10 }) → one ≡ old ++ there ∷ [] → both ≡ one ++ back ∷ [] →
    both ≡ old ++ both_ways i j (word_on rng 0) (word_on rng 1)
both_added i j a b n rng next old one both there back is_a is_b is_next is_n is_there is_back is_one is_both =
    let none : rng.word_pos ≡ rng.word_pos + 0 = omega arith in
    let first : a ≡ word_on rng 0 = is_a ∙ ap (λ (p : ℕ). word_at 4 rng.key rng.stream p) none in
    let second : b ≡ word_on rng 1 = is_b ∙ ap (λ (r : ChaCha). word_at 4 r.key r.stream r.word_pos) is_next in
    is_both ∙ (ap (λ (l : List Link). l ++ back ∷ []) is_one ∙ (append_assoc old (there ∷ []) (back ∷ []) ∙ rw (is_there, is_back, is_n, first, second) refl))

-- the links of one node more
pub links_more : (f : ℕ → List Link) (start before after piece : List Link) (k : ℕ) → before ≡ start ++ flat_map f (range_with_len 0 k) →
    after ≡ before ++ piece → piece ≡ f k → after ≡ start ++ flat_map f (range_with_len 0 (k + 1))
links_more f start before after piece k was then is =
    then ∙ ap (λ (p : List Link). before ++ p) is ∙ ap (λ (b : List Link). b ++ f k) was ∙ flat_map_more f start (range_with_len 0 k) k
    ∙ ap (λ (r : List ℕ). start ++ flat_map f r) (sym (range-more k))

-- the two words of the links of chord i, after that of its target
pub chord_of : (n seed i drawn target : ℕ) (rng : ChaCha) → drawn ≡ word_of_seed seed 2 (2 * n + 3 * i) →
    target ≡ (i + 2 + drawn % (n - 3)) % n → rng ≡ generator seed 2 (2 * n + 3 * i + 1) →
    both_ways i target (word_on rng 0) (word_on rng 1) ≡ chord_links n seed i
chord_of n seed i drawn target rng is to at =
    let first = 2 * n + 3 * i in
    drawn_links seed (first + 1) i target rng at
    ∙ ap (λ (j : ℕ). both_ways i j (word_of_seed seed 2 (first + 1)) (word_of_seed seed 2 (first + 1 + 1))) (to ∙ ap (λ (w : ℕ). (i + 2 + w % (n - 3)) % n) is)
    ∙ ap (both_ways i ((i + 2 + word_of_seed seed 2 first % (n - 3)) % n) (word_of_seed seed 2 (first + 1))) (ap (word_of_seed seed 2) (omega arith))

-- the chords of four nodes or more
pub chords_are : (n seed k : ℕ) (start links : List Link) → 4 ≤ n → k ≡ n / 2 →
    links ≡ start ++ flat_map (chord_links n seed) (range_with_len 0 k) → links ≡ start ++ chords_of n seed
chords_are n seed k start links four all is =
    is ∙ ap (λ (m : ℕ). start ++ flat_map (chord_links n seed) (range_with_len 0 m)) all
    ∙ ap (λ b. start ++ cond b (flat_map (chord_links n seed) (range_with_len 0 (n / 2))) []) (sym (le-leb 4 n four))

-- the network of the names and the links
pub network_is : (n seed : ℕ) (names : List (List ℕ)) (none ring all : List Link) → names ≡ node_names n → none ≡ [] →
    ring ≡ none ++ ring_of n seed → all ≡ ring ++ chords_of n seed →
    ◌≡◌ {A = Network} (record { names = names; links = all }) (network_of n seed)
network_is n seed names none ring all named is_none is_ring is_all = rw (named, is_all, is_ring, is_none) refl
