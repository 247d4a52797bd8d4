-- The words that a seed gives for a purpose: those of the ChaCha stream cipher of 8 rounds (Bernstein 2008).
use Rattle.std.specs.Prelude.{ℕ, ◌+◌, List, ◌∷◌, ◌++◌, replicate}
use Rattle.std.specs.Int.{w64, to_le_bytes}
use Rattle.rand_chacha.specs.ChaCha.{ChaCha, word_at, key_of}

-- the 32 bytes of a key: the seed, least byte first, the purpose, and zeros
abbrev pub seed_bytes : ℕ → ℕ → List ℕ
seed_bytes seed purpose = to_le_bytes w64 seed ++ purpose ∷ replicate 23 0

-- word n of a seed and a purpose
unfoldable pub word_of_seed : ℕ → ℕ → ℕ → ℕ
word_of_seed seed purpose n = word_at 4 (key_of (seed_bytes seed purpose)) 0 n

-- the generator of a seed and a purpose once n words were taken
abbrev pub generator : ℕ → ℕ → ℕ → ChaCha
generator seed purpose n = record { key = key_of (seed_bytes seed purpose); stream = 0; word_pos = n }

-- the word that a generator gives after its next k words
abbrev pub word_on : ChaCha → ℕ → ℕ
word_on rng k = word_at 4 rng.key rng.stream (rng.word_pos + k)
