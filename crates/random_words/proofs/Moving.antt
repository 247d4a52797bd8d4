-- A generator that has given words.
use Rattle.std.proofs.Common.{ℕ, ◌+◌, ◌*◌, ◌≡◌, ◌∙◌, refl, ap, arith}
use Rattle.rand_chacha.specs.ChaCha.{ChaCha, word_at}
use Rattle.random_words.specs.Words.{generator, word_on}

-- k words on, and one more
pub moved_once : (from at : ChaCha) (k : ℕ) → at ≡ record from { word_pos = from.word_pos + k } →
    record at { word_pos = at.word_pos + 1 } ≡ record from { word_pos = from.word_pos + (k + 1) }
moved_once from at k e = rw e (ap (λ (p : ℕ). record from { word_pos = p }) (omega arith))

-- its next word
pub word_moved : (from at : ChaCha) (k : ℕ) → at ≡ record from { word_pos = from.word_pos + k } →
    word_at 4 at.key at.stream at.word_pos ≡ word_on from k
word_moved from at k e = rw e refl

-- rounds of n words each: after k of them, one round more
pub generator_round : (seed purpose n k : ℕ) (at next : ChaCha) → at ≡ generator seed purpose (k * n) →
    next ≡ record at { word_pos = at.word_pos + n } → next ≡ generator seed purpose ((k + 1) * n)
generator_round seed purpose n k at next e f = f ∙ rw e (ap (generator seed purpose) (omega arith))
