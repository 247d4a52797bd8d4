use Rattle.std.proofs.Common.{ℕ, ap}
use Rattle.rand_chacha.specs.ChaCha.{ChaCha}
use Rattle.random_words.proofs.generator.draw.Goals as goal

pub returns-clause-word : goal.returns-clause-word
returns-clause-word c = ap (λ (p : ℕ × ChaCha). p.0) c.next_word.ensures
