use Rattle.std.proofs.Common.{◌≡◌, ◌-◌, length, take}
use Rattle.cert_text.specs.Fits.{AreWords}
use Rattle.cert_text.specs.Place.{with_front}
use Rattle.cert_text.specs.Reading.{read_many, read_next_number}
use Rattle.cert_text.specs.Takes.{Takes}
use Rattle.cert_text.proofs.Taking.{StillReads}
use Rattle.block_reader.proofs.block_lines.numbers.Given as goal

abbrev pub invariant-loop-k : goal.invariant-loop-k
invariant-loop-k g l =
    (length l.list ≡ length l.fn.list) × (AreWords (take l.from l.fn.list) → AreWords (take l.k l.list)) ×
    Takes l.fn.r l.r (StillReads read_next_number (take l.k l.list) (length l.fn.list - l.k))
    (λ p. with_front (take l.from l.fn.list) (read_many (length l.fn.list - l.from) read_next_number p))
