use Rattle.std.proofs.Common.{◌≡◌, ◌-◌, ◌+◌, length}
use Rattle.cert_text.specs.Fits.{AreWords}
use Rattle.cert_text.specs.Place.{with_front}
use Rattle.cert_text.specs.Reading.{read_many, read_next_number}
use Rattle.cert_text.specs.Takes.{Takes}
use Rattle.cert_text.proofs.Taking.{StillReads}
use Rattle.cert_text.proofs.reader.Reader.numbers.Given as goal

abbrev pub invariant-loop : goal.invariant-loop
invariant-loop g l =
    (length l.list.items ≡ length l.fn.list.items + l.counter) × (AreWords l.fn.list.items → AreWords l.list.items) ×
    Takes l.fn.self l.self (StillReads read_next_number l.list.items (l.count - l.counter)) (λ p. with_front l.fn.list.items (read_many l.count read_next_number p))
