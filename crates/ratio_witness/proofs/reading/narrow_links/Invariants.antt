use Rattle.std.proofs.Common.{◌≡◌, map, take}
use Rattle.cert_text.specs.Reading.{narrow_number}
use Rattle.ratio_witness.proofs.reading.narrow_links.Given as goal

abbrev pub invariant-loop-number : goal.invariant-loop-number
invariant-loop-number l = l.links.items ≡ map narrow_number (take l.number-index l.numbers)
