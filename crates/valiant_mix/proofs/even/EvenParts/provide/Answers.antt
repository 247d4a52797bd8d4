use Rattle.std.proofs.Common.{◌≡◌, ◌∙◌, ℕ, List, length, ap, sym}
use Rattle.valiant_mix.specs.Even.{even_parts}
use Rattle.valiant_mix.proofs.EvenShares.{length-even}
use Rattle.valiant_mix.proofs.even.EvenParts.provide.Goals as goal

pub invariant_of-self : goal.invariant_of-self
invariant_of-self c =
    let is : c.new.result ≡ even_parts c.args.count = c.new.ensures ∙ c.in_ok-made.ensures in
    record { even = is ∙ sym (ap even_parts (ap (λ (l : List ℕ). length l) is ∙ length-even c.args.count)) }
