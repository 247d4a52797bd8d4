use Rattle.std.proofs.Common.{◌∙◌, sym, subst, refl}
use Rattle.fault_rates.specs.Reading.{GivesRates}
use Rattle.fault_rates.proofs.OneRates.{read_of_print}
use Rattle.fault_rates.proofs.Words.{valid_words}
use Rattle.fault_rates.proofs.spelling.print_and_read.Goals as goal

pub print-requires : goal.print-requires
print-requires c = c.requires.shaped.grants ∙ sym c.requires.shaped.pairs

pub returns : goal.returns
returns c =
    let plan = c.args.plan.now in
    let routes = c.args.routing.now.routes in
    let none = c.requires.no_fault in
    let words = valid_words plan none (c.requires.shaped.pairs ∙ sym c.requires.shaped.grants) in
    record {
      same = read_of_print routes plan c.read.result (record { shaped = c.requires.shaped; words = words; file = refl }) none
          (subst (λ bytes. GivesRates routes bytes c.read.result) (c.as_slice.ensures.value ∙ c.in_ok-file.ensures) c.read.ensures.rates);
    }
