use Rattle.std.proofs.Common.{ℕ, ap, arith}
use Rattle.te_model.specs.Formats.{limits_of}
use Rattle.text_size.proofs.LineSizes.{certificate_size}
use Rattle.text_size.proofs.ValidSizes.{valid_text, first_size, second_size, fits_format, fits_file}
use Rattle.text_size.proofs.valid_texts_are_short.Goals as goal

pub returns-clause-first_format : goal.returns-clause-first_format
returns-clause-first_format c = λ cert valid first.
    let size = valid_text cert valid in
    let same = ap (λ (f : ℕ). certificate_size (limits_of f)) first in
    omega (arith, size, same, first_size)

pub returns-clause-second_format : goal.returns-clause-second_format
returns-clause-second_format c = λ cert valid second.
    let size = valid_text cert valid in
    let same = ap (λ (f : ℕ). certificate_size (limits_of f)) second in
    omega (arith, size, same, second_size)

pub returns-clause-fits : goal.returns-clause-fits
returns-clause-fits c = λ cert valid. fits_format cert valid

pub returns-clause-files : goal.returns-clause-files
returns-clause-files c = λ bytes cert spelled. fits_file bytes cert spelled
