use Rattle.std.proofs.Common.{◌∙◌, subst}
use Rattle.hose_bound.specs.Reading.{GivesHoseCert}
use Rattle.hose_bound.proofs.Meaning.{read_of_print}
use Rattle.hose_bound.proofs.spelling.print_and_read.Goals as goal

pub returns : goal.returns
returns c =
    let net = c.args.net.now in
    record {
      same = read_of_print net c.args.cert.now c.read.result c.requires.cert
          (subst (λ bytes. GivesHoseCert net bytes c.read.result) (c.as_slice.ensures.value ∙ c.in_ok-file.ensures) c.read.ensures.cert);
    }
