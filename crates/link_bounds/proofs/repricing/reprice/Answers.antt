use Rattle.std.proofs.lemmas.Bool.{ltb-true}
use Rattle.std.proofs.Common.{◌^◌, ap, subst, sym}
use Rattle.te_model.specs.Validity.{IsValid}
use Rattle.link_bounds.specs.Repriced.{greatest_need}
use Rattle.link_bounds.proofs.RepricedValid.{repriced_valid, with_ratio}
use Rattle.link_bounds.proofs.repricing.reprice.Goals as goal

pub ratio_on-ratio-requires-clause-formed : goal.ratio_on-ratio-requires-clause-formed
ratio_on-ratio-requires-clause-formed c = c.requires.can.formed

pub ratio_on-ratio-requires-clause-same : goal.ratio_on-ratio-requires-clause-same
ratio_on-ratio-requires-clause-same c = c.requires.can.same

pub ratio_on-ratio-requires-clause-small : goal.ratio_on-ratio-requires-clause-small
ratio_on-ratio-requires-clause-small c = ltb-true (greatest_need c.args.network c.args.certificate.blocks) (10 ^ 19) c.requires.can.small

pub returns-clause-repriced : goal.returns-clause-repriced
returns-clause-repriced c = ap (with_ratio c.args.certificate c.args.network) c.ratio_on-ratio.ensures

pub returns-clause-valid : goal.returns-clause-valid
returns-clause-valid c =
    subst IsValid (sym (ap (with_ratio c.args.certificate c.args.network) c.ratio_on-ratio.ensures))
    (repriced_valid c.args.certificate c.args.network c.requires.valid c.requires.can)
