use Rattle.std.proofs.Common.{refl}
use Rattle.generation.proofs.Summing.{drawn_valid, judged_draw}
use Rattle.generation.proofs.seven_lines.ratio_and_finding.Goals as goal

pub verdict-requires : goal.verdict-requires
verdict-requires c =
    drawn_valid c.args.seed c.args.network.now c.args.pairs.now.list c.in_ok-file.file.items c.as_slice.result.now c.in_ok-certificate.certificate
    c.in_ok-file.ensures c.as_slice.ensures.value c.in_ok-certificate.ensures

pub returns : goal.returns
returns c =
    judged_draw c.args.seed c.args.network.now c.args.pairs.now.list c.in_ok-file.file.items c.as_slice.result.now c.in_ok-certificate.certificate _ _
    c.in_ok-file.ensures c.as_slice.ensures.value c.in_ok-certificate.ensures refl c.verdict.ensures.finding
