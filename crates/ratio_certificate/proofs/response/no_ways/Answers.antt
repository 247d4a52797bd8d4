use Rattle.std.proofs.Common.{◌≡◌, None, length, replicate, ap, rules}
use Rattle.ratio_certificate.proofs.Responding.{none_last}
use Rattle.ratio_certificate.proofs.response.no_ways.Goals as goal

pub returns : goal.returns
returns c =
    let lasts = c.in_ok-lasts.lasts.items in
    let are : lasts ≡ replicate (length c.as_slice.result.now) None = search rules in
    none_last c.args.net.now (length c.as_slice.result.now) lasts are (ap length c.as_slice.ensures)
