use Rattle.std.proofs.Common.{sym, arith}
use Rattle.te_model.proofs.Quotients.{is_quotient_up}
use Rattle.ratio_witness.proofs.Ratios.{quotient_of_none}
use Rattle.ratio_witness.proofs.utilisation.quotient_up.Goals as goal

pub returns-then-under-eq0 : goal.returns-then-under-eq0
returns-then-under-eq0 c = sym (quotient_of_none c.args.over c.args.under (omega arith))

pub returns-else-under-eq0 : goal.returns-else-under-eq0
returns-else-under-eq0 c = is_quotient_up c.args.over c.args.under c.ceil_div.result (omega arith) c.ceil_div.ensures.enough c.ceil_div.ensures.least
