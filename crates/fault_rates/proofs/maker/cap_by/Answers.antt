use Rattle.std.proofs.Common.{◌≡◌, ◌∙◌, arith, ap, rules, sym}
use Rattle.std.proofs.lemmas.Nat.{mul-le}
use Rattle.te_model.specs.Division.{quotient_up}
use Rattle.te_model.proofs.Quotients.{is_quotient_up}
use Rattle.fault_rates.proofs.Making.{cap_some}
use Rattle.fault_rates.proofs.maker.cap_by.Goals as goal

pub overflow_cast-result : goal.overflow_cast-result
overflow_cast-result c =
    let x : c.from.result ≡ c.args.demand = search rules in
    let y : c.from-else-left-eq0.result ≡ c.args.left = search rules in
    let some = c.if-left-eq0.false in
    let enough = mul-le c.args.demand 1 c.args.demand c.from-else-left-eq0.result (omega arith) (omega (arith, y, some)) in
    let least = c.ceil_div.ensures.least c.args.demand (omega (arith, x, enough)) in
    omega (arith, least)

pub returns-else-left-eq0 : goal.returns-else-left-eq0
returns-else-left-eq0 c =
    let x : c.from.result ≡ c.args.demand = search rules in
    let y : c.from-else-left-eq0.result ≡ c.args.left = search rules in
    let some = c.if-left-eq0.false in
    is_quotient_up c.from.result c.from-else-left-eq0.result c.ceil_div.result (omega (arith, y, some)) c.ceil_div.ensures.enough c.ceil_div.ensures.least
    ∙ (ap (λ k. quotient_up k c.from-else-left-eq0.result) x ∙ (ap (λ k. quotient_up c.args.demand k) y ∙ sym (cap_some c.args.demand c.args.left (omega (arith, some)))))
