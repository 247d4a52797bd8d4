use Rattle.std.proofs.Common.{ℕ, List, length, arith, ap, refl, sym, subst}
use Rattle.hose_bound.specs.Answers.{IsHoseText, IsLeastHoseText}
use Rattle.hose_bound.proofs.Answered.{hose_text_is}
use Rattle.hose_bound.proofs.ShortTexts.{hose_texts_are_short}
use Rattle.routing.proofs.Splits.{splits_of}
use Rattle.hose_bound.proofs.answers.hose_text.Goals as goal

pub invariant_of-routing : goal.invariant_of-routing
invariant_of-routing c = record { splits = splits_of c.args.head.network c.args.head.routes c.requires.routing }

pub returns-clause-text : goal.returns-clause-text
returns-clause-text c =
    let net = c.args.head.network in
    let routes = c.args.head.routes in
    subst (IsHoseText net routes c.args.hose) (sym c.in_ok-print.ensures) (hose_text_is net routes c.args.hose c.in_ok-cert.cert c.requires.pairs c.in_ok-cert.ensures.made)

pub returns-clause-least : goal.returns-clause-least
returns-clause-least c =
    subst (IsLeastHoseText c.args.head.network c.args.head.routes c.args.hose) (sym c.in_ok-print.ensures)
    (record { cert = c.in_ok-cert.cert; made = c.in_ok-cert.ensures.made; least = c.in_ok-cert.ensures.exact; text_is = refl })

pub returns-clause-short : goal.returns-clause-short
returns-clause-short c =
    let cert = c.in_ok-cert.cert in
    let made = c.in_ok-cert.ensures.made in
    let short = hose_texts_are_short c.args.head.network cert c.requires.network made.valid in
    let same = ap (λ (l : List ℕ). length l) c.in_ok-print.ensures in
    omega (arith, short, same)
