use Rattle.std.proofs.Common.{◌≤◌, List, ℕ, arith, rules, subst}
use Rattle.std.specs.Prelude.{All}
use Rattle.std.proofs.lemmas.List.{take_all}
use Rattle.te_model.specs.Network.{capacity_of}
use Rattle.ratio_certificate.proofs.RaisedLinks.{narrower}
use Rattle.ratio_certificate.proofs.raising.narrowest.Goals as goal

pub loop-link-preserved : goal.loop-link-preserved
loop-link-preserved c =
    narrower c.args.net.now c.args.path.now c.loop-link.link-index c.loop-link.least _ (omega arith) (rw (← c.as_slice-links.ensures) (search rules))
    c.loop-link.invariant.0 c.loop-link.invariant.1

pub returns : goal.returns
returns c =
    let net = c.args.net.now in
    let path = c.args.path.now in
    let all = take_all c.loop-link.link-index path (omega arith) in
    record {
      bound = subst (λ (hs : List ℕ). All (λ h. c.loop-link.least ≤ capacity_of net h) hs) all c.loop-link.invariant.0;
      reached = c.loop-link.invariant.1;
    }
