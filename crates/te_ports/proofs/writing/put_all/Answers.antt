use Rattle.std.proofs.Common.{arith, ◌∙◌, refl, length-take, length-drop, ℕ}
use Rattle.te_ports.proofs.WrittenSoFar.{appended_more, appended_all}
use Rattle.te_ports.proofs.writing.put_all.Goals as goal

pub pieces-preserved : goal.pieces-preserved
pieces-preserved g c =
    (omega (arith, c.in_ok-done.ensures.bound, length-take {A = ℕ}, length-drop {A = ℕ}), appended_more _ _ _ _ _ _ _ c.pieces.invariant.1 c.in_ok-done.ensures.appended refl, c.in_ok-done.ensures.steady ∙ c.pieces.invariant.2)

pub returns-clause-all : goal.returns-clause-all
returns-clause-all g c = appended_all _ _ c.args.bytes.now c.pieces.done c.pieces.invariant.1 (omega arith)
