use Rattle.std.proofs.Common.{◌≡◌, ◌≢◌, ◌∙◌, ◌++◌, refl, sym, ap, subst, inl, inr, arith, rules, append_assoc, length, length-append, le_trans}
use Rattle.te_ports.specs.Ports.{Rose}
use Rattle.te_ports.specs.Record.{pass}
use Rattle.te_ports.proofs.Giving.{adds_none, adds_then}
use Rattle.block_reader.specs.declared.window.State.TheVariants.{Open, Failed}
use Rattle.block_reader.specs.Standing.{ready, StandsAt, StandsIn}
use Rattle.block_reader.proofs.Going.{at_clear, in_clear}
use Rattle.block_reader.proofs.Reading.{at_most_itself}
use Rattle.block_reader.proofs.window.Window.drain.Goals as goal

pub rest-init : goal.rest-init
rest-init g c =
    let w = c.args.self.now in
    let clear = c.clear.ensures in (
      refl,
      (λ before passed s. (ready w, at_clear _ w c.clear.new.self passed clear.ready clear.fetched clear.limit clear.state s)),
      (λ told is passed s. (ready w, in_clear told w c.clear.new.self passed clear.ready clear.fetched clear.limit clear.state s)),
      clear.ready,
      clear.end,
      clear.room,
      clear.limit,
      (λ closed. (clear.state, refl)),
      (λ is. inl (sym clear.state ∙ is)),
      (λ is. refl),
      (λ other. at_most_itself _),
      adds_none _ _ _ refl,
      omega (arith, clear.fetched),
      (λ closed. clear.fetched),
    )

pub rest-preserved : goal.rest-preserved
rest-preserved g c =
    let all = c.rest.invariant in
    let next = c.fetch.ensures in
    let clear = c.clear-in-rest.ensures in
    let w = c.fetch.new.self in
    let after = c.clear-in-rest.new.self in
    let name = c.args.name.now in
    let is_open : c.rest.self.state ≡ Open = search rules in
    let sound : c.rest.self.state ≢ Failed = (λ (is : c.rest.self.state ≡ Failed). cc) in (
      next.content ∙ all.0,
      (λ before passed s. let h = all.1 before passed s in (
        h.0 ++ ready w,
        subst (StandsAt (pass name before (g.D.Depot.gave c.fetch.new.depot)) after) (append_assoc passed h.0 (ready w))
            (at_clear _ w after (passed ++ h.0) clear.ready clear.fetched clear.limit clear.state (next.stands before (passed ++ h.0) h.1)),
      )),
      (λ told is passed s. let h = all.2 told is passed s in (
        h.0 ++ ready w,
        subst (StandsIn told after) (append_assoc passed h.0 (ready w))
            (in_clear told w after (passed ++ h.0) clear.ready clear.fetched clear.limit clear.state
            (next.told told (ap (λ f. f name) all.0 ∙ is) (passed ++ h.0) h.1)),
      )),
      clear.ready,
      clear.end,
      clear.room ∙ next.room ∙ all.5,
      clear.limit ∙ next.limit ∙ all.6,
      (λ closed. absurd (closed (sym (all.7 closed).0 ∙ is_open))),
      (λ is. inr (subst (λ f. Rose (f name) (g.D.Depot.faults c.fetch.new.depot name)) (all.9 sound) (next.failed (sym clear.state ∙ is)))),
      (λ is. next.steady (λ failed. is (clear.state ∙ failed)) ∙ all.9 sound),
      (λ other. le_trans (all.10 other) (next.later other)),
      adds_then _ _ _ _ _ all.0 all.11 next.added,
      omega (arith, all.12, clear.fetched, next.count, ap length next.behind.1, length-append (ready c.rest.self) next.behind.0),
      (λ closed. absurd (closed (sym (all.7 closed).0 ∙ is_open))),
    )
