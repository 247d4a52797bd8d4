use Rattle.std.proofs.Common.{inl, inr, ◌≡◌, arith, ap, sym, ◌∙◌, subst}
use Rattle.std.proofs.lemmas.Bool.{cases_lt}
use Rattle.std.proofs.lemmas.List.{get_or_default}
use Rattle.te_model.specs.declared.route.PathShare.{PathShare}
use Rattle.routing.specs.Merge.{links_at, no_path}
use Rattle.local_search.specs.Loads.{AreWithin}
use Rattle.local_search.specs.Search.{loads_moved}
use Rattle.local_search.proofs.search.fitting_target.Goals as goal

pub loop-j-preserved : goal.loop-j-preserved
loop-j-preserved c = λ j size below fits. elim (cases_lt j c.loop-j.j) [
  | inl lt ↦ c.loop-j.invariant j size lt fits
  | inr ge ↦
      let candidates = c.args.candidates.now in
      let here : j ≡ c.loop-j.j = omega (arith, below, ge) in
      let read = get_or_default candidates c.loop-j.j c.index-candidates-j.result no_path c.loop-j-test.true in
      let to : links_at candidates j ≡ c.as_slice-to.result.now =
      ap (links_at candidates) here ∙ sym (c.as_slice-to.ensures ∙ ap (λ (s : PathShare). s.links) read)
      in
      c.in_default.ensures.none size fits.allowed
      (subst (λ l. AreWithin c.args.net.now c.args.aim.now.times (loads_moved c.args.loads.now c.args.demand c.args.from.now l size)) to fits.within)
]

pub returns-clause-none : goal.returns-clause-none
returns-clause-none c = λ j size fits. c.loop-j.invariant j size (omega (arith, fits.candidate, c.loop-j-test.false)) fits
