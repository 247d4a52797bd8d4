use Rattle.std.proofs.Common.{inl, inr, ◌≡◌, ℕ, List, arith, ap, sym, ◌∙◌, subst}
use Rattle.std.proofs.lemmas.Bool.{cases_lt}
use Rattle.std.proofs.lemmas.List.{get_or_read}
use Rattle.te_model.specs.declared.route.PathShare.{PathShare}
use Rattle.te_model.specs.Path.{has_number}
use Rattle.routing.specs.Merge.{no_path, path_at}
use Rattle.local_search.specs.Search.{Fits}
use Rattle.local_search.proofs.Searching.{fits_not}
use Rattle.local_search.proofs.search.fitting_path.Goals as goal
use Rattle.local_search.proofs.search.fitting_path.Goals.{then-contains+in_default, else-contains}

pub loop-k-preserved : goal.loop-k-preserved
loop-k-preserved c = λ k j size below fits. elim (cases_lt k c.loop-k.k) [
  | inl lt ↦ c.loop-k.invariant k j size lt fits
  | inr ge ↦
      let net = c.args.net.now in
      let loads = c.args.loads.now in
      let paths = c.args.paths.now in
      let candidates = c.args.candidates.now in
      let same : k ≡ c.loop-k.k = omega (arith, below, ge) in
      let here = subst (λ n. Fits net loads c.args.aim.now.times c.args.demand (path_at paths n) candidates j size) same fits in
      let read = get_or_read paths c.loop-k.k c.index-paths-k.result c.loop-k-test.true c.index-paths-k.is no_path in
      elim c.if-contains.branch [
        | then-contains+in_default w ↦
            w.in_default.ensures.none j size (subst (λ (s : PathShare). Fits net loads c.args.aim.now.times c.args.demand s candidates j size) (sym read) here)
        | else-contains w ↦
            let holds = c.contains.ensures.value ∙ ap (λ (l : List ℕ). has_number l c.args.aim.now.link) (c.as_slice.ensures ∙ ap (λ (s : PathShare). s.links) read) in
            fits_not net loads c.args.aim.now.times c.args.demand (path_at paths c.loop-k.k) candidates j size c.args.aim.now.link here c.requires.link c.requires.over
            (sym holds ∙ w.if-contains.false)
      ]
]

pub returns-clause-none : goal.returns-clause-none
returns-clause-none c = λ k j size below fits. c.loop-k.invariant k j size (omega (arith, below, c.loop-k-test.false)) fits
