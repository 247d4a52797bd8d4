use Rattle.std.proofs.Common.{◌≡◌, ap, sym, ◌∙◌, subst}
use Rattle.std.proofs.lemmas.List.{get_or_read}
use Rattle.te_model.specs.declared.route.PathShare.{PathShare}
use Rattle.routing.specs.Merge.{no_path, path_at}
use Rattle.local_search.specs.Shifting.{IsLessened}
use Rattle.local_search.proofs.Shifts.{lessened_out}
use Rattle.local_search.proofs.shifting.take_off.Goals as goal

pub returns-then-index-units : goal.returns-then-index-units
returns-then-index-units c =
    let xs = c.args.paths.now.items in
    let read = get_or_read xs c.args.from c.index.result.now c.requires.place c.index.ensures no_path in
    let whole : (path_at xs c.args.from).weight ≡ c.args.units = sym (ap (λ (s : PathShare). s.weight) read) ∙ c.if-index-units.true in
    subst (λ n. IsLessened xs c.args.from n c.remove.new.self.items) whole
    (subst (IsLessened xs c.args.from (path_at xs c.args.from).weight) (sym c.remove.ensures.items)
    (lessened_out xs c.args.from c.requires.place c.requires.positive))
