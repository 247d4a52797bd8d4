use Rattle.std.proofs.Common.{◌≡◌, ℕ, Bool, List, length, ap, sym, ◌∙◌, subst, rules}
use Rattle.std.specs.Prelude.{Option}
use Rattle.te_model.specs.declared.name.Name.{Name}
use Rattle.te_model.specs.Network.{link_count}
use Rattle.te_model.proofs.Lists.{written_whole}
use Rattle.shortest_path.specs.Least.{AreFirstLinks, AreLeastSums, LeadsTo}
use Rattle.shortest_path.specs.Links.{every_link}
use Rattle.mcf_lengths.proofs.paths.ways_where.Goals as goal

pub returns-clause-ways : goal.returns-clause-ways
returns-clause-ways c = λ asked.
    let net = c.args.net.now in
    let lengths = c.args.lengths.now in
    let every : c.deref.result.now ≡ every_link net = search rules in
    let again : c.deref-2.result.now ≡ every_link net = search rules in
    let found = c.toward.new.sums in
    let firsts = c.in_ok-firsts.firsts.items in
    let sums : AreLeastSums net lengths (every_link net) c.args.node found = subst (λ (m : List Bool). AreLeastSums net lengths m c.args.node found) every c.toward.ensures.sums in
    let whole = written_whole c.in_ok-sums.sums.len found c.in_ok-sums.sums.items
    (sums.count ∙ sym (c.in_ok-sums.ensures.len ∙ ap (λ (l : List Name). length l) c.as_slice-2.ensures) ∙ c.in_ok-sums.sums.ok.0) c.in_ok-sums.sums.ok.0
    in
    let along : AreFirstLinks net lengths (every_link net) found (link_count net) firsts =
    subst (λ (l : List (Option ℕ)). AreFirstLinks net lengths (every_link net) l (link_count net) firsts) (c.deref-3.ensures.value ∙ whole)
    (subst (λ (m : List Bool). AreFirstLinks net lengths m c.deref-3.result.now (link_count net) firsts) again c.in_ok-firsts.ensures)
    in
    subst (λ (l : List (Option ℕ)). LeadsTo net lengths (every_link net) c.args.node l c.new-3.result) (sym (c.new-2.ensures ∙ whole))
    (subst (λ (l : List (Option ℕ)). LeadsTo net lengths (every_link net) c.args.node found l) (sym c.new-3.ensures)
    (record { count = c.requires.lengths; positive = c.requires.positive; sums_are = sums; firsts_are = along }))
