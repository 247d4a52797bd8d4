use Rattle.std.proofs.Common.{◌≡◌, ℕ, List, [], All, length, ap, sym, ◌∙◌, subst}
use Rattle.te_model.specs.declared.network.Link.{Link}
use Rattle.te_model.specs.Network.{link_count}
use Rattle.te_model.proofs.Lists.{written_whole}
use Rattle.local_search.specs.Pairs.{ArePairsOnLinks, HaveLinksBelow}
use Rattle.local_search.proofs.Entering.{links_inside}
use Rattle.local_search.proofs.pairs.PairsOnLinks.new.Goals as goal

-- the table has each link
table_count : (c : goal.After-deref_mut) → link_count c.args.net.now ≡ length c.deref_mut.result.now
table_count c = sym (c.deref_mut.ensures.len ∙ c.in_ok-table.ensures.0 ∙ ap (λ (l : List Link). length l) c.as_slice.ensures)

pub add_pairs-requires-clause-links : goal.add_pairs-requires-clause-links
add_pairs-requires-clause-links c =
    subst (λ n. All (λ r. HaveLinksBelow n r.paths) c.args.routes.now) (table_count c) (links_inside c.args.net.now c.args.routes.now c.requires.routes)

pub add_pairs-requires-clause-other_links : goal.add_pairs-requires-clause-other_links
add_pairs-requires-clause-other_links c =
    subst (λ n. All (λ r. HaveLinksBelow n r.paths) c.args.others.now) (table_count c) (links_inside c.args.net.now c.args.others.now c.requires.others)

pub add_pairs-requires-clause-none : goal.add_pairs-requires-clause-none
add_pairs-requires-clause-none c = subst (All (λ (s : List ℕ). s ≡ [])) (sym c.deref_mut.ensures.value) c.in_ok-table.ensures.1

pub add_pairs-requires-clause-pairs : goal.add_pairs-requires-clause-pairs
add_pairs-requires-clause-pairs c = c.requires.pairs

pub add_pairs-requires-clause-few : goal.add_pairs-requires-clause-few
add_pairs-requires-clause-few c = c.requires.few

pub returns : goal.returns
returns c =
    let table = c.in_ok-table.table in
    let new = c.add_pairs.new.table in
    let back = written_whole table.len new table.items (c.add_pairs.auto.table ∙ ap (λ (l : List (List ℕ)). length l) c.deref_mut.ensures.value) table.ok.0 in
    let count = c.deref_mut.ensures.len ∙ c.in_ok-table.ensures.0 ∙ ap (λ (l : List Link). length l) c.as_slice.ensures in
    subst (ArePairsOnLinks (link_count c.args.net.now) c.args.routes.now c.args.others.now) (sym back)
    (subst (λ n. ArePairsOnLinks n c.args.routes.now c.args.others.now new) count c.in_ok-add_pairs.ensures)
