use Rattle.std.proofs.Common.{ℕ, List, ◌≡◌, ◌++◌, ap, ◌∙◌}
use Rattle.std.specs.List.{flat_map}
use Rattle.te_model.specs.declared.route.PathShare.{PathShare}
use Rattle.te_model.specs.Network.{name_at}
use Rattle.cert_text.proofs.PrintLemmas.{one_more}
use Rattle.te_model.proofs.Lists.{all_put}
use Rattle.step_detail.specs.Paths.{weighted_path_line}
use Rattle.step_detail.proofs.weighted_path.print_pair_paths.Goals as goal

pub name_of-source-requires : goal.name_of-source-requires
name_of-source-requires c = c.requires.src

pub name_of-target-requires : goal.name_of-target-requires
name_of-target-requires c = c.requires.dst

pub loop-path-preserved : goal.loop-path-preserved
loop-path-preserved c =
    let net = c.args.net.now in
    let pair = c.args.routes.now.pair in
    let word = c.args.word.now in
    let path = c.path-item.result in
    let put : c.print_path.new.text.items ≡ c.loop-path.text.items ++ weighted_path_line word (name_at net pair.src) (name_at net pair.dst) path =
    c.in_ok-print_path.ensures
    ∙ (ap (λ (l : List ℕ). c.loop-path.text.items ++ weighted_path_line word l c.name_of-target.result.now path) c.name_of-source.ensures
    ∙ ap (λ (l : List ℕ). c.loop-path.text.items ++ weighted_path_line word (name_at net pair.src) l path) c.name_of-target.ensures)
    in
    one_more (weighted_path_line word (name_at net pair.src) (name_at net pair.dst)) c.args.text.now.items c.loop-path.text.items c.print_path.new.text.items
    c.as_slice-path-items.result.now c.loop-path.path-index path c.loop-path-test.true c.path-item.is c.loop-path.invariant put

pub returns : goal.returns
returns c =
    let net = c.args.net.now in
    let pair = c.args.routes.now.pair in
    let f = weighted_path_line c.args.word.now (name_at net pair.src) (name_at net pair.dst) in
    all_put f c.args.text.now.items c.loop-path.text.items c.as_slice-path-items.result.now c.loop-path.path-index c.loop-path-test.false c.loop-path.invariant
    ∙ ap (λ (ss : List PathShare). c.args.text.now.items ++ flat_map f ss) c.as_slice-path-items.ensures
