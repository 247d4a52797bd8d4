use Rattle.std.proofs.Common.{◌≡◌, ℕ, ◌∙◌, ap, sym, ◌++◌, ◌∷◌, [], List, take}
use Rattle.std.proofs.lemmas.List.{take_more, take_all}
use Rattle.te_model.specs.declared.route.PathShare.{PathShare}
use Rattle.routing.proofs.copy.copy_of_paths.Goals as goal

pub loop-path-preserved : goal.loop-path-preserved
loop-path-preserved c =
    let paths = c.args.paths.now in
    let i = c.loop-path.path-index in
    let path = c.path-item.result in
    let links : c.new.result ≡ path.links = c.new.ensures ∙ (c.in_ok-links.ensures.items ∙ c.as_slice.ensures) in
    c.in_ok-push.ensures.items
    ∙ (ap (λ (l : List ℕ). c.loop-path.copy.items ++ (record { links = l; weight = path.weight }) ∷ []) links
    ∙ (ap (λ (l : List PathShare). l ++ path ∷ []) c.loop-path.invariant
    ∙ (ap (λ (p : PathShare). take i paths ++ p ∷ []) c.path-item.is
    ∙ sym (take_more paths i path c.loop-path-test.true))))

pub returns : goal.returns
returns c = c.loop-path.invariant ∙ take_all c.loop-path.path-index c.args.paths.now c.loop-path-test.false
