use Rattle.std.proofs.Common.{◌≡◌, ◌∙◌, ◌++◌, ◌∷◌, [], List, arith, ap}
use Rattle.std.specs.Prelude.{replicate}
use Rattle.std.proofs.lemmas.List.{replicate-append-replicate}
use Rattle.te_model.specs.declared.route.PathShare.{PathShare}
use Rattle.witness_search.proofs.attacks.no_paths.Goals as goal

pub loop-preserved : goal.loop-preserved
loop-preserved c =
    c.in_ok-push.ensures.items ∙ ap (λ (l : List (List PathShare)). l ++ c.no_path.result ∷ []) c.loop.invariant
    ∙ ap (λ (ps : List PathShare). replicate c.loop.counter [] ++ ps ∷ []) c.no_path.ensures
    ∙ replicate-append-replicate c.loop.counter 1 []

pub returns : goal.returns
returns c =
    let all : c.loop.counter ≡ c.args.pairs = omega arith in
    c.new.ensures ∙ c.loop.invariant ∙ ap (λ n. replicate n []) all
