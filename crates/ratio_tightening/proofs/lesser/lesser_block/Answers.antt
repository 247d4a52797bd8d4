use Rattle.std.proofs.Common.{◌≡◌, Option, Some, None, ap, sym, ◌∙◌, ◌==◌, rules, tests}
use Rattle.std.specs.Prelude.{find}
use Rattle.std.specs.Option.{option_map}
use Rattle.std.specs.Borrow.{Bor}
use Rattle.std.proofs.lemmas.Iterator.{YieldsList-from_slice}
use Rattle.std.proofs.lemmas.Iterator.Search.{find_from_yields_List}
use Rattle.std.proofs.lemmas.Result.{IfOk-weaker}
use Rattle.te_model.specs.declared.certificate.Block.{Block}
use Rattle.ratio_tightening.specs.Tightened.{lesser_block, lesser_of, lesser_of_found}
use Rattle.ratio_tightening.proofs.lesser.lesser_block.Goals as goal
use Rattle.ratio_tightening.proofs.lesser.lesser_block.Goals.{After-find}

-- what was found is the first block of the link
found : (c : After-find) → option_map (λ (x : Bor Block). x.now) c.find.result ≡ find (λ (b : Block). b.link == c.args.made.link) c.args.blocks.now
found c =
    find_from_yields_List (λ b. b.link == c.args.made.link) _ _ _ c.find.ensures.ran (YieldsList-from_slice c.args.blocks.now cc)
    (λ x b q k. search (rules, tests))

pub returns-in-Some : goal.returns-in-Some
returns-in-Some c =
    let net = c.args.net.now in
    let made = c.args.made in
    let is : Some c.in-Some.old.now ≡ find (λ (b : Block). b.link == made.link) c.args.blocks.now =
    sym (ap (option_map (λ (x : Bor Block). x.now)) c.in-Some.is) ∙ found (goal.at.returns-in-Some c).After-find
    in
    IfOk-weaker c.lesser_of.result (λ block. block ≡ lesser_of net c.in-Some.old.now made) (λ block. block ≡ lesser_block net c.args.blocks.now made)
    (λ block same. same ∙ ap (λ (o : Option Block). lesser_of_found net o made) is) c.lesser_of.ensures

pub returns-in-None : goal.returns-in-None
returns-in-None c =
    let made = c.args.made in
    let is : None ≡ find (λ (b : Block). b.link == made.link) c.args.blocks.now =
    sym (ap (option_map (λ (x : Bor Block). x.now)) c.in-None.is) ∙ found (goal.at.returns-in-None c).After-find
    in
    ap (λ (o : Option Block). lesser_of_found c.args.net.now o made) is
