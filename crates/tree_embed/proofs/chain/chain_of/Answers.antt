use Rattle.std.proofs.Common.{◌≡◌, [], ◌∷◌, ◌++◌, nat_eq, ap, ◌∙◌, rules}
use Rattle.std.specs.List.{dedup}
use Rattle.std.proofs.lemmas.List.Filters.{dedup_is}
use Rattle.tree_embed.specs.Chains.{centers_between}
use Rattle.tree_embed.specs.Tables.{center_in}
use Rattle.tree_embed.proofs.chain.chain_of.Goals as goal

pub returns : goal.returns
returns c =
    let between = centers_between (center_in c.args.centers.now) c.args.v c.args.w c.lowest_shared-shared.result in
    let first : c.push.new.self.items ≡ c.args.v ∷ [] = search rules in
    let crossed : c.cross.new.stops.items ≡ c.push.new.self.items ++ centers_between (center_in c.args.centers.now) c.args.v c.args.w c.lowest_shared-shared.result =
    search rules
    in
    let last : c.push-2.new.self.items ≡ c.cross.new.stops.items ++ c.args.w ∷ [] = search rules in (
      c.lowest_shared-shared.result,
      c.lowest_shared-shared.ensures,
      dedup_is nat_eq c.push-2.new.self.items c.dedup.new.self.items c.dedup.ensures.filtered
          ∙ ap (dedup nat_eq) (last ∙ ap (λ l. l ++ c.args.w ∷ []) (crossed ∙ ap (λ l. l ++ between) first)),
    )
