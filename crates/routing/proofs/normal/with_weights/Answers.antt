use Rattle.std.proofs.Common.{◌≡◌, ◌+◌, ◌<◌, [], ◌∷◌, ◌++◌, length, take, get_or, slice_index, arith, ap, sym, ◌∙◌, rules}
use Rattle.std.proofs.lemmas.List.{get_or_read, length-map, length-take, map_push, take_more, take_all}
use Rattle.te_model.specs.declared.route.PathShare.{PathShare}
use Rattle.routing.specs.Merge.{no_path, links_at}
use Rattle.routing.specs.Normal.{weighted_paths}
use Rattle.routing.proofs.Normalizing.{all_links, weighted_push}
use Rattle.routing.proofs.normal.with_weights.Goals as goal

pub loop-i-preserved : goal.loop-i-preserved
loop-i-preserved c =
    let parts = c.args.parts.now in
    let weights = c.args.weights.now in
    let i = c.loop-i.i in
    let here : i < length parts = c.loop-i-test.true in
    let inside : i < length weights = omega (arith, c.requires) in
    let links : c.new.result ≡ links_at parts i =
    c.new.ensures ∙ (c.in_ok-links.ensures.items ∙ (c.as_slice.ensures ∙ (sym (ap (λ (s : PathShare). s.links) c.index-parts-i.is) ∙ ap (λ (s : PathShare). s.links) (get_or_read parts i c.index-parts-i.result here c.index-parts-i.is no_path))))
    in
    let pushed : c.push.new.self.items ≡ c.loop-i.made.items ++ (record { links = c.new.result; weight = slice_index weights i }) ∷ [] = search rules in
    let more_links : all_links (take (i + 1) parts) ≡ all_links (take i parts) ++ links_at parts i ∷ [] =
    ap all_links (take_more parts i no_path here) ∙ map_push (λ (s : PathShare). s.links) (take i parts) (get_or parts i no_path)
    in
    let lengths : length (take i weights) ≡ length (all_links (take i parts)) =
    omega (arith, length-map (take i parts) (λ (s : PathShare). s.links), length-take i parts, length-take i weights, here, inside)
    in
    pushed
    ∙ (ap (λ l. l ++ (record { links = c.new.result; weight = slice_index weights i }) ∷ []) c.loop-i.invariant
    ∙ (ap (λ l. weighted_paths (all_links (take i parts)) (take i weights) ++ (record { links = l; weight = slice_index weights i }) ∷ []) links
    ∙ (sym (weighted_push (all_links (take i parts)) (take i weights) (links_at parts i) (slice_index weights i) lengths)
    ∙ (ap (λ ps. weighted_paths ps (take i weights ++ slice_index weights i ∷ [])) (sym more_links)
    ∙ ap (λ ws. weighted_paths (all_links (take (i + 1) parts)) ws) (sym (take_more weights i 0 inside))))))

pub returns : goal.returns
returns c =
    let i = c.loop-i.i in
    c.loop-i.invariant
    ∙ (ap (λ ps. weighted_paths (all_links ps) (take i c.args.weights.now)) (take_all i c.args.parts.now c.loop-i-test.false)
    ∙ ap (weighted_paths (all_links c.args.parts.now)) (take_all i c.args.weights.now (omega (arith, c.loop-i-test.false, c.requires))))
