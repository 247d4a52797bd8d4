use Rattle.std.proofs.Common.{◌≡◌, ◌++◌, ◌∙◌, ℕ, List, true, ap, sym, subst}
use Rattle.te_model.specs.Path.{chains}
use Rattle.routing.specs.Loops.{end_of}
use Rattle.routing.proofs.Cutting.{chains_to_end}
use Rattle.valiant_mix.proofs.DetoursMade.{legs_chain}
use Rattle.valiant_mix.proofs.detours.join_legs.Goals as goal

pub cut_loops_into-requires : goal.cut_loops_into-requires
cut_loops_into-requires c =
    let net = c.args.net.now in
    let s = c.args.src in
    let there = c.args.there.now in
    let on = c.args.on.now in
    let (m, t, first, second) = c.requires in
    let joined : c.as_slice.result.now ≡ there ++ on =
    c.as_slice.ensures.value ∙ (c.in_ok-extend_from_slice-2.ensures.items
    ∙ ap (λ (l : List ℕ). l ++ on) (c.in_ok-extend_from_slice.ensures.items ∙ ap (λ (l : List ℕ). l ++ there) c.clear.ensures.items))
    in
    subst (λ (l : List ℕ). chains net s (end_of net s l) l ≡ true) (sym joined) (chains_to_end net s t (there ++ on) (legs_chain net s t m there on first second))
