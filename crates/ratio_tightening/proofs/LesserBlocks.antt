-- Of each of the made blocks and the old one of its link that one which needs less.
use Rattle.std.proofs.Common.{◌≡◌, ◌∙◌, ◌⊎◌, ℕ, ◌≤◌, Bool, true, false, cond, Option, Some, None, List, [], ◌∷◌, ◌||◌, nat_lt, ◌==◌, ap, arith, inl, inr, refl, subst, sym}
use Rattle.std.specs.Prelude.{find}
use Rattle.std.specs.List.{list_any}
use Rattle.std.specs.Option.{option_map}
use Rattle.std.proofs.lemmas.Bool.{ltb-false, ltb-true}
use Rattle.te_model.specs.declared.certificate.Block.{Block}
use Rattle.te_model.specs.declared.network.Network.{Network}
use Rattle.te_model.specs.Certificate.{empty_block}
use Rattle.ratio_checker.proofs.Ascending.{find_stands}
use Rattle.best_blocks.specs.Need.{need_of}
use Rattle.ratio_tightening.specs.Tightened.{lesser_block, lesser_blocks, lesser_of, lesser_of_found}

module _ (net : Network) (blocks : List Block) where
  -- the old block of a link
  abbrev pub old_of : ℕ → Option Block
  old_of e = find (λ (b : Block). b.link == e) blocks

  -- one of both
  pub one_of : (made : Block) → (lesser_block net blocks made ≡ made) ⊎ (old_of made.link ≡ Some (lesser_block net blocks made))
  one_of made = by (old_of made.link) refl
    where
      at : (old : Block) → old_of made.link ≡ Some old → (less : Bool) → (cond less old made ≡ made) ⊎ (old_of made.link ≡ Some (cond less old made))
      at old is true = inr is
      at old is false = inl refl

      by : (o : Option Block) → old_of made.link ≡ o → (lesser_of_found net o made ≡ made) ⊎ (old_of made.link ≡ Some (lesser_of_found net o made))
      by None is = inl refl
      by (Some old) is = at old is (nat_lt (need_of net old) (need_of net made))

  -- of the same link
  pub lesser_link : (made : Block) → (lesser_block net blocks made).link ≡ made.link
  lesser_link made = elim (one_of made) [
    | inl same ↦ ap (λ (b : Block). b.link) same
    | inr found ↦ (find_stands (λ (b : Block). b.link) made.link blocks (empty_block 0) (lesser_block net blocks made) found).1
  ]

  need_of_both : (old made : Block) → (need_of net (lesser_of net old made) ≤ need_of net made) × (need_of net (lesser_of net old made) ≤ need_of net old)
  need_of_both old made = at (nat_lt (need_of net old) (need_of net made)) refl
    where
      at : (less : Bool) → nat_lt (need_of net old) (need_of net made) ≡ less →
          (need_of net (cond less old made) ≤ need_of net made) × (need_of net (cond less old made) ≤ need_of net old)
      at true is = let below = ltb-true (need_of net old) (need_of net made) is in (omega (arith, below), omega arith)
      at false is = let above = ltb-false (need_of net old) (need_of net made) is in (omega arith, omega (arith, above))

  -- it needs no more than the made one
  pub lesser_need : (made : Block) → need_of net (lesser_block net blocks made) ≤ need_of net made
  lesser_need made = by (old_of made.link)
    where
      by : (o : Option Block) → need_of net (lesser_of_found net o made) ≤ need_of net made
      by None = omega arith
      by (Some old) = (need_of_both old made).0

  -- nor than the old one
  pub lesser_old : (made old : Block) → old_of made.link ≡ Some old → need_of net (lesser_block net blocks made) ≤ need_of net old
  lesser_old made old is = subst (λ o. need_of net (lesser_of_found net o made) ≤ need_of net old) (sym is) (need_of_both old made).1

  -- what is found of a link
  pub lesser_found : (e : ℕ) (made : List Block) → find (λ (b : Block). b.link == e) (lesser_blocks net blocks made) ≡
      option_map (lesser_block net blocks) (find (λ (b : Block). b.link == e) made)
  lesser_found e [] = refl
  lesser_found e (m ∷ ms) =
      ap (λ (l : ℕ). cond (l == e) (Some (lesser_block net blocks m)) (find (λ (b : Block). b.link == e) (lesser_blocks net blocks ms))) (lesser_link m)
      ∙ at (m.link == e) (lesser_found e ms)
    where
      at : (here : Bool) → find (λ (b : Block). b.link == e) (lesser_blocks net blocks ms) ≡ option_map (lesser_block net blocks) (find (λ (b : Block). b.link == e) ms) →
          cond here (Some (lesser_block net blocks m)) (find (λ (b : Block). b.link == e) (lesser_blocks net blocks ms)) ≡
          option_map (lesser_block net blocks) (cond here (Some m) (find (λ (b : Block). b.link == e) ms))
      at true later = refl
      at false later = later

  -- and whether there is one
  pub lesser_any : (e : ℕ) (made : List Block) → list_any (λ (b : Block). b.link == e) (lesser_blocks net blocks made) ≡ list_any (λ (b : Block). b.link == e) made
  lesser_any e [] = refl
  lesser_any e (m ∷ ms) = ap (λ (l : ℕ). l == e || list_any (λ (b : Block). b.link == e) (lesser_blocks net blocks ms)) (lesser_link m)
      ∙ ap (λ (t : Bool). m.link == e || t) (lesser_any e ms)
