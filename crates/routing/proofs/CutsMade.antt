-- Every walk has a form without its loops.
use Rattle.std.proofs.Common.{◌≡◌, ℕ, zero, suc, ◌≤◌, true, List, [], ◌∷◌, length, arith, refl}
use Rattle.te_model.specs.declared.network.Network.{Network}
use Rattle.te_model.specs.Network.{head_of}
use Rattle.te_model.specs.Path.{chains}
use Rattle.routing.specs.Loops.{after_last, IsCut}
use Rattle.routing.proofs.Cutting.{GoesOn, after-le, cut_goes_on}

-- what follows, by the length that is left
goes_on_within : (net : Network) (fuel : ℕ) (rest : List ℕ) → length rest ≤ fuel → (cut : List ℕ) × GoesOn net rest cut
goes_on_within net zero [] fits = ([], refl)
goes_on_within net zero (h ∷ hs) fits = absurd (omega arith)
goes_on_within net (suc fuel) [] fits = ([], refl)
goes_on_within net (suc fuel) (h ∷ hs) fits =
    let (more, on) = goes_on_within net fuel (after_last net (head_of net h) hs) (omega (arith, fits, after-le net (head_of net h) hs)) in
    (h ∷ more, (more, refl, cut_goes_on net (head_of net h) hs more on))

pub cut_exists : (net : Network) (s t : ℕ) (walk : List ℕ) → chains net s t walk ≡ true → (cut : List ℕ) × IsCut net s walk cut
cut_exists net s t walk chain =
    let (cut, on) = goes_on_within net (length (after_last net s walk)) (after_last net s walk) (omega arith) in
    (cut, cut_goes_on net s walk cut on)
