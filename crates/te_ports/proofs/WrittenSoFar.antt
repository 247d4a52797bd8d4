-- What a write of a whole text has appended so far.
use Rattle.std.proofs.Common.{◌≡◌, ℕ, ◌+◌, ◌-◌, List, ◌++◌, length, take, drop, Some, None, refl, sym, ap, ◌∙◌, append_assoc, length-drop}
use Rattle.std.specs.declared.option.Option.{Option}
use Rattle.std.proofs.Math.Seq.{take-add, take-length}
use Rattle.std.specs.Io.KnownBytes.{append_known}

pub append_known_twice : (known : Option (List ℕ)) (a b : List ℕ) → append_known (append_known known a) b ≡ append_known known (a ++ b)
append_known_twice None a b = refl
append_known_twice (Some xs) a b = ap Some (append_assoc xs a b)

-- one more piece was appended
pub appended_more : (old then now : Option (List ℕ)) (text : List ℕ) (done n left : ℕ) → then ≡ append_known old (take done text) →
    now ≡ append_known then (take n (take left (drop done text))) → left ≡ length text - done → now ≡ append_known old (take (done + n) text)
appended_more old then now text done n left before step rest =
    let all : take left (drop done text) ≡ drop done text = ap (λ k. take k (drop done text)) (rest ∙ sym (length-drop done text)) ∙ take-length (drop done text) in
    step ∙ ap (λ k. append_known k (take n (take left (drop done text)))) before
    ∙ ap (λ f. append_known (append_known old (take done text)) (take n f)) all
    ∙ append_known_twice old (take done text) (take n (drop done text))
    ∙ ap (λ f. append_known old f) (sym (take-add done n text))

-- all pieces were appended
pub appended_all : (old now : Option (List ℕ)) (text : List ℕ) (done : ℕ) → now ≡ append_known old (take done text) → done ≡ length text →
    now ≡ append_known old text
appended_all old now text done before all = before ∙ ap (λ k. append_known old (take k text)) all ∙ ap (append_known old) (take-length text)
