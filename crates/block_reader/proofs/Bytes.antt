-- What moving, passing and fetching bytes makes of those that stand ready.
use Rattle.std.proofs.Common.{◌≡◌, ◌∙◌, ℕ, ◌+◌, ◌-◌, ◌≤◌, List, ◌++◌, length, take, drop, sym, ap, arith, length-drop, length-append, length-take-le}
use Rattle.std.specs.List.{copy_within}
use Rattle.std.proofs.Math.Seq.{take-add, drop-append_seam}
use Rattle.std.proofs.lemmas.List.{take_at, take-take, take-append-le, drop-append-le, drop-take, drop-drop, take-append-drop}
use Rattle.std.proofs.lemmas.List.Edits.{take-paste}

-- bytes that were moved to the front
pub moved : (xs ys : List ℕ) (s e n : ℕ) → s ≤ e → e ≤ length xs → n ≡ length xs → length ys ≡ length xs → ys ≡ copy_within xs s e 0 →
    take (e - s) (take n (ys ++ drop (length ys) xs)) ≡ drop s (take e xs)
moved xs ys s e n order inside all same is =
    let whole : s + (e - s) ≡ e = omega (arith, order) in
    let count : e - s ≡ 0 + (e - s) = omega arith in
    let refilled : take n (ys ++ drop (length ys) xs) ≡ ys = take_at ys (drop (length ys) xs) n (same ∙ sym all) in
    ap (take (e - s)) refilled ∙ ap (take (e - s)) is ∙ ap (λ k. take k (copy_within xs s e 0)) count
    ∙ take-paste xs 0 (drop s xs) (e - s) (omega arith) (omega (arith, order, inside, length-drop s xs))
    ∙ sym (drop-take s (e - s) xs) ∙ ap (λ k. drop s (take k xs)) whole

-- bytes that were passed
pub passed_by : (xs : List ℕ) (s n : ℕ) → drop s xs ≡ take n (drop s xs) ++ drop (s + n) xs
passed_by xs s n = sym (take-append-drop n (drop s xs)) ∙ ap (λ f. take n (drop s xs) ++ f) (drop-drop n s xs)

-- the front of a list whose end was filled up
refilled_front : (ws vs : List ℕ) (e n : ℕ) → e ≤ n → e ≤ length ws → take e (take n (ws ++ vs)) ≡ take e ws
refilled_front ws vs e n within inside = take-take e n (ws ++ vs) within ∙ take-append-le e ws vs inside

-- bytes that were written behind those that stand ready, and of which some were counted in
pub behind : (xs zs buf rest vs : List ℕ) (s e k n : ℕ) → zs ≡ xs → s ≤ e → e ≤ length xs → k ≤ length buf → e + k ≤ n →
    drop s (take (e + k) (take n ((take e zs ++ (buf ++ rest)) ++ vs))) ≡ drop s (take e xs) ++ take k buf
behind xs zs buf rest vs s e k n is order inside fits within =
    let size : length (take e zs) ≡ e = length-take-le e zs (omega (arith, ap length is, inside)) in
    let left : drop e (take e zs ++ (buf ++ rest)) ≡ buf ++ rest =
    ap (λ j. drop j (take e zs ++ (buf ++ rest))) (sym size) ∙ drop-append_seam (take e zs) (buf ++ rest) in
    let long : e + k ≤ length (take e zs ++ (buf ++ rest)) =
    omega (arith, size, fits, length-append (take e zs) (buf ++ rest), length-append buf rest) in
    let whole : take (e + k) (take e zs ++ (buf ++ rest)) ≡ take e xs ++ take k buf =
    take-add e k (take e zs ++ (buf ++ rest))
    ∙ ap (λ f. f ++ take k (drop e (take e zs ++ (buf ++ rest)))) (take_at (take e zs) (buf ++ rest) e size ∙ ap (take e) is)
    ∙ ap (λ f. take e xs ++ f) (ap (take k) left ∙ take-append-le k buf rest fits) in
    ap (drop s) (refilled_front (take e zs ++ (buf ++ rest)) vs (e + k) n within long ∙ whole)
    ∙ drop-append-le s (take e xs) (take k buf) (omega (arith, order, inside, length-take-le e xs inside))
