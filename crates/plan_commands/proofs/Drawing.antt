-- What `gen` answers: a summary, of 2 to 64 nodes.
use Rattle.std.proofs.Common.{◌≡◌, ◌≤◌, ℕ, Bool, true, false, ◌&&◌, cond, Option, Some, None, refl, sym, ap, ◌∙◌, arith}
use Rattle.std.specs.Prelude.{nat_le}
use Rattle.std.proofs.lemmas.Bool.{and_parts, leb-true}
use Rattle.generation.proofs.Proving.{proves_ratio}
use Rattle.generation.proofs.Existence.{summaries_exist}
use Rattle.command_frame.specs.Sound.{IsSound, HasText}
use Rattle.command_frame.specs.Table.{IsSoundEntry}
use Rattle.plan_commands.specs.Generate.{nodes_and_seed, summary_of, generate_entry}

-- what is asked to be drawn has 2 to 64 nodes
some_pair : (b : Bool) (x y : ℕ × ℕ) → cond b (Some x) None ≡ Some y → (b ≡ true) × (x ≡ y)
some_pair true x y is = (refl, cc)
some_pair false x y is = absurd cc

pub nodes_drawn : (nodes seed : Option ℕ) (drawn : ℕ × ℕ) → nodes_and_seed nodes seed ≡ Some drawn → (2 ≤ drawn.0) × (drawn.0 ≤ 64)
nodes_drawn None seed drawn is = absurd cc
nodes_drawn (Some n) None drawn is = absurd cc
nodes_drawn (Some n) (Some s) drawn is =
    let at = some_pair (nat_le 2 n && nat_le n 64) (n, s) drawn is in
    let parts = and_parts (nat_le 2 n) (nat_le n 64) at.0 in
    let same : n ≡ drawn.0 = ap (λ (d : ℕ × ℕ). d.0) at.1 in
    (omega (arith, leb-true 2 n parts.0, same), omega (arith, leb-true n 64 parts.1, same))

summary_sound : (n seed : ℕ) → IsSound (λ s text. s ≡ 0) (summary_of n seed)
summary_sound n seed = record {
  once = λ s t p q. p ∙ sym q;
  some = (0, refl);
  of_text = λ s text is. is.0;
  proves = λ text is. proves_ratio n seed text is.1;
  form = λ s text is. is.0;
  accepted = λ text is. omega (arith, is.0);
}

summary_text : (n seed : ℕ) → 2 ≤ n → n ≤ 64 → HasText (summary_of n seed)
summary_text n seed some few =
    let (text, is) = summaries_exist n seed some few in
    (0, text, (refl, is))

pub generate_is_sound : (n seed : ℕ) → IsSoundEntry (generate_entry n seed)
generate_is_sound n seed = record {
  regular = tt;
  sound = summary_sound n seed;
  one_text = λ is. absurd is;
  some_text = λ within. summary_text n seed within.0 within.1;
}
