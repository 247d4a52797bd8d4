-- A name is text.
use Rattle.std.proofs.Common.{ℕ, ◌<◌, ◌≡◌, List, [], ◌∷◌, length, true, ◌&&◌, arith, nat_le}
use Rattle.std.specs.List.{list_all}
use Rattle.std.specs.Str.{IsUtf8, IsAscii}
use Rattle.std.proofs.lemmas.Str.{IsUtf8-from_ascii}
use Rattle.std.proofs.lemmas.Str.Ascii.{IsAscii-nil, IsAscii-cons}
use Rattle.std.proofs.lemmas.Bool.{and_parts}
use Rattle.std.proofs.lemmas.Bool.Decides.{nat_tests}
use Rattle.te_model.specs.Network.{is_name, is_name_byte}

name-byte-ascii : (c : ℕ) → is_name_byte c ≡ true → c < 128
name-byte-ascii c h = grind (arith, nat_tests)

pub name-ascii : (s : List ℕ) → list_all is_name_byte s ≡ true → IsAscii s
name-ascii [] h = IsAscii-nil
name-ascii (c ∷ cs) h = let (a, b) = and_parts (is_name_byte c) (list_all is_name_byte cs) h in IsAscii-cons c cs (name-byte-ascii c a) (name-ascii cs b)

-- a name is text
pub name-utf8 : (s : List ℕ) → is_name s ≡ true → IsUtf8 s
name-utf8 s h = IsUtf8-from_ascii s (name-ascii s (and_parts (nat_le 1 (length s) && nat_le (length s) 32) (list_all is_name_byte s) h).1)
