-- A block is read as its first line and the lines after it.
use Rattle.std.proofs.Common.{◌≡◌, ℕ, Result, Ok, Err, refl}
use Rattle.te_model.specs.declared.limits.Limits.{Limits}
use Rattle.te_model.specs.declared.certificate.Block.{Block}
use Rattle.cert_text.specs.declared.limits.BlockLine.{BlockLine}
use Rattle.cert_text.specs.declared.limits.Counts.{Counts}
use Rattle.cert_text.specs.Place.{Place, ◌>>=◌}
use Rattle.cert_text.specs.Reading.{read_line_end, read_narrow, read_next_number, read_next_count}
use Rattle.cert_text.specs.Grammar.{read_block}
use Rattle.cert_text.specs.BlockLine.{read_block_line}
use Rattle.cert_text.specs.BlockRest.{read_block_rest}

abbrev begun : ℕ → ℕ → ℕ → ℕ → BlockLine
begun link a b rows = record { link = link; a = a; b = b; rows = rows }

abbrev ended : BlockLine → Place → Result (BlockLine × Place) ℕ
ended line e = Ok (line, e)

-- a line and what is read after it, field by field
module _ (most : ℕ) (rest : BlockLine × Place → Result (Block × Place) ℕ) where
  from_end : (line : BlockLine) (m : Result Place ℕ) → ((m >>= ended line) >>= rest) ≡ (m >>= λ e. rest (line, e))
  from_end line (Ok e) = refl
  from_end line (Err k) = refl

  from_rows : (link a b : ℕ) (m : Result (ℕ × Place) ℕ)
      → ((m >>= λ n. read_line_end n.1 >>= ended (begun link a b n.0)) >>= rest) ≡ (m >>= λ n. read_line_end n.1 >>= λ e. rest (begun link a b n.0, e))
  from_rows link a b (Ok n) = from_end (begun link a b n.0) (read_line_end n.1)
  from_rows link a b (Err k) = refl

  from_b : (link a : ℕ) (m : Result (ℕ × Place) ℕ)
      → ((m >>= λ b. read_next_count 0 most b.1 >>= λ n. read_line_end n.1 >>= ended (begun link a b.0 n.0)) >>= rest)
      ≡ (m >>= λ b. read_next_count 0 most b.1 >>= λ n. read_line_end n.1 >>= λ e. rest (begun link a b.0 n.0, e))
  from_b link a (Ok b) = from_rows link a b.0 (read_next_count 0 most b.1)
  from_b link a (Err k) = refl

  from_a : (link : ℕ) (m : Result (ℕ × Place) ℕ)
      → ((m >>= λ a. read_next_number a.1 >>= λ b. read_next_count 0 most b.1 >>= λ n. read_line_end n.1 >>= ended (begun link a.0 b.0 n.0)) >>= rest)
      ≡ (m >>= λ a. read_next_number a.1 >>= λ b. read_next_count 0 most b.1 >>= λ n. read_line_end n.1 >>= λ e. rest (begun link a.0 b.0 n.0, e))
  from_a link (Ok a) = from_b link a.0 (read_next_number a.1)
  from_a link (Err k) = refl

  from_link : (m : Result (ℕ × Place) ℕ)
      → ((m >>= λ link. read_next_number link.1 >>= λ a. read_next_number a.1 >>= λ b. read_next_count 0 most b.1 >>= λ n. read_line_end n.1 >>= ended (begun link.0 a.0 b.0 n.0)) >>= rest)
      ≡ (m >>= λ link. read_next_number link.1 >>= λ a. read_next_number a.1 >>= λ b. read_next_count 0 most b.1 >>= λ n. read_line_end n.1 >>= λ e. rest (begun link.0 a.0 b.0 n.0, e))
  from_link (Ok link) = from_a link.0 (read_next_number link.1)
  from_link (Err k) = refl

pub block_parts : (limits : Limits) (keep : ℕ → ℕ) (counts : Counts) (p : Place) → (read_block_line keep limits.nodes p >>= λ line. read_block_rest keep counts line.0 line.1) ≡ read_block limits keep counts p
unfolding read_block read_block_line read_block_rest
block_parts limits keep counts p = from_link limits.nodes (λ line. read_block_rest keep counts line.0 line.1) (read_narrow keep p)
