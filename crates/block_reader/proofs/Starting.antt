-- A reader of blocks at its start, behind the head of a file.
use Rattle.std.proofs.Common.{◌≡◌, ℕ, List, [], Result, Ok, subst}
use Rattle.te_ports.specs.Record.{Pass}
use Rattle.std.specs.Prelude.{codes}
use Rattle.te_model.specs.declared.certificate.Head.{Head}
use Rattle.te_model.specs.declared.limits.Limits.{Limits}
use Rattle.te_model.specs.FileLimit.{file_limit}
use Rattle.te_model.specs.Formats.{limits_of}
use Rattle.te_model.proofs.FileLimits.{file_limits}
use Rattle.te_ports.specs.Limit.{IsLimit}
use Rattle.cert_text.specs.Reading.{narrow_number}
use Rattle.cert_text.specs.Grammar.{read_counted}
use Rattle.cert_text.specs.Halves.{read_format_and_head}
use Rattle.cert_text.specs.Fits.{FitsHead}
use Rattle.block_reader.specs.declared.block_reader.BlockReader.{BlockReader}
use Rattle.block_reader.specs.declared.lines.Lines.{Lines}
use Rattle.block_reader.specs.declared.stream_fault.StreamFault.{StreamFault}
use Rattle.block_reader.specs.Answers.{AnswersPart, Gives, IsBehind}
use Rattle.block_reader.specs.Blocks.{AreBehind, CountsBlocks, IsBehindHead, block_count}
use Rattle.block_reader.proofs.Handing.{opened}

pub is_limit : IsLimit file_limit
is_limit = record { small = file_limits.small; rises = file_limits.rises; settled = file_limits.settled }

pub opened_reader : (g0 g1 g2 : Pass) (old lines : Lines) (r : BlockReader) (name : List ℕ) (head : Head) → old.line ≡ 1 → IsBehind g0 old [] →
    Gives g0 g1 old lines (read_format_and_head narrow_number) head → FitsHead (limits_of head.format) head → IsBehindHead r name head → CountsBlocks g1 g2 lines head (Ok r) → AreBehind g2 r.blocks head []
opened_reader g0 g1 g2 old lines r name head line behind gives fits is counts =
    opened g0 g1 g2 old lines r.blocks head line behind gives counts is.place is.before (record { limits = is.limits; counts = is.counts; fits = fits })

-- the count of the blocks, by the limits of the head
pub count_of_head : (g0 g1 : Pass) (l0 l1 : Lines) (limits : Limits) (head : Head) (r : Result ℕ StreamFault) → limits ≡ limits_of head.format →
    AnswersPart g0 g1 l0 l1 (read_counted (codes "blocks ") 0 limits.links) r → AnswersPart g0 g1 l0 l1 (block_count head) r
count_of_head g0 g1 l0 l1 limits head r same answers = subst (λ (l : Limits). AnswersPart g0 g1 l0 l1 (read_counted (codes "blocks ") 0 l.links) r) same answers
