use Rattle.std.proofs.lemmas.Result.{err_from_is_err_and}
use Rattle.hose_bound.specs.Files.{hose_cert_due}
use Rattle.hose_bound.proofs.ReadHoses.{behind_blocks, behind_bound, behind_count, behind_hose_in_cert, cert_begins, cert_first, cert_spells, no_blocks_there, no_bound, no_count, no_end_of_cert, no_hose_in_cert}
use Rattle.hose_bound.proofs.Taking.{no_table}
use Rattle.hose_bound.proofs.reader.spelled_cert.Goals as goal

pub returns-in_err-lines : goal.returns-in_err-lines
returns-in_err-lines c =
    let p = err_from_is_err_and c.from_residual.result c.from_residual.ensures.1 in
    rw (p.1, p.2) (no_table cert_first (hose_cert_due c.args.nodes) c.args.bytes.now c.in_err-lines.field-0.0 c.in_err-lines.ensures.shape)

pub returns-in_err-hose : goal.returns-in_err-hose
returns-in_err-hose c =
    let nodes = c.args.nodes in
    let bytes = c.args.bytes.now in
    let start = cert_begins nodes bytes c.in_ok-lines.lines c.in_ok-lines.ensures.table c.in_ok-lines.ensures.next in
    let p = err_from_is_err_and c.from_residual-in_err-hose.result c.from_residual-in_err-hose.ensures.1 in
    rw (p.1, p.2) (no_hose_in_cert nodes bytes c.in_ok-lines.lines c.take_hose.new.lines c.in_err-hose.field-0.0 start c.in_err-hose.ensures)

pub returns-in_err-bound : goal.returns-in_err-bound
returns-in_err-bound c =
    let nodes = c.args.nodes in
    let bytes = c.args.bytes.now in
    let start = cert_begins nodes bytes c.in_ok-lines.lines c.in_ok-lines.ensures.table c.in_ok-lines.ensures.next in
    let hose = behind_hose_in_cert nodes bytes c.in_ok-lines.lines c.take_hose.new.lines c.in_ok-hose.hose start c.in_ok-hose.ensures in
    let p = err_from_is_err_and c.from_residual-in_err-bound.result c.from_residual-in_err-bound.ensures.1 in
    rw (p.1, p.2) (no_bound nodes bytes c.take_hose.new.lines c.number.new.self c.in_ok-hose.hose c.in_err-bound.field-0.0 hose c.in_err-bound.ensures)

pub returns-in_err-count : goal.returns-in_err-count
returns-in_err-count c =
    let nodes = c.args.nodes in
    let bytes = c.args.bytes.now in
    let start = cert_begins nodes bytes c.in_ok-lines.lines c.in_ok-lines.ensures.table c.in_ok-lines.ensures.next in
    let hose = behind_hose_in_cert nodes bytes c.in_ok-lines.lines c.take_hose.new.lines c.in_ok-hose.hose start c.in_ok-hose.ensures in
    let bound = behind_bound nodes bytes c.take_hose.new.lines c.number.new.self c.in_ok-hose.hose c.in_ok-bound.bound hose c.in_ok-bound.ensures in
    let p = err_from_is_err_and c.from_residual-in_err-count.result c.from_residual-in_err-count.ensures.1 in
    rw (p.1, p.2) (no_count nodes bytes c.number.new.self c.take_block_count.new.lines c.in_ok-hose.hose c.in_ok-bound.bound c.in_err-count.field-0.0 bound c.in_err-count.ensures)

pub returns-in_err-blocks : goal.returns-in_err-blocks
returns-in_err-blocks c =
    let nodes = c.args.nodes in
    let bytes = c.args.bytes.now in
    let start = cert_begins nodes bytes c.in_ok-lines.lines c.in_ok-lines.ensures.table c.in_ok-lines.ensures.next in
    let hose = behind_hose_in_cert nodes bytes c.in_ok-lines.lines c.take_hose.new.lines c.in_ok-hose.hose start c.in_ok-hose.ensures in
    let bound = behind_bound nodes bytes c.take_hose.new.lines c.number.new.self c.in_ok-hose.hose c.in_ok-bound.bound hose c.in_ok-bound.ensures in
    let count = behind_count nodes bytes c.number.new.self c.take_block_count.new.lines c.in_ok-hose.hose c.in_ok-bound.bound c.in_ok-count.count bound c.in_ok-count.ensures in
    let p = err_from_is_err_and c.from_residual-in_err-blocks.result c.from_residual-in_err-blocks.ensures.1 in
    rw (p.1, p.2) (no_blocks_there nodes bytes c.take_block_count.new.lines c.take_blocks.new.lines c.in_ok-hose.hose c.in_ok-bound.bound c.in_ok-count.count c.in_err-blocks.field-0.0 count c.in_err-blocks.ensures)

pub returns-in_err-end : goal.returns-in_err-end
returns-in_err-end c =
    let nodes = c.args.nodes in
    let bytes = c.args.bytes.now in
    let start = cert_begins nodes bytes c.in_ok-lines.lines c.in_ok-lines.ensures.table c.in_ok-lines.ensures.next in
    let hose = behind_hose_in_cert nodes bytes c.in_ok-lines.lines c.take_hose.new.lines c.in_ok-hose.hose start c.in_ok-hose.ensures in
    let bound = behind_bound nodes bytes c.take_hose.new.lines c.number.new.self c.in_ok-hose.hose c.in_ok-bound.bound hose c.in_ok-bound.ensures in
    let count = behind_count nodes bytes c.number.new.self c.take_block_count.new.lines c.in_ok-hose.hose c.in_ok-bound.bound c.in_ok-count.count bound c.in_ok-count.ensures in
    let blocks = behind_blocks nodes bytes c.take_block_count.new.lines c.take_blocks.new.lines c.in_ok-hose.hose c.in_ok-bound.bound c.in_ok-count.count c.in_ok-blocks.blocks count c.in_ok-blocks.ensures in
    let p = err_from_is_err_and c.from_residual-in_err-end.result c.from_residual-in_err-end.ensures.1 in
    rw (p.1, p.2) (no_end_of_cert nodes bytes c.take_blocks.new.lines c.end.new.self c.in_ok-hose.hose c.in_ok-bound.bound c.in_ok-count.count c.in_ok-blocks.blocks c.in_err-end.field-0.0 blocks c.in_err-end.ensures)

pub returns : goal.returns
returns c =
    let nodes = c.args.nodes in
    let bytes = c.args.bytes.now in
    let start = cert_begins nodes bytes c.in_ok-lines.lines c.in_ok-lines.ensures.table c.in_ok-lines.ensures.next in
    let hose = behind_hose_in_cert nodes bytes c.in_ok-lines.lines c.take_hose.new.lines c.in_ok-hose.hose start c.in_ok-hose.ensures in
    let bound = behind_bound nodes bytes c.take_hose.new.lines c.number.new.self c.in_ok-hose.hose c.in_ok-bound.bound hose c.in_ok-bound.ensures in
    let count = behind_count nodes bytes c.number.new.self c.take_block_count.new.lines c.in_ok-hose.hose c.in_ok-bound.bound c.in_ok-count.count bound c.in_ok-count.ensures in
    let blocks = behind_blocks nodes bytes c.take_block_count.new.lines c.take_blocks.new.lines c.in_ok-hose.hose c.in_ok-bound.bound c.in_ok-count.count c.in_ok-blocks.blocks count c.in_ok-blocks.ensures in
    cert_spells nodes bytes c.take_blocks.new.lines c.end.new.self c.in_ok-hose.hose c.in_ok-bound.bound c.in_ok-count.count c.in_ok-blocks.blocks blocks c.in_ok-end.ensures
