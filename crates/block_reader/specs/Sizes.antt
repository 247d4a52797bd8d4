-- How many bytes reading looks at: at most so many for each part of a certificate, whatever stands behind them. A number has at
-- most 20 digits, and reading one looks at most at one byte behind them.
use Rattle.std.specs.Prelude.{ℕ, ◌+◌, ◌*◌}
use Rattle.te_model.specs.declared.limits.Limits.{Limits}
use Rattle.cert_text.specs.declared.limits.Counts.{Counts}

abbrev pub format_size : ℕ
format_size = 14

-- the names and the links, and the lines of their counts
abbrev pub network_size : Limits → ℕ
network_size limits = 58 + (limits.nodes * 34 + limits.links * 92)

abbrev pub path_size : Limits → ℕ
path_size limits = 46 + limits.hops * 23

abbrev pub pair_size : Limits → ℕ
pair_size limits = 69 + limits.paths * path_size limits

-- a word of so many bytes, and a line of numbers behind it
abbrev pub listing_size : ℕ → ℕ → ℕ
listing_size word n = word + (n * 23 + 1)

abbrev pub set_size : ℕ → ℕ
set_size pairs = 80 + (pairs * 23 + pairs * 23)

abbrev pub ratio_size : ℕ
ratio_size = 29

-- the lines of the counts of pairs and of blocks
abbrev pub count_size : ℕ
count_size = 30

abbrev pub row_size : ℕ → ℕ
row_size nodes = 23 + nodes * 23

-- of a block of a network with so many nodes, links and pairs, with at most so many rows
abbrev pub block_size : ℕ → Counts → ℕ
block_size rows counts = 126 + (counts.links * 23 + (rows * row_size counts.nodes + (counts.pairs * 23 + counts.pairs * 23)))

abbrev pub closing_size : ℕ
closing_size = 5
