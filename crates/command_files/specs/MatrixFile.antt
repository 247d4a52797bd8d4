-- The file of the matrices of a network, of which a command may need a step.
use Rattle.std.specs.Prelude.{◌≡◌, List, ℕ, ◌++◌, codes, length, nat_lt, Option, Some, None, Result, Ok, Err, if◌then◌else◌}
use Rattle.std.specs.Fmt.{decimal}
use Rattle.te_model.specs.declared.network.Network.{Network}
use Rattle.traffic_matrix.specs.Rows.{series_in}
use Rattle.traffic_matrix.specs.declared.series.Series.{Series}
use Rattle.traffic_matrix.specs.declared.fault.MatrixFault.{MatrixFault}
use Rattle.traffic_matrix.specs.declared.fault.MatrixFault.TheVariants.{Header, Fields, UnknownNode, Number, Order, Repeated, SelfPair, TooManySteps, Memory}
use Rattle.command_frame.specs.Reading.{Kind}
use Rattle.command_files.specs.InputFile.{input_limit, inputs, in_words}

-- the words for a fault
abbrev pub matrices_reason : MatrixFault → List ℕ
matrices_reason Header = codes "header"
matrices_reason (Fields n) = codes "fields at row " ++ decimal n
matrices_reason (UnknownNode n) = codes "unknown node at row " ++ decimal n
matrices_reason (Number n) = codes "number at row " ++ decimal n
matrices_reason (Order n) = codes "order at row " ++ decimal n
matrices_reason (Repeated n) = codes "repeated at row " ++ decimal n
matrices_reason (SelfPair n) = codes "self pair at row " ++ decimal n
matrices_reason (TooManySteps n) = codes "too many steps at row " ++ decimal n
matrices_reason Memory = codes "memory"

-- the series that the rows make for the network, or their first fault
abbrev pub matrices : Network → Kind Series
matrices network = inputs matrices_reason (series_in network)

-- the words for a series without step k
abbrev pub no_step_reason : ℕ → List ℕ
no_step_reason k = codes "no step " ++ decimal k

-- a series that has step k, and else these words, after any others
abbrev pub with_step : ℕ → Result Series (List ℕ) → Result Series (List ℕ)
with_step k (Ok series) = if nat_lt k (length series.steps) then Ok series else Err (no_step_reason k)
with_step k (Err words) = Err words

-- the files whose series has step k
abbrev pub matrices_with_step : ℕ → Network → Kind Series
matrices_with_step k network = record {
  limit = λ _. input_limit;
  gives = λ bytes answer. with_step k (in_words matrices_reason (series_in network bytes)) ≡ answer;
}

-- the files for a command that needs this step, or none
abbrev pub matrices_for : Option ℕ → Network → Kind Series
matrices_for None network = matrices network
matrices_for (Some k) network = matrices_with_step k network
