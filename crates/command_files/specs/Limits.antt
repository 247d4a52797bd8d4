-- The limits of files are limits for files that are read piece by piece.
use Rattle.std.specs.Prelude.{ℕ, Option, Some, None, refl}
use Rattle.std.proofs.Common.{lit≤}
use Rattle.te_ports.specs.Limit.{IsLimit}
use Rattle.te_model.specs.declared.network.Network.{Network}
use Rattle.te_model.specs.FileLimit.{file_limit}
use Rattle.te_model.proofs.FileLimits.{file_limits}
use Rattle.command_files.specs.InputFile.{input_limit}
use Rattle.command_files.specs.MatrixFile.{matrices_for}
use Rattle.command_files.specs.WitnessFile.{witness_limit}

pub certificate_limits : IsLimit file_limit
certificate_limits = record { small = file_limits.small; rises = file_limits.rises; settled = file_limits.settled }

pub input_limits : IsLimit (λ bytes. input_limit)
input_limits = record { small = λ bytes. lit≤ tt; rises = λ front rest. lit≤ tt; settled = λ front rest past. refl }

-- whether or not a step is needed
pub matrices_limits : (step : Option ℕ) (network : Network) → IsLimit (matrices_for step network).limit
matrices_limits None network = input_limits
matrices_limits (Some k) network = input_limits

pub witness_limits : IsLimit (λ bytes. witness_limit)
witness_limits = record { small = λ bytes. lit≤ tt; rises = λ front rest. lit≤ tt; settled = λ front rest past. refl }
