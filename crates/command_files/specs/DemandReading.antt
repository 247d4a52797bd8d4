-- The files of demands: a certificate is read, and the matrices of its network.
use Rattle.std.specs.Prelude.{ℕ, List}
use Rattle.te_model.specs.declared.certificate.Certificate.{Certificate}
use Rattle.te_model.specs.declared.certificate.Head.{Head}
use Rattle.traffic_matrix.specs.declared.series.Series.{Series}
use Rattle.command_frame.specs.Reading.{Reading, reads}
use Rattle.command_files.specs.CertificateFile.{certificates}
use Rattle.command_files.specs.MatrixFile.{matrices}

-- the matrices of the network of a head are read
abbrev pub with_matrices : List ℕ → Head → (Series → Reading) → Reading
with_matrices file head next = reads Series (matrices head.network) file next

-- and before them the certificate of the head
abbrev pub with_demands : List ℕ → List ℕ → (Head → Series → Reading) → Reading
with_demands certificate file next = reads Certificate certificates certificate (λ spelled. with_matrices file spelled.head (next spelled.head))
