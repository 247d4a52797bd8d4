-- A window's limit is that of a file that begins with what reads gave, and goes on being it.
use Rattle.std.proofs.Common.{◌≡◌, ◌∙◌, ℕ, ◌≤◌, List, ◌++◌, length, sym, ap, append_assoc}
use Rattle.te_model.specs.FileLimit.{file_limit}
use Rattle.te_model.proofs.FileLimits.{line_settles}
use Rattle.block_reader.specs.declared.window.Window.{Window}
use Rattle.block_reader.specs.Standing.{ready, limit_of}

pub limit_after_more : (w w' : Window) (passed more : List ℕ) → 14 ≤ length (passed ++ ready w) → ready w' ≡ ready w ++ more →
    limit_of w' ≡ limit_of w → limit_of w ≡ file_limit (passed ++ ready w) → limit_of w' ≡ file_limit (passed ++ ready w')
limit_after_more w w' passed more long next same is =
    same ∙ is ∙ sym (line_settles (passed ++ ready w) more long)
    ∙ ap file_limit (append_assoc passed (ready w) more ∙ ap (λ f. passed ++ f) (sym next))

pub limit_after_pass : (w w' : Window) (passed front : List ℕ) → ready w ≡ front ++ ready w' →
    limit_of w' ≡ limit_of w → limit_of w ≡ file_limit (passed ++ ready w) → limit_of w' ≡ file_limit ((passed ++ front) ++ ready w')
limit_after_pass w w' passed front next same is =
    same ∙ is ∙ ap file_limit (ap (λ f. passed ++ f) next ∙ sym (append_assoc passed front (ready w')))
