-- A file that is told and gives a value is not refused.
use Rattle.std.proofs.Common.{◌≡◌, ℕ, List, Option, Some, inl, inr, refl, sym, ap, ◌∙◌, subst}
use Rattle.te_ports.specs.Limit.{IsLimit}
use Rattle.te_ports.specs.Record.{Read, Adds, Pass, pass}
use Rattle.te_ports.proofs.Giving.{read_is, past_allowed}
use Rattle.command_frame.specs.Files.{given_passes, told_passes}
use Rattle.command_frame.specs.Reading.{Kind, Reading, answers, reads, RefusedIn, MeansAfter, RefusesUntoldAfter}
use Rattle.command_frame.proofs.Telling.{adds_parts, read_begins, means_begins}
use Rattle.command_frame.specs.Sound.{AtEnd, AreRegular, IsSound}
use Rattle.command_frame.proofs.Ending.{not_both}

-- a refusal of what reads gave of a told file is one of what is told
refused_told : (A : Type 0) (kind : Kind A) (p : Pass) (content : List ℕ → Option (List ℕ)) (last : List Read) (line all : List ℕ) →
    IsLimit kind.limit → Adds content p.before p.now → content p.name ≡ Some all → RefusedIn kind (given_passes last) p line → RefusedIn kind (told_passes content) p line
refused_told A kind p content last line all limited adds at (inl (past, says)) =
    inl ((all, at, past_allowed content p all kind.limit limited at adds past), says)
refused_told A kind p content last line all limited adds at (inr (bytes, words, is_read, few, refused, says)) =
    inr (bytes, words, at ∙ ap Some (sym (read_is content p all bytes at adds is_read)), few, refused, says)

pub refuses_untold : (Form : ℕ → List ℕ → Type 0) (r : Reading) (content : List ℕ → Option (List ℕ)) (last before : List Read) (text : List ℕ) →
    AreRegular r → AtEnd r (IsSound Form) → Adds content before last → MeansAfter r (given_passes last) before 3 text →
    RefusesUntoldAfter r (given_passes last) before content text
refuses_untold Form (answers a) content last before text regular sound adds means = absurd (sound.accepted text means.0)
refuses_untold Form (reads A kind file next) content last before text regular sound adds (inl (three, now, refused, ended)) =
    let p = pass file before now in
    inl (
      (now, refused, ended),
      λ bytes is few value gives.
          not_both A kind p p content value text regular.0 refl (bytes, is, few, gives)
          (refused_told A kind p content last text bytes regular.0.limited (subst (Adds content before) (sym ended) adds) is refused),
    )
refuses_untold Form (reads A kind file next) content last before text regular sound adds (inr (value, now, gives, later)) =
    let parts = adds_parts content before now last (read_begins (pass file before now) gives.0 gives.1) (means_begins (next value) last now 3 text later) adds in
    inr (value, now, gives, refuses_untold Form (next value) content last now text (regular.1 value) (sound gives.0 value gives.3) parts.1 later)
