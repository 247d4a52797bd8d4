-- What `convert` writes: a file of the second format, which is converted to itself.
use Rattle.std.proofs.Common.{◌≡◌, ℕ, List, [], inr, refl, sym, ap, ◌∙◌, arith}
use Rattle.te_model.specs.declared.certificate.Certificate.{Certificate}
use Rattle.te_model.specs.declared.demand.DemandSet.{DemandSet}
use Rattle.te_model.specs.declared.demand.DemandSet.TheVariants.{All, Margin, Box}
use Rattle.te_model.specs.Text.{Spells, text as text_of}
use Rattle.te_model.specs.Upgrade.{box_of, upgraded_certificate}
use Rattle.te_model.proofs.UpgradeValid.{valid_kept}
use Rattle.text_size.proofs.ValidSizes.{fits_file}
use Rattle.command_frame.specs.Table.{IsSoundEntry}
use Rattle.certificate_commands.specs.Convert.{conversion_of, IsConverted, convert_entry}
use Rattle.command_files.proofs.Regular.{certificates_regular}
use Rattle.command_frame.specs.Sound.{IsSound, HasOneText, HasText}

box_once : (set : DemandSet) → box_of (box_of set) ≡ box_of set
box_once All = refl
box_once (Margin num den base) = refl
box_once (Box lower upper) = refl

with_set : Certificate → DemandSet → Certificate
with_set c set = record {
  head = record { format = 2; network = c.head.network; routes = c.head.routes; set = set; ratio = c.head.ratio };
  blocks = c.blocks;
}

upgraded_once : (c : Certificate) → upgraded_certificate (upgraded_certificate c) ≡ upgraded_certificate c
unfolding with_set
upgraded_once c = ap (with_set c) (box_once c.head.set)

pub spells_upgraded : (c : Certificate) (bytes file : List ℕ) → Spells bytes c → file ≡ text_of (upgraded_certificate c) → Spells file (upgraded_certificate c)
spells_upgraded c bytes file spells is = (valid_kept c spells.0, is)

is_converted : (c : Certificate) (bytes file : List ℕ) → Spells bytes c → file ≡ text_of (upgraded_certificate c) → IsConverted file
is_converted c bytes file spells is =
    let spelled = spells_upgraded c bytes file spells is in
    let fits = fits_file file (upgraded_certificate c) spelled in
    record {
      fits = fits;
      certificate = upgraded_certificate c;
      spelled = spelled;
      format = refl;
      answer = λ name. inr (upgraded_certificate c, [], (file, refl, fits, spelled), ((refl, is ∙ ap text_of (sym (upgraded_once c))), tt));
    }

conversion_sound : (bytes : List ℕ) (c : Certificate) → Spells bytes c → IsSound (λ s file. (s ≡ 0) × IsConverted file) (conversion_of c)
conversion_sound bytes c spells = record {
  once = λ s t p q. p ∙ sym q;
  some = (0, refl);
  of_text = λ s file is. is.0;
  proves = λ file is. spells_upgraded c bytes file spells is.1;
  form = λ s file is. (is.0, is_converted c bytes file spells is.1);
  accepted = λ file is. omega (arith, is.0);
}

conversion_text : (c : Certificate) → HasText (conversion_of c)
conversion_text c = (0, text_of (upgraded_certificate c), (refl, refl))

conversion_once : (c : Certificate) → HasOneText (conversion_of c)
conversion_once c = λ s t x y p q. p.1 ∙ sym q.1

pub convert_is_sound : (file : List ℕ) → IsSoundEntry (convert_entry file)
convert_is_sound file = record {
  regular = (certificates_regular, λ c. tt);
  sound = λ bytes c spells. conversion_sound bytes c spells;
  one_text = λ is bytes c spells. conversion_once c;
  some_text = λ is bytes c spells. conversion_text c;
}
