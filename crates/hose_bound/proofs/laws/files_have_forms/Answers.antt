use Rattle.hose_bound.proofs.Forms.{files_have_forms}
use Rattle.hose_bound.proofs.laws.files_have_forms.Goals as goal

pub returns : goal.returns
returns c = files_have_forms
