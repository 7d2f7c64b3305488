use Rattle.fol_base.proofs.AboutCanonical.CanonicalLemmas.{canonical_is_own_form, canonical_forms_are_canonical, canonical_forms_keep_sizes}
use Rattle.fol_base.proofs.laws.canonical.canonical_forms.Goals as goal

pub returns : goal.returns
returns c = record { own_form = canonical_is_own_form; canonical = canonical_forms_are_canonical; sizes = canonical_forms_keep_sizes }
