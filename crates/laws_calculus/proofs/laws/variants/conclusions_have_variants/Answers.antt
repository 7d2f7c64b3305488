use Rattle.laws_calculus.proofs.AboutLifting.VariantLemmas.{canonical_forms_are_variants, resolutions_have_variants, factorings_have_variants, superpositions_have_variants, inferences_have_variants}
use Rattle.laws_calculus.proofs.AboutLifting.ConclusionLemmas.{conclusions_are_variants}
use Rattle.laws_calculus.proofs.laws.variants.conclusions_have_variants.Goals as goal

pub returns-clause-canonical : goal.returns-clause-canonical
returns-clause-canonical c = canonical_forms_are_variants

pub returns-clause-of_resolution : goal.returns-clause-of_resolution
returns-clause-of_resolution c = resolutions_have_variants

pub returns-clause-of_factoring : goal.returns-clause-of_factoring
returns-clause-of_factoring c = factorings_have_variants

pub returns-clause-of_superposition : goal.returns-clause-of_superposition
returns-clause-of_superposition c = superpositions_have_variants

pub returns-clause-of_each_name : goal.returns-clause-of_each_name
returns-clause-of_each_name c = inferences_have_variants

pub returns-clause-no_others : goal.returns-clause-no_others
returns-clause-no_others c = conclusions_are_variants
