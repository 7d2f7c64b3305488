-- When two names of variables are the same; names that are the same are hashed alike.
use Rattle.std.specs.Prelude.{◌≡◌, Bool, true, [], ◌∷◌, IsTrue, bytes_eq}
use Rattle.std.specs.Cmp.{IsEquivalence, decided}
use Rattle.std.proofs.Common.{ap, subst, refl}
use Rattle.std.proofs.lemmas.Slice.Eq.{bytes_eq-Decides}
use Rattle.skolem.specs.declared.name.VariableName.{VariableName}
use Rattle.skolem.specs.declared.name.VariableRef.{VariableRef}

abbrev pub same_name : VariableName → VariableName → Bool
same_name s t = bytes_eq s.text t.text

abbrev pub name_of : VariableRef → VariableName
name_of s = record { text = s.text.now }

same_name-refl : (s : VariableName) → same_name s s ≡ true
same_name-refl s = (bytes_eq-Decides s.text s.text).1 refl

same_name-true : (s t : VariableName) → same_name s t ≡ true → s ≡ t
same_name-true s t h = ap (λ x. let n : VariableName = record { text = x } in n) ((bytes_eq-Decides s.text t.text).0 h)

pub same_names : IsEquivalence same_name
same_names = decided same_name (λ s t. (same_name-true s t, λ e. subst (λ u. same_name s u ≡ true) e (same_name-refl s)))

pub same_names_hash_alike : (s t : VariableName) → IsTrue (same_name s t) → s.text ∷ [] ≡ t.text ∷ []
same_names_hash_alike s t h = ap (λ (u : VariableName). u.text ∷ []) (same_name-true s t h)
