-- Equality of annotated formulas is an equivalence, and equal ones are alike in all that is compared or fed to a hasher. The proofs stand
-- here, since an implementation's laws cite them; that of formulas stands in tptp_tree.
use mathlib.Core.Bool.{beq}
use Rattle.std.proofs.Common.{◌≡◌, ℕ, Bool, true, false, ◌&&◌, ◌↔◌, List, ◌∷◌, refl, ap, ap₂, sym, ◌∙◌, subst}
use Rattle.std.specs.Prelude.{bytes_eq, IsTrue}
use Rattle.std.specs.Cmp.{IsEquivalence}
use Rattle.std.proofs.lemmas.Bool.{and_parts, true≢false}
use Rattle.std.proofs.lemmas.Cmp.{nat_list_eq_equiv}
use Rattle.std.proofs.lemmas.Slice.Eq.{bytes_eq-Decides}
use Rattle.tptp_tree.specs.Term.{TermTree}
use Rattle.tptp_tree.specs.Formula.{FormulaTree, negation}
use Rattle.tptp_tree.specs.Codes.{encoded}
use Rattle.tptp_tree.specs.Entries.{AnnotatedTree, role_word}
use Rattle.tptp_tree.specs.Equality.{same_term, same_formula}
use Rattle.tptp_tree.proofs.AboutTrees.EqualityLemmas.{term-same, formula-self, formula-same}
use Rattle.clausal_form.specs.DerivationLine.{same_entry}
use Rattle.tstp_checker.specs.Hashing.{formula_writes, entry_writes}

bytes-refl : (x : List ℕ) → bytes_eq x x ≡ true
bytes-refl x = nat_list_eq_equiv.refl x

both : (a b : Bool) → a ≡ true → b ≡ true → (a && b) ≡ true
both a b h k = ap₂ ◌&&◌ h k

pub same_formula-refl : (f : FormulaTree) → same_formula f f ≡ true
same_formula-refl f = formula-self f

pub negations-same : (f g : FormulaTree) → same_formula f g ≡ same_formula (negation f) (negation g)
negations-same f g = by (same_term (encoded f) (encoded g))
  where
    by : (b : Bool) → b ≡ (b && true)
    by true = refl
    by false = refl

beq-refl : (b : Bool) → beq b b ≡ true
beq-refl true = refl
beq-refl false = refl

beq-says : (a b : Bool) → beq a b ≡ true → a ≡ b
beq-says true true h = refl
beq-says true false h = absurd (true≢false (sym h))
beq-says false true h = absurd (true≢false (sym h))
beq-says false false h = refl

pub same_entry-refl : (a : AnnotatedTree) → same_entry a a ≡ true
same_entry-refl a =
    both (bytes_eq a.name a.name) (bytes_eq (role_word a.role) (role_word a.role) && (beq a.is_clause a.is_clause && same_formula a.formula a.formula))
    (bytes-refl a.name)
    (both (bytes_eq (role_word a.role) (role_word a.role)) (beq a.is_clause a.is_clause && same_formula a.formula a.formula)
    (bytes-refl (role_word a.role))
    (both (beq a.is_clause a.is_clause) (same_formula a.formula a.formula) (beq-refl a.is_clause) (same_formula-refl a.formula)))

-- the test of an entry's parts against another entry
abbrev same_parts : List ℕ → List ℕ → Bool → TermTree → AnnotatedTree → Bool
same_parts name role is_clause code b =
    bytes_eq name b.name && (bytes_eq role (role_word b.role) && (beq is_clause b.is_clause && same_term code (encoded b.formula)))

-- two equal entries are equal to the same entries
pub same_entry-like : (a b x : AnnotatedTree) → same_entry a b ≡ true → same_entry a x ≡ same_entry b x
same_entry-like a b x h =
    let first = and_parts (bytes_eq a.name b.name) (bytes_eq (role_word a.role) (role_word b.role) && (beq a.is_clause b.is_clause && same_formula a.formula b.formula)) h in
    let second = and_parts (bytes_eq (role_word a.role) (role_word b.role)) (beq a.is_clause b.is_clause && same_formula a.formula b.formula) first.1 in
    let third = and_parts (beq a.is_clause b.is_clause) (same_formula a.formula b.formula) second.1 in
    ap (λ n. same_parts n (role_word a.role) a.is_clause (encoded a.formula) x) ((bytes_eq-Decides a.name b.name).0 first.0)
    ∙ ap (λ r. same_parts b.name r a.is_clause (encoded a.formula) x) ((bytes_eq-Decides (role_word a.role) (role_word b.role)).0 second.0)
    ∙ ap (λ k. same_parts b.name (role_word b.role) k (encoded a.formula) x) (beq-says a.is_clause b.is_clause third.0)
    ∙ ap (λ e. same_parts b.name (role_word b.role) b.is_clause e x) (term-same (encoded a.formula) (encoded b.formula) third.1)

pub same_entry-symm : (a b : AnnotatedTree) → same_entry a b ≡ same_entry b a
same_entry-symm a b = by (same_entry a b) (same_entry b a) refl refl
  where
    by : (s t : Bool) → same_entry a b ≡ s → same_entry b a ≡ t → same_entry a b ≡ same_entry b a
    by true t h g = h ∙ sym (same_entry-refl a) ∙ same_entry-like a b a h
    by false true h g = absurd (true≢false (sym (same_entry-refl b) ∙ same_entry-like b a b g ∙ h))
    by false false h g = h ∙ sym g

pub same_entry_equivalence : IsEquivalence same_entry
same_entry_equivalence = record { refl = same_entry-refl; symm = same_entry-symm; congr = same_entry-like }

pub same_entry_feeds_alike : (a b : AnnotatedTree) → IsTrue (same_entry a b) → entry_writes a ≡ entry_writes b
same_entry_feeds_alike a b h =
    let first = and_parts (bytes_eq a.name b.name) (bytes_eq (role_word a.role) (role_word b.role) && (beq a.is_clause b.is_clause && same_formula a.formula b.formula)) h in
    let second = and_parts (bytes_eq (role_word a.role) (role_word b.role)) (beq a.is_clause b.is_clause && same_formula a.formula b.formula) first.1 in
    let third = and_parts (beq a.is_clause b.is_clause) (same_formula a.formula b.formula) second.1 in
    ap₂ (λ n f. n ∷ formula_writes f) ((bytes_eq-Decides a.name b.name).0 first.0) (formula-same a.formula b.formula third.1)
