-- Formulas and entries that are the same.
use mathlib.Core.Bool.{beq}
use Rattle.std.proofs.Common.{◌≡◌, ℕ, Bool, true, false, ◌&&◌, List, [], ◌∷◌, refl, ap, sym, ◌∙◌, subst}
use Rattle.std.specs.Prelude.{bytes_eq, codes}
use Rattle.std.proofs.lemmas.Bool.{and_parts, and_from, false≢true}
use Rattle.std.proofs.lemmas.Slice.Eq.{bytes_eq-Decides}
use Rattle.tptp_tree.specs.Term.{application, no_terms, term_then}
use Rattle.tptp_tree.specs.Formula.{FormulaTree, negation}
use Rattle.tptp_tree.specs.Codes.{encoded}
use Rattle.tptp_tree.specs.Entries.{AnnotatedTree, role_word, is_conjecture}
use Rattle.tptp_tree.specs.declared.role.Role.{Role}
use Rattle.tptp_tree.specs.declared.role.Role.TheVariants.{Axiom, Hypothesis, Definition, Assumption, Lemma, Theorem, Corollary, NegatedConjecture, Plain, Conjecture}
use Rattle.tptp_tree.specs.Equality.{same_term, same_formula}
use Rattle.tptp_tree.proofs.AboutTrees.EqualityLemmas.{term-same}
pub use Rattle.tptp_tree.proofs.AboutTrees.EqualityLemmas.{formula-self}
use Rattle.clausal_form.specs.DerivationLine.{same_entry}

-- ---- texts

pub bytes-same : (bs cs : List ℕ) → bytes_eq bs cs ≡ true → bs ≡ cs
bytes-same bs cs h = (bytes_eq-Decides bs cs).0 h

pub bytes-self : (bs : List ℕ) → bytes_eq bs bs ≡ true
bytes-self bs = (bytes_eq-Decides bs bs).1 refl

bytes-turned : (bs cs : List ℕ) → bytes_eq bs cs ≡ true → bytes_eq cs bs ≡ true
bytes-turned bs cs h = (bytes_eq-Decides cs bs).1 (sym (bytes-same bs cs h))

-- ---- terms and formulas

formula-turned : (f g : FormulaTree) → same_formula f g ≡ true → same_formula g f ≡ true
formula-turned f g h = subst (λ t. same_term t (encoded f) ≡ true) (term-same (encoded f) (encoded g) h) (formula-self f)

-- of formulas that are the same, the negations are
pub negation-same : (f g : FormulaTree) → same_formula f g ≡ true → same_formula (negation g) (negation f) ≡ true
negation-same f g h =
    subst (λ t. same_term (encoded (negation g)) (application (4 ∷ []) (term_then t no_terms)) ≡ true)
    (sym (term-same (encoded f) (encoded g) h)) (formula-self (negation g))

-- ---- entries

beq-self : (b : Bool) → beq b b ≡ true
beq-self true = refl
beq-self false = refl

beq-turned : (b c : Bool) → beq b c ≡ true → beq c b ≡ true
beq-turned true true h = refl
beq-turned true false h = absurd (false≢true h)
beq-turned false true h = absurd (false≢true h)
beq-turned false false h = refl

pub record AreSame (a b : AnnotatedTree) : Type 0 where
  pub name : bytes_eq a.name b.name ≡ true
  pub role : bytes_eq (role_word a.role) (role_word b.role) ≡ true
  pub language : beq a.is_clause b.is_clause ≡ true
  pub formula : same_formula a.formula b.formula ≡ true

pub entry-parts : (a b : AnnotatedTree) → same_entry a b ≡ true → AreSame a b
entry-parts a b h =
    let last : Bool = beq a.is_clause b.is_clause && same_formula a.formula b.formula in
    let first = and_parts (bytes_eq a.name b.name) (bytes_eq (role_word a.role) (role_word b.role) && last) h in
    let second = and_parts (bytes_eq (role_word a.role) (role_word b.role)) last first.1 in
    let third = and_parts (beq a.is_clause b.is_clause) (same_formula a.formula b.formula) second.1 in
    record { name = first.0; role = second.0; language = third.0; formula = third.1 }

from-parts : (a b : AnnotatedTree) → AreSame a b → same_entry a b ≡ true
from-parts a b h =
    let last : Bool = beq a.is_clause b.is_clause && same_formula a.formula b.formula in
    and_from (bytes_eq a.name b.name) (bytes_eq (role_word a.role) (role_word b.role) && last) h.name
    (and_from (bytes_eq (role_word a.role) (role_word b.role)) last h.role
    (and_from (beq a.is_clause b.is_clause) (same_formula a.formula b.formula) h.language h.formula))

pub entry-self : (a : AnnotatedTree) → same_entry a a ≡ true
entry-self a =
    from-parts a a
    (record {
      name = bytes-self a.name;
      role = bytes-self (role_word a.role);
      language = beq-self a.is_clause;
      formula = formula-self a.formula;
    })

pub entry-turned : (a b : AnnotatedTree) → same_entry a b ≡ true → same_entry b a ≡ true
entry-turned a b h =
    let parts : AreSame a b = entry-parts a b h in
    from-parts b a
    (record {
      name = bytes-turned a.name b.name parts.name;
      role = bytes-turned (role_word a.role) (role_word b.role) parts.role;
      language = beq-turned a.is_clause b.is_clause parts.language;
      formula = formula-turned a.formula b.formula parts.formula;
    })

-- a role is that of a conjecture by its word
conjecture-word : (r : Role) → is_conjecture r ≡ bytes_eq (role_word r) (codes "conjecture")
conjecture-word Axiom = refl
conjecture-word Hypothesis = refl
conjecture-word Definition = refl
conjecture-word Assumption = refl
conjecture-word Lemma = refl
conjecture-word Theorem = refl
conjecture-word Corollary = refl
conjecture-word NegatedConjecture = refl
conjecture-word Plain = refl
conjecture-word Conjecture = refl

pub same-conjecture : (a b : AnnotatedTree) → same_entry a b ≡ true → is_conjecture a.role ≡ is_conjecture b.role
same-conjecture a b h =
    conjecture-word a.role
    ∙ ap (λ w. bytes_eq w (codes "conjecture")) (bytes-same (role_word a.role) (role_word b.role) (entry-parts a b h).role)
    ∙ sym (conjecture-word b.role)
