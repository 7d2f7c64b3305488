-- A line that is taken has a new name, and the last line that was taken is the last of the kernel's.
use Rattle.std.proofs.Common.{◌≡◌, ℕ, ◌-◌, Bool, true, false, not, ◌&&◌, ◌↔◌, List, [], ◌∷◌, map, length, Some, refl, ap, ap₂, sym, ◌∙◌, arith}
use Rattle.std.specs.Prelude.{IsTrue, is_some, slice_get, bytes_eq, if◌then◌else◌}
use Rattle.std.specs.List.{list_any, list_all}
use Rattle.std.proofs.lemmas.Option.{none-some}
use Rattle.fol_base.specs.Clause.{literals_eq, names_eq, clause_eq}
use Rattle.fol_base.specs.Literal.{literal_of, clause_of}
use Rattle.fol_base.specs.declared.clause.Literal.{Literal}
use Rattle.fol_base.specs.declared.clause.Clause.{Clause}
use Rattle.plain_types.specs.declared.sequence.NameLit.{NameLit}
use Rattle.kernel_steps.specs.Conclusion.{empty_clause}
use Rattle.kernel_steps.specs.declared.step.Line.{Line}
use Rattle.clausal_form.specs.DerivationLine.{LineTree, NamedLine, Taken}
use Rattle.clausal_form.specs.DerivationParts.{Setting, line_kind, parent_places}
use Rattle.clausal_form.specs.DerivationLines.{ends_empty, is_empty_clause_line}
use Rattle.clausal_form.specs.DerivationCauses.{LineVerdict, text, order, unknown_parent, refused, taken, is_written, compared, given_by, line_verdict}
use Rattle.tstp_checker.specs.declared.taken.TakenLines.{TakenLines}
use Rattle.tstp_checker.specs.Taken.{named_lines, taken_of, IsKept}
use Rattle.tstp_checker.proofs.AboutDerivations.TakenLemmas.{named-any}

-- ---- a line that is taken

-- the name of a line that is taken is new
taken-new :
    (s : Setting) (e : Taken) (t : LineTree) (line : Line)
    → line_verdict s e t ≡ taken line → list_any (λ (l : NamedLine). bytes_eq (t.entry).name l.name) e.lines ≡ false
taken-new s e t line h =
    by (is_written e t) (list_any (λ (l : NamedLine). bytes_eq (t.entry).name l.name) e.lines)
    (if not (list_all is_some (parent_places e t)) then refused unknown_parent else compared s e t (given_by s e t (line_kind t))) h
  where
    by : (w b : Bool) (v : LineVerdict) → (if not w then refused text else if b then refused order else v) ≡ taken line → b ≡ false
    by false b v h = absurd (cc)
    by true true v h = absurd (cc)
    by true false v h = refl

pub name-new :
    (s : Setting) (x : TakenLines) (t : LineTree) (line : Line) (name : List ℕ) (names : List (List ℕ))
    → IsKept x → line_verdict s (taken_of x) t ≡ taken line → name ≡ (t.entry).name → names ≡ x.names → list_any (bytes_eq name) names ≡ false
name-new s x t line name names kept h e g =
    ap₂ (λ n ns. list_any (bytes_eq n) ns) e g ∙ sym (named-any (t.entry).name x.names x.lines kept.named) ∙ taken-new s (taken_of x) t line h

-- ---- the end

empty-literals : (ls : List Literal) (b : Bool) → IsTrue b ↔ (ls ≡ []) → b ≡ literals_eq (map literal_of ls) []
empty-literals [] b h = h.1 refl
empty-literals (l ∷ ls) true h = let none : l ∷ ls ≡ [] = h.0 refl in absurd (cc)
empty-literals (l ∷ ls) false h = refl

empty-names : (ns : List NameLit) (b : Bool) → IsTrue b ↔ (ns ≡ []) → b ≡ names_eq ns []
empty-names [] b h = h.1 refl
empty-names (n ∷ ns) true h = let none : n ∷ ns ≡ [] = h.0 refl in absurd (cc)
empty-names (n ∷ ns) false h = refl

pub clause-empty :
    (c : Clause) (a b : Bool) → IsTrue a ↔ (c.literals ≡ []) → IsTrue b ↔ (c.names ≡ []) → a ≡ true → b ≡ clause_eq (clause_of c) empty_clause
clause-empty c a b h g e = ap (λ x. x && b) (sym e) ∙ ap₂ ◌&&◌ (empty-literals c.literals a h) (empty-names c.names b g)

pub clause-not-empty : (c : Clause) (a : Bool) → IsTrue a ↔ (c.literals ≡ []) → a ≡ false → a ≡ clause_eq (clause_of c) empty_clause
clause-not-empty c a h e = e ∙ ap (λ x. x && names_eq c.names []) (sym e ∙ empty-literals c.literals a h)

last-ends :
    (l : Line) (ns : List (List ℕ)) (k : Line) (ks : List Line)
    → Some l ≡ slice_get (k ∷ ks) (length ks) → ends_empty (named_lines ns (k ∷ ks)) ≡ is_empty_clause_line l
last-ends l [] k [] h = let same : k ≡ l = cc in ap is_empty_clause_line same
last-ends l (n ∷ ns) k [] h = let same : k ≡ l = cc in ap is_empty_clause_line same
last-ends l [] k (j ∷ js) h = last-ends l [] j js h
last-ends l (n ∷ []) k (j ∷ js) h = last-ends l [] j js h
last-ends l (n ∷ m ∷ ns) k (j ∷ js) h = last-ends l (m ∷ ns) j js h

pub ends-there :
    (ns : List (List ℕ)) (ls : List Line) (l : Line) → Some l ≡ slice_get ls (length ls - 1) → is_empty_clause_line l ≡ ends_empty (named_lines ns ls)
ends-there ns [] l h = absurd (none-some l (sym h))
ends-there ns (k ∷ ks) l h =
    let one_less : length (k ∷ ks) - 1 ≡ length ks = omega arith in sym (last-ends l ns k ks (h ∙ ap (slice_get (k ∷ ks)) one_less))
