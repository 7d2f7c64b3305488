-- What is pushed for a declaration, a term and a formula, by what is told of their parts.
use Rattle.std.proofs.Common.{◌≡◌, ℕ, zero, suc, ◌<◌, ◌≤◌, List, [], ◌∷◌, ◌++◌, length, map, get_or, append-nil, refl, ap, ap₂, sym, ◌∙◌, arith}
use Rattle.std.specs.Prelude.{Option, None, Some}
use denote.Ref.{Bor}
use Rattle.std.proofs.lemmas.List.{length-map}
use Rattle.tptp_tree.specs.Shape.{term_of}
use Rattle.tptp_tree.specs.Term.{TermTree, variable, application, terms_of}
use Rattle.tptp_tree.specs.declared.term.TreeTerm.{TreeTerm}
use Rattle.signature.specs.Occurrences.{terms_count}
use Rattle.typed_tree.specs.declared.cause.TypedCause.{TypedCause}
use Rattle.typed_tree.specs.declared.formula.TypedFormula.{TypedFormula}
use Rattle.typed_tree.specs.declared.sort.Declaration.{Declaration}
use Rattle.typed_tree.specs.Shape.{typed_of}
use Rattle.typed_tree.specs.Sorts.{SortTree, individuals, SymbolType, DeclarationTree}
use Rattle.typed_tree.specs.TypedFormula.{TypedVariable, TypedTree, predicate, quantified, typed_size, all_typed_size, trees_of}
use Rattle.tptp_tree.specs.Formula.{Quantifier}
use Rattle.typed_problem.specs.Declarations.{declared_as, all_individuals, undeclared_function, undeclared_predicate, function_type, predicate_type, result_of}
use Rattle.typed_problem.specs.SortFaults.{Causes, Sorting, repeated_cause, declared_causes, declaration_causes, clash, term_causes, terms_causes, term_sort, variables_causes, inside, formula_causes}
use Rattle.sort_checks.specs.declared.lent.LentDeclaration.{LentDeclaration}
use Rattle.sort_checks.specs.Lent.{declared_lent, declaration_lent, earlier_lent}
use Rattle.sort_checks.specs.Tables.{type_told}
use Rattle.sort_checks.specs.Wanted.{arguments_wanted, result_wanted}
use Rattle.sort_checks.proofs.CauseLemmas.{pushed-after, pushed-two, term-goes, variables-goes, formula-goes}

-- ---- a member of a list is no larger than the list

formula-item : (fs : List TypedFormula) (i : ℕ) (d : TypedFormula) → i < length fs → typed_size (typed_of (get_or fs i d)) ≤ all_typed_size (trees_of (map typed_of fs))
formula-item [] i d h = absurd (omega arith)
formula-item (f ∷ fs) zero d h = omega arith
formula-item (f ∷ fs) (suc i) d h = omega (arith, formula-item fs i d (omega arith))

pub formula-item-is :
    (fs : List TypedFormula) (i : ℕ) (f : TypedFormula) → i < length fs → f ≡ get_or fs i f → typed_size (typed_of f) ≤ all_typed_size (trees_of (map typed_of fs))
formula-item-is fs i f h e = omega (arith, formula-item fs i f h, ap (λ g. typed_size (typed_of g)) e)

-- ---- declarations

pub declaration-pushed :
    (ds before : List DeclarationTree) (d : LentDeclaration) (earlier : Option LentDeclaration) (cause : Option TypedCause) (start old new : Causes)
    → earlier_lent earlier ≡ declared_as before d.word.now → cause ≡ repeated_cause (earlier_lent earlier) (declared_lent d.symbol) → old ≡ start ++ cause ∷ []
    → new ≡ old ++ declared_causes ds (declared_lent d.symbol) → new ≡ start ++ declaration_causes ds before (declaration_lent d)
declaration-pushed ds before d earlier cause start old new t k e h =
    pushed-after (repeated_cause (declared_as before d.word.now) (declared_lent d.symbol)) (λ r. declared_causes ds (declared_lent d.symbol)) start old new
    (e ∙ ap (λ c. start ++ c ∷ []) (k ∙ ap (λ o. repeated_cause o (declared_lent d.symbol)) t)) h

-- a sort's word has nothing after it
pub nothing-pushed : (ds : List DeclarationTree) (symbol : Option (Bor Declaration)) (old : Causes) → symbol ≡ None → old ≡ old ++ declared_causes ds (declared_lent symbol)
nothing-pushed ds symbol old e = sym (append-nil old) ∙ ap (λ o. old ++ declared_causes ds (declared_lent o)) (sym e)

-- ---- symbols

count-trees : (ts : List TermTree) → terms_count (terms_of ts) ≡ length ts
count-trees [] = refl
count-trees (t ∷ ts) = omega (arith, count-trees ts)

counted : (us : List TreeTerm) (ts : List TermTree) → map term_of us ≡ ts → length us ≡ terms_count (terms_of ts)
counted us ts e = sym (length-map us term_of) ∙ ap length e ∙ sym (count-trees ts)

arguments-told :
    (count : ℕ) (result : Option SortTree) (d : Option (Bor Declaration))
    → (type_told (record { arguments = all_individuals count; result = result }) d).arguments ≡ arguments_wanted count d
arguments-told count result None = refl
arguments-told count result (Some d) = refl

result-told : (count : ℕ) (d : Option (Bor Declaration)) → result_of (type_told (undeclared_function count) d) ≡ result_wanted d
result-told count None = refl
result-told count (Some d) = refl

-- the sort of a function's values, by what is told of it
pub sort-told :
    (ds : List DeclarationTree) (Γ : Sorting) (name f : List ℕ) (arity : ℕ) (ts : List TermTree) (d : Option (Bor Declaration))
    → name ≡ f → arity ≡ length ts → type_told (undeclared_function arity) d ≡ function_type ds name arity
    → result_wanted d ≡ term_sort ds Γ (application f (terms_of ts))
sort-told ds Γ name f arity ts d g n told =
    sym (result-told arity d) ∙ ap result_of told ∙ ap₂ (λ (w : List ℕ) (k : ℕ). result_of (function_type ds w k)) g (n ∙ sym (count-trees ts))

-- ---- terms

pub variable-pushed :
    (ds : List DeclarationTree) (Γ : Sorting) (wanted : Option SortTree) (x : List ℕ) (t : TermTree) (cause : Option TypedCause) (start new : Causes)
    → t ≡ variable x → cause ≡ clash ds Γ wanted t → new ≡ start ++ cause ∷ [] → new ≡ start ++ term_causes ds Γ wanted t []
variable-pushed ds Γ wanted x t cause start new is k e =
    e ∙ ap (λ c. start ++ c ∷ []) (k ∙ ap (clash ds Γ wanted) is) ∙ ap (λ u. start ++ term_causes ds Γ wanted u []) (sym is)

pub application-pushed :
    (ds : List DeclarationTree) (Γ : Sorting) (wanted : Option SortTree) (name f : List ℕ) (arity : ℕ) (us : List TreeTerm) (ts : List TermTree)
    (d : Option (Bor Declaration)) (t : TermTree) (cause : Option TypedCause) (start old new : Causes)
    → t ≡ application f (terms_of ts) → name ≡ f → map term_of us ≡ ts → arity ≡ length us → type_told (undeclared_function arity) d ≡ function_type ds name arity
    → cause ≡ clash ds Γ wanted t → old ≡ start ++ cause ∷ []
    → new ≡ old ++ terms_causes ds Γ (arguments_wanted (length us) d) (terms_of (map term_of us)) [] → new ≡ start ++ term_causes ds Γ wanted t []
application-pushed ds Γ wanted name f arity us ts d t cause start old new is g m n told k e h =
    pushed-after (clash ds Γ wanted (application f (terms_of ts))) (terms_causes ds Γ (function_type ds f (terms_count (terms_of ts))).arguments (terms_of ts)) start old new
    (e ∙ ap (λ c. start ++ c ∷ []) (k ∙ ap (clash ds Γ wanted) is)) (h ∙ ap₂ (λ (ss : List SortTree) (vs : List TermTree). old ++ terms_causes ds Γ ss (terms_of vs) []) wants m)
    ∙ ap (λ u. start ++ term_causes ds Γ wanted u []) (sym is)
  where
    wants : arguments_wanted (length us) d ≡ (function_type ds f (terms_count (terms_of ts))).arguments
    wants =
        ap (λ j. arguments_wanted j d) (sym n) ∙ sym (arguments-told arity (Some individuals) d) ∙ ap (λ (type : SymbolType). type.arguments) told
        ∙ ap₂ (λ (w : List ℕ) (j : ℕ). (function_type ds w j).arguments) g (n ∙ counted us ts m)

-- ---- formulas

-- the sides of an equation, of which the right one is to have the sort of the left one
pub equation-pushed :
    (ds : List DeclarationTree) (Γ : Sorting) (s t : TermTree) (wanted : Option SortTree) (start old new : Causes)
    → wanted ≡ Some (term_sort ds Γ s) → old ≡ start ++ term_causes ds Γ None s [] → new ≡ old ++ term_causes ds Γ wanted t []
    → new ≡ start ++ term_causes ds Γ None s (term_causes ds Γ (Some (term_sort ds Γ s)) t [])
equation-pushed ds Γ s t wanted start old new k e h =
    pushed-two (term_causes ds Γ None s) (term_causes ds Γ (Some (term_sort ds Γ s)) t) start old new (term-goes ds Γ None s) e
    (h ∙ ap (λ w. old ++ term_causes ds Γ w t []) k)

pub predicate-pushed :
    (ds : List DeclarationTree) (Γ : Sorting) (name p : List ℕ) (arity : ℕ) (us : List TreeTerm) (ts : List TermTree) (d : Option (Bor Declaration))
    (f : TypedTree) (start old new : Causes)
    → f ≡ predicate p (terms_of ts) → name ≡ p → map term_of us ≡ ts → arity ≡ length us → type_told (undeclared_predicate arity) d ≡ predicate_type ds name arity
    → old ≡ start ++ None ∷ [] → new ≡ old ++ terms_causes ds Γ (arguments_wanted (length us) d) (terms_of (map term_of us)) []
    → new ≡ start ++ formula_causes ds Γ f []
predicate-pushed ds Γ name p arity us ts d f start old new is g m n told e h =
    pushed-after None (terms_causes ds Γ (predicate_type ds p (terms_count (terms_of ts))).arguments (terms_of ts)) start old new e
    (h ∙ ap₂ (λ (ss : List SortTree) (vs : List TermTree). old ++ terms_causes ds Γ ss (terms_of vs) []) wants m)
    ∙ ap (λ u. start ++ formula_causes ds Γ u []) (sym is)
  where
    wants : arguments_wanted (length us) d ≡ (predicate_type ds p (terms_count (terms_of ts))).arguments
    wants =
        ap (λ j. arguments_wanted j d) (sym n) ∙ sym (arguments-told arity None d) ∙ ap (λ (type : SymbolType). type.arguments) told
        ∙ ap₂ (λ (w : List ℕ) (j : ℕ). (predicate_type ds w j).arguments) g (n ∙ counted us ts m)

-- a quantifier's variables, and then its body
pub quantifier-pushed :
    (ds : List DeclarationTree) (Γ Δ : Sorting) (q : Quantifier) (xs : List TypedVariable) (body g f : TypedTree) (start old new : Causes)
    → f ≡ quantified q xs body → g ≡ body → Δ ≡ inside xs Γ → old ≡ start ++ variables_causes ds xs [] → new ≡ old ++ formula_causes ds Δ g []
    → new ≡ start ++ formula_causes ds Γ f []
quantifier-pushed ds Γ Δ q xs body g f start old new is same scope e h =
    pushed-two (variables_causes ds xs) (formula_causes ds (inside xs Γ) body) start old new (variables-goes ds xs) e
    (h ∙ ap₂ (λ (Γ' : Sorting) (u : TypedTree). old ++ formula_causes ds Γ' u []) scope same)
    ∙ ap (λ u. start ++ formula_causes ds Γ u []) (sym is)

-- two formulas
pub pair-pushed :
    (ds : List DeclarationTree) (Γ Δ : Sorting) (l r g h f : TypedTree) (start old new : Causes)
    → formula_causes ds Γ f [] ≡ formula_causes ds Γ l (formula_causes ds Γ r []) → g ≡ l → h ≡ r → Δ ≡ Γ → old ≡ start ++ formula_causes ds Γ g []
    → new ≡ old ++ formula_causes ds Δ h [] → new ≡ start ++ formula_causes ds Γ f []
pair-pushed ds Γ Δ l r g h f start old new is first second scope e n =
    pushed-two (formula_causes ds Γ l) (formula_causes ds Γ r) start old new (formula-goes ds Γ l)
    (e ∙ ap (λ u. start ++ formula_causes ds Γ u []) first) (n ∙ ap₂ (λ (us : Sorting) (u : TypedTree). old ++ formula_causes ds us u []) scope second)
    ∙ ap (λ cs. start ++ cs) (sym is)
