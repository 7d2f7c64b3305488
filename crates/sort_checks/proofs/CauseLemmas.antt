-- Causes one after another: what comes after a part is put behind the part's own.
use Rattle.std.proofs.Common.{◌≡◌, ℕ, zero, suc, ◌+◌, ◌<◌, ◌≤◌, List, [], ◌∷◌, ◌++◌, length, map, drop, get_or, append-nil, append_assoc, refl, ap, sym, ◌∙◌, arith}
use Rattle.std.specs.Prelude.{Option, None, Some, slice_get, option_map}
use denote.Ref.{Bor}
use Rattle.std.proofs.lemmas.List.{drop_all}
use Rattle.list_lemmas.proofs.Places.{drop-item}
use Rattle.tptp_tree.specs.Shape.{term_of}
use Rattle.tptp_tree.specs.Term.{TermTree, variable, application, TermTrees, no_terms, term_then, terms_of}
use Rattle.tptp_tree.specs.declared.term.TreeTerm.{TreeTerm}
use Rattle.signature.specs.Occurrences.{terms_count}
use Rattle.typed_tree.specs.declared.cause.TypedCause.{TypedCause}
use Rattle.typed_tree.specs.declared.formula.TypedFormula.{TypedFormula}
use Rattle.typed_tree.specs.declared.sort.Declaration.{Declaration}
use Rattle.typed_tree.specs.declared.sort.Sort.{Sort}
use Rattle.typed_tree.specs.declared.sort.TypedVar.{TypedVar}
use Rattle.typed_tree.specs.Shape.{sort_of, typed_of, variable_of}
use Rattle.typed_tree.specs.Sorts.{SortTree, individuals, named_sort, DeclarationTree}
use Rattle.typed_tree.specs.TypedFormula.{TypedVariable, TypedTree, truth, falsity, predicate, equation, negation, conjunction, disjunction, connected, quantified, TypedTrees, no_formulas, formula_then, trees_of}
use Rattle.typed_problem.specs.Declarations.{all_individuals, function_type, predicate_type}
use Rattle.typed_problem.specs.SortFaults.{Causes, Sorting, sort_causes, sorts_causes, result_causes, clash, next_wanted, later_wanted, term_causes, terms_causes, term_sort, variables_causes, inside, formula_causes, formulas_causes}
use Rattle.sort_checks.specs.Wanted.{arguments_wanted, argument_wanted}

-- a part with what comes after it
abbrev pub Goes : (Causes → Causes) → Type 0
Goes f = (rest : Causes) → f rest ≡ f [] ++ rest

-- two parts one after the other
two : (f g : Causes → Causes) → Goes f → Goes g → Goes (λ r. f (g r))
two f g p q r = p (g r) ∙ ap (λ x. f [] ++ x) (q r) ∙ sym (append_assoc (f []) (g []) r) ∙ ap (λ x. x ++ r) (sym (p (g [])))

-- ---- sorts

pub sort-goes : (ds : List DeclarationTree) (s : SortTree) → Goes (sort_causes ds s)
sort-goes ds individuals rest = refl
sort-goes ds (named_sort w) rest = refl

pub sorts-goes : (ds : List DeclarationTree) (ss : List SortTree) → Goes (sorts_causes ds ss)
sorts-goes ds [] rest = refl
sorts-goes ds (s ∷ ss) rest = two (sort_causes ds s) (sorts_causes ds ss) (sort-goes ds s) (sorts-goes ds ss) rest

-- ---- terms

mutual
  pub term-goes : (ds : List DeclarationTree) (Γ : Sorting) (wanted : Option SortTree) (t : TermTree) → Goes (term_causes ds Γ wanted t)
  term-goes ds Γ wanted (variable x) rest = refl
  term-goes ds Γ wanted (application f ts) rest =
      ap (λ cs. clash ds Γ wanted (application f ts) ∷ cs) (terms-goes ds Γ (function_type ds f (terms_count ts)).arguments ts rest)

  pub terms-goes : (ds : List DeclarationTree) (Γ : Sorting) (wanted : List SortTree) (ts : TermTrees) → Goes (terms_causes ds Γ wanted ts)
  terms-goes ds Γ wanted no_terms rest = refl
  terms-goes ds Γ wanted (term_then t ts) rest =
      two (term_causes ds Γ (next_wanted wanted) t) (terms_causes ds Γ (later_wanted wanted) ts) (term-goes ds Γ (next_wanted wanted) t)
      (terms-goes ds Γ (later_wanted wanted) ts) rest

pub equation-goes : (ds : List DeclarationTree) (Γ : Sorting) (s t : TermTree) → Goes (λ r. term_causes ds Γ None s (term_causes ds Γ (Some (term_sort ds Γ s)) t r))
equation-goes ds Γ s t =
    two (term_causes ds Γ None s) (term_causes ds Γ (Some (term_sort ds Γ s)) t) (term-goes ds Γ None s) (term-goes ds Γ (Some (term_sort ds Γ s)) t)

-- ---- formulas

pub variables-goes : (ds : List DeclarationTree) (xs : List TypedVariable) → Goes (variables_causes ds xs)
variables-goes ds [] rest = refl
variables-goes ds (x ∷ xs) rest =
    ap (λ cs. None ∷ cs) (two (sort_causes ds x.sort) (variables_causes ds xs) (sort-goes ds x.sort) (variables-goes ds xs) rest)

mutual
  pub formula-goes : (ds : List DeclarationTree) (Γ : Sorting) (f : TypedTree) → Goes (formula_causes ds Γ f)
  formula-goes ds Γ truth rest = refl
  formula-goes ds Γ falsity rest = refl
  formula-goes ds Γ (predicate p ts) rest = ap (λ cs. None ∷ cs) (terms-goes ds Γ (predicate_type ds p (terms_count ts)).arguments ts rest)
  formula-goes ds Γ (equation positive s t) rest = equation-goes ds Γ s t rest
  formula-goes ds Γ (negation f) rest = formula-goes ds Γ f rest
  formula-goes ds Γ (conjunction fs) rest = formulas-goes ds Γ fs rest
  formula-goes ds Γ (disjunction fs) rest = formulas-goes ds Γ fs rest
  formula-goes ds Γ (connected c f g) rest = two (formula_causes ds Γ f) (formula_causes ds Γ g) (formula-goes ds Γ f) (formula-goes ds Γ g) rest
  formula-goes ds Γ (quantified q xs f) rest =
      two (variables_causes ds xs) (formula_causes ds (inside xs Γ) f) (variables-goes ds xs) (formula-goes ds (inside xs Γ) f) rest

  pub formulas-goes : (ds : List DeclarationTree) (Γ : Sorting) (fs : TypedTrees) → Goes (formulas_causes ds Γ fs)
  formulas-goes ds Γ no_formulas rest = refl
  formulas-goes ds Γ (formula_then f fs) rest = two (formula_causes ds Γ f) (formulas_causes ds Γ fs) (formula-goes ds Γ f) (formulas-goes ds Γ fs) rest

-- ---- what is pushed

-- a part, and then another
pub pushed-two :
    (f g : Causes → Causes) (start old new : Causes) → Goes f → old ≡ start ++ f [] → new ≡ old ++ g [] → new ≡ start ++ f (g [])
pushed-two f g start old new p e h =
    h ∙ ap (λ x. x ++ g []) e ∙ append_assoc start (f []) (g []) ∙ ap (λ x. start ++ x) (sym (p (g [])))

-- a cause, and then a part
pub pushed-after :
    (c : Option TypedCause) (f : Causes → Causes) (start old new : Causes) → old ≡ start ++ c ∷ [] → new ≡ old ++ f [] → new ≡ start ++ c ∷ f []
pushed-after c f start old new e h = h ∙ ap (λ x. x ++ f []) e ∙ append_assoc start (c ∷ []) (f [])

-- one part of those that are left is pushed
pub step-left :
    (f g : Causes → Causes) (old new whole : Causes) → Goes f → new ≡ old ++ f [] → old ++ f (g []) ≡ whole → new ++ g [] ≡ whole
step-left f g old new whole p e h =
    ap (λ x. x ++ g []) e ∙ append_assoc old (f []) (g []) ∙ ap (λ x. old ++ x) (sym (p (g []))) ∙ h

-- ---- loops

next-told : (ss : List SortTree) (i : ℕ) → next_wanted (drop i ss) ≡ slice_get ss i
next-told [] zero = refl
next-told [] (suc i) = refl
next-told (s ∷ ss) zero = refl
next-told (s ∷ ss) (suc i) = next-told ss i

later-told : (ss : List SortTree) (i : ℕ) → later_wanted (drop i ss) ≡ drop (i + 1) ss
later-told [] zero = refl
later-told [] (suc i) = sym (drop_all (suc i + 1) [] (omega arith))
later-told (s ∷ ss) zero = refl
later-told (s ∷ ss) (suc i) = later-told ss i ∙ ap (λ k. drop k (s ∷ ss)) (let e : suc (i + 1) ≡ suc i + 1 = omega arith in e)

individual-there : (n i : ℕ) → i < n → slice_get (all_individuals n) i ≡ Some individuals
individual-there zero i h = absurd (omega (arith, h))
individual-there (suc n) zero h = refl
individual-there (suc n) (suc i) h = individual-there n i (omega (arith, h))

mapped-there : (ss : List Sort) (i : ℕ) → slice_get (map sort_of ss) i ≡ option_map sort_of (slice_get ss i)
mapped-there [] i = refl
mapped-there (s ∷ ss) zero = refl
mapped-there (s ∷ ss) (suc i) = mapped-there ss i

wanted-there : (count : ℕ) (d : Option (Bor Declaration)) (i : ℕ) → i < count → slice_get (arguments_wanted count d) i ≡ argument_wanted d i
wanted-there count None i h = individual-there count i h
wanted-there count (Some d) i h = mapped-there d.now.args i

-- the causes of the arguments that are left
abbrev pub arguments_left : List DeclarationTree → Sorting → List SortTree → List TreeTerm → ℕ → Causes
arguments_left ds Γ wanted ts i = terms_causes ds Γ (drop i wanted) (terms_of (map term_of (drop i ts))) []

pub argument-step :
    (ds : List DeclarationTree) (Γ : Sorting) (d : Option (Bor Declaration)) (ts : List TreeTerm) (i : ℕ) (t : TreeTerm) (old new whole : Causes)
    → i < length ts → t ≡ get_or ts i t → new ≡ old ++ term_causes ds Γ (argument_wanted d i) (term_of t) []
    → old ++ arguments_left ds Γ (arguments_wanted (length ts) d) ts i ≡ whole
    → new ++ arguments_left ds Γ (arguments_wanted (length ts) d) ts (i + 1) ≡ whole
argument-step ds Γ d ts i t old new whole l e n h =
    ap (λ ss. new ++ terms_causes ds Γ ss (terms_of (map term_of (drop (i + 1) ts))) []) (sym (later-told wanted i))
    ∙ step-left (term_causes ds Γ (next_wanted (drop i wanted)) (term_of t)) (terms_causes ds Γ (later_wanted (drop i wanted)) (terms_of (map term_of (drop (i + 1) ts)))) old new
    whole (term-goes ds Γ (next_wanted (drop i wanted)) (term_of t))
    (n ∙ ap (λ w. old ++ term_causes ds Γ w (term_of t) []) (sym (next-told wanted i ∙ wanted-there (length ts) d i l)))
    (ap (λ us. old ++ terms_causes ds Γ (drop i wanted) (terms_of (map term_of us)) []) (sym (drop-item ts i t l e)) ∙ h)
  where
    wanted : List SortTree
    wanted = arguments_wanted (length ts) d

-- the causes of the formulas that are left
pub formula-step :
    (ds : List DeclarationTree) (Γ : Sorting) (fs : List TypedFormula) (i : ℕ) (f : TypedFormula) (old new whole : Causes)
    → i < length fs → f ≡ get_or fs i f → new ≡ old ++ formula_causes ds Γ (typed_of f) []
    → old ++ formulas_causes ds Γ (trees_of (map typed_of (drop i fs))) [] ≡ whole
    → new ++ formulas_causes ds Γ (trees_of (map typed_of (drop (i + 1) fs))) [] ≡ whole
formula-step ds Γ fs i f old new whole l e n h =
    step-left (formula_causes ds Γ (typed_of f)) (formulas_causes ds Γ (trees_of (map typed_of (drop (i + 1) fs)))) old new whole (formula-goes ds Γ (typed_of f)) n
    (ap (λ gs. old ++ formulas_causes ds Γ (trees_of (map typed_of gs)) []) (sym (drop-item fs i f l e)) ∙ h)

-- the causes of the sorts that are left
pub sort-step :
    (ds : List DeclarationTree) (result : Option SortTree) (ss : List Sort) (i : ℕ) (s : Sort) (old new whole : Causes)
    → i < length ss → s ≡ get_or ss i s → new ≡ old ++ sort_causes ds (sort_of s) []
    → old ++ sorts_causes ds (map sort_of (drop i ss)) (result_causes ds result []) ≡ whole
    → new ++ sorts_causes ds (map sort_of (drop (i + 1) ss)) (result_causes ds result []) ≡ whole
sort-step ds result ss i s old new whole l e n h =
    ap (λ x. x ++ sorts_causes ds (map sort_of (drop (i + 1) ss)) (result_causes ds result [])) n
    ∙ append_assoc old (sort_causes ds (sort_of s) []) (sorts_causes ds (map sort_of (drop (i + 1) ss)) (result_causes ds result []))
    ∙ ap (λ x. old ++ x) (sym (sort-goes ds (sort_of s) (sorts_causes ds (map sort_of (drop (i + 1) ss)) (result_causes ds result []))))
    ∙ ap (λ us. old ++ sorts_causes ds (map sort_of us) (result_causes ds result [])) (sym (drop-item ss i s l e)) ∙ h

-- the causes of the variables that are left
pub variable-step :
    (ds : List DeclarationTree) (xs : List TypedVar) (i : ℕ) (x : TypedVar) (old middle new whole : Causes)
    → i < length xs → x ≡ get_or xs i x → middle ≡ old ++ None ∷ [] → new ≡ middle ++ sort_causes ds (sort_of x.sort) []
    → old ++ variables_causes ds (map variable_of (drop i xs)) [] ≡ whole
    → new ++ variables_causes ds (map variable_of (drop (i + 1) xs)) [] ≡ whole
variable-step ds xs i x old middle new whole l e m n h =
    ap (λ y. y ++ later) (n ∙ ap (λ y. y ++ sort_causes ds (sort_of x.sort) []) m)
    ∙ append_assoc (old ++ None ∷ []) (sort_causes ds (sort_of x.sort) []) later ∙ append_assoc old (None ∷ []) (sort_causes ds (sort_of x.sort) [] ++ later)
    ∙ ap (λ y. old ++ None ∷ y) (sym (sort-goes ds (sort_of x.sort) later))
    ∙ ap (λ ys. old ++ variables_causes ds (map variable_of ys) []) (sym (drop-item xs i x l e)) ∙ h
  where
    later : Causes
    later = variables_causes ds (map variable_of (drop (i + 1) xs)) []

-- ---- ends of loops

pub arguments-done :
    (ds : List DeclarationTree) (Γ : Sorting) (wanted : List SortTree) (ts : List TreeTerm) (i : ℕ) (new whole : Causes)
    → length ts ≤ i → new ++ arguments_left ds Γ wanted ts i ≡ whole → new ≡ whole
arguments-done ds Γ wanted ts i new whole l h =
    sym (ap (λ us. new ++ terms_causes ds Γ (drop i wanted) (terms_of (map term_of us)) []) (drop_all i ts l) ∙ append-nil new) ∙ h

pub formulas-done :
    (ds : List DeclarationTree) (Γ : Sorting) (fs : List TypedFormula) (i : ℕ) (new whole : Causes)
    → length fs ≤ i → new ++ formulas_causes ds Γ (trees_of (map typed_of (drop i fs))) [] ≡ whole → new ≡ whole
formulas-done ds Γ fs i new whole l h =
    sym (ap (λ gs. new ++ formulas_causes ds Γ (trees_of (map typed_of gs)) []) (drop_all i fs l) ∙ append-nil new) ∙ h

pub sorts-done :
    (ds : List DeclarationTree) (result : Option SortTree) (ss : List Sort) (i : ℕ) (new whole : Causes)
    → length ss ≤ i → new ++ sorts_causes ds (map sort_of (drop i ss)) (result_causes ds result []) ≡ whole → new ++ result_causes ds result [] ≡ whole
sorts-done ds result ss i new whole l h =
    sym (ap (λ us. new ++ sorts_causes ds (map sort_of us) (result_causes ds result [])) (drop_all i ss l)) ∙ h

pub variables-done :
    (ds : List DeclarationTree) (xs : List TypedVar) (i : ℕ) (new whole : Causes)
    → length xs ≤ i → new ++ variables_causes ds (map variable_of (drop i xs)) [] ≡ whole → new ≡ whole
variables-done ds xs i new whole l h =
    sym (ap (λ ys. new ++ variables_causes ds (map variable_of ys) []) (drop_all i xs l) ∙ append-nil new) ∙ h
