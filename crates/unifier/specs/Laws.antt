-- Laws of unifiers and matchers: function terms in give function terms out.
use Rattle.std.specs.Prelude.{ℕ, Bool, ◌&&◌, ◌||◌, List, IsTrue}
use Rattle.std.specs.List.{AllByRecursion}
use Rattle.fol_base.specs.Tree.{Tree, is_truth}
use Rattle.fol_base.specs.Instance.{Substitution, substitution}
use Rattle.fol_base.specs.Canonical.{terms_from}
use Rattle.fol_base.specs.Kind.{is_function_term, is_predicate_term, PutsFunctionTerms}
use Rattle.fol_base.specs.Unifier.{IsMostGeneralUnifier, IsMostGeneralUnifierApart}
use Rattle.unifier.specs.Matching.{by_pairs}

-- both are function terms, or each is a predicate term or `$true`
abbrev pub are_of_one_kind : (ℕ → Bool) → Tree → Tree → Bool
are_of_one_kind is_predicate s t =
    (is_function_term is_predicate s && is_function_term is_predicate t)
    || ((is_predicate_term is_predicate s || is_truth s) && (is_predicate_term is_predicate t || is_truth t))

-- the terms of all pairs are function terms
abbrev pub AreFunctionPairs : (ℕ → Bool) → List (ℕ × Tree) → Type 0
AreFunctionPairs is_predicate pairs = AllByRecursion (λ (p : ℕ × Tree). IsTrue (is_function_term is_predicate p.1)) pairs

-- a most general unifier of two terms of one kind puts in function terms alone
abbrev pub UnifiersPutFunctionTerms : Type 0
UnifiersPutFunctionTerms =
    (is_predicate : ℕ → Bool) (s t : Tree) (σ : Substitution)
    → IsTrue (are_of_one_kind is_predicate s t) → IsMostGeneralUnifier s t σ → PutsFunctionTerms is_predicate σ

-- so with the sides apart
abbrev pub UnifiersApartPutFunctionTerms : Type 0
UnifiersApartPutFunctionTerms =
    (is_predicate : ℕ → Bool) (s t : Tree) (σ τ : Substitution)
    → IsTrue (are_of_one_kind is_predicate s t) → IsMostGeneralUnifierApart s t σ τ
    → PutsFunctionTerms is_predicate σ × PutsFunctionTerms is_predicate τ

-- the substitution of function pairs puts in function terms alone, and so does that of the list of its terms for the first
-- variables
abbrev pub MatchersPutFunctionTerms : Type 0
MatchersPutFunctionTerms =
    (is_predicate : ℕ → Bool) (pairs : List (ℕ × Tree)) (count : ℕ)
    → AreFunctionPairs is_predicate pairs
    → PutsFunctionTerms is_predicate (by_pairs pairs)
    × PutsFunctionTerms is_predicate (substitution (terms_from 0 count (by_pairs pairs)))
