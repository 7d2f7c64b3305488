-- From what a search finds to subsumption.
use Rattle.std.proofs.Common.{◌≡◌, ◌↔◌, ℕ, Bool, true, false, Option, None, Some, List, [], ◌∷◌, map, length, refl, ap, sym, ◌∙◌, subst}
use Rattle.std.specs.Prelude.{IsTrue, IfSome, is_some}
use Rattle.std.specs.List.{list_all}
use Rattle.std.proofs.lemmas.Bool.{and_parts, and_from, true≢false}
use Rattle.plain_types.specs.Names.{negative_of}
use Rattle.fol_base.specs.Tree.{Tree}
use Rattle.fol_base.specs.Instance.{Substitution, substitution}
use Rattle.fol_base.specs.Canonical.{bound_of, terms_from}
use Rattle.fol_base.specs.Clause.{TreeLiteral, TreeClause, clause_variables}
use Rattle.fol_base.proofs.AboutCanonical.CanonicalLemmas.{length-terms_from}
use Rattle.fol_base.specs.Kind.{is_literal, PutsFunctionTerms}
use Rattle.fol_base.specs.WellFormed.{SymbolUse, is_literal_of, are_literals_of}
use Rattle.fol_base.specs.Subsumption.{assertions, all_different, Subsumes}
use Rattle.unifier.specs.Matching.{HasPairs, by_pairs, variables_of}
use Rattle.unifier.specs.Laws.{AreFunctionPairs}
use Rattle.unifier.proofs.AboutMatching.MatchLemmas.{Pairs}
use Rattle.unifier.proofs.AboutLayouts.KindLemmas.{matchers_put_function_terms}
use Rattle.subsume.specs.Kinds.{AreLiterals}
use Rattle.subsume.specs.Placing.{IsFoundFor}
use Rattle.subsume.specs.Target.{Maps, IsSubsumption}
use Rattle.subsume.proofs.AboutSearch.OnceLemmas.{pairs-had}

-- literals of a use of the symbols are literals
pub of_use : (usage : SymbolUse) (ls : List TreeLiteral) → IsTrue (are_literals_of usage ls) → AreLiterals usage.is_predicate ls
of_use usage [] h = refl
of_use usage (l ∷ ls) h =
    let parts = and_parts (is_literal_of usage l) (are_literals_of usage ls) h in
    and_from (is_literal usage.is_predicate l) (list_all (is_literal usage.is_predicate) ls)
    (and_parts (is_literal usage.is_predicate l) _ parts.0).0 (of_use usage ls parts.1)

-- asserted numbers are the assertions of their names
pub asserted : (ns : List ℕ) → assertions (map negative_of ns) ≡ ns
asserted [] = refl
asserted (n ∷ ns) = ap (λ ms. n ∷ ms) (asserted ns)

abbrev MapsClause : TreeClause → TreeClause → Substitution → Type 0
MapsClause c d σ = Maps (assertions c.names) c.literals (assertions d.names) d.literals σ

to_subsumes : (p : ℕ → Bool) (c d : TreeClause) (σ : Substitution) → PutsFunctionTerms p σ → MapsClause c d σ → Subsumes p c d
to_subsumes p c d σ puts maps = record {
  matcher = σ;
  function_terms = puts;
  places = maps.literals.places;
  different = maps.literals.different;
  mapped = maps.literals.mapped;
  asserted = maps.asserted;
}

from_subsumes : (p : ℕ → Bool) (c d : TreeClause) (s : Subsumes p c d) → MapsClause c d s.matcher
from_subsumes p c d s = record {
  asserted = s.asserted;
  literals = record { places = s.places; different = s.different; mapped = s.mapped };
}

-- a search that found pairs or none
pub decided :
    (p : ℕ → Bool) (c d : TreeClause) (found : Option Pairs)
    → AreLiterals p c.literals → AreLiterals p d.literals
    → IsFoundFor c.literals d.literals (MapsClause c d) found
    → IfSome found (AreFunctionPairs p) → IfSome found (λ pairs. all_different (variables_of pairs) ≡ true)
    → IsTrue (is_some found) ↔ Subsumes p c d
decided p c d None wc wd h functions once = (
  λ e. absurd (true≢false (sym e)),
  λ s. absurd (h p wc wd s.matcher s.function_terms (from_subsumes p c d s)),
)
decided p c d (Some pairs) wc wd h functions once = (
  λ e.
      to_subsumes p c d (by_pairs pairs) (matchers_put_function_terms p pairs 0 functions).0 (h (by_pairs pairs) (pairs-had pairs once)),
  λ s. refl,
)

pub none_subsumes :
    (p : ℕ → Bool) (c d : TreeClause)
    → AreLiterals p c.literals → AreLiterals p d.literals → IsFoundFor c.literals d.literals (MapsClause c d) None → IsSubsumption p c d None
none_subsumes p c d wc wd h = λ s. h p wc wd s.matcher s.function_terms (from_subsumes p c d s)

pub some_subsumes :
    (p : ℕ → Bool) (c d : TreeClause) (pairs : Pairs) (count : ℕ) (terms : List Tree)
    → IsFoundFor c.literals d.literals (MapsClause c d) (Some pairs) → AreFunctionPairs p pairs
    → count ≡ bound_of (clause_variables c) → terms ≡ terms_from 0 count (by_pairs pairs) → HasPairs pairs (substitution terms)
    → IsSubsumption p c d (Some terms)
unfolding to_subsumes
some_subsumes p c d pairs count terms h functions many e has = (
  to_subsumes p c d (substitution terms)
      (subst (λ ts. PutsFunctionTerms p (substitution ts)) (sym e) (matchers_put_function_terms p pairs count functions).1) (h (substitution terms) has),
  refl,
  ap length e ∙ length-terms_from 0 count (by_pairs pairs) ∙ many,
)

-- the same of equal lists
pub converted :
    (ns ms gs hs : List ℕ) (ls ks ds es : List TreeLiteral) (found : Option Pairs)
    → ns ≡ ms → ls ≡ ks → gs ≡ hs → ds ≡ es
    → IsFoundFor ls ds (Maps ns ls gs ds) found → IsFoundFor ks es (Maps ms ks hs es) found
converted ns ms gs hs ls ks ds es found a b c d h =
    subst (λ xs. IsFoundFor ks xs (Maps ms ks hs xs) found) d
    (subst (λ xs. IsFoundFor ks ds (Maps ms ks xs ds) found) c
    (subst (λ xs. IsFoundFor xs ds (Maps ms xs gs ds) found) b
    (subst (λ xs. IsFoundFor ls ds (Maps xs ls gs ds) found) a h)))
