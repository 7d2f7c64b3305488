-- The walks that number the variables of a conclusion, and what is built after them.
use Rattle.std.proofs.Common.{◌≡◌, ℕ, ◌+◌, ◌-◌, ◌<◌, true, Option, None, Some, List, [], ◌∷◌, ◌++◌, length, map, take, drop, append-nil, refl, ap, ap₂, sym, ◌∙◌, subst, arith}
use Rattle.std.specs.Prelude.{flat_map, slice_set, remove}
use Rattle.std.specs.List.{AllByRecursion}
use Rattle.std.specs.Option.{is_some}
use Rattle.std.proofs.lemmas.Bool.{true≢false}
use Rattle.std.proofs.lemmas.Grind.{flat_map-append}
use Rattle.fol_base.specs.Tree.{Tree, trees_of, trees_variables}
use Rattle.fol_base.specs.Instance.{Substitution, instance, substitution}
use Rattle.fol_base.specs.InstanceLaws.{PutsNoTruth}
use Rattle.fol_base.specs.Clause.{TreeLiteral, TreeClause, LiteralVariablesBelow, literal_instance, literal_variables, clause_variables}
use Rattle.fol_base.specs.Ground.{literals_instance}
use Rattle.fol_base.specs.Canonical.{renaming, bound_of}
use Rattle.fol_base.specs.Numbering.{with_variables}
use Rattle.fol_base.specs.Rules.{resolved}
use Rattle.fol_base.proofs.AboutClauses.InferenceLemmas.{resolutions_in_instances}
use Rattle.fol_base.proofs.ListLemmas.{remove-parts, set-parts, rest_after}
use Rattle.fol_base.proofs.AboutClauses.RuleLemmas.{resolved-parts}
use Rattle.kernel_steps.specs.Names.{sorted_names}
use Rattle.eq_rules.specs.Concluding.{GivesNumbered}
use Rattle.eq_rules.proofs.AboutConclusions.RenumberedLemmas.{variables_between, met_onward}
use Rattle.eq_rules.proofs.AboutConclusions.WideLemmas.{renamed-literals}
use Rattle.eq_rules.proofs.AboutConclusions.PremiseLemmas.{clause-below}
use Rattle.list_lemmas.proofs.Results.{some-there}

-- a renaming puts in variables alone
pub renaming-no_truth : (order : List ℕ) → PutsNoTruth (renaming order)
renaming-no_truth order v = refl

-- ---- variables of parts of a list of literals

front-variables :
    (σ : Substitution) (ls : List TreeLiteral) (i : ℕ)
    → variables_between σ ls 0 i ≡ flat_map literal_variables (map (literal_instance σ) (take i ls))
front-variables σ ls i =
    let all : i - 0 ≡ i = omega arith in ap (λ n. flat_map literal_variables (map (literal_instance σ) (take n ls))) all

rest-variables :
    (σ : Substitution) (ls : List TreeLiteral) (i count : ℕ)
    → count ≡ length ls → variables_between σ ls (i + 1) count ≡ flat_map literal_variables (map (literal_instance σ) (drop (i + 1) ls))
rest-variables σ ls i count many =
    ap (λ n. flat_map literal_variables (map (literal_instance σ) (take (n - (i + 1)) (drop (i + 1) ls)))) many
    ∙ ap (λ ks. flat_map literal_variables (map (literal_instance σ) ks)) (rest_after ls i)

-- all literals but one
pub others-variables :
    (σ : Substitution) (ls : List TreeLiteral) (i count : ℕ) → i < length ls → count ≡ length ls
    → variables_between σ ls 0 i ++ variables_between σ ls (i + 1) count ≡ flat_map literal_variables (remove (literals_instance σ ls) i)
others-variables σ ls i count within many =
    let front : List TreeLiteral = map (literal_instance σ) (take i ls) in
    let rest : List TreeLiteral = map (literal_instance σ) (drop (i + 1) ls) in
    ap₂ ◌++◌ (front-variables σ ls i) (rest-variables σ ls i count many)
    ∙ sym (flat_map-append literal_variables front rest)
    ∙ ap (flat_map literal_variables) (sym (remove-parts (literal_instance σ) ls i within))

-- all literals, with another one in the place of one
pub exchanged-variables :
    (σ : Substitution) (ls : List TreeLiteral) (i count : ℕ) (new : TreeLiteral) → i < length ls → count ≡ length ls
    → (variables_between σ ls 0 i ++ literal_variables new) ++ variables_between σ ls (i + 1) count
    ≡ flat_map literal_variables (slice_set (literals_instance σ ls) i new)
exchanged-variables σ ls i count new within many =
    let front : List TreeLiteral = map (literal_instance σ) (take i ls) in
    let rest : List TreeLiteral = map (literal_instance σ) (drop (i + 1) ls) in
    ap₂ (λ us vs. (us ++ literal_variables new) ++ vs) (front-variables σ ls i) (rest-variables σ ls i count many)
    ∙ ap (λ us. (flat_map literal_variables front ++ us) ++ flat_map literal_variables rest) (sym (append-nil (literal_variables new)))
    ∙ ap (λ us. us ++ flat_map literal_variables rest) (sym (flat_map-append literal_variables front (new ∷ [])))
    ∙ sym (flat_map-append literal_variables (front ++ new ∷ []) rest)
    ∙ ap (flat_map literal_variables) (sym (set-parts (literal_instance σ) ls i new within))

-- ---- equality resolution

module _
    (c : TreeClause) (lent : List TreeLiteral) (same : lent ≡ c.literals) (i count : ℕ) (within : i < length c.literals)
    (many : count ≡ length lent) (terms bind : List Tree) (covers : length terms ≡ bound_of (clause_variables c))
    (none first second order : List ℕ) (no_variables : none ≡ [])
    (first_met : first ≡ with_variables none (variables_between (substitution terms) lent 0 i))
    (second_met : second ≡ with_variables first (variables_between (substitution terms) lent (i + 1) count))
    (order_met : order ≡ with_variables second (trees_variables (trees_of terms)))
    (renamed : bind ≡ map (instance (renaming order)) terms)
    (applies : is_some (resolved (literals_instance (substitution terms) c.literals) i) ≡ true) where
  abbrev plain : List TreeLiteral
  plain = remove (literals_instance (substitution terms) c.literals) i

  given : resolved (literals_instance (substitution terms) c.literals) i ≡ Some plain
  given =
      let found = some-there (resolved (literals_instance (substitution terms) c.literals) i) applies in
      found.1 ∙ ap (λ ls. let o : Option (List TreeLiteral) = Some ls in o)
      (sym (resolved-parts (literals_instance (substitution terms) c.literals) i found.0 found.1).gives)

  below : AllByRecursion (LiteralVariablesBelow (length terms)) c.literals
  below = subst (λ (n : ℕ). AllByRecursion (LiteralVariablesBelow n) c.literals) (sym covers) (clause-below c)

  under_bind : literals_instance (substitution bind) lent ≡ literals_instance (renaming order) (literals_instance (substitution terms) c.literals)
  under_bind = ap (literals_instance (substitution bind)) same ∙ renamed-literals order terms bind c.literals renamed below

  pub resolution-applies : None ≡ resolved (literals_instance (substitution bind) lent) i → ⊥
  resolution-applies h =
      let made : resolved (literals_instance (substitution bind) lent) i ≡ Some (literals_instance (renaming order) plain) =
      ap (λ ls. resolved ls i) under_bind
      ∙ resolutions_in_instances (renaming order) (literals_instance (substitution terms) c.literals) plain i given in
      true≢false (sym (ap is_some (h ∙ made)))

  pub resolution-numbered :
      (d : TreeClause) → Some d.literals ≡ resolved (literals_instance (substitution bind) lent) i
      → d.names ≡ sorted_names c.names → GivesNumbered (λ ls. resolved ls i) c terms bind d
  resolution-numbered d made names = record {
    plain = plain;
    given = given;
    order = order;
    met =
        order_met
        ∙ ap (λ vs. with_variables vs (trees_variables (trees_of terms)))
        (met_onward none first second (variables_between (substitution terms) lent 0 i)
        (variables_between (substitution terms) lent (i + 1) count) first_met second_met
        ∙ ap₂ with_variables no_variables
        (ap (λ ls. variables_between (substitution terms) ls 0 i ++ variables_between (substitution terms) ls (i + 1) count) same
        ∙ others-variables (substitution terms) c.literals i count within (many ∙ ap length same)));
    renamed = renamed;
    gives = ap (λ ls. resolved (literals_instance (substitution bind) ls) i) (sym same) ∙ sym made;
    names = names;
  }
