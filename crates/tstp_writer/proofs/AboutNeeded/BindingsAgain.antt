-- What a line binds is read again as it was written.
use mathlib.Core.Bool.{beq}
use Rattle.std.proofs.Common.{◌≡◌, ℕ, Bool, true, false, List, [], ◌∷◌, ◌++◌, map, Option, Some, refl, ap, ap₂, sym, ◌∙◌, subst}
use Rattle.std.specs.Prelude.{fold, flat_map, unwrap_or, option_map, option_and_then, if◌then◌else◌}
use Rattle.std.specs.List.{list_all}
use Rattle.std.proofs.lemmas.Bool.{and_parts, and_from}
use Rattle.std.proofs.lemmas.List.{map-append}
use Rattle.std.proofs.lemmas.Grind.{flat_map-append}
use Rattle.plain_types.specs.declared.sequence.NameLit.{NameLit}
use Rattle.plain_types.specs.Names.{same_name}
use Rattle.plain_types.proofs.NameLemmas.{same_name-refl}
use Rattle.fol_base.specs.Tree.{Tree, tree_variables}
use Rattle.fol_base.specs.Instance.{Substitution}
use Rattle.fol_base.specs.Clause.{TreeLiteral, TreeClause, literal_eq, literals_eq, names_eq, clause_eq}
use Rattle.fol_base.proofs.AboutTerms.TreeLemmas.{tree_eq-refl}
use Rattle.fol_base.proofs.WorkedExamples.TestLemmas.{list_all-joined}
use Rattle.tptp_tree.specs.Term.{TermTree, variable as named_variable, application as named_application, TermTrees, no_terms, term_then}
use Rattle.signature.specs.declared.symbol.Symbol.{Symbol}
use Rattle.signature.specs.Symbol.{has_symbol, with_symbol, are_different}
use Rattle.signature.specs.Occurrences.{term_symbols}
use Rattle.signature.specs.Environment.{Environment, term_names}
use Rattle.kernel_steps.specs.Parents.{all_there}
use Rattle.kernel_steps.specs.Soundness.{bindings_of}
use Rattle.kernel_steps.specs.declared.step.Step.{Step}
use Rattle.kernel_steps.specs.declared.step.Step.TheVariants.{Input, Negate, Clausify, Para, Refl, Factor, Merge, Component, Opposite, Split, Chain}
use Rattle.tptp_source.specs.Sources.{list_of}
use Rattle.tptp_source.specs.Items.{term_in, terms_in, term_before}
use Rattle.clausal_form.specs.DerivationClause.{term_by}
use Rattle.clausal_form.specs.DerivationItems.{list_in}
use Rattle.clausal_form.specs.DerivationParts.{bound_terms}
use Rattle.tstp_writer.specs.ClauseTrees.{variable_name, term_tree}
use Rattle.tstp_writer.specs.LineTrees.{Script, Layout, term_item, term_items, step_source, clause_tree}
use Rattle.tstp_writer.specs.ReadableLines.{is_term_over, read_terms}
use Rattle.tstp_writer.proofs.ReadAgain.LiteralKinds.{term-over}
use Rattle.tstp_writer.proofs.AboutPrinted.VariableNames.{IsReadBy, AreReadBy, all-front, all-back}
use Rattle.tstp_writer.proofs.AboutPrinted.WrittenNumbers.{list-trees}
use Rattle.tstp_writer.proofs.AboutPrinted.WrittenClauses.{AreKnown, numbered, term-names, term-known, term-back}

-- ---- a clause is equal to itself

beq-same : (b : Bool) → beq b b ≡ true
beq-same true = refl
beq-same false = refl

literal_eq-same : (l : TreeLiteral) → literal_eq l l ≡ true
literal_eq-same l = search (beq-same l.positive, tree_eq-refl l.left, tree_eq-refl l.right)

literals_eq-same : (ls : List TreeLiteral) → literals_eq ls ls ≡ true
literals_eq-same [] = refl
literals_eq-same (l ∷ ls) = and_from (literal_eq l l) (literals_eq ls ls) (literal_eq-same l) (literals_eq-same ls)

pub names_eq-same : (ns : List NameLit) → names_eq ns ns ≡ true
names_eq-same [] = refl
names_eq-same (n ∷ ns) = and_from (same_name n n) (names_eq ns ns) (same_name-refl n) (names_eq-same ns)

pub clause_eq-same : (c : TreeClause) → clause_eq c c ≡ true
clause_eq-same c =
    and_from (literals_eq c.literals c.literals) (names_eq c.names c.names) (literals_eq-same c.literals) (names_eq-same c.names)

-- symbols that are there add none
pub fold-known : (known ss : List Symbol) → AreKnown known ss → fold with_symbol known ss ≡ known
fold-known known [] h = refl
fold-known known (s ∷ ss) h =
    let parts = and_parts (has_symbol s known) (list_all (λ u. has_symbol u known) ss) h in
    ap (λ b. fold with_symbol (if b then known else known ++ s ∷ []) ss) parts.0 ∙ fold-known known ss parts.1

-- ---- what a line binds

mutual
  term-read : (t : TermTree) → term_in (term_item t) ≡ Some t
  term-read (named_variable x) = refl
  term-read (named_application f ts) = ap (option_map (named_application f)) (arguments-read ts)

  arguments-read : (ts : TermTrees) → terms_in (term_items ts) ≡ Some ts
  arguments-read no_terms = refl
  arguments-read (term_then t ts) = ap₂ term_before (term-read t) (arguments-read ts)

abbrev pub written_terms : List Symbol → List Tree → List TermTree
written_terms symbols ts = map (term_tree symbols) ts

terms-read : (symbols : List Symbol) (ts : List Tree) → all_there (map term_in (map (λ t. term_item (term_tree symbols t)) ts)) ≡ Some (written_terms symbols ts)
terms-read symbols [] = refl
terms-read symbols (t ∷ ts) =
    ap₂ (λ (o : Option TermTree) os. option_and_then (λ x. option_map (λ xs. x ∷ xs) os) o) (term-read (term_tree symbols t)) (terms-read symbols ts)

bind-read : (symbols : List Symbol) (ts : List Tree) → list_in term_in (list_of (map (λ t. term_item (term_tree symbols t)) ts)) ≡ Some (written_terms symbols ts)
bind-read symbols ts =
    ap (λ us. all_there (map term_in us)) (list-trees (map (λ t. term_item (term_tree symbols t)) ts)) ∙ terms-read symbols ts

abbrev pub bound_as : List Symbol → List Tree → Option (List TermTree)
bound_as symbols ts = Some (written_terms symbols ts)

-- the terms that are bound are read as they were written
pub bound-read :
    (script : Script) (layout : Layout) (name : List ℕ) (c : TreeClause) (step : Step)
    → bound_terms (clause_tree script name c (step_source script layout step)) ≡ map (bound_as script.symbols) (bindings_of step)
bound-read script layout name c (Input place) = refl
bound-read script layout name c (Negate place) = refl
bound-read script layout name c (Clausify i) = refl
bound-read script layout name c (Para first second from from_side into into_side place first_bind second_bind) =
    ap₂ (λ o p. o ∷ p ∷ []) (bind-read script.symbols first_bind) (bind-read script.symbols second_bind)
bound-read script layout name c (Refl parent literal bind) = ap (λ o. o ∷ []) (bind-read script.symbols bind)
bound-read script layout name c (Factor parent becomes becomes_side other other_side bind) = ap (λ o. o ∷ []) (bind-read script.symbols bind)
bound-read script layout name c (Merge parent stays goes bind) = ap (λ o. o ∷ []) (bind-read script.symbols bind)
bound-read script layout name c (Component n) = refl
bound-read script layout name c (Opposite n) = refl
bound-read script layout name c (Split parent definitions parts) = refl
bound-read script layout name c (Chain numbers pivots) = refl

-- all of them together
pub bound-joined :
    (symbols : List Symbol) (bs : List (List Tree))
    → flat_map (λ o. unwrap_or o []) (map (bound_as symbols) bs) ≡ written_terms symbols (flat_map (λ ts. ts) bs)
bound-joined symbols [] = refl
bound-joined symbols (b ∷ bs) =
    ap (λ us. written_terms symbols b ++ us) (bound-joined symbols bs) ∙ sym (map-append (term_tree symbols) b (flat_map (λ ts. ts) bs))

pub bound-names :
    (symbols : List Symbol) (ts : List Tree) → flat_map term_names (written_terms symbols ts) ≡ map variable_name (flat_map tree_variables ts)
bound-names symbols [] = refl
bound-names symbols (t ∷ ts) =
    ap₂ ◌++◌ (term-names symbols t) (bound-names symbols ts)
    ∙ sym (map-append variable_name (tree_variables t) (flat_map tree_variables ts))

pub bound-known :
    (symbols : List Symbol) (ts : List Tree) → list_all (is_term_over symbols) ts ≡ true
    → AreKnown symbols (flat_map term_symbols (written_terms symbols ts))
bound-known symbols [] h = refl
bound-known symbols (t ∷ ts) h =
    let parts = and_parts (is_term_over symbols t) (list_all (is_term_over symbols) ts) h in
    list_all-joined (λ s. has_symbol s symbols) (term_symbols (term_tree symbols t)) (flat_map term_symbols (written_terms symbols ts))
    (term-known symbols t (term-over symbols t parts.0)) (bound-known symbols ts parts.1)

pub joined-over :
    (test : Tree → Bool) (bs : List (List Tree)) → list_all (list_all test) bs ≡ true → list_all test (flat_map (λ ts. ts) bs) ≡ true
joined-over test [] h = refl
joined-over test (b ∷ bs) h =
    let parts = and_parts (list_all test b) (list_all (list_all test) bs) h in
    list_all-joined test b (flat_map (λ ts. ts) bs) parts.0 (joined-over test bs parts.1)

-- what is bound, as it is read
abbrev pub read_bindings : Substitution → List (List Tree) → List (Option (List Tree))
read_bindings σ bs = map (λ ts. Some (read_terms σ ts)) bs

module _ (symbols : List Symbol) (different : are_different symbols ≡ true) (environment : Environment) (σ : Substitution) where
  abbrev read_term : TermTree → Tree
  read_term t = term_by (numbered symbols different environment σ) t

  terms-again :
      (ts : List Tree) → list_all (is_term_over symbols) ts ≡ true → AreReadBy environment σ (flat_map tree_variables ts)
      → map read_term (written_terms symbols ts) ≡ read_terms σ ts
  terms-again [] h read = refl
  terms-again (t ∷ ts) h read =
      let parts = and_parts (is_term_over symbols t) (list_all (is_term_over symbols) ts) h in
      ap₂ ◌∷◌
      (term-back symbols different environment σ t (term-over symbols t parts.0)
      (all-front (IsReadBy environment σ) (tree_variables t) (flat_map tree_variables ts) read))
      (terms-again ts parts.1 (all-back (IsReadBy environment σ) (tree_variables t) (flat_map tree_variables ts) read))

  pub bindings-again :
      (bs : List (List Tree)) → list_all (list_all (is_term_over symbols)) bs ≡ true
      → AreReadBy environment σ (flat_map tree_variables (flat_map (λ ts. ts) bs))
      → map (option_map (map read_term)) (map (bound_as symbols) bs) ≡ read_bindings σ bs
  bindings-again [] h read = refl
  bindings-again (b ∷ bs) h read =
      let parts = and_parts (list_all (is_term_over symbols) b) (list_all (list_all (is_term_over symbols)) bs) h in
      let rest : List Tree = flat_map (λ ts. ts) bs in
      let both : AreReadBy environment σ (flat_map tree_variables b ++ flat_map tree_variables rest) =
      subst (AreReadBy environment σ) (flat_map-append tree_variables b rest) read in
      ap₂ ◌∷◌
      (ap (λ ts. Some ts)
      (terms-again b parts.0 (all-front (IsReadBy environment σ) (flat_map tree_variables b) (flat_map tree_variables rest) both)))
      (bindings-again bs parts.1 (all-back (IsReadBy environment σ) (flat_map tree_variables b) (flat_map tree_variables rest) both))
