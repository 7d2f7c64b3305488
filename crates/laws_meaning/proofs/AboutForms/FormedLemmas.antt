-- The clauses of a problem are true in a structure that is extended from an interpretation in which its formulas are true.
use Rattle.std.proofs.Common.{◌≡◌, ℕ, ◌+◌, ◌≤◌, Bool, true, false, not, ◌&&◌, ◌||◌, List, [], ◌∷◌, ◌++◌, length, map, refl, ap, ap₂, sym, ◌∙◌, subst, arith}
use mathlib.Core.Bool.{beq}
use Rattle.std.specs.List.{AllByRecursion, list_all}
use Rattle.std.proofs.lemmas.Bool.{and_parts, and_from}
use Rattle.std.proofs.lemmas.List.{map-append}
use Rattle.tptp_tree.specs.Entries.{is_conjecture}
use Rattle.tptp_tree.specs.declared.problem.Annotated.{Annotated}
use Rattle.fol_base.specs.Tree.{Tree, variable, application, Trees, no_trees, tree_then}
use Rattle.fol_base.specs.Instance.{Substitution, instance, instances}
use Rattle.fol_base.specs.Clause.{TreeClause, literal_instance}
use Rattle.fol_base.specs.Canonical.{canonical_renaming}
use Rattle.fol_base.specs.Interpretation.{Interpretation, Assignment, sides_true}
use Rattle.signature.specs.Occurrences.{formula_symbols}
use Rattle.signature.specs.Environment.{free_names, closed, term_in_force}
use Rattle.signature.specs.Clausal.{SymbolNumbers, Made, Worked, Literals, clauses_of, begun, annotated_clauses, canonical_literals, formed}
use Rattle.signature.specs.Form.{skolem_count, problem_skolem_count}
use Rattle.signature.specs.Truth.{value_in_force, annotated_true}
use Rattle.laws_meaning.proofs.AboutStructures.Structures.{Structure, value, values, holds, all_hold, all_hold-joined}
use Rattle.laws_meaning.proofs.AboutStructures.Search.{HasSize}
use Rattle.laws_meaning.proofs.AboutFormulas.SignLemmas.{signed}
use Rattle.laws_meaning.proofs.AboutWork.Extending.{grows-itself, grows-further, agree-itself, agree-before, agree-further, KeptTerm, KeptClauses, Base, Ready, Outcome}
use Rattle.laws_meaning.proofs.AboutWork.Atoms.{AreKnown}
use Rattle.laws_meaning.proofs.AboutWork.Works.{formula-sound}

-- ---- one formula

-- the formula has no free variables, its symbols are the problem's, and it is true, or false where it is the conjecture
pub record IsMeant (n : SymbolNumbers) (i : Interpretation) (a : Annotated) : Type 0 where
  pub no_free : free_names (closed a) ≡ []
  pub known : AreKnown n (formula_symbols (closed a))
  pub is_so : beq (annotated_true n.symbols i a) (not (is_conjecture a.role)) ≡ true

as-signed : (b sign : Bool) → beq b sign ≡ true → signed sign b ≡ true
as-signed true true e = refl
as-signed true false e = e
as-signed false true e = e
as-signed false false e = refl

-- whatever is meant
abbrev pub always : Assignment → Type 0
always ρ = Unit {0}

-- a list of clauses, none of which needs the variables of a formula
abbrev pub as_worked : List Literals → Made → Worked
as_worked cs m = record { clauses = cs; made = begun m }

ready-begun : (n : SymbolNumbers) (i : Interpretation) (m : Made) (s : Structure) → Ready n i m s → Ready n i (begun m) s
ready-begun n i m s r =
    record {
      base = r.base;
      skolem = r.skolem;
      naming = r.naming;
      fits = r.fits;
      defining = λ ρ has. refl;
      kept = record { kept = λ u v a ρ. refl };
    }

kept-begun : (n : SymbolNumbers) (m : Made) (cs : List Literals) → KeptClauses n m cs → KeptClauses n (begun m) cs
kept-begun n m cs k = record { kept = λ s u a ρ. k.kept s u (record { at = a.at }) ρ }

annotated-outcome :
    (n : SymbolNumbers) (i : Interpretation) → Base n i → (a : Annotated) (m : Made) (s : Structure) → IsMeant n i a → Ready n i (begun m) s
    → n.first_skolem + (length m.skolem_arities + skolem_count (closed a) (not (is_conjecture a.role))) ≤ n.first_naming
    → Outcome n i (begun m) s always (skolem_count (closed a) (not (is_conjecture a.role)))
    (as_worked (annotated_clauses n a m).clauses (annotated_clauses n a m).made)
annotated-outcome n i base a m s meant ready fits =
    let sign : Bool = not (is_conjecture a.role) in
    let w : Worked = clauses_of n (closed a) sign [] (begun m) in
    let o =
    (formula-sound n i base (closed a) sign [] meant.known).from (begun m) s ready fits
    (subst (λ (names : List (List ℕ)). AllByRecursion (λ x. KeptTerm n (begun m) (term_in_force [] x)) names) (sym meant.no_free) tt) in
    record {
      structure = o.structure;
      agree = o.agree;
      ready = ready-begun n i w.made o.structure o.ready;
      grows = record { variables = omega arith; skolem = o.grows.skolem; naming = o.grows.naming };
      counted = o.counted;
      kept =
          kept-begun n w.made (w.clauses ++ w.made.defining)
          (record {
            kept = λ u v c ρ.
                all_hold-joined u ρ w.clauses w.made.defining ∙ ap₂ ◌&&◌ (o.kept.kept u v c ρ) (o.ready.kept.kept u v c ρ)
                ∙ sym (all_hold-joined v ρ w.clauses w.made.defining);
          });
      holds = λ ρ has h.
          all_hold-joined o.structure ρ w.clauses w.made.defining
          ∙ and_from (all_hold o.structure ρ w.clauses) (all_hold o.structure ρ w.made.defining)
          (o.holds ρ has
          (record {
            values = [];
            in_force =
                subst (λ (names : List (List ℕ)). AllByRecursion (λ x. value_in_force [] x ≡ value s ρ (term_in_force [] x)) names) (sym meant.no_free) tt;
            passes = as-signed (annotated_true n.symbols i a) sign meant.is_so;
          }))
          (o.ready.defining ρ has);
    }

-- ---- all formulas

-- the clauses of formulas before their variables are numbered
abbrev pub raw_clauses : SymbolNumbers → List Annotated → Made → List Literals
raw_clauses n [] m = []
raw_clauses n (a ∷ fs) m = (annotated_clauses n a m).clauses ++ raw_clauses n fs (annotated_clauses n a m).made

pub formed-outcome :
    (n : SymbolNumbers) (i : Interpretation) → Base n i → (place : ℕ) (fs : List Annotated) (m : Made) (s : Structure)
    → AllByRecursion (IsMeant n i) fs → Ready n i (begun m) s
    → n.first_skolem + (length m.skolem_arities + problem_skolem_count fs) ≤ n.first_naming
    → Outcome n i (begun m) s always (problem_skolem_count fs) (as_worked (raw_clauses n fs m) (formed n place fs m).made)
formed-outcome n i base place [] m s meant ready fits =
    record {
      structure = s;
      agree = agree-itself n (begun m) s;
      ready = ready;
      grows = grows-itself (begun m);
      counted = omega arith;
      kept = record { kept = λ u v a ρ. refl };
      holds = λ ρ has h. refl;
    }
formed-outcome n i base place (a ∷ fs) m s meant ready fits =
    let w : Worked = annotated_clauses n a m in
    let o = annotated-outcome n i base a m s meant.0 ready (omega (arith, fits)) in
    let r = formed-outcome n i base (place + 1) fs w.made o.structure meant.1 o.ready (omega (arith, fits, o.counted)) in
    let last : Made = (formed n (place + 1) fs w.made).made in
    let rest : List Literals = raw_clauses n fs w.made in
    record {
      structure = r.structure;
      agree = agree-further n (begun m) (begun w.made) s o.structure r.structure o.grows o.agree r.agree;
      ready = r.ready;
      grows = grows-further (begun m) (begun w.made) (begun last) o.grows r.grows;
      counted = omega (arith, o.counted, r.counted);
      kept =
          record {
            kept = λ u v c ρ.
                all_hold-joined u ρ w.clauses rest
                ∙ ap₂ ◌&&◌ (o.kept.kept u v (agree-before n (begun w.made) (begun last) u v r.grows c) ρ) (r.kept.kept u v c ρ)
                ∙ sym (all_hold-joined v ρ w.clauses rest);
          };
      holds = λ ρ has h.
          all_hold-joined r.structure ρ w.clauses rest
          ∙ and_from (all_hold r.structure ρ w.clauses) (all_hold r.structure ρ rest)
          (sym (o.kept.kept o.structure r.structure r.agree ρ) ∙ o.holds ρ has tt) (r.holds ρ has tt);
    }

-- ---- canonical clauses

mutual
  value-instance :
      (s : Structure) (ρ : Assignment) (σ : Substitution) (t : Tree) → value s ρ (instance σ t) ≡ value s (λ v. value s ρ (σ v)) t
  value-instance s ρ σ (variable v) = refl
  value-instance s ρ σ (application f ts) = ap (s f) (values-instances s ρ σ ts)

  values-instances :
      (s : Structure) (ρ : Assignment) (σ : Substitution) (ts : Trees) → values s ρ (instances σ ts) ≡ values s (λ v. value s ρ (σ v)) ts
  values-instances s ρ σ no_trees = refl
  values-instances s ρ σ (tree_then t ts) = ap₂ ◌∷◌ (value-instance s ρ σ t) (values-instances s ρ σ ts)

pub holds-instance :
    (s : Structure) (ρ : Assignment) (σ : Substitution) (c : Literals)
    → holds s ρ (map (literal_instance σ) c) ≡ holds s (λ v. value s ρ (σ v)) c
holds-instance s ρ σ [] = refl
holds-instance s ρ σ (l ∷ c) =
    ap₂ ◌||◌ (ap₂ (sides_true l.positive) (value-instance s ρ σ l.left) (value-instance s ρ σ l.right)) (holds-instance s ρ σ c)

pub canonical-hold :
    (size : ℕ) (s : Structure) (cs : List Literals) → ((ρ : Assignment) → HasSize size ρ → all_hold s ρ cs ≡ true)
    → (ρ : Assignment) → HasSize size ρ → list_all (λ (c : TreeClause). holds s ρ c.literals) (map canonical_literals cs) ≡ true
canonical-hold size s [] h ρ has = refl
canonical-hold size s (c ∷ cs) h ρ has =
    let σ : Substitution = canonical_renaming (record { literals = c; names = [] }) in
    let τ : Assignment = λ v. value s ρ (σ v) in
    and_from (holds s ρ (canonical_literals c).literals) (list_all (λ (d : TreeClause). holds s ρ d.literals) (map canonical_literals cs))
    (holds-instance s ρ σ c ∙ (and_parts (holds s τ c) (all_hold s τ cs) (h τ (λ v. has _))).0)
    (canonical-hold size s cs (λ π k. (and_parts (holds s π c) (all_hold s π cs) (h π k)).1) ρ has)

pub formed-raw :
    (n : SymbolNumbers) (place : ℕ) (fs : List Annotated) (m : Made)
    → (formed n place fs m).clauses ≡ map canonical_literals (raw_clauses n fs m)
formed-raw n place [] m = refl
formed-raw n place (a ∷ fs) m =
    let w : Worked = annotated_clauses n a m in
    ap (λ (cs : List TreeClause). map canonical_literals w.clauses ++ cs) (formed-raw n (place + 1) fs w.made)
    ∙ sym (map-append canonical_literals w.clauses (raw_clauses n fs w.made))
