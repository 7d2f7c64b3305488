-- The symbols that come after the Skolem symbols are new.
use Rattle.std.proofs.Common.{◌≡◌, ℕ, ◌+◌, ◌<◌, ◌^◌, Bool, true, false, ◌||◌, List, [], ◌∷◌, ◌++◌, length, map, drop, get_or, subst, refl, ap, sym, ◌∙◌, arith, append-nil}
use Rattle.std.specs.Prelude.{bytes_eq, codes, None}
use Rattle.std.specs.List.{list_any}
use Rattle.std.specs.Fmt.{decimal}
use Rattle.tptp_tree.specs.declared.problem.Annotated.{Annotated}
use Rattle.fol_base.specs.Literal.{clause_of}
use Rattle.signature.specs.declared.symbol.Symbol.{Symbol}
use Rattle.signature.specs.Symbol.{is_named, predicate_symbol, function_symbol}
use Rattle.signature.specs.Occurrences.{problem_symbols}
use Rattle.signature.specs.Prefix.{fresh_prefix_of}
use Rattle.signature.specs.Clausal.{Made, Formed, formed}
use Rattle.signature.specs.Form.{AreUnused, ClausalForm, numbered_symbols, nothing_made, with_skolem, with_naming, form_symbols, problem_form, clausal_form}
use Rattle.skolem.proofs.AboutBindings.ListLemmas.{added, any-last}
use Rattle.skolem.proofs.AboutFormulas.SymbolLemmas.{unused-then}
use Rattle.skolem.proofs.AboutFormulas.ProblemLemmas.{later_names_are_unused}
use Rattle.clausal_form.specs.Fault.{form_fault}
use Rattle.clausal_form.specs.Form.{form_of}
use Rattle.clausal_form.specs.Progress.{IsFormed, formed_formulas}
use Rattle.clausal_form.specs.Symbols.{with_names, with_spare}
use Rattle.clausal_form.specs.declared.finished.Clausal.{Clausal}
use Rattle.clausal_form.specs.declared.form.FormSoFar.{FormSoFar}
use Rattle.clausal_form.proofs.AboutCounts.FaultLemmas.{numbers_without_fault}
use Rattle.list_lemmas.proofs.Places.{drop-item}

-- ---- names that no symbol has

any-none : {X : Type 0} (p : X → Bool) (xs ys : List X) → list_any p xs ≡ false → list_any p ys ≡ false → list_any p (xs ++ ys) ≡ false
any-none p [] ys h k = k
any-none p (x ∷ xs) ys h k = by (p x) h (any-none p xs ys)
  where
    by :
        (t : Bool) → (t || list_any p xs) ≡ false → (list_any p xs ≡ false → list_any p ys ≡ false → list_any p (xs ++ ys) ≡ false)
        → (t || list_any p (xs ++ ys)) ≡ false
    by true g f = cc
    by false g f = f g k

-- names that begin with another letter
functions-apart :
    (name prefix : List ℕ) (n : ℕ) (arities : List ℕ)
    → ((rest : List ℕ) → bytes_eq name (prefix ++ rest) ≡ false) → list_any (is_named name) (numbered_symbols function_symbol prefix n arities) ≡ false
functions-apart name prefix n [] h = refl
functions-apart name prefix n (a ∷ arities) h =
    ap (λ t. t || list_any (is_named name) (numbered_symbols function_symbol prefix (n + 1) arities)) (h (decimal n))
    ∙ functions-apart name prefix (n + 1) arities h

predicates-apart :
    (name prefix : List ℕ) (n : ℕ) (arities : List ℕ)
    → ((rest : List ℕ) → bytes_eq name (prefix ++ rest) ≡ false) → list_any (is_named name) (numbered_symbols predicate_symbol prefix n arities) ≡ false
predicates-apart name prefix n [] h = refl
predicates-apart name prefix n (a ∷ arities) h =
    ap (λ t. t || list_any (is_named name) (numbered_symbols predicate_symbol prefix (n + 1) arities)) (h (decimal n))
    ∙ predicates-apart name prefix (n + 1) arities h

-- a fresh prefix with any number
fresh-unused : (symbols : List Symbol) (base : List ℕ) (k : ℕ) → k < 2 ^ 32 → list_any (is_named (fresh_prefix_of symbols base ++ decimal k)) symbols ≡ false
fresh-unused symbols base k l =
    ap (list_any (is_named (fresh_prefix_of symbols base ++ decimal k))) (sym (append-nil symbols))
    ∙ later_names_are_unused symbols base [] k (omega arith) l

naming-unused :
    (symbols : List Symbol) (m : Made) (k : ℕ) → k < 2 ^ 32
    → list_any (is_named (fresh_prefix_of symbols (codes "nm") ++ decimal k)) (with_skolem symbols m) ≡ false
naming-unused symbols m k l =
    any-none _ symbols _ (fresh-unused symbols (codes "nm") k l)
    (functions-apart (fresh_prefix_of symbols (codes "nm") ++ decimal k) (fresh_prefix_of symbols (codes "sk")) 0 m.skolem_arities (λ rest. refl))

spare-unused :
    (symbols : List Symbol) (m : Made) (k : ℕ) → k < 2 ^ 32
    → list_any (is_named (fresh_prefix_of symbols (codes "hc") ++ decimal k)) (with_naming symbols m) ≡ false
spare-unused symbols m k l =
    any-none _ (with_skolem symbols m) _
    (any-none _ symbols _ (fresh-unused symbols (codes "hc") k l)
    (functions-apart (fresh_prefix_of symbols (codes "hc") ++ decimal k) (fresh_prefix_of symbols (codes "sk")) 0 m.skolem_arities (λ rest. refl)))
    (predicates-apart (fresh_prefix_of symbols (codes "hc") ++ decimal k) (fresh_prefix_of symbols (codes "nm")) 0 m.naming_arities (λ rest. refl))

-- ---- naming symbols, one by one

-- the later numbers are unused after a naming symbol is added
name-added :
    (known new : List Symbol) (prefix : List ℕ) (n arity : ℕ)
    → new ≡ known ++ predicate_symbol (prefix ++ decimal n) arity ∷ [] → AreUnused known prefix n → AreUnused new prefix (n + 1)
name-added known new prefix n arity e u k l h =
    ap (list_any (is_named (prefix ++ decimal k))) e
    ∙ any-last (is_named (prefix ++ decimal k)) known (predicate_symbol (prefix ++ decimal n) arity) (u k (omega (arith, l)) h)
    (alone (bytes_eq (prefix ++ decimal k) (prefix ++ decimal n)) (unused-then [] _ prefix n arity refl (λ j i b. refl) k l h))
  where
    alone : (t : Bool) → (t || false) ≡ false → t ≡ false
    alone true g = cc
    alone false g = refl

pub names-then :
    (known new all : List Symbol) (prefix : List ℕ) (n m : ℕ) (arities : List ℕ) (i arity : ℕ)
    → i < length arities → arity ≡ get_or arities i arity
    → new ≡ known ++ predicate_symbol (prefix ++ decimal n) arity ∷ [] → m ≡ n + 1
    → (known ++ numbered_symbols predicate_symbol prefix n (drop i arities) ≡ all) × AreUnused known prefix n
    → (new ++ numbered_symbols predicate_symbol prefix m (drop (i + 1) arities) ≡ all) × AreUnused new prefix m
names-then known new all prefix n m arities i arity h g e k inv = (
  ap (λ j. new ++ numbered_symbols predicate_symbol prefix j (drop (i + 1) arities)) k
      ∙ added known new (predicate_symbol (prefix ++ decimal n) arity ∷ []) _ all e
      (ap (λ left. known ++ numbered_symbols predicate_symbol prefix n left) (sym (drop-item arities i arity h g)) ∙ inv.0),
  subst (AreUnused new prefix) (sym k) (name-added known new prefix n arity e inv.1),
)

-- ---- the symbols of a problem's form

abbrev problem_prefix : List Annotated → List ℕ → List ℕ
problem_prefix fs base = fresh_prefix_of (problem_symbols fs) base

pub prefix-of : (fs : List Annotated) (symbols : List Symbol) (base prefix : List ℕ) → symbols ≡ problem_symbols fs → prefix ≡ fresh_prefix_of symbols base → prefix ≡ problem_prefix fs base
prefix-of fs symbols base prefix e h = h ∙ ap (λ xs. fresh_prefix_of xs base) e

skolem-named :
    (fs : List Annotated) (skolem : List ℕ) (form : FormSoFar)
    → skolem ≡ problem_prefix fs (codes "sk") → IsFormed fs skolem form → form.signature ≡ with_skolem (problem_symbols fs) (formed_formulas fs).made
skolem-named fs skolem form s h =
    h.made.signature ∙ ap (λ xs. problem_symbols fs ++ numbered_symbols function_symbol xs 0 (formed_formulas fs).made.skolem_arities) s

new-names :
    (fs : List Annotated) (skolem naming : List ℕ) (form : FormSoFar)
    → skolem ≡ problem_prefix fs (codes "sk") → naming ≡ problem_prefix fs (codes "nm") → IsFormed fs skolem form → AreUnused form.signature naming 0
new-names fs skolem naming form s p h k l b =
    ap (λ xs. list_any (is_named (xs ++ decimal k)) form.signature) p
    ∙ ap (list_any (is_named (problem_prefix fs (codes "nm") ++ decimal k))) (skolem-named fs skolem form s h)
    ∙ naming-unused (problem_symbols fs) (formed_formulas fs).made k b

-- the symbols with the Skolem and naming symbols
all-names :
    (fs : List Annotated) (skolem naming : List ℕ) (form : FormSoFar)
    → skolem ≡ problem_prefix fs (codes "sk") → naming ≡ problem_prefix fs (codes "nm") → IsFormed fs skolem form
    → with_names naming form.naming.arities.items form.signature ≡ with_naming (problem_symbols fs) (formed_formulas fs).made
all-names fs skolem naming form s p h =
    ap (λ xs. with_names xs form.naming.arities.items form.signature) p
    ∙ ap (λ xs. with_names (problem_prefix fs (codes "nm")) xs form.signature) h.made.naming
    ∙ ap (with_names (problem_prefix fs (codes "nm")) (formed_formulas fs).made.naming_arities) (skolem-named fs skolem form s h)

new-spare :
    (fs : List Annotated) (skolem naming spare : List ℕ) (form : FormSoFar)
    → skolem ≡ problem_prefix fs (codes "sk") → naming ≡ problem_prefix fs (codes "nm") → spare ≡ problem_prefix fs (codes "hc") → IsFormed fs skolem form
    → AreUnused (with_names naming form.naming.arities.items form.signature) spare 0
new-spare fs skolem naming spare form s p q h k l b =
    ap (λ xs. list_any (is_named (xs ++ decimal k)) (with_names naming form.naming.arities.items form.signature)) q
    ∙ ap (list_any (is_named (problem_prefix fs (codes "hc") ++ decimal k))) (all-names fs skolem naming form s p h)
    ∙ spare-unused (problem_symbols fs) (formed_formulas fs).made k b

whole-form :
    (fs : List Annotated) (skolem naming spare : List ℕ) (form : FormSoFar) (clausal : Clausal)
    → skolem ≡ problem_prefix fs (codes "sk") → naming ≡ problem_prefix fs (codes "nm") → spare ≡ problem_prefix fs (codes "hc")
    → IsFormed fs skolem form → form_fault fs ≡ None
    → clausal.signature ≡ with_spare spare (with_names naming form.naming.arities.items form.signature)
    → clausal.clauses ≡ form.output.clauses.items → clausal.origins ≡ form.output.origins.items → form_of clausal ≡ clausal_form fs
whole-form fs skolem naming spare form clausal s p q h w es ec eo =
    together symbols (ap (map clause_of) ec ∙ h.clauses) (eo ∙ h.origins) ∙ ap (value fs) same
  where
    value : List Annotated → Formed → ClausalForm
    value gs f = record { symbols = form_symbols (problem_symbols gs) f.made; clauses = f.clauses; origins = f.origins }

    same : formed_formulas fs ≡ problem_form fs
    same = ap (λ n. formed n 0 fs nothing_made) (numbers_without_fault fs w)

    symbols : clausal.signature ≡ form_symbols (problem_symbols fs) (formed_formulas fs).made
    symbols =
        es ∙ ap (λ xs. with_spare xs (with_names naming form.naming.arities.items form.signature)) q
        ∙ ap (with_spare (problem_prefix fs (codes "hc"))) (all-names fs skolem naming form s p h)

    together :
        clausal.signature ≡ form_symbols (problem_symbols fs) (formed_formulas fs).made
        → map clause_of clausal.clauses ≡ (formed_formulas fs).clauses → clausal.origins ≡ (formed_formulas fs).origins
        → form_of clausal ≡ value fs (formed_formulas fs)
    together a b c = λ i. record { symbols = a i; clauses = b i; origins = c i }

-- ---- the same, where the prefixes are asked of a signature of the problem's symbols

pub names-are-new :
    (fs : List Annotated) (symbols : List Symbol) (skolem naming : List ℕ) (form : FormSoFar)
    → symbols ≡ problem_symbols fs → skolem ≡ fresh_prefix_of symbols (codes "sk") → naming ≡ fresh_prefix_of symbols (codes "nm")
    → IsFormed fs skolem form → AreUnused form.signature naming 0
names-are-new fs symbols skolem naming form e s p h =
    new-names fs skolem naming form (prefix-of fs symbols (codes "sk") skolem e s) (prefix-of fs symbols (codes "nm") naming e p) h

pub spare-is-new :
    (fs : List Annotated) (symbols : List Symbol) (skolem naming spare : List ℕ) (form : FormSoFar)
    → symbols ≡ problem_symbols fs → skolem ≡ fresh_prefix_of symbols (codes "sk") → naming ≡ fresh_prefix_of symbols (codes "nm")
    → spare ≡ fresh_prefix_of symbols (codes "hc") → IsFormed fs skolem form
    → AreUnused (with_names naming form.naming.arities.items form.signature) spare 0
spare-is-new fs symbols skolem naming spare form e s p q h =
    new-spare fs skolem naming spare form (prefix-of fs symbols (codes "sk") skolem e s) (prefix-of fs symbols (codes "nm") naming e p)
    (prefix-of fs symbols (codes "hc") spare e q) h

pub form-so :
    (fs : List Annotated) (symbols : List Symbol) (skolem naming spare : List ℕ) (form : FormSoFar) (clausal : Clausal)
    → symbols ≡ problem_symbols fs → skolem ≡ fresh_prefix_of symbols (codes "sk") → naming ≡ fresh_prefix_of symbols (codes "nm")
    → spare ≡ fresh_prefix_of symbols (codes "hc") → IsFormed fs skolem form → form_fault fs ≡ None
    → clausal.signature ≡ with_spare spare (with_names naming form.naming.arities.items form.signature)
    → clausal.clauses ≡ form.output.clauses.items → clausal.origins ≡ form.output.origins.items → form_of clausal ≡ clausal_form fs
form-so fs symbols skolem naming spare form clausal e s p q h w es ec eo =
    whole-form fs skolem naming spare form clausal (prefix-of fs symbols (codes "sk") skolem e s) (prefix-of fs symbols (codes "nm") naming e p)
    (prefix-of fs symbols (codes "hc") spare e q) h w es ec eo
