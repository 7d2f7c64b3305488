-- Steps of reading clauses.
use Rattle.std.proofs.Common.{◌≡◌, ◌<◌, ◌≤◌, ℕ, ◌+◌, Bool, true, false, List, [], ◌∷◌, ◌++◌, map, drop, refl, sym, ap, ap₂, ◌∙◌, arith, codes}
use Rattle.tptp_token.specs.Lexemes.{Lexeme, is_mark, lexeme, is_connective}
use Rattle.tptp_token.specs.declared.token.Kind.TheVariants.{Connective, Mark}
use Rattle.tptp_tree.specs.Formula.{FormulaTree, negation, disjunction, formula_then, formulas_of}
use Rattle.tptp_tree.specs.Spelling.{atom_lexemes, atom_meant}
use Rattle.tptp_tree.specs.Entries.{LiteralPhrase, positive_literal, negated_literal, negated_in_brackets, clause_in_brackets, literal_lexemes, more_literals_lexemes, clause_lexemes, literal_meant, literals_meant}
use Rattle.tptp_tree.specs.Causes.{Surroundings, deeper}
use Rattle.tptp_reader.specs.Machine.{Symbol, mark, an_atom, a_clause, a_literal, a_plain_literal, maybe_more_literals}
use Rattle.tptp_reader.specs.Telling.{lexemes, IsNext, Leads, Ends, Suits, Halts, one, further, AllowedAtom, ReadsAtom, further_literals, ReadsLiteral, negated_lexemes_by, ReadsNegated, ReadsLiterals, plain_clause, ReadsPlainClause, ReadsClause}
use Rattle.tptp_reader.specs.declared.source.Reader.{Reader}
use Rattle.tptp_reader.specs.declared.source.Name.{Name}
use Rattle.tptp_reader.specs.declared.cause.Halt.{Halt}
use Rattle.tptp_reader.specs.declared.cause.Halt.TheVariants.{At}
use Rattle.tptp_reader.specs.declared.cause.Refusal.TheVariants.{Nesting}
use Rattle.tptp_reader.proofs.AboutTexts.TellingLemmas.{leads-then, leads-under, ends-under, ends-after, halt-is, Suits-deeper}
use Rattle.tptp_reader.proofs.AboutSteps.AtomSteps.{lexeme-is}
use Rattle.tptp_reader.proofs.AboutSteps.ClauseSteps.{level-leads, level-ends, clause_open-step, literal_not-step, plain_open-step, literal-as_atom, plain-as_atom, clause-as_literals, bar-leads, no_bar-leads, plain_of, atom-plain}
use Rattle.tptp_reader.proofs.AboutRuns.LoopLemmas.{SoFar, sofar-first, sofar-more, sofar-ended, sofar-halts, sofar-item-halts, first-halts, next-is}

-- ---- what stands behind `~`

negated-open :
    (r : Reader) (names : List Name) (level at : ℕ) (t : Lexeme) (s : Surroundings)
    → Suits r names level s → IsNext r at t → is_mark (codes "(") t ≡ true → level < r.limit
    → Leads r (a_plain_literal s ∷ []) at (an_atom false (deeper s) ∷ mark (codes ")") ∷ []) (at + 1)
negated-open r names level at t s k n h low =
    level-leads r at names level s (a_plain_literal s) t (an_atom false (deeper s) ∷ mark (codes ")") ∷ []) k n (plain_open-step s t h) low

pub negated-too_deep :
    (r : Reader) (names : List Name) (level at : ℕ) (t : Lexeme) (halt : Halt)
    → IsNext r at t → is_mark (codes "(") t ≡ true → halt ≡ At Nesting at → r.limit ≤ level
    → Halts r (one a_plain_literal) names level at halt
negated-too_deep r names level at t halt n h e high =
    record {
      by = λ s k.
          halt-is r (a_plain_literal s ∷ []) at halt (At Nesting at) e
          (level-ends r at names level s (a_plain_literal s) t (an_atom false (deeper s) ∷ mark (codes ")") ∷ []) k n (plain_open-step s t h) high);
    }

pub negated-inside-halted :
    (r : Reader) (names : List Name) (level deep at : ℕ) (t : Lexeme) (halt : Halt)
    → IsNext r at t → is_mark (codes "(") t ≡ true → deep ≡ level + 1 → level < r.limit
    → Halts r (one (an_atom false)) names deep (at + 1) halt → Halts r (one a_plain_literal) names level at halt
negated-inside-halted r names level deep at t halt n h e low u =
    record {
      by = λ s k.
          ends-after r (a_plain_literal s ∷ []) (an_atom false (deeper s) ∷ mark (codes ")") ∷ []) at (at + 1) halt
          (negated-open r names level at t s k n h low)
          (ends-under r (an_atom false (deeper s)) (mark (codes ")") ∷ []) (at + 1) halt (u.by (deeper s) (Suits-deeper r names level deep s k e)));
    }

negated-closing :
    (r : Reader) (names : List Name) (level deep at next : ℕ) (t : Lexeme) (f : FormulaTree) (s : Surroundings)
    → IsNext r at t → is_mark (codes "(") t ≡ true → deep ≡ level + 1 → level < r.limit
    → ReadsAtom false r names deep (at + 1) next f → Suits r names level s
    → Leads r (a_plain_literal s ∷ []) at (mark (codes ")") ∷ []) next
negated-closing r names level deep at next t f s n h e low u k =
    leads-then r (a_plain_literal s ∷ []) (an_atom false (deeper s) ∷ mark (codes ")") ∷ []) (mark (codes ")") ∷ []) at (at + 1) next
    (negated-open r names level at t s k n h low)
    (leads-under r (an_atom false (deeper s)) [] (mark (codes ")") ∷ []) (at + 1) next (u.leads.by (deeper s) (Suits-deeper r names level deep s k e)))

pub negated-unclosed :
    (r : Reader) (names : List Name) (level deep at next : ℕ) (t : Lexeme) (f : FormulaTree) (halt : Halt)
    → IsNext r at t → is_mark (codes "(") t ≡ true → deep ≡ level + 1 → level < r.limit
    → ReadsAtom false r names deep (at + 1) next f → Ends r (mark (codes ")") ∷ []) next halt
    → Halts r (one a_plain_literal) names level at halt
negated-unclosed r names level deep at next t f halt n h e low u g =
    record {
      by = λ s k.
          ends-after r (a_plain_literal s ∷ []) (mark (codes ")") ∷ []) at next halt
          (negated-closing r names level deep at next t f s n h e low u k) g;
    }

pub negated-bracketed-read :
    (r : Reader) (names : List Name) (level deep at next after : ℕ) (t : Lexeme) (f : FormulaTree)
    → IsNext r at t → is_mark (codes "(") t ≡ true → deep ≡ level + 1 → level < r.limit
    → ReadsAtom false r names deep (at + 1) next f
    → after ≡ next + 1 → IsNext r next (lexeme Mark (codes ")")) → Leads r (mark (codes ")") ∷ []) next [] after
    → ReadsNegated r names level at after f
negated-bracketed-read r names level deep at next after t f n h e low u i m g =
    record {
      phrase = record { bracketed = true; atom = u.phrase };
      spelled =
          n.here ∙ ap (λ v. v ∷ drop (at + 1) (lexemes r)) (lexeme-is Mark (codes "(") t h)
          ∙ ap (λ us. lexeme Mark (codes "(") ∷ us) u.spelled
          ∙ ap (λ us. lexeme Mark (codes "(") ∷ atom_lexemes u.phrase.atom us) (m.here ∙ ap (λ p. lexeme Mark (codes ")") ∷ drop p (lexemes r)) (sym i));
      meant = u.meant;
      leads = record {
        by = λ s k.
            leads-then r (a_plain_literal s ∷ []) (mark (codes ")") ∷ []) [] at next after
            (negated-closing r names level deep at next t f s n h e low u k) g;
        onward = omega (arith, u.leads.onward);
      };
    }

pub negated-plain-read :
    (r : Reader) (names : List Name) (level at next : ℕ) (t : Lexeme) (f : FormulaTree)
    → IsNext r at t → is_mark (codes "(") t ≡ false → ReadsAtom false r names level at next f → ReadsNegated r names level at next f
negated-plain-read r names level at next t f n h a =
    record {
      phrase = record { bracketed = false; atom = a.phrase };
      spelled = a.spelled;
      meant = a.meant;
      leads = record {
        by = λ s k.
            leads-then r (a_plain_literal s ∷ []) (an_atom false s ∷ []) [] at at next (plain-as_atom r at s t n h) (a.leads.by s k);
        onward = a.leads.onward;
      };
    }

pub negated-plain-halted :
    (r : Reader) (names : List Name) (level at : ℕ) (t : Lexeme) (halt : Halt)
    → IsNext r at t → is_mark (codes "(") t ≡ false → Halts r (one (an_atom false)) names level at halt
    → Halts r (one a_plain_literal) names level at halt
negated-plain-halted r names level at t halt n h a =
    record {
      by = λ s k. ends-after r (a_plain_literal s ∷ []) (an_atom false s ∷ []) at at halt (plain-as_atom r at s t n h) (a.by s k);
    }

-- ---- literals

literal-open :
    (r : Reader) (names : List Name) (level at : ℕ) (t : Lexeme) (s : Surroundings)
    → Suits r names level s → IsNext r at t → is_connective (codes "~") t ≡ true → level < r.limit
    → Leads r (a_literal s ∷ []) at (a_plain_literal (deeper s) ∷ []) (at + 1)
literal-open r names level at t s k n h low =
    level-leads r at names level s (a_literal s) t (a_plain_literal (deeper s) ∷ []) k n (literal_not-step s t h) low

pub literal-too_deep :
    (r : Reader) (names : List Name) (level at : ℕ) (t : Lexeme) (halt : Halt)
    → IsNext r at t → is_connective (codes "~") t ≡ true → halt ≡ At Nesting at → r.limit ≤ level
    → Halts r (one a_literal) names level at halt
literal-too_deep r names level at t halt n h e high =
    record {
      by = λ s k.
          halt-is r (a_literal s ∷ []) at halt (At Nesting at) e
          (level-ends r at names level s (a_literal s) t (a_plain_literal (deeper s) ∷ []) k n (literal_not-step s t h) high);
    }

pub literal-negated-halted :
    (r : Reader) (names : List Name) (level deep at : ℕ) (t : Lexeme) (halt : Halt)
    → IsNext r at t → is_connective (codes "~") t ≡ true → deep ≡ level + 1 → level < r.limit
    → Halts r (one a_plain_literal) names deep (at + 1) halt → Halts r (one a_literal) names level at halt
literal-negated-halted r names level deep at t halt n h e low u =
    record {
      by = λ s k.
          ends-after r (a_literal s ∷ []) (a_plain_literal (deeper s) ∷ []) at (at + 1) halt
          (literal-open r names level at t s k n h low) (u.by (deeper s) (Suits-deeper r names level deep s k e));
    }

-- the literal of `~` and what stands behind it
literal_of : Bool → AllowedAtom false → LiteralPhrase
literal_of true a = negated_in_brackets (plain_of a.atom)
literal_of false a = negated_literal (plain_of a.atom)

literal-spelled :
    (b : Bool) (a : AllowedAtom false) (rest : List Lexeme)
    → lexeme Connective (codes "~") ∷ negated_lexemes_by b a.atom rest ≡ literal_lexemes (literal_of b a) rest
unfolding literal_of
literal-spelled true a rest =
    ap (λ b. lexeme Connective (codes "~") ∷ lexeme Mark (codes "(") ∷ atom_lexemes b (lexeme Mark (codes ")") ∷ rest)) (sym (atom-plain a.atom a.allowed))
literal-spelled false a rest =
    ap (λ b. lexeme Connective (codes "~") ∷ atom_lexemes b rest) (sym (atom-plain a.atom a.allowed))

literal-meant : (b : Bool) (a : AllowedAtom false) → literal_meant (literal_of b a) ≡ negation (atom_meant a.atom)
unfolding literal_of
literal-meant true a = ap (λ b. negation (atom_meant b)) (atom-plain a.atom a.allowed)
literal-meant false a = ap (λ b. negation (atom_meant b)) (atom-plain a.atom a.allowed)

pub literal-negated-read :
    (r : Reader) (names : List Name) (level deep at next : ℕ) (t : Lexeme) (f boxed : FormulaTree)
    → IsNext r at t → is_connective (codes "~") t ≡ true → deep ≡ level + 1 → level < r.limit
    → ReadsNegated r names deep (at + 1) next f → boxed ≡ f → ReadsLiteral r names level at next (negation boxed)
literal-negated-read r names level deep at next t f boxed n h e low u g =
    record {
      phrase = literal_of u.phrase.bracketed u.phrase.atom;
      spelled =
          n.here ∙ ap (λ v. v ∷ drop (at + 1) (lexemes r)) (lexeme-is Connective (codes "~") t h)
          ∙ ap (λ us. lexeme Connective (codes "~") ∷ us) u.spelled
          ∙ literal-spelled u.phrase.bracketed u.phrase.atom (drop next (lexemes r));
      meant = literal-meant u.phrase.bracketed u.phrase.atom ∙ ap negation (u.meant ∙ sym g);
      leads = record {
        by = λ s k.
            leads-then r (a_literal s ∷ []) (a_plain_literal (deeper s) ∷ []) [] at (at + 1) next
            (literal-open r names level at t s k n h low) (u.leads.by (deeper s) (Suits-deeper r names level deep s k e));
        onward = omega (arith, u.leads.onward);
      };
    }

pub literal-atom-read :
    (r : Reader) (names : List Name) (level at next : ℕ) (t : Lexeme) (f : FormulaTree)
    → IsNext r at t → is_connective (codes "~") t ≡ false → ReadsAtom true r names level at next f → ReadsLiteral r names level at next f
literal-atom-read r names level at next t f n h a =
    record {
      phrase = positive_literal a.phrase.atom;
      spelled = a.spelled;
      meant = a.meant;
      leads = record {
        by = λ s k. leads-then r (a_literal s ∷ []) (an_atom true s ∷ []) [] at at next (literal-as_atom r at s t n h) (a.leads.by s k);
        onward = a.leads.onward;
      };
    }

pub literal-atom-halted :
    (r : Reader) (names : List Name) (level at : ℕ) (t : Lexeme) (halt : Halt)
    → IsNext r at t → is_connective (codes "~") t ≡ false → Halts r (one (an_atom true)) names level at halt
    → Halts r (one a_literal) names level at halt
literal-atom-halted r names level at t halt n h a =
    record { by = λ s k. ends-after r (a_literal s ∷ []) (an_atom true s ∷ []) at at halt (literal-as_atom r at s t n h) (a.by s k) }

-- ---- literals with `|` between them

pub literals-first :
    (first v : FormulaTree) (r : Reader) (names : List Name) (level at next : ℕ) (none one_of new : List FormulaTree)
    → ReadsLiteral r names level at next v → none ≡ [] → one_of ≡ none ++ first ∷ [] → new ≡ one_of ++ v ∷ []
    → SoFar literal_lexemes literal_meant (lexeme Connective (codes "|")) r further_literals (one maybe_more_literals) names level at next (first ∷ []) new
literals-first first v r names level at next none one_of new h e g k =
    sofar-first literal_lexemes literal_meant (lexeme Connective (codes "|")) r a_literal maybe_more_literals names level at next v (first ∷ []) new h
    (k ∙ ap (λ fs. fs ++ v ∷ []) (g ∙ ap (λ fs. fs ++ first ∷ []) e))

pub literals-more :
    (first v : FormulaTree) (r : Reader) (names : List Name) (level at next after : ℕ) (values new : List FormulaTree) (t : Lexeme)
    → SoFar literal_lexemes literal_meant (lexeme Connective (codes "|")) r further_literals (one maybe_more_literals) names level at next (first ∷ []) values
    → IsNext r next t → is_connective (codes "|") t ≡ true → ReadsLiteral r names level (next + 1) after v → new ≡ values ++ v ∷ []
    → SoFar literal_lexemes literal_meant (lexeme Connective (codes "|")) r further_literals (one maybe_more_literals) names level at after (first ∷ []) new
literals-more first v r names level at next after values new t g n h k e =
    sofar-more literal_lexemes literal_meant (lexeme Connective (codes "|")) r further_literals a_literal maybe_more_literals names level at next after v (first ∷ []) values new
    g (next-is r next t (lexeme Connective (codes "|")) n (lexeme-is Connective (codes "|") t h)) (λ s f. bar-leads r next s t n h) k e

pub literals-read :
    (first : FormulaTree) (r : Reader) (names : List Name) (level at next : ℕ) (values : List FormulaTree) (t : Lexeme)
    → SoFar literal_lexemes literal_meant (lexeme Connective (codes "|")) r further_literals (one maybe_more_literals) names level at next (first ∷ []) values
    → IsNext r next t → is_connective (codes "|") t ≡ false
    → ReadsLiterals first r names level at next values
literals-read first r names level at next values t g n h =
    sofar-ended literal_lexemes literal_meant (lexeme Connective (codes "|")) r further_literals maybe_more_literals names level at next (first ∷ []) values
    g (λ s f. no_bar-leads r next s t n h)

pub literals-cut_off :
    (first : FormulaTree) (r : Reader) (names : List Name) (level at next : ℕ) (values : List FormulaTree) (halt : Halt)
    → SoFar literal_lexemes literal_meant (lexeme Connective (codes "|")) r further_literals (one maybe_more_literals) names level at next (first ∷ []) values
    → ((x : Symbol) → Ends r (x ∷ []) next halt)
    → Halts r further_literals names level at halt
literals-cut_off first r names level at next values halt g ends =
    sofar-halts literal_lexemes literal_meant (lexeme Connective (codes "|")) r further_literals maybe_more_literals names level at next (first ∷ []) values halt
    g (λ s f. ends (maybe_more_literals s))

pub literals-halted :
    (first : FormulaTree) (r : Reader) (names : List Name) (level at next : ℕ) (values : List FormulaTree) (t : Lexeme) (halt : Halt)
    → SoFar literal_lexemes literal_meant (lexeme Connective (codes "|")) r further_literals (one maybe_more_literals) names level at next (first ∷ []) values
    → IsNext r next t → is_connective (codes "|") t ≡ true
    → Halts r (one a_literal) names level (next + 1) halt
    → Halts r further_literals names level at halt
literals-halted first r names level at next values t halt g n h k =
    sofar-item-halts literal_lexemes literal_meant (lexeme Connective (codes "|")) r further_literals a_literal maybe_more_literals names level at next (first ∷ []) values halt
    g (λ s f. bar-leads r next s t n h) k

-- ---- clauses without brackets

further-spelled :
    (ls : List LiteralPhrase) (rest : List Lexeme)
    → further literal_lexemes (lexeme Connective (codes "|")) ls rest ≡ more_literals_lexemes ls rest
further-spelled [] rest = refl
further-spelled (l ∷ ls) rest = ap (λ ts. lexeme Connective (codes "|") ∷ literal_lexemes l ts) (further-spelled ls rest)

literals-meant : (ls : List LiteralPhrase) → literals_meant ls ≡ formulas_of (map literal_meant ls)
literals-meant [] = refl
literals-meant (l ∷ ls) = ap (formula_then (literal_meant l)) (literals-meant ls)

pending-leads :
    (r : Reader) (names : List Name) (level at after : ℕ) (f : FormulaTree) (s : Surroundings)
    → ReadsLiteral r names level at after f → Suits r names level s → Leads r (further_literals s) at (maybe_more_literals s ∷ []) after
pending-leads r names level at after f s u k = leads-under r (a_literal s) [] (maybe_more_literals s ∷ []) at after (u.leads.by s k)

pub literals-first-halted :
    (r : Reader) (names : List Name) (level at : ℕ) (halt : Halt)
    → Halts r (one a_literal) names level at halt → Halts r further_literals names level at halt
literals-first-halted r names level at halt h = first-halts r a_literal maybe_more_literals names level at halt h

pub literals-out :
    (r : Reader) (names : List Name) (level at after : ℕ) (f : FormulaTree) (halt : Halt)
    → ReadsLiteral r names level at after f → ((x : Symbol) → Ends r (x ∷ []) after halt)
    → Halts r further_literals names level at halt
literals-out r names level at after f halt u ends =
    record {
      by = λ s k.
          ends-after r (further_literals s) (maybe_more_literals s ∷ []) at after halt (pending-leads r names level at after f s u k)
          (ends (maybe_more_literals s));
    }

pub one_literal-read :
    (r : Reader) (names : List Name) (level at after : ℕ) (t : Lexeme) (f : FormulaTree)
    → ReadsLiteral r names level at after f → IsNext r after t → is_connective (codes "|") t ≡ false
    → ReadsPlainClause r names level at after f
one_literal-read r names level at after t f u n h =
    record {
      phrase = record { first = u.phrase; others = [] };
      spelled = u.spelled;
      meant = u.meant;
      leads = record {
        by = λ s k.
            leads-then r (further_literals s) (maybe_more_literals s ∷ []) [] at after after
            (pending-leads r names level at after f s u k) (no_bar-leads r after s t n h);
        onward = u.leads.onward;
      };
    }

pub more_literals-halted :
    (r : Reader) (names : List Name) (level at after : ℕ) (t : Lexeme) (f : FormulaTree) (halt : Halt)
    → ReadsLiteral r names level at after f → IsNext r after t → is_connective (codes "|") t ≡ true
    → Halts r further_literals names level (after + 1) halt → Halts r further_literals names level at halt
more_literals-halted r names level at after t f halt u n h g =
    record {
      by = λ s k.
          ends-after r (further_literals s) (maybe_more_literals s ∷ []) at after halt (pending-leads r names level at after f s u k)
          (ends-after r (maybe_more_literals s ∷ []) (further_literals s) after (after + 1) halt (bar-leads r after s t n h) (g.by s k));
    }

pub more_literals-read :
    (r : Reader) (names : List Name) (level at after next : ℕ) (t : Lexeme) (first : FormulaTree) (values : List FormulaTree)
    → ReadsLiteral r names level at after first → IsNext r after t → is_connective (codes "|") t ≡ true
    → ReadsLiterals first r names level (after + 1) next values
    → ReadsPlainClause r names level at next (disjunction (formulas_of values))
more_literals-read r names level at after next t first values u n h g =
    let more = g.phrase in
    record {
      phrase = record { first = u.phrase; others = more.first ∷ more.others };
      spelled =
          u.spelled
          ∙ ap (literal_lexemes u.phrase)
          (n.here ∙ ap (λ v. v ∷ drop (after + 1) (lexemes r)) (lexeme-is Connective (codes "|") t h)
          ∙ ap (λ us. lexeme Connective (codes "|") ∷ us)
          (g.spelled ∙ ap (literal_lexemes more.first) (further-spelled more.others (drop next (lexemes r)))));
      meant =
          ap disjunction
          (ap₂ formula_then u.meant (ap (formula_then (literal_meant more.first)) (literals-meant more.others))
          ∙ ap formulas_of g.meant);
      leads = record {
        by = λ s k.
            leads-then r (further_literals s) (maybe_more_literals s ∷ []) [] at after next
            (pending-leads r names level at after first s u k)
            (leads-then r (maybe_more_literals s ∷ []) (further_literals s) [] after (after + 1) next (bar-leads r after s t n h) (g.leads.by s k));
        onward = omega (arith, u.leads.onward, g.leads.onward);
      };
    }

-- ---- clauses

clause-open :
    (r : Reader) (names : List Name) (level at : ℕ) (t : Lexeme) (s : Surroundings)
    → Suits r names level s → IsNext r at t → is_mark (codes "(") t ≡ true → level < r.limit
    → Leads r (a_clause s ∷ []) at (a_clause (deeper s) ∷ mark (codes ")") ∷ []) (at + 1)
clause-open r names level at t s k n h low =
    level-leads r at names level s (a_clause s) t (a_clause (deeper s) ∷ mark (codes ")") ∷ []) k n (clause_open-step s t h) low

pub clause-too_deep :
    (r : Reader) (names : List Name) (level at : ℕ) (t : Lexeme) (halt : Halt)
    → IsNext r at t → is_mark (codes "(") t ≡ true → halt ≡ At Nesting at → r.limit ≤ level
    → Halts r (one a_clause) names level at halt
clause-too_deep r names level at t halt n h e high =
    record {
      by = λ s k.
          halt-is r (a_clause s ∷ []) at halt (At Nesting at) e
          (level-ends r at names level s (a_clause s) t (a_clause (deeper s) ∷ mark (codes ")") ∷ []) k n (clause_open-step s t h) high);
    }

pub clause-inside-halted :
    (r : Reader) (names : List Name) (level deep at : ℕ) (t : Lexeme) (halt : Halt)
    → IsNext r at t → is_mark (codes "(") t ≡ true → deep ≡ level + 1 → level < r.limit
    → Halts r (one a_clause) names deep (at + 1) halt → Halts r (one a_clause) names level at halt
clause-inside-halted r names level deep at t halt n h e low u =
    record {
      by = λ s k.
          ends-after r (a_clause s ∷ []) (a_clause (deeper s) ∷ mark (codes ")") ∷ []) at (at + 1) halt
          (clause-open r names level at t s k n h low)
          (ends-under r (a_clause (deeper s)) (mark (codes ")") ∷ []) (at + 1) halt (u.by (deeper s) (Suits-deeper r names level deep s k e)));
    }

clause-closing :
    (r : Reader) (names : List Name) (level deep at next : ℕ) (t : Lexeme) (f : FormulaTree) (s : Surroundings)
    → IsNext r at t → is_mark (codes "(") t ≡ true → deep ≡ level + 1 → level < r.limit
    → ReadsClause r names deep (at + 1) next f → Suits r names level s
    → Leads r (a_clause s ∷ []) at (mark (codes ")") ∷ []) next
clause-closing r names level deep at next t f s n h e low u k =
    leads-then r (a_clause s ∷ []) (a_clause (deeper s) ∷ mark (codes ")") ∷ []) (mark (codes ")") ∷ []) at (at + 1) next
    (clause-open r names level at t s k n h low)
    (leads-under r (a_clause (deeper s)) [] (mark (codes ")") ∷ []) (at + 1) next (u.leads.by (deeper s) (Suits-deeper r names level deep s k e)))

pub clause-unclosed :
    (r : Reader) (names : List Name) (level deep at next : ℕ) (t : Lexeme) (f : FormulaTree) (halt : Halt)
    → IsNext r at t → is_mark (codes "(") t ≡ true → deep ≡ level + 1 → level < r.limit
    → ReadsClause r names deep (at + 1) next f → Ends r (mark (codes ")") ∷ []) next halt
    → Halts r (one a_clause) names level at halt
clause-unclosed r names level deep at next t f halt n h e low u g =
    record {
      by = λ s k.
          ends-after r (a_clause s ∷ []) (mark (codes ")") ∷ []) at next halt
          (clause-closing r names level deep at next t f s n h e low u k) g;
    }

pub clause-bracketed-read :
    (r : Reader) (names : List Name) (level deep at next after : ℕ) (t : Lexeme) (f : FormulaTree)
    → IsNext r at t → is_mark (codes "(") t ≡ true → deep ≡ level + 1 → level < r.limit
    → ReadsClause r names deep (at + 1) next f
    → after ≡ next + 1 → IsNext r next (lexeme Mark (codes ")")) → Leads r (mark (codes ")") ∷ []) next [] after
    → ReadsClause r names level at after f
clause-bracketed-read r names level deep at next after t f n h e low u i m g =
    record {
      phrase = clause_in_brackets u.phrase;
      spelled =
          n.here ∙ ap (λ v. v ∷ drop (at + 1) (lexemes r)) (lexeme-is Mark (codes "(") t h)
          ∙ ap (λ us. lexeme Mark (codes "(") ∷ us) u.spelled
          ∙ ap (λ us. lexeme Mark (codes "(") ∷ clause_lexemes u.phrase us) (m.here ∙ ap (λ p. lexeme Mark (codes ")") ∷ drop p (lexemes r)) (sym i));
      meant = u.meant;
      leads = record {
        by = λ s k.
            leads-then r (a_clause s ∷ []) (mark (codes ")") ∷ []) [] at next after
            (clause-closing r names level deep at next t f s n h e low u k) g;
        onward = omega (arith, u.leads.onward);
      };
    }

pub clause-plain-read :
    (r : Reader) (names : List Name) (level at next : ℕ) (t : Lexeme) (f : FormulaTree)
    → IsNext r at t → is_mark (codes "(") t ≡ false → ReadsPlainClause r names level at next f → ReadsClause r names level at next f
clause-plain-read r names level at next t f n h a =
    record {
      phrase = plain_clause a.phrase;
      spelled = a.spelled;
      meant = a.meant;
      leads = record {
        by = λ s k. leads-then r (a_clause s ∷ []) (further_literals s) [] at at next (clause-as_literals r at s t n h) (a.leads.by s k);
        onward = a.leads.onward;
      };
    }

pub clause-plain-halted :
    (r : Reader) (names : List Name) (level at : ℕ) (t : Lexeme) (halt : Halt)
    → IsNext r at t → is_mark (codes "(") t ≡ false → Halts r further_literals names level at halt
    → Halts r (one a_clause) names level at halt
clause-plain-halted r names level at t halt n h a =
    record { by = λ s k. ends-after r (a_clause s ∷ []) (further_literals s) at at halt (clause-as_literals r at s t n h) (a.by s k) }
