-- Steps of reading the variables of a quantifier and its unit.
use Rattle.std.proofs.Common.{◌≡◌, ◌<◌, ◌≤◌, ℕ, ◌+◌, Bool, true, false, List, [], ◌∷◌, ◌++◌, drop, take, length, refl, sym, ap, ◌∙◌, arith, subst, append_assoc, codes}
use Rattle.std.proofs.lemmas.List.{map-append}
use Rattle.tptp_token.specs.Lexemes.{Lexeme, is_mark, lexeme}
use Rattle.tptp_token.specs.declared.token.Kind.TheVariants.{Variable, Mark}
use Rattle.tptp_tree.specs.Formula.{FormulaTree, quantified}
use Rattle.tptp_tree.specs.Spelling.{Variables, variables_lexemes, more_variables_lexemes, unit_meant}
use Rattle.tptp_tree.specs.Causes.{Surroundings, binding}
use Rattle.tptp_reader.specs.Machine.{Symbol, mark, a_unit, variables_bracket, next_variable, more_variables}
use Rattle.tptp_token.specs.Words.{is_variable}
use Rattle.tptp_reader.specs.Telling.{lexemes, IsNext, Leads, Ends, Suits, Halts, one, ReadsUnit, texts_of, quantifier_of, ReadsBound, ReadsVariables, ReadsVariable, HaltsVariable, Binds, BindsOne}
use Rattle.tptp_reader.specs.declared.source.Reader.{Reader}
use Rattle.tptp_reader.specs.declared.source.Name.{Name}
use Rattle.tptp_reader.specs.declared.cause.Halt.{Halt}
use Rattle.tptp_reader.specs.declared.cause.Halt.TheVariants.{NoMemory, At}
use Rattle.tptp_reader.specs.declared.cause.Refusal.TheVariants.{Syntax, Nesting}
use Rattle.tptp_reader.proofs.AboutTexts.TellingLemmas.{leads-then, leads-under, ends-under, ends-after, memory-ends, halt-is}
use Rattle.tptp_reader.proofs.AboutSteps.StepLemmas.{variable-spelled}
use Rattle.tptp_reader.proofs.AboutRuns.LoopLemmas.{mark-is, next-is}
use Rattle.tptp_reader.proofs.AboutSteps.FormulaSteps.{bracket-leads, bracket-too_deep, bracket-ends, variable-leads, no_variable-ends, comma-leads, close-leads, variables-end, Suits-binding}

-- ---- one variable

pub one_variable-read :
    (r : Reader) (at : ℕ) (before behind : List (List ℕ)) (t : Lexeme) (name : List ℕ)
    → IsNext r at t → is_variable t.kind ≡ true → name ≡ t.bytes → behind ≡ before ++ name ∷ []
    → ReadsVariable r at (at + 1) before behind
one_variable-read r at before behind t name n h e g =
    let is = variable-spelled t.kind t.bytes h in
    let grown : behind ≡ before ++ t.bytes ∷ [] = g ∙ ap (λ x. before ++ x ∷ []) e in
    record {
      name = t.bytes;
      here = next-is r at t (lexeme Variable t.bytes) n is;
      grown = grown;
      leads = λ s.
          subst (λ (xs : List (List ℕ)). Leads r (next_variable before s ∷ []) at (more_variables xs s ∷ []) (at + 1)) (sym grown)
          (variable-leads r at before s t n is);
      next_is = refl;
    }

pub no_variable-halted :
    (r : Reader) (at : ℕ) (before : List (List ℕ)) (t : Lexeme)
    → IsNext r at t → is_variable t.kind ≡ false → HaltsVariable r at before (At Syntax at)
no_variable-halted r at before t n h = record { by = λ s. no_variable-ends r at before s t n h }

pub variable_out-halted : (r : Reader) (at : ℕ) (before : List (List ℕ)) (halt : Halt) → ((x : Symbol) → Ends r (x ∷ []) at halt) → HaltsVariable r at before halt
variable_out-halted r at before halt ends = record { by = λ s. ends (next_variable before s) }

pub variable_memory-halted : (r : Reader) (at : ℕ) (before : List (List ℕ)) (halt : Halt) → halt ≡ NoMemory → HaltsVariable r at before halt
variable_memory-halted r at before halt e = record { by = λ s. memory-ends r (next_variable before s ∷ []) at halt e }

-- ---- variables between commas

pub record VariablesSoFar (r : Reader) (names bound : List Name) (level at next : ℕ) (texts : List (List ℕ)) : Type 0 where
  pub variables : Variables
  pub are : texts_of variables ≡ texts
  pub spelled : drop at (lexemes r) ≡ lexeme Mark (codes "[") ∷ variables_lexemes variables (drop next (lexemes r))
  pub leads :
      (s : Surroundings) → Suits r names level s → Leads r (variables_bracket s ∷ []) at (more_variables texts s ∷ []) next
  pub binds : Binds names bound texts
  pub onward : at ≤ next

binds-more :
    (names old new : List Name) (texts behind : List (List ℕ)) → Binds names old texts → BindsOne old new texts behind → Binds names new behind
binds-more names old new texts behind b o =
    record {
      added = b.added ++ o.name ∷ [];
      grown = o.grown ∙ ap (λ ns. ns ++ o.name ∷ []) b.grown ∙ append_assoc names b.added (o.name ∷ []);
      named =
          map-append (λ (n : Name). n.bytes.now) b.added (o.name ∷ []) ∙ ap (λ xs. xs ++ o.name.bytes.now ∷ []) b.named
          ∙ sym o.named;
    }

pub variables-first :
    (r : Reader) (names old new : List Name) (level at next : ℕ) (before behind : List (List ℕ)) (t : Lexeme)
    → IsNext r at t → is_mark (codes "[") t ≡ true → level < r.limit
    → ReadsVariable r (at + 1) next before behind → before ≡ [] → BindsOne old new before behind → old ≡ names
    → VariablesSoFar r names new level at next behind
variables-first r names old new level at next before behind t n h low v e o i =
    let one_is : v.name ∷ [] ≡ behind = sym (v.grown ∙ ap (λ xs. xs ++ v.name ∷ []) e) in
    record {
      variables = record { first = v.name; others = [] };
      are = one_is;
      spelled =
          n.here ∙ ap (λ u. u ∷ drop (at + 1) (lexemes r)) (mark-is (codes "[") t h)
          ∙ ap (λ us. lexeme Mark (codes "[") ∷ us) v.here.here
          ∙ ap (λ p. lexeme Mark (codes "[") ∷ lexeme Variable v.name ∷ drop p (lexemes r)) (sym v.next_is);
      leads = λ s f.
          leads-then r (variables_bracket s ∷ []) (next_variable [] s ∷ []) (more_variables behind s ∷ []) at (at + 1) next
          (bracket-leads r at names level s t f n h low)
          (subst (λ (xs : List (List ℕ)). Leads r (next_variable xs s ∷ []) (at + 1) (more_variables behind s ∷ []) next) e (v.leads s));
      binds =
          binds-more names old new before behind
          (record { added = []; grown = i ∙ sym (append-nil names); named = sym e }) o;
      onward = omega (arith, v.next_is);
    }
  where
    append-nil : (ns : List Name) → ns ++ [] ≡ ns
    append-nil [] = refl
    append-nil (m ∷ ns) = ap (λ ms. m ∷ ms) (append-nil ns)

more-push :
    (xs : List (List ℕ)) (x : List ℕ) (rest : List Lexeme)
    → more_variables_lexemes (xs ++ x ∷ []) rest ≡ more_variables_lexemes xs (lexeme Mark (codes ",") ∷ lexeme Variable x ∷ rest)
more-push [] x rest = refl
more-push (y ∷ ys) x rest = ap (λ ts. lexeme Mark (codes ",") ∷ lexeme Variable y ∷ ts) (more-push ys x rest)

pub variables-more :
    (r : Reader) (names old new : List Name) (level at next after : ℕ) (texts behind : List (List ℕ)) (t : Lexeme)
    → VariablesSoFar r names old level at next texts
    → IsNext r next t → is_mark (codes ",") t ≡ true
    → ReadsVariable r (next + 1) after texts behind → BindsOne old new texts behind
    → VariablesSoFar r names new level at after behind
variables-more r names old new level at next after texts behind t g n h v o =
    record {
      variables = record { first = g.variables.first; others = g.variables.others ++ v.name ∷ [] };
      are = ap (λ xs. xs ++ v.name ∷ []) g.are ∙ sym v.grown;
      spelled =
          g.spelled
          ∙ ap (λ us. lexeme Mark (codes "[") ∷ variables_lexemes g.variables us)
          (n.here ∙ ap (λ u. u ∷ drop (next + 1) (lexemes r)) (mark-is (codes ",") t h)
          ∙ ap (λ us. lexeme Mark (codes ",") ∷ us) v.here.here
          ∙ ap (λ p. lexeme Mark (codes ",") ∷ lexeme Variable v.name ∷ drop p (lexemes r)) (sym v.next_is))
          ∙ ap (λ us. lexeme Mark (codes "[") ∷ lexeme Variable g.variables.first ∷ us)
          (sym (more-push g.variables.others v.name (drop after (lexemes r))));
      leads = λ s f.
          leads-then r (variables_bracket s ∷ []) (more_variables texts s ∷ []) (more_variables behind s ∷ []) at next after (g.leads s f)
          (leads-then r (more_variables texts s ∷ []) (next_variable texts s ∷ []) (more_variables behind s ∷ []) next (next + 1) after
          (comma-leads r next texts s t n h) (v.leads s));
      binds = binds-more names old new texts behind g.binds o;
      onward = omega (arith, g.onward, v.next_is);
    }

pub variables-read :
    (r : Reader) (names bound : List Name) (level at next : ℕ) (texts : List (List ℕ)) (t : Lexeme)
    → VariablesSoFar r names bound level at next texts
    → IsNext r next t → is_mark (codes "]") t ≡ true
    → ReadsVariables r names level at (next + 1) texts
variables-read r names bound level at next texts t g n h =
    let is = mark-is (codes "]") t h in
    record {
      variables = g.variables;
      are = g.are;
      spelled =
          g.spelled
          ∙ ap (λ us. lexeme Mark (codes "[") ∷ variables_lexemes g.variables us) (n.here ∙ ap (λ u. u ∷ drop (next + 1) (lexemes r)) is);
      leads = λ s f.
          leads-then r (variables_bracket s ∷ []) (more_variables texts s ∷ []) (mark (codes ":") ∷ a_unit (binding texts s) ∷ []) at next (next + 1)
          (g.leads s f) (close-leads r next texts s t n is);
      onward = omega (arith, g.onward);
    }

pub variables-refused :
    (r : Reader) (names bound : List Name) (level at next : ℕ) (texts : List (List ℕ)) (t : Lexeme)
    → VariablesSoFar r names bound level at next texts
    → IsNext r next t → is_mark (codes "]") t ≡ false → is_mark (codes ",") t ≡ false
    → Halts r (one variables_bracket) names level at (At Syntax next)
variables-refused r names bound level at next texts t g n h k =
    record {
      by = λ s f.
          ends-after r (variables_bracket s ∷ []) (more_variables texts s ∷ []) at next (At Syntax next) (g.leads s f)
          (variables-end r next texts s t n h k);
    }

pub variables-cut_off :
    (r : Reader) (names bound : List Name) (level at next : ℕ) (texts : List (List ℕ)) (halt : Halt)
    → VariablesSoFar r names bound level at next texts → ((x : Symbol) → Ends r (x ∷ []) next halt)
    → Halts r (one variables_bracket) names level at halt
variables-cut_off r names bound level at next texts halt g ends =
    record {
      by = λ s f.
          ends-after r (variables_bracket s ∷ []) (more_variables texts s ∷ []) at next halt (g.leads s f) (ends (more_variables texts s));
    }

pub variables-halted :
    (r : Reader) (names bound : List Name) (level at next : ℕ) (texts : List (List ℕ)) (t : Lexeme) (halt : Halt)
    → VariablesSoFar r names bound level at next texts
    → IsNext r next t → is_mark (codes ",") t ≡ true → HaltsVariable r (next + 1) texts halt
    → Halts r (one variables_bracket) names level at halt
variables-halted r names bound level at next texts t halt g n h v =
    record {
      by = λ s f.
          ends-after r (variables_bracket s ∷ []) (more_variables texts s ∷ []) at next halt (g.leads s f)
          (ends-after r (more_variables texts s ∷ []) (next_variable texts s ∷ []) next (next + 1) halt (comma-leads r next texts s t n h) (v.by s));
    }

pub bracket-halted :
    (r : Reader) (names : List Name) (level at : ℕ) (t : Lexeme)
    → IsNext r at t → is_mark (codes "[") t ≡ false → Halts r (one variables_bracket) names level at (At Syntax at)
bracket-halted r names level at t n h = record { by = λ s f. bracket-ends r at s t n h }

pub bracket_deep-halted :
    (r : Reader) (names : List Name) (level at : ℕ) (t : Lexeme) (halt : Halt)
    → IsNext r at t → is_mark (codes "[") t ≡ true → halt ≡ At Nesting at → r.limit ≤ level
    → Halts r (one variables_bracket) names level at halt
bracket_deep-halted r names level at t halt n h e high =
    record { by = λ s f. halt-is r (variables_bracket s ∷ []) at halt (At Nesting at) e (bracket-too_deep r at names level s t f n h high) }

pub first_variable-halted :
    (r : Reader) (names : List Name) (level at : ℕ) (before : List (List ℕ)) (t : Lexeme) (halt : Halt)
    → IsNext r at t → is_mark (codes "[") t ≡ true → level < r.limit → before ≡ [] → HaltsVariable r (at + 1) before halt
    → Halts r (one variables_bracket) names level at halt
first_variable-halted r names level at before t halt n h low e v =
    record {
      by = λ s f.
          ends-after r (variables_bracket s ∷ []) (next_variable [] s ∷ []) at (at + 1) halt (bracket-leads r at names level s t f n h low)
          (subst (λ (xs : List (List ℕ)). Ends r (next_variable xs s ∷ []) (at + 1) halt) e (v.by s));
    }

-- ---- a quantifier's unit

pub bound-read :
    (all : Bool) (r : Reader) (names bound : List Name) (level at next colon after : ℕ) (texts : List (List ℕ)) (inner body f : FormulaTree)
    → ReadsVariables r names level at next texts → Binds names bound texts
    → colon ≡ next + 1 → IsNext r next (lexeme Mark (codes ":")) → Leads r (mark (codes ":") ∷ []) next [] colon
    → ReadsUnit r bound level colon after inner
    → body ≡ inner → f ≡ quantified (quantifier_of all) texts body
    → ReadsBound all r names level at after f
bound-read all r names bound level at next colon after texts inner body f v b i n g u d e =
    record {
      phrase = record { variables = v.variables; unit = u.phrase };
      spelled =
          v.spelled
          ∙ ap (λ us. lexeme Mark (codes "[") ∷ variables_lexemes v.variables (lexeme Mark (codes "]") ∷ us))
          (n.here ∙ ap (λ p. lexeme Mark (codes ":") ∷ drop p (lexemes r)) (sym i) ∙ ap (λ us. lexeme Mark (codes ":") ∷ us) u.spelled);
      meant =
          ap (λ xs. quantified (quantifier_of all) xs (unit_meant u.phrase)) v.are
          ∙ ap (quantified (quantifier_of all) texts) (u.meant ∙ sym d) ∙ sym e;
      leads = record {
        by = λ s k.
            leads-then r (variables_bracket s ∷ []) (mark (codes ":") ∷ a_unit (binding texts s) ∷ []) [] at next after (v.leads s k)
            (leads-then r (mark (codes ":") ∷ a_unit (binding texts s) ∷ []) (a_unit (binding texts s) ∷ []) [] next colon after
            (leads-under r (mark (codes ":")) [] (a_unit (binding texts s) ∷ []) next colon g)
            (u.leads.by (binding texts s) (Suits-binding r names bound level texts s k b)));
        onward = omega (arith, v.onward, u.leads.onward);
      };
    }

pub colon-halted :
    (r : Reader) (names : List Name) (level at next : ℕ) (texts : List (List ℕ)) (halt : Halt)
    → ReadsVariables r names level at next texts → Ends r (mark (codes ":") ∷ []) next halt
    → Halts r (one variables_bracket) names level at halt
colon-halted r names level at next texts halt v g =
    record {
      by = λ s k.
          ends-after r (variables_bracket s ∷ []) (mark (codes ":") ∷ a_unit (binding texts s) ∷ []) at next halt (v.leads s k)
          (ends-under r (mark (codes ":")) (a_unit (binding texts s) ∷ []) next halt g);
    }

pub bound_unit-halted :
    (r : Reader) (names bound : List Name) (level at next colon : ℕ) (texts : List (List ℕ)) (halt : Halt)
    → ReadsVariables r names level at next texts → Binds names bound texts
    → Leads r (mark (codes ":") ∷ []) next [] colon
    → Halts r (one a_unit) bound level colon halt
    → Halts r (one variables_bracket) names level at halt
bound_unit-halted r names bound level at next colon texts halt v b g u =
    record {
      by = λ s k.
          ends-after r (variables_bracket s ∷ []) (mark (codes ":") ∷ a_unit (binding texts s) ∷ []) at next halt (v.leads s k)
          (ends-after r (mark (codes ":") ∷ a_unit (binding texts s) ∷ []) (a_unit (binding texts s) ∷ []) next colon halt
          (leads-under r (mark (codes ":")) [] (a_unit (binding texts s) ∷ []) next colon g)
          (u.by (binding texts s) (Suits-binding r names bound level texts s k b)));
    }

-- the names before the quantifier are those that are left
pub cut_back :
    (old bound now : List Name) (texts : List (List ℕ)) → Binds old bound texts → now ≡ bound → take (length old) now ≡ old
cut_back old bound now texts b e = ap (take (length old)) (e ∙ b.grown) ∙ taken old b.added
  where
    taken : (xs ys : List Name) → take (length xs) (xs ++ ys) ≡ xs
    taken [] [] = refl
    taken [] (y ∷ ys) = refl
    taken (x ∷ xs) ys = ap (λ zs. x ∷ zs) (taken xs ys)
