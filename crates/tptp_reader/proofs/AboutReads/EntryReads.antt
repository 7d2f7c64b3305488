-- Steps of reading an entry but for its notes.
use Rattle.std.proofs.Common.{◌≡◌, ℕ, ◌+◌, Bool, true, false, not, List, [], ◌∷◌, ◌++◌, drop, codes, bytes_eq, None, Some, if◌then◌else◌, refl, sym, ap, ◌∙◌, subst, ⊎_elim}
use Rattle.std.specs.List.{list_all}
use Rattle.std.proofs.lemmas.Bool.{or_cases}
use Rattle.std.proofs.lemmas.Slice.Eq.{bytes_eq-Decides}
use Rattle.tptp_token.specs.Spelling.{is_digit, is_one_of}
use Rattle.tptp_token.specs.Lexemes.{Lexeme, is_mark, lexeme, word_lexeme}
use Rattle.tptp_token.specs.declared.token.Kind.{Kind}
use Rattle.tptp_token.specs.declared.token.Kind.TheVariants.{Lower, Variable, Quoted, Distinct, Dollar, Number, Connective, Mark, Other}
use Rattle.tptp_tree.specs.Formula.{FormulaTree}
use Rattle.tptp_token.specs.Words.{name_of, is_word, word_of, is_lower_kind, is_digits, is_name, token_name}
use Rattle.tptp_tree.specs.Causes.{syntax, outermost, untaken_role_cause}
use Rattle.tptp_tree.specs.Entries.{word_name, digits_name, formula_body, clause_body, body_lexemes, language_word, role_of}
use Rattle.tptp_tree.specs.declared.role.Role.{Role}
use Rattle.tptp_reader.specs.Machine.{mark, an_annotated, a_name, a_role, a_clause, end_of_body, first_note, formula_symbols, typed_words, takes, stops, step}
use Rattle.tptp_reader.specs.Telling.{lexemes, IsNext, Leads, Ends, Suits, Halts, one, refusal_of, ReadsFormula, ReadsClause}
use Rattle.tptp_reader.specs.TellingNotes.{ReadsNotes}
use Rattle.tptp_reader.specs.TellingEntries.{entry_symbols, body_symbols, ReadsLanguage, ReadsName, ReadsRole, ReadsBody, ReadsEnding}
use Rattle.tptp_reader.specs.declared.source.Reader.{Reader}
use Rattle.tptp_reader.specs.declared.source.Name.{Name}
use Rattle.tptp_reader.specs.declared.cause.Halt.{Halt}
use Rattle.tptp_reader.specs.declared.cause.Halt.TheVariants.{At}
use Rattle.tptp_reader.specs.declared.cause.Refusal.{Refusal as ToldRefusal}
use Rattle.tptp_reader.specs.declared.cause.Refusal.TheVariants.{Syntax, Inappropriate}
use Rattle.tptp_reader.specs.declared.cause.Form.TheVariants.{Typed}
use Rattle.tptp_reader.proofs.AboutTexts.TellingLemmas.{takes-leads, fault-ends, stop-ends, leads-then, ends-after, leads-alike, ends-alike}
use Rattle.tptp_reader.proofs.AboutSteps.StepLemmas.{word-spelled}
use Rattle.tptp_reader.proofs.AboutRuns.LoopLemmas.{mark-is, next-is}

-- ---- the first word

lower-kind : (k : Kind) → is_lower_kind k ≡ true → k ≡ Lower
lower-kind Lower h = refl
lower-kind Variable h = cc
lower-kind Quoted h = cc
lower-kind Distinct h = cc
lower-kind Dollar h = cc
lower-kind Number h = cc
lower-kind Connective h = cc
lower-kind Mark h = cc
lower-kind Other h = cc

lower-is : (t : Lexeme) → is_lower_kind t.kind ≡ true → t ≡ lexeme Lower t.bytes
lower-is t h = ap (λ k. lexeme k t.bytes) (lower-kind t.kind h)

-- a lower word with these bytes
word-is : (t : Lexeme) (word : List ℕ) → is_lower_kind t.kind ≡ true → bytes_eq t.bytes word ≡ true → t ≡ lexeme Lower word
word-is t word h g = lower-is t h ∙ ap (lexeme Lower) ((bytes_eq-Decides t.bytes word).0 g)

language-step :
    (limit : ℕ) (b : Bool) → step (an_annotated limit) (lexeme Lower (language_word b)) ≡ takes (entry_symbols limit b) None
language-step limit true = refl
language-step limit false = refl

pub language-read :
    (r : Reader) (at : ℕ) (b : Bool) (t : Lexeme)
    → IsNext r at t → is_lower_kind t.kind ≡ true → bytes_eq t.bytes (language_word b) ≡ true → ReadsLanguage r at b
language-read r at b t n h g =
    let is = word-is t (language_word b) h g in
    record {
      here = next-is r at t (lexeme Lower (language_word b)) n is;
      leads =
          takes-leads r at (an_annotated r.limit) t (entry_symbols r.limit b) n
          (ap (step (an_annotated r.limit)) is ∙ language-step r.limit b);
    }

no_lower-step : (limit : ℕ) (k : Kind) (bytes : List ℕ) → is_lower_kind k ≡ false → step (an_annotated limit) (lexeme k bytes) ≡ stops syntax
no_lower-step limit Lower bytes h = cc
no_lower-step limit Variable bytes h = refl
no_lower-step limit Quoted bytes h = refl
no_lower-step limit Distinct bytes h = refl
no_lower-step limit Dollar bytes h = refl
no_lower-step limit Number bytes h = refl
no_lower-step limit Connective bytes h = refl
no_lower-step limit Mark bytes h = refl
no_lower-step limit Other bytes h = refl

pub no_lower-ends :
    (r : Reader) (at : ℕ) (t : Lexeme) → IsNext r at t → is_lower_kind t.kind ≡ false → Ends r (an_annotated r.limit ∷ []) at (At Syntax at)
no_lower-ends r at t n h = stop-ends r at (an_annotated r.limit) t Syntax n (no_lower-step r.limit t.kind t.bytes h)

pub typed-ends :
    (r : Reader) (at : ℕ) (t : Lexeme)
    → IsNext r at t → is_lower_kind t.kind ≡ true → bytes_eq t.bytes (codes "fof") ≡ false → bytes_eq t.bytes (codes "cnf") ≡ false
    → is_one_of typed_words t.bytes ≡ true → Ends r (an_annotated r.limit ∷ []) at (At (Inappropriate Typed) at)
typed-ends r at t n h g e k =
    stop-ends r at (an_annotated r.limit) t (Inappropriate Typed) n (ap (step (an_annotated r.limit)) (lower-is t h) ∙ rw (g, e, k) refl)

pub no_language-ends :
    (r : Reader) (at : ℕ) (t : Lexeme)
    → IsNext r at t → is_lower_kind t.kind ≡ true → bytes_eq t.bytes (codes "fof") ≡ false → bytes_eq t.bytes (codes "cnf") ≡ false
    → is_one_of typed_words t.bytes ≡ false → Ends r (an_annotated r.limit ∷ []) at (At Syntax at)
no_language-ends r at t n h g e k =
    stop-ends r at (an_annotated r.limit) t Syntax n (ap (step (an_annotated r.limit)) (lower-is t h) ∙ rw (g, e, k) refl)

-- ---- the name

word_name-step : (k : Kind) (bytes : List ℕ) → is_word k ≡ true → step a_name (lexeme k bytes) ≡ takes [] None
word_name-step Lower bytes h = refl
word_name-step Variable bytes h = cc
word_name-step Quoted bytes h = refl
word_name-step Distinct bytes h = cc
word_name-step Dollar bytes h = cc
word_name-step Number bytes h = cc
word_name-step Connective bytes h = cc
word_name-step Mark bytes h = cc
word_name-step Other bytes h = cc

word_name-read :
    (r : Reader) (at : ℕ) (t : Lexeme) (name : List ℕ)
    → IsNext r at t → is_word t.kind ≡ true → name ≡ name_of (word_of t.kind t.bytes) → ReadsName r at name
word_name-read r at t name n h e =
    record {
      phrase = word_name (word_of t.kind t.bytes);
      right = refl;
      here = next-is r at t (word_lexeme (word_of t.kind t.bytes)) n (sym (word-spelled t.kind t.bytes h));
      meant = sym e;
      leads = takes-leads r at a_name t [] n (word_name-step t.kind t.bytes h);
    }

digits-kind : (k : Kind) (bytes : List ℕ) → is_digits k bytes ≡ true → k ≡ Number
digits-kind Lower bytes h = cc
digits-kind Variable bytes h = cc
digits-kind Quoted bytes h = cc
digits-kind Distinct bytes h = cc
digits-kind Dollar bytes h = cc
digits-kind Number bytes h = refl
digits-kind Connective bytes h = cc
digits-kind Mark bytes h = cc
digits-kind Other bytes h = cc

digits-all : (k : Kind) (bytes : List ℕ) → is_digits k bytes ≡ true → list_all is_digit bytes ≡ true
digits-all Lower bytes h = cc
digits-all Variable bytes h = cc
digits-all Quoted bytes h = cc
digits-all Distinct bytes h = cc
digits-all Dollar bytes h = cc
digits-all Number bytes h = h
digits-all Connective bytes h = cc
digits-all Mark bytes h = cc
digits-all Other bytes h = cc

digits-step : (bytes : List ℕ) → list_all is_digit bytes ≡ true → step a_name (lexeme Number bytes) ≡ takes [] None
digits-step bytes h = rw h refl

digits_name-read :
    (r : Reader) (at : ℕ) (t : Lexeme) (name : List ℕ)
    → IsNext r at t → is_digits t.kind t.bytes ≡ true → name ≡ t.bytes → ReadsName r at name
digits_name-read r at t name n h e =
    let is : t ≡ lexeme Number t.bytes = ap (λ k. lexeme k t.bytes) (digits-kind t.kind t.bytes h) in
    let all = digits-all t.kind t.bytes h in
    record {
      phrase = digits_name t.bytes;
      right = all;
      here = next-is r at t (lexeme Number t.bytes) n is;
      meant = sym e;
      leads = takes-leads r at a_name t [] n (ap (step a_name) is ∙ digits-step t.bytes all);
    }

digits-named : (k : Kind) (bytes : List ℕ) → is_digits k bytes ≡ true → token_name k bytes ≡ bytes
digits-named Lower bytes h = cc
digits-named Variable bytes h = cc
digits-named Quoted bytes h = cc
digits-named Distinct bytes h = cc
digits-named Dollar bytes h = cc
digits-named Number bytes h = refl
digits-named Connective bytes h = cc
digits-named Mark bytes h = cc
digits-named Other bytes h = cc

pub name-read :
    (r : Reader) (at : ℕ) (t : Lexeme) (name : List ℕ)
    → IsNext r at t → is_name t.kind t.bytes ≡ true → name ≡ token_name t.kind t.bytes → ReadsName r at name
name-read r at t name n h e =
    ⊎_elim (λ w. word_name-read r at t name n w e)
    (λ d. digits_name-read r at t name n d (e ∙ digits-named t.kind t.bytes d))
    (or_cases (is_word t.kind) (is_digits t.kind t.bytes) h)

pub no_name-ends :
    (r : Reader) (at : ℕ) (t : Lexeme) → IsNext r at t → is_name t.kind t.bytes ≡ false → Ends r (a_name ∷ []) at (At Syntax at)
no_name-ends r at t n h = stop-ends r at a_name t Syntax n (ap (λ b. if b then takes [] None else stops syntax) h)

-- ---- the role

pub role-read :
    (r : Reader) (at : ℕ) (b : Bool) (t : Lexeme) (role : Role)
    → IsNext r at t → is_lower_kind t.kind ≡ true → Some role ≡ role_of b t.bytes → ReadsRole r at b role
role-read r at b t role n h e =
    let is = lower-is t h in
    record {
      word = t.bytes;
      here = next-is r at t (lexeme Lower t.bytes) n is;
      meant = sym e;
      leads =
          takes-leads r at (a_role b) t [] n
          (ap (step (a_role b)) is ∙ ap (λ o. takes [] (untaken_role_cause o t.bytes)) (sym e));
    }

no_role-step : (b : Bool) (k : Kind) (bytes : List ℕ) → is_lower_kind k ≡ false → step (a_role b) (lexeme k bytes) ≡ stops syntax
no_role-step b Lower bytes h = cc
no_role-step b Variable bytes h = refl
no_role-step b Quoted bytes h = refl
no_role-step b Distinct bytes h = refl
no_role-step b Dollar bytes h = refl
no_role-step b Number bytes h = refl
no_role-step b Connective bytes h = refl
no_role-step b Mark bytes h = refl
no_role-step b Other bytes h = refl

pub no_role-ends :
    (r : Reader) (at : ℕ) (b : Bool) (t : Lexeme) → IsNext r at t → is_lower_kind t.kind ≡ false → Ends r (a_role b ∷ []) at (At Syntax at)
no_role-ends r at b t n h = stop-ends r at (a_role b) t Syntax n (no_role-step b t.kind t.bytes h)

pub untaken-ends :
    (r : Reader) (at : ℕ) (b : Bool) (t : Lexeme) (f : ToldRefusal)
    → IsNext r at t → is_lower_kind t.kind ≡ true → None ≡ role_of b t.bytes → Some (refusal_of f) ≡ untaken_role_cause None t.bytes
    → Ends r (a_role b ∷ []) at (At f at)
untaken-ends r at b t f n h e g =
    fault-ends r at (a_role b) t [] f n
    (ap (step (a_role b)) (lower-is t h) ∙ ap (λ o. takes [] (untaken_role_cause o t.bytes)) (sym e) ∙ ap (takes []) (sym g))

-- ---- the formula

outermost-closed : (q : Reader) → q.closed ≡ true → Suits q [] 0 (outermost q.limit false)
outermost-closed q e =
    record { limit_is = refl; level_is = refl; scope_is = λ x. rw e refl }

outermost-free : (q : Reader) (names : List Name) → q.closed ≡ false → Suits q names 0 (outermost q.limit true)
outermost-free q names e = record { limit_is = refl; level_is = refl; scope_is = λ x. rw e refl }

pub formula_body-read :
    (q r : Reader) (names : List Name) (at next : ℕ) (b : Bool) (f : FormulaTree)
    → lexemes q ≡ lexemes r → q.limit ≡ r.limit → q.closed ≡ not b → b ≡ false → names ≡ []
    → ReadsFormula q names 0 at next f → ReadsBody r at next b f
formula_body-read q r names at next b f e l c v i h =
    record {
      body = formula_body h.phrase;
      kind = sym v;
      spelled = ap (drop at) (sym e) ∙ h.spelled ∙ ap (λ ts. body_lexemes (formula_body h.phrase) (drop next ts)) e;
      meant = h.meant;
      leads =
          subst (λ (d : Bool). Leads r (body_symbols r.limit d) at [] next) (sym v)
          (subst (λ (n : ℕ). Leads r (body_symbols n false) at [] next) l
          (leads-alike q r (body_symbols q.limit false) [] at next e
          (h.leads.by (outermost q.limit false)
          (subst (λ (ns : List Name). Suits q ns 0 (outermost q.limit false)) (sym i) (outermost-closed q (c ∙ ap not v))))));
    }

pub formula_body-halted :
    (q r : Reader) (names : List Name) (at : ℕ) (b : Bool) (halt : Halt)
    → lexemes q ≡ lexemes r → q.limit ≡ r.limit → q.closed ≡ not b → b ≡ false → names ≡ []
    → Halts q formula_symbols names 0 at halt → Ends r (body_symbols r.limit b) at halt
formula_body-halted q r names at b halt e l c v i h =
    subst (λ (d : Bool). Ends r (body_symbols r.limit d) at halt) (sym v)
    (subst (λ (n : ℕ). Ends r (body_symbols n false) at halt) l
    (ends-alike q r (body_symbols q.limit false) at halt e
    (h.by (outermost q.limit false)
    (subst (λ (ns : List Name). Suits q ns 0 (outermost q.limit false)) (sym i) (outermost-closed q (c ∙ ap not v))))))

pub clause_body-read :
    (q r : Reader) (names : List Name) (at next : ℕ) (b : Bool) (f : FormulaTree)
    → lexemes q ≡ lexemes r → q.limit ≡ r.limit → q.closed ≡ not b → b ≡ true
    → ReadsClause q names 0 at next f → ReadsBody r at next b f
clause_body-read q r names at next b f e l c v h =
    record {
      body = clause_body h.phrase;
      kind = sym v;
      spelled = ap (drop at) (sym e) ∙ h.spelled ∙ ap (λ ts. body_lexemes (clause_body h.phrase) (drop next ts)) e;
      meant = h.meant;
      leads =
          subst (λ (d : Bool). Leads r (body_symbols r.limit d) at [] next) (sym v)
          (subst (λ (n : ℕ). Leads r (body_symbols n true) at [] next) l
          (leads-alike q r (body_symbols q.limit true) [] at next e
          (h.leads.by (outermost q.limit true) (outermost-free q names (c ∙ ap not v)))));
    }

pub clause_body-halted :
    (q r : Reader) (names : List Name) (at : ℕ) (b : Bool) (halt : Halt)
    → lexemes q ≡ lexemes r → q.limit ≡ r.limit → q.closed ≡ not b → b ≡ true
    → Halts q (one a_clause) names 0 at halt → Ends r (body_symbols r.limit b) at halt
clause_body-halted q r names at b halt e l c v h =
    subst (λ (d : Bool). Ends r (body_symbols r.limit d) at halt) (sym v)
    (subst (λ (n : ℕ). Ends r (body_symbols n true) at halt) l
    (ends-alike q r (body_symbols q.limit true) at halt e
    (h.by (outermost q.limit true) (outermost-free q names (c ∙ ap not v)))))

-- ---- the end

comma-leads :
    (r : Reader) (at : ℕ) (t : Lexeme)
    → IsNext r at t → is_mark (codes ",") t ≡ true → Leads r (end_of_body r.limit ∷ []) at (first_note r.limit ∷ []) (at + 1)
comma-leads r at t n h = takes-leads r at (end_of_body r.limit) t (first_note r.limit ∷ []) n (rw h refl)

closed-leads :
    (r : Reader) (at : ℕ) (t : Lexeme)
    → IsNext r at t → t ≡ lexeme Mark (codes ")") → Leads r (end_of_body r.limit ∷ []) at (mark (codes ".") ∷ []) (at + 1)
closed-leads r at t n e = takes-leads r at (end_of_body r.limit) t (mark (codes ".") ∷ []) n (ap (step (end_of_body r.limit)) e)

pub ending-refused :
    (r : Reader) (at : ℕ) (t : Lexeme)
    → IsNext r at t → is_mark (codes ",") t ≡ false → is_mark (codes ")") t ≡ false → Ends r (end_of_body r.limit ∷ []) at (At Syntax at)
ending-refused r at t n h g = stop-ends r at (end_of_body r.limit) t Syntax n (rw (h, g) refl)

pub notes-halted :
    (r : Reader) (at : ℕ) (t : Lexeme) (halt : Halt)
    → IsNext r at t → is_mark (codes ",") t ≡ true → Ends r (first_note r.limit ∷ []) (at + 1) halt
    → Ends r (end_of_body r.limit ∷ []) at halt
notes-halted r at t halt n h g =
    ends-after r (end_of_body r.limit ∷ []) (first_note r.limit ∷ []) at (at + 1) halt (comma-leads r at t n h) g

noted-leads :
    (r : Reader) (at close : ℕ) (t : Lexeme)
    → IsNext r at t → is_mark (codes ",") t ≡ true → ReadsNotes r (at + 1) close
    → Leads r (end_of_body r.limit ∷ []) at (mark (codes ".") ∷ []) (close + 1)
noted-leads r at close t n h g =
    leads-then r (end_of_body r.limit ∷ []) (first_note r.limit ∷ []) (mark (codes ".") ∷ []) at (at + 1) (close + 1)
    (comma-leads r at t n h) g.leads

pub noted-stop-halted :
    (r : Reader) (at close : ℕ) (t : Lexeme) (halt : Halt)
    → IsNext r at t → is_mark (codes ",") t ≡ true → ReadsNotes r (at + 1) close → Ends r (mark (codes ".") ∷ []) (close + 1) halt
    → Ends r (end_of_body r.limit ∷ []) at halt
noted-stop-halted r at close t halt n h g k =
    ends-after r (end_of_body r.limit ∷ []) (mark (codes ".") ∷ []) at (close + 1) halt (noted-leads r at close t n h g) k

pub noted-read :
    (r : Reader) (at close next : ℕ) (t : Lexeme)
    → IsNext r at t → is_mark (codes ",") t ≡ true → ReadsNotes r (at + 1) close
    → next ≡ close + 1 + 1 → IsNext r (close + 1) (lexeme Mark (codes ".")) → Leads r (mark (codes ".") ∷ []) (close + 1) [] next
    → ReadsEnding r at (at + 1) close next
noted-read r at close next t n h g i m k =
    record {
      notes = g.first ∷ g.others;
      balanced = g.balanced;
      spelled =
          n.here ∙ ap (λ u. u ∷ drop (at + 1) (lexemes r)) (mark-is (codes ",") t h)
          ∙ ap (λ us. lexeme Mark (codes ",") ∷ us)
          (g.spelled
          ∙ ap (λ us. (g.first ∷ g.others) ++ us)
          (g.closed.here ∙ ap (λ us. lexeme Mark (codes ")") ∷ us) m.here
          ∙ ap (λ p. lexeme Mark (codes ")") ∷ lexeme Mark (codes ".") ∷ drop p (lexemes r)) (sym i)));
      leads =
          leads-then r (end_of_body r.limit ∷ []) (mark (codes ".") ∷ []) [] at (close + 1) next (noted-leads r at close t n h g) k;
      range = g.spelled;
    }

pub plain-stop-halted :
    (r : Reader) (at : ℕ) (t : Lexeme) (halt : Halt)
    → IsNext r at t → is_mark (codes ")") t ≡ true → Ends r (mark (codes ".") ∷ []) (at + 1) halt
    → Ends r (end_of_body r.limit ∷ []) at halt
plain-stop-halted r at t halt n h k =
    ends-after r (end_of_body r.limit ∷ []) (mark (codes ".") ∷ []) at (at + 1) halt (closed-leads r at t n (mark-is (codes ")") t h)) k

pub plain-read :
    (r : Reader) (at next : ℕ) (t : Lexeme)
    → IsNext r at t → is_mark (codes ")") t ≡ true
    → next ≡ at + 1 + 1 → IsNext r (at + 1) (lexeme Mark (codes ".")) → Leads r (mark (codes ".") ∷ []) (at + 1) [] next
    → ReadsEnding r at at at next
plain-read r at next t n h i m k =
    let is = mark-is (codes ")") t h in
    record {
      notes = [];
      balanced = refl;
      spelled =
          n.here ∙ ap (λ u. u ∷ drop (at + 1) (lexemes r)) is ∙ ap (λ us. lexeme Mark (codes ")") ∷ us) m.here
          ∙ ap (λ p. lexeme Mark (codes ")") ∷ lexeme Mark (codes ".") ∷ drop p (lexemes r)) (sym i);
      leads =
          leads-then r (end_of_body r.limit ∷ []) (mark (codes ".") ∷ []) [] at (at + 1) next (closed-leads r at t n is) k;
      range = refl;
    }
