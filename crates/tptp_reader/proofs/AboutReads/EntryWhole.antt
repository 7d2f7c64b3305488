-- An entry from its parts.
use Rattle.std.proofs.Common.{subst, ◌≡◌, true, ℕ, ◌+◌, Bool, ◌&&◌, List, [], ◌∷◌, ◌++◌, drop, codes, Some, sym, ap, ap₂, ◌∙◌}
use Rattle.tptp_token.specs.declared.token.Kind.TheVariants.{Lower, Mark}
use Rattle.tptp_tree.specs.Formula.{FormulaTree}
use Rattle.tptp_tree.specs.Shape.{formula_of, entry_of}
use Rattle.tptp_token.specs.Lexemes.{lexeme, lexemes_of}
use Rattle.tptp_tree.specs.Entries.{name_lexeme, is_clause_body, body_lexemes, language_word, role_of, AnnotatedPhrase, is_right_annotated, annotated_lexemes, IsAnnotatedOf}
use Rattle.tptp_tree.specs.declared.role.Role.{Role}
use Rattle.tptp_reader.specs.Machine.{Symbol, mark, an_annotated, a_name, a_role, end_of_body, read_up_to}
use Rattle.tptp_reader.specs.Placed.{verdict_at}
use Rattle.tptp_reader.specs.Telling.{lexemes, IsNext, Leads, Ends, IsEnd, told}
use Rattle.tptp_reader.specs.TellingEntries.{body_symbols, ReadsLanguage, ReadsName, ReadsRole, ReadsBody, ReadsEnding, ReadsEntry, IsFaultOfHalt}
use Rattle.tptp_reader.specs.declared.source.Reader.{Reader}
use Rattle.tptp_reader.specs.declared.cause.Halt.{Halt}
use Rattle.tptp_token.specs.declared.token.Token.{Token}
use Rattle.tptp_token.specs.declared.token.Lexed.{Lexed}
use Rattle.tptp_reader.specs.declared.cause.ReadFault.{ReadFault}
use Rattle.tptp_reader.specs.declared.entry.Read.{Read}
use Rattle.tptp_reader.proofs.AboutTexts.TellingLemmas.{leads-then, leads-under, leads-append, ends-under, ends-append, ends-after, told-end}

pop :
    (r : Reader) (a : List Symbol) (x : Symbol) (more : List Symbol) (first i j : ℕ)
    → Leads r a first (x ∷ more) i → Leads r (x ∷ []) i [] j → Leads r a first more j
pop r a x more first i j g h = leads-then r a (x ∷ more) more first i j g (leads-under r x [] more i j h)

halt-at :
    (r : Reader) (a : List Symbol) (x : Symbol) (more : List Symbol) (first i : ℕ) (halt : Halt)
    → Leads r a first (x ∷ more) i → Ends r (x ∷ []) i halt → Ends r a first halt
halt-at r a x more first i halt g h = ends-after r a (x ∷ more) first i halt g (ends-under r x more i halt h)

-- what has still to come behind the role's comma
abbrev rest : Reader → Bool → List Symbol
rest r b = body_symbols r.limit b ++ end_of_body r.limit ∷ []

abbrev whole : Reader → List Symbol
whole r = an_annotated r.limit ∷ []

pub record Opened (r : Reader) (first inner : ℕ) (b : Bool) : Type 0 where
  pub language : ReadsLanguage r first b
  pub bracket : IsNext r (first + 1) (lexeme Mark (codes "("))
  pub leads : Leads r (mark (codes "(") ∷ []) (first + 1) [] inner
  pub open_is : inner ≡ first + 1 + 1

named : (r : Reader) (first inner : ℕ) (b : Bool) → Opened r first inner b → Leads r (whole r) first (a_name ∷ mark (codes ",") ∷ a_role b ∷ mark (codes ",") ∷ rest r b) inner
named r first inner b o =
    pop r (whole r) (mark (codes "(")) (a_name ∷ mark (codes ",") ∷ a_role b ∷ mark (codes ",") ∷ rest r b) first (first + 1) inner o.language.leads o.leads

pub open-halted :
    (r : Reader) (first : ℕ) (b : Bool) (halt : Halt)
    → ReadsLanguage r first b → Ends r (mark (codes "(") ∷ []) (first + 1) halt → Ends r (whole r) first halt
open-halted r first b halt l h =
    halt-at r (whole r) (mark (codes "(")) (a_name ∷ mark (codes ",") ∷ a_role b ∷ mark (codes ",") ∷ rest r b) first (first + 1) halt l.leads h

pub name-halted :
    (r : Reader) (first inner : ℕ) (b : Bool) (halt : Halt) → Opened r first inner b → Ends r (a_name ∷ []) inner halt → Ends r (whole r) first halt
name-halted r first inner b halt o h =
    halt-at r (whole r) a_name (mark (codes ",") ∷ a_role b ∷ mark (codes ",") ∷ rest r b) first inner halt (named r first inner b o) h

pub record Named (r : Reader) (first inner comma : ℕ) (b : Bool) (name : List ℕ) : Type 0 where
  pub opened : Opened r first inner b
  pub name_is : ReadsName r inner name
  pub comma_at : IsNext r (inner + 1) (lexeme Mark (codes ","))
  pub leads : Leads r (mark (codes ",") ∷ []) (inner + 1) [] comma
  pub comma_is : comma ≡ inner + 1 + 1

commaed : (r : Reader) (first inner : ℕ) (b : Bool) (name : List ℕ) → Opened r first inner b → ReadsName r inner name → Leads r (whole r) first (mark (codes ",") ∷ a_role b ∷ mark (codes ",") ∷ rest r b) (inner + 1)
commaed r first inner b name o n =
    pop r (whole r) a_name (mark (codes ",") ∷ a_role b ∷ mark (codes ",") ∷ rest r b) first inner (inner + 1) (named r first inner b o) n.leads

pub comma-halted :
    (r : Reader) (first inner : ℕ) (b : Bool) (name : List ℕ) (halt : Halt)
    → Opened r first inner b → ReadsName r inner name → Ends r (mark (codes ",") ∷ []) (inner + 1) halt → Ends r (whole r) first halt
comma-halted r first inner b name halt o n h =
    halt-at r (whole r) (mark (codes ",")) (a_role b ∷ mark (codes ",") ∷ rest r b) first (inner + 1) halt (commaed r first inner b name o n) h

roled : (r : Reader) (first inner comma : ℕ) (b : Bool) (name : List ℕ) → Named r first inner comma b name → Leads r (whole r) first (a_role b ∷ mark (codes ",") ∷ rest r b) comma
roled r first inner comma b name n =
    pop r (whole r) (mark (codes ",")) (a_role b ∷ mark (codes ",") ∷ rest r b) first (inner + 1) comma (commaed r first inner b name n.opened n.name_is) n.leads

pub role-halted :
    (r : Reader) (first inner comma : ℕ) (b : Bool) (name : List ℕ) (halt : Halt)
    → Named r first inner comma b name → Ends r (a_role b ∷ []) comma halt → Ends r (whole r) first halt
role-halted r first inner comma b name halt n h =
    halt-at r (whole r) (a_role b) (mark (codes ",") ∷ rest r b) first comma halt (roled r first inner comma b name n) h

pub record Roled (r : Reader) (first inner comma body : ℕ) (b : Bool) (name : List ℕ) (role : Role) : Type 0 where
  pub named : Named r first inner comma b name
  pub role_is : ReadsRole r comma b role
  pub comma_at : IsNext r (comma + 1) (lexeme Mark (codes ","))
  pub leads : Leads r (mark (codes ",") ∷ []) (comma + 1) [] body
  pub body_is : body ≡ comma + 1 + 1

second_comma : (r : Reader) (first inner comma : ℕ) (b : Bool) (name : List ℕ) (role : Role) → Named r first inner comma b name → ReadsRole r comma b role → Leads r (whole r) first (mark (codes ",") ∷ rest r b) (comma + 1)
second_comma r first inner comma b name role n o =
    pop r (whole r) (a_role b) (mark (codes ",") ∷ rest r b) first comma (comma + 1) (roled r first inner comma b name n) o.leads

pub second_comma-halted :
    (r : Reader) (first inner comma : ℕ) (b : Bool) (name : List ℕ) (role : Role) (halt : Halt)
    → Named r first inner comma b name → ReadsRole r comma b role → Ends r (mark (codes ",") ∷ []) (comma + 1) halt → Ends r (whole r) first halt
second_comma-halted r first inner comma b name role halt n o h =
    halt-at r (whole r) (mark (codes ",")) (rest r b) first (comma + 1) halt (second_comma r first inner comma b name role n o) h

bodied : (r : Reader) (first inner comma body : ℕ) (b : Bool) (name : List ℕ) (role : Role) → Roled r first inner comma body b name role → Leads r (whole r) first (rest r b) body
bodied r first inner comma body b name role o =
    pop r (whole r) (mark (codes ",")) (rest r b) first (comma + 1) body (second_comma r first inner comma b name role o.named o.role_is) o.leads

pub body-halted :
    (r : Reader) (first inner comma body : ℕ) (b : Bool) (name : List ℕ) (role : Role) (halt : Halt)
    → Roled r first inner comma body b name role → Ends r (body_symbols r.limit b) body halt → Ends r (whole r) first halt
body-halted r first inner comma body b name role halt o h =
    ends-after r (whole r) (rest r b) first body halt (bodied r first inner comma body b name role o)
    (ends-append r (body_symbols r.limit b) (end_of_body r.limit ∷ []) body halt h)

ended : (r : Reader) (first inner comma body after : ℕ) (b : Bool) (name : List ℕ) (role : Role) (f : FormulaTree) → Roled r first inner comma body b name role → ReadsBody r body after b f → Leads r (whole r) first (end_of_body r.limit ∷ []) after
ended r first inner comma body after b name role f o k =
    leads-then r (whole r) (rest r b) (end_of_body r.limit ∷ []) first body after (bodied r first inner comma body b name role o)
    (leads-append r (body_symbols r.limit b) (end_of_body r.limit ∷ []) body after k.leads)

pub ending-halted :
    (r : Reader) (first inner comma body after : ℕ) (b : Bool) (name : List ℕ) (role : Role) (f : FormulaTree) (halt : Halt)
    → Roled r first inner comma body b name role → ReadsBody r body after b f → Ends r (end_of_body r.limit ∷ []) after halt → Ends r (whole r) first halt
ending-halted r first inner comma body after b name role f halt o k h =
    ends-after r (whole r) (end_of_body r.limit ∷ []) first after halt (ended r first inner comma body after b name role f o k) h

spelled :
    (r : Reader) (first inner comma body after start end next : ℕ) (b : Bool) (name : List ℕ) (role : Role) (f : FormulaTree)
    → (o : Roled r first inner comma body b name role) → (k : ReadsBody r body after b f) → (e : ReadsEnding r after start end next)
    → drop first (lexemes r)
    ≡ annotated_lexemes (record { name = o.named.name_is.phrase; role = o.role_is.word; body = k.body; notes = e.notes }) (drop next (lexemes r))
spelled r first inner comma body after start end next b name role f o k e =
    let n = o.named in
    let l = n.opened in
    let p = n.name_is.phrase in
    l.language.here.here
    ∙ ap (λ w. lexeme Lower (language_word w) ∷ drop (first + 1) (lexemes r)) (sym k.kind)
    ∙ ap (λ us. lexeme Lower (language_word (is_clause_body k.body)) ∷ us)
    (l.bracket.here ∙ ap (λ i. lexeme Mark (codes "(") ∷ drop i (lexemes r)) (sym l.open_is)
    ∙ ap (λ us. lexeme Mark (codes "(") ∷ us)
    (n.name_is.here.here
    ∙ ap (λ us. name_lexeme p ∷ us)
    (n.comma_at.here ∙ ap (λ i. lexeme Mark (codes ",") ∷ drop i (lexemes r)) (sym n.comma_is)
    ∙ ap (λ us. lexeme Mark (codes ",") ∷ us)
    (o.role_is.here.here
    ∙ ap (λ us. lexeme Lower o.role_is.word ∷ us)
    (o.comma_at.here ∙ ap (λ i. lexeme Mark (codes ",") ∷ drop i (lexemes r)) (sym o.body_is)
    ∙ ap (λ us. lexeme Mark (codes ",") ∷ us) (k.spelled ∙ ap (body_lexemes k.body) e.spelled))))))

pub entry-read :
    (r : Reader) (first inner comma body after : ℕ) (b : Bool) (name : List ℕ) (role : Role) (f : FormulaTree) (read : Read)
    → Roled r first inner comma body b name role → ReadsBody r body after b f
    → ReadsEnding r after read.notes_start read.notes_end read.next
    → read.annotated.name ≡ name → read.annotated.role ≡ role → read.annotated.clause ≡ b → formula_of read.annotated.formula ≡ f
    → ReadsEntry r first read
entry-read r first inner comma body after b name role f read o k e is_name is_role is_clause is_formula =
    record {
      phrase = record { name = o.named.name_is.phrase; role = o.role_is.word; body = k.body; notes = e.notes };
      right = ap₂ (λ u v. u && v) o.named.name_is.right e.balanced;
      spelled = spelled r first inner comma body after read.notes_start read.notes_end read.next b name role f o k e;
      meant = record {
        name = is_name ∙ sym o.named.name_is.meant;
        role = ap (λ w. role_of w o.role_is.word) k.kind ∙ o.role_is.meant ∙ ap Some (sym is_role);
        is_clause = is_clause ∙ sym k.kind;
        formula = is_formula ∙ sym k.meant;
      };
      told_so =
          told-end r (whole r) first read.next
          (leads-then r (whole r) (end_of_body r.limit ∷ []) [] first after read.next (ended r first inner comma body after b name role f o k) e.leads);
      range = e.range;
    }

-- ---- the answers, by the machine's verdict

-- The tokens from the first one on are an annotated formula, up to the next one, and the machine takes them.
pub record IsAnnotatedRead (limit : ℕ) (bytes : List ℕ) (tokens : List Token) (first : ℕ) (read : Read) : Type 0 where
  pub phrase : AnnotatedPhrase
  pub right : is_right_annotated phrase ≡ true
  pub spelled : drop first (lexemes_of bytes tokens) ≡ annotated_lexemes phrase (drop read.next (lexemes_of bytes tokens))
  pub meant : IsAnnotatedOf phrase (entry_of read.annotated)
  pub taken_so : verdict_at limit (lexemes_of bytes tokens) first ≡ read_up_to read.next
  pub range : drop read.notes_start (lexemes_of bytes tokens) ≡ phrase.notes ++ drop read.notes_end (lexemes_of bytes tokens)

-- the machine refuses a token, or the tokens run out
abbrev pub HasFault : ℕ → List ℕ → Lexed → ℕ → ReadFault → Type 0
HasFault limit bytes lexed first fault =
    (halt : Halt) × IsEnd halt (verdict_at limit (lexemes_of bytes lexed.tokens) first) × IsFaultOfHalt bytes lexed halt fault

pub answer-read :
    (r : Reader) (tokens : List Token) (first : ℕ) (read : Read)
    → r.tokens.now ≡ tokens → ReadsEntry r first read → IsAnnotatedRead r.limit r.bytes.now tokens first read
unfolding told
answer-read r tokens first read e h =
    subst (λ (ts : List Token). IsAnnotatedRead r.limit r.bytes.now ts first read) e
    (record { phrase = h.phrase; right = h.right; spelled = h.spelled; meant = h.meant; taken_so = h.told_so; range = h.range })

pub answer-fault :
    (r : Reader) (lexed : Lexed) (first : ℕ) (halt : Halt) (fault : ReadFault)
    → r.tokens.now ≡ lexed.tokens → Ends r (an_annotated r.limit ∷ []) first halt → IsFaultOfHalt r.bytes.now lexed halt fault
    → HasFault r.limit r.bytes.now lexed first fault
unfolding told
answer-fault r lexed first halt fault e h f =
    (halt, subst (λ (ts : List Token). IsEnd halt (verdict_at r.limit (lexemes_of r.bytes.now ts) first)) e (h.by []), f)
