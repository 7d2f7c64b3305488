-- Items that are read one after the other, with a token between two of them.
use Rattle.std.proofs.Common.{append_assoc, ◌≡◌, ◌≤◌, ℕ, ◌+◌, true, List, [], ◌∷◌, ◌++◌, drop, refl, sym, ap, ◌∙◌, arith, bytes_eq, subst, Result, Ok, Err}
use Rattle.std.specs.Result.{IsErrAnd}
use Rattle.std.specs.Prelude.{IfErr}
use Rattle.std.proofs.lemmas.List.{map-append}
use Rattle.std.proofs.lemmas.Slice.Eq.{bytes_eq-Decides}
use Rattle.tptp_token.specs.Lexemes.{Lexeme, is_mark, lexeme}
use Rattle.tptp_token.specs.declared.token.Kind.{Kind}
use Rattle.tptp_token.specs.declared.token.Kind.TheVariants.{Lower, Variable, Quoted, Distinct, Dollar, Number, Connective, Mark, Other}
use Rattle.tptp_tree.specs.Causes.{Surroundings}
use Rattle.tptp_reader.specs.Machine.{Symbol}
use Rattle.tptp_reader.specs.Telling.{lexemes, IsNext, Leads, Ends, Suits, Reads, Halts, one, further, Listed, listed, items_meant}
use Rattle.tptp_reader.specs.declared.source.Reader.{Reader}
use Rattle.tptp_reader.specs.declared.source.Name.{Name}
use Rattle.tptp_reader.specs.declared.cause.Halt.{Halt}
use Rattle.tptp_reader.specs.declared.cause.Halt.TheVariants.{NoMemory}
use Rattle.tptp_reader.proofs.AboutTexts.TellingLemmas.{leads-then, leads-under, ends-under, ends-after, memory-ends}

-- ---- what was read, and what is pending at the next token

pub record SoFar {A M : Type 0} (spell : A → List Lexeme → List Lexeme) (meaning : A → M) (between : Lexeme) (r : Reader) (start pending : Surroundings → List Symbol) (names : List Name) (level at next : ℕ) (before values : List M) : Type 0 where
  pub items : Listed A
  pub spelled : drop at (lexemes r) ≡ listed spell between items (drop next (lexemes r))
  pub meant : before ++ items_meant meaning items ≡ values
  pub leads : (s : Surroundings) → Suits r names level s → Leads r (start s) at (pending s) next
  pub onward : at ≤ next

pub sofar-first :
    {A M : Type 0} (spell : A → List Lexeme → List Lexeme) (meaning : A → M) (between : Lexeme) (r : Reader)
    (item pending : Surroundings → Symbol) (names : List Name) (level at next : ℕ) (v : M) (before values : List M)
    → Reads spell meaning r (one item) names level at next v → values ≡ before ++ v ∷ []
    → SoFar spell meaning between r (λ s. item s ∷ pending s ∷ []) (one pending) names level at next before values
sofar-first spell meaning between r item pending names level at next v before values h e =
    record {
      items = record { first = h.phrase; others = [] };
      spelled = h.spelled;
      meant = ap (λ u. before ++ u ∷ []) h.meant ∙ sym e;
      leads = λ s f. leads-under r (item s) [] (pending s ∷ []) at next (h.leads.by s f);
      onward = h.leads.onward;
    }

further-push :
    {A : Type 0} (spell : A → List Lexeme → List Lexeme) (between : Lexeme) (xs : List A) (x : A) (rest : List Lexeme)
    → further spell between (xs ++ x ∷ []) rest ≡ further spell between xs (between ∷ spell x rest)
further-push spell between [] x rest = refl
further-push spell between (y ∷ ys) x rest = ap (λ ts. between ∷ spell y ts) (further-push spell between ys x rest)

pub sofar-more :
    {A M : Type 0} (spell : A → List Lexeme → List Lexeme) (meaning : A → M) (between : Lexeme) (r : Reader)
    (start : Surroundings → List Symbol) (item pending : Surroundings → Symbol) (names : List Name) (level at next after : ℕ) (v : M) (before values new : List M)
    → SoFar spell meaning between r start (one pending) names level at next before values
    → IsNext r next between
    → ((s : Surroundings) → Suits r names level s → Leads r (pending s ∷ []) next (item s ∷ pending s ∷ []) (next + 1))
    → Reads spell meaning r (one item) names level (next + 1) after v
    → new ≡ values ++ v ∷ []
    → SoFar spell meaning between r start (one pending) names level at after before new
sofar-more spell meaning between r start item pending names level at next after v before values new g n step h e =
    record {
      items = record { first = g.items.first; others = g.items.others ++ h.phrase ∷ [] };
      spelled =
          g.spelled
          ∙ ap (λ ts. spell g.items.first (further spell between g.items.others ts)) (n.here ∙ ap (λ ts. between ∷ ts) h.spelled)
          ∙ ap (spell g.items.first) (sym (further-push spell between g.items.others h.phrase (drop after (lexemes r))));
      meant =
          ap (λ us. before ++ meaning g.items.first ∷ us) (map-append meaning g.items.others (h.phrase ∷ []))
          ∙ sym (append_assoc before (items_meant meaning g.items) (meaning h.phrase ∷ []))
          ∙ ap (λ us. us ++ meaning h.phrase ∷ []) g.meant ∙ ap (λ u. values ++ u ∷ []) h.meant ∙ sym e;
      leads = λ s f.
          leads-then r (start s) (pending s ∷ []) (pending s ∷ []) at next after (g.leads s f)
          (leads-then r (pending s ∷ []) (item s ∷ pending s ∷ []) (pending s ∷ []) next (next + 1) after (step s f)
          (leads-under r (item s) [] (pending s ∷ []) (next + 1) after (h.leads.by s f)));
      onward = omega (arith, g.onward, h.leads.onward);
    }

-- the items end with a token behind them
pub sofar-closed :
    {A M : Type 0} (spell : A → List Lexeme → List Lexeme) (meaning : A → M) (between close : Lexeme) (r : Reader)
    (start : Surroundings → List Symbol) (pending : Surroundings → Symbol) (names : List Name) (level at next : ℕ) (before values : List M)
    → SoFar spell meaning between r start (one pending) names level at next before values
    → IsNext r next close
    → ((s : Surroundings) → Suits r names level s → Leads r (pending s ∷ []) next [] (next + 1))
    → Reads (λ items rest. listed spell between items (close ∷ rest)) (λ items. before ++ items_meant meaning items) r start names level at (next + 1) values
sofar-closed spell meaning between close r start pending names level at next before values g n step =
    record {
      phrase = g.items;
      spelled = g.spelled ∙ ap (listed spell between g.items) n.here;
      meant = g.meant;
      leads = record {
        by = λ s f. leads-then r (start s) (pending s ∷ []) [] at next (next + 1) (g.leads s f) (step s f);
        onward = omega (arith, g.onward);
      };
    }

-- the items end before a token that isn't one of them
pub sofar-ended :
    {A M : Type 0} (spell : A → List Lexeme → List Lexeme) (meaning : A → M) (between : Lexeme) (r : Reader)
    (start : Surroundings → List Symbol) (pending : Surroundings → Symbol) (names : List Name) (level at next : ℕ) (before values : List M)
    → SoFar spell meaning between r start (one pending) names level at next before values
    → ((s : Surroundings) → Suits r names level s → Leads r (pending s ∷ []) next [] next)
    → Reads (listed spell between) (λ items. before ++ items_meant meaning items) r start names level at next values
sofar-ended spell meaning between r start pending names level at next before values g step =
    record {
      phrase = g.items;
      spelled = g.spelled;
      meant = g.meant;
      leads = record {
        by = λ s f. leads-then r (start s) (pending s ∷ []) [] at next next (g.leads s f) (step s f);
        onward = g.onward;
      };
    }

-- ---- halts

pub sofar-halts :
    {A M : Type 0} (spell : A → List Lexeme → List Lexeme) (meaning : A → M) (between : Lexeme) (r : Reader)
    (start : Surroundings → List Symbol) (pending : Surroundings → Symbol) (names : List Name) (level at next : ℕ) (before values : List M) (halt : Halt)
    → SoFar spell meaning between r start (one pending) names level at next before values
    → ((s : Surroundings) → Suits r names level s → Ends r (pending s ∷ []) next halt)
    → Halts r start names level at halt
sofar-halts spell meaning between r start pending names level at next before values halt g ends =
    record { by = λ s f. ends-after r (start s) (pending s ∷ []) at next halt (g.leads s f) (ends s f) }

pub sofar-item-halts :
    {A M : Type 0} (spell : A → List Lexeme → List Lexeme) (meaning : A → M) (between : Lexeme) (r : Reader)
    (start : Surroundings → List Symbol) (item pending : Surroundings → Symbol) (names : List Name) (level at next : ℕ) (before values : List M) (halt : Halt)
    → SoFar spell meaning between r start (one pending) names level at next before values
    → ((s : Surroundings) → Suits r names level s → Leads r (pending s ∷ []) next (item s ∷ pending s ∷ []) (next + 1))
    → Halts r (one item) names level (next + 1) halt
    → Halts r start names level at halt
sofar-item-halts spell meaning between r start item pending names level at next before values halt g step h =
    record {
      by = λ s f.
          ends-after r (start s) (pending s ∷ []) at next halt (g.leads s f)
          (ends-after r (pending s ∷ []) (item s ∷ pending s ∷ []) next (next + 1) halt (step s f)
          (ends-under r (item s) (pending s ∷ []) (next + 1) halt (h.by s f)));
    }

pub first-halts :
    (r : Reader) (item pending : Surroundings → Symbol) (names : List Name) (level at : ℕ) (halt : Halt)
    → Halts r (one item) names level at halt → Halts r (λ s. item s ∷ pending s ∷ []) names level at halt
first-halts r item pending names level at halt h =
    record { by = λ s f. ends-under r (item s) (pending s ∷ []) at halt (h.by s f) }

-- ---- what a call passes on

pub passed : {Y : Type 0} (q : Result Y Halt) (halt : Halt) (P : Halt → Type 0) → IsErrAnd q (λ h. h ≡ halt) → P halt → IfErr q P
passed (Ok y) halt P e h = tt
passed (Err x) halt P e h = subst P (sym e) h

pub memory-halts : (r : Reader) (start : Surroundings → List Symbol) (names : List Name) (level at : ℕ) (halt : Halt) → halt ≡ NoMemory → Halts r start names level at halt
memory-halts r start names level at halt e = record { by = λ s f. memory-ends r (start s) at halt e }

-- ---- tokens by tests

kind-is : (k : Kind) (bytes others : List ℕ) → is_mark bytes (lexeme k others) ≡ true → k ≡ Mark
kind-is Lower bytes others h = cc
kind-is Variable bytes others h = cc
kind-is Quoted bytes others h = cc
kind-is Distinct bytes others h = cc
kind-is Dollar bytes others h = cc
kind-is Number bytes others h = cc
kind-is Connective bytes others h = cc
kind-is Mark bytes others h = refl
kind-is Other bytes others h = cc

bytes-are : (k : Kind) (bytes others : List ℕ) → is_mark bytes (lexeme k others) ≡ true → bytes_eq bytes others ≡ true
bytes-are Lower bytes others h = cc
bytes-are Variable bytes others h = cc
bytes-are Quoted bytes others h = cc
bytes-are Distinct bytes others h = cc
bytes-are Dollar bytes others h = cc
bytes-are Number bytes others h = cc
bytes-are Connective bytes others h = cc
bytes-are Mark bytes others h = h
bytes-are Other bytes others h = cc

pub mark-is : (bytes : List ℕ) (t : Lexeme) → is_mark bytes t ≡ true → t ≡ lexeme Mark bytes
mark-is bytes t h =
    ap (λ k. lexeme k t.bytes) (kind-is t.kind bytes t.bytes h)
    ∙ ap (lexeme Mark) (sym ((bytes_eq-Decides bytes t.bytes).0 (bytes-are t.kind bytes t.bytes h)))

pub next-is : (r : Reader) (at : ℕ) (t u : Lexeme) → IsNext r at t → t ≡ u → IsNext r at u
next-is r at t u n e = record { here = n.here ∙ ap (λ v. v ∷ drop (at + 1) (lexemes r)) e; within = n.within }

pub next-mark : (r : Reader) (at : ℕ) (bytes : List ℕ) (t : Lexeme) → IsNext r at t → is_mark bytes t ≡ true → IsNext r at (lexeme Mark bytes)
next-mark r at bytes t n h = next-is r at t (lexeme Mark bytes) n (mark-is bytes t h)

-- ---- the names that are bound stay

pub kept-reads :
    {P M : Type 0} (spell : P → List Lexeme → List Lexeme) (meaning : P → M) (r : Reader) (start : Surroundings → List Symbol) (a b : List Name) (level at next : ℕ) (value : M)
    → a ≡ b → Reads spell meaning r start a level at next value → Reads spell meaning r start b level at next value
kept-reads spell meaning r start a b level at next value e h =
    subst (λ (ns : List Name). Reads spell meaning r start ns level at next value) e h

pub kept-halts :
    (r : Reader) (start : Surroundings → List Symbol) (a b : List Name) (level at : ℕ) (halt : Halt)
    → a ≡ b → Halts r start a level at halt → Halts r start b level at halt
kept-halts r start a b level at halt e h = subst (λ (ns : List Name). Halts r start ns level at halt) e h
