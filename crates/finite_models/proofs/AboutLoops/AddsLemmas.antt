-- Clauses that are added one after another.
use Rattle.std.proofs.Common.{◌≡◌, ℕ, ◌+◌, ◌*◌, ◌<◌, ◌≤◌, nat_lt, Bool, true, false, not, ◌&&◌, ◌||◌, List, [], ◌∷◌, ◌++◌, append_assoc, append-nil, refl, ap, ap₂, sym, ◌∙◌, arith}
use mathlib.Core.Bool.{beq}
use Rattle.std.specs.List.{list_any, list_all}
use Rattle.std.proofs.lemmas.Bool.{and_parts, and_from, lt-ltb, ltb-true}
use Rattle.std.proofs.lemmas.List.Folds.{list_all-append, list_any-append}
use Rattle.std.proofs.lemmas.Nat.{mul-add-lt}
use Rattle.plain_types.specs.declared.sequence.NameLit.{NameLit}
use Rattle.plain_types.specs.Names.{positive_of, negative_of}
use Rattle.list_lemmas.proofs.Bools.{and-true, or-false}
use Rattle.fol_base.specs.Canonical.{numbers_from}
use Rattle.sat_core.specs.Clause.{PropClause, Valuation, is_below, names_below, literal_true, clause_true, clauses_true}
use Rattle.finite_models.specs.Translation.{Adds, value_name, has_value, has_no_lower, has_no_two}
use Rattle.finite_models.proofs.AboutNumbers.ListLemmas.{all-more, any-more}

pub adds-nothing : (bound : ℕ) (cs : List PropClause) (p : Valuation → Bool) → ((v : Valuation) → p v ≡ true) → Adds bound cs cs p
adds-nothing bound cs p h = record { added = []; appended = sym (append-nil cs); truth = λ v. sym (h v); below = refl }

pub adds-more :
    (bound : ℕ) (old mid new : List PropClause) (p q r : Valuation → Bool)
    → Adds bound old mid p → Adds bound mid new q → ((v : Valuation) → r v ≡ (p v && q v)) → Adds bound old new r
adds-more bound old mid new p q r h k e =
    record {
      added = h.added ++ k.added;
      appended = k.appended ∙ ap (λ cs. cs ++ k.added) h.appended ∙ append_assoc old h.added k.added;
      truth = λ v.
          list_all-append (clause_true v) h.added k.added ∙ ap₂ ◌&&◌ (h.truth v) (k.truth v) ∙ sym (e v);
      below =
          list_all-append (λ (d : PropClause). list_all (is_below bound) d) h.added k.added
          ∙ and_from (names_below bound h.added) (names_below bound k.added) h.below k.below;
    }

pub adds-clause :
    (bound : ℕ) (old new : List PropClause) (c : PropClause) (p : Valuation → Bool)
    → new ≡ old ++ c ∷ [] → list_all (is_below bound) c ≡ true → ((v : Valuation) → clause_true v c ≡ p v) → Adds bound old new p
adds-clause bound old new c p e h k =
    record {
      added = c ∷ [];
      appended = e;
      truth = λ v. and-true (clause_true v c) ∙ k v;
      below = and-true (list_all (is_below bound) c) ∙ h;
    }

-- a condition that says the same
pub adds-as :
    (bound : ℕ) (old new : List PropClause) (p q : Valuation → Bool) → Adds bound old new p → ((v : Valuation) → p v ≡ q v) → Adds bound old new q
adds-as bound old new p q h e =
    record { added = h.added; appended = h.appended; truth = λ v. h.truth v ∙ e v; below = h.below }

-- a higher bound
clause-wider : (bound wide : ℕ) → bound ≤ wide → (c : PropClause) → list_all (is_below bound) c ≡ true → list_all (is_below wide) c ≡ true
clause-wider bound wide w [] h = refl
clause-wider bound wide w (l ∷ c) h =
    let parts = and_parts (is_below bound l) (list_all (is_below bound) c) h in
    let low : l.name < wide = omega (arith, ltb-true l.name bound parts.0, w) in
    and_from (is_below wide l) (list_all (is_below wide) c) (lt-ltb l.name wide low) (clause-wider bound wide w c parts.1)

names-wider : (bound wide : ℕ) → bound ≤ wide → (cs : List PropClause) → names_below bound cs ≡ true → names_below wide cs ≡ true
names-wider bound wide w [] h = refl
names-wider bound wide w (c ∷ cs) h =
    let parts = and_parts (list_all (is_below bound) c) (names_below bound cs) h in
    and_from (list_all (is_below wide) c) (names_below wide cs) (clause-wider bound wide w c parts.0) (names-wider bound wide w cs parts.1)

pub adds-wider :
    (bound wide : ℕ) (old new : List PropClause) (p : Valuation → Bool) → bound ≤ wide → Adds bound old new p → Adds wide old new p
adds-wider bound wide old new p w h =
    record { added = h.added; appended = h.appended; truth = h.truth; below = names-wider bound wide w h.added h.below }

-- what is added to nothing is all that there is
pub all-added : (bound : ℕ) (new : List PropClause) (p : Valuation → Bool) → Adds bound [] new p → (v : Valuation) → clauses_true v new ≡ p v
all-added bound new p h v = ap (clauses_true v) h.appended ∙ h.truth v

pub all-below : (bound : ℕ) (new : List PropClause) (p : Valuation → Bool) → Adds bound [] new p → names_below bound new ≡ true
all-below bound new p h = ap (names_below bound) h.appended ∙ h.below

-- ---- one more literal of a clause

clause-push : (v : Valuation) (c : PropClause) (l : NameLit) → clause_true v (c ++ l ∷ []) ≡ (clause_true v c || literal_true v l)
clause-push v c l =
    list_any-append (literal_true v) c (l ∷ []) ∙ ap (λ b. clause_true v c || b) (or-false (literal_true v l))

below-push :
    (bound : ℕ) (c : PropClause) (l : NameLit)
    → list_all (is_below bound) c ≡ true → l.name < bound → list_all (is_below bound) (c ++ l ∷ []) ≡ true
below-push bound c l h k =
    list_all-append (is_below bound) c (l ∷ [])
    ∙ and_from (list_all (is_below bound) c) (is_below bound l && true) h (and-true (is_below bound l) ∙ lt-ltb l.name bound k)

-- A clause that is being written: it is true where something is, and has no name from the bound on.
pub record Writes (bound : ℕ) (c : PropClause) (condition : Valuation → Bool) : Type 0 where
  pub truth : (v : Valuation) → clause_true v c ≡ condition v
  pub below : list_all (is_below bound) c ≡ true

pub writes-more :
    (bound : ℕ) (c d : PropClause) (l : NameLit) (p q r : Valuation → Bool)
    → Writes bound c p → d ≡ c ++ l ∷ [] → l.name < bound → ((v : Valuation) → literal_true v l ≡ q v) → ((v : Valuation) → r v ≡ (p v || q v))
    → Writes bound d r
writes-more bound c d l p q r w e h k m =
    record {
      truth = λ v. ap (clause_true v) e ∙ clause-push v c l ∙ ap₂ ◌||◌ (w.truth v) (k v) ∙ sym (m v);
      below = ap (list_all (is_below bound)) e ∙ below-push bound c l w.below h;
    }

pub writes-as : (bound : ℕ) (c : PropClause) (p q : Valuation → Bool) → Writes bound c p → ((v : Valuation) → q v ≡ p v) → Writes bound c q
writes-as bound c p q w e = record { truth = λ v. w.truth v ∙ sym (e v); below = w.below }

pub writes-none : (bound : ℕ) (c : PropClause) (p : Valuation → Bool) → c ≡ [] → ((v : Valuation) → p v ≡ false) → Writes bound c p
writes-none bound c p e h =
    record { truth = λ v. ap (clause_true v) e ∙ sym (h v); below = ap (list_all (is_below bound)) e }

pub adds-written :
    (bound : ℕ) (old new : List PropClause) (c d : PropClause) (p : Valuation → Bool)
    → new ≡ old ++ d ∷ [] → d ≡ c → Writes bound c p → Adds bound old new p
adds-written bound old new c d p e s w = adds-clause bound old new c p (e ∙ ap (λ (x : PropClause). old ++ x ∷ []) s) w.below w.truth

-- ---- the clauses of a function

pub value_name-below :
    (first size rows number value : ℕ) → number < rows → value < size → value_name first rows number value < first + size * rows
value_name-below first size rows number value h k =
    let m = mul-add-lt value rows number size k h in
    let turned : rows * size ≡ size * rows = omega arith in omega (arith, m, turned)

positive-is : (b : Bool) → beq b true ≡ b
positive-is true = refl
positive-is false = refl

pub negative-is : (b : Bool) → beq b false ≡ not b
negative-is true = refl
negative-is false = refl

pub some-value-next :
    (bound first rows number value name : ℕ) (c d : PropClause)
    → Writes bound c (λ v. list_any (λ w. v (value_name first rows number w)) (numbers_from 0 value))
    → d ≡ c ++ positive_of name ∷ [] → name ≡ value_name first rows number value → name < bound
    → Writes bound d (λ v. list_any (λ w. v (value_name first rows number w)) (numbers_from 0 (value + 1)))
some-value-next bound first rows number value name c d w e s h =
    writes-more bound c d (positive_of name)
    (λ v. list_any (λ w. v (value_name first rows number w)) (numbers_from 0 value)) (λ v. v (value_name first rows number value))
    (λ v. list_any (λ w. v (value_name first rows number w)) (numbers_from 0 (value + 1))) w e h (λ v. positive-is (v name) ∙ ap v s)
    (λ v. any-more (λ w. v (value_name first rows number w)) value)

pub no-lower-next :
    (bound first rows number value lower one other : ℕ) (old mid new : List PropClause)
    → Adds bound old mid (λ v. list_all (λ w. not (v (value_name first rows number w)) || not (v (value_name first rows number value))) (numbers_from 0 lower))
    → new ≡ mid ++ (negative_of one ∷ negative_of other ∷ []) ∷ []
    → one ≡ value_name first rows number lower → other ≡ value_name first rows number value → one < bound → other < bound
    → Adds bound old new (λ v. list_all (λ w. not (v (value_name first rows number w)) || not (v (value_name first rows number value))) (numbers_from 0 (lower + 1)))
no-lower-next bound first rows number value lower one other old mid new a e s t h k =
    adds-more bound old mid new
    (λ v. list_all (λ w. not (v (value_name first rows number w)) || not (v (value_name first rows number value))) (numbers_from 0 lower))
    (λ v. not (v (value_name first rows number lower)) || not (v (value_name first rows number value)))
    (λ v. list_all (λ w. not (v (value_name first rows number w)) || not (v (value_name first rows number value))) (numbers_from 0 (lower + 1)))
    a
    (adds-clause bound mid new (negative_of one ∷ negative_of other ∷ [])
    (λ v. not (v (value_name first rows number lower)) || not (v (value_name first rows number value))) e
    (and_from (nat_lt one bound) (nat_lt other bound && true) (lt-ltb one bound h) (and-true (nat_lt other bound) ∙ lt-ltb other bound k))
    (λ v.
    ap₂ ◌||◌ (negative-is (v one) ∙ ap (λ n. not (v n)) s) (or-false (beq (v other) false) ∙ negative-is (v other) ∙ ap (λ n. not (v n)) t)))
    (λ v. all-more (λ w. not (v (value_name first rows number w)) || not (v (value_name first rows number value))) lower)

pub no-two-next :
    (bound first rows number value : ℕ) (old mid new : List PropClause)
    → Adds bound old mid (has_no_two value first rows number) → Adds bound mid new (has_no_lower first rows number value)
    → Adds bound old new (has_no_two (value + 1) first rows number)
no-two-next bound first rows number value old mid new a b =
    adds-more bound old mid new (has_no_two value first rows number) (has_no_lower first rows number value) (has_no_two (value + 1) first rows number) a b
    (λ v. all-more (λ w. has_no_lower first rows number w v) value)

pub function-next :
    (bound size first rows number : ℕ) (old mid next new : List PropClause)
    → Adds bound old mid (λ v. list_all (λ k. has_value size first rows k v && has_no_two size first rows k v) (numbers_from 0 number))
    → Adds bound mid next (has_value size first rows number) → Adds bound next new (has_no_two size first rows number)
    → Adds bound old new (λ v. list_all (λ k. has_value size first rows k v && has_no_two size first rows k v) (numbers_from 0 (number + 1)))
function-next bound size first rows number old mid next new a b c =
    adds-more bound old mid new
    (λ v. list_all (λ k. has_value size first rows k v && has_no_two size first rows k v) (numbers_from 0 number))
    (λ v. has_value size first rows number v && has_no_two size first rows number v)
    (λ v. list_all (λ k. has_value size first rows k v && has_no_two size first rows k v) (numbers_from 0 (number + 1)))
    a
    (adds-more bound mid next new (has_value size first rows number) (has_no_two size first rows number)
    (λ v. has_value size first rows number v && has_no_two size first rows number v) b c (λ v. refl))
    (λ v. all-more (λ k. has_value size first rows k v && has_no_two size first rows k v) number)
