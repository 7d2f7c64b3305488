-- A list of tokens is that of at most one typed formula.
use Rattle.std.proofs.Common.{◌≡◌, ℕ, true, false, Option, None, Some, List, [], ◌∷◌, codes, refl, ap, ap₂, sym, ◌∙◌, bytes_eq}
use Rattle.std.specs.Prelude.{if◌then◌else◌}
use Rattle.tptp_token.specs.Lexemes.{Lexeme, lexeme, word_lexeme}
use Rattle.tptp_token.specs.declared.token.Kind.{Kind}
use Rattle.tptp_token.specs.declared.token.Kind.TheVariants.{Lower, Variable, Quoted, Distinct, Dollar, Number, Connective, Mark, Other}
use Rattle.tptp_tree.specs.Formula.{BinaryConnective, implies, implied, equivalent, different, nor, nand, Quantifier, for_all, exists_some}
use Rattle.tptp_token.specs.Words.{Word, bare, quoted}
use Rattle.tptp_tree.specs.Spelling.{TermPhrase, variable_word, word_with, term_lexemes, arguments_lexemes, true_atom, false_atom, predicate_atom, equation_atom, equals_lexeme, connective_lexeme, quantifier_lexeme}
use Rattle.typed_tree.specs.TypedSpelling.{SortPhrase, dollar_sort, word_sort, sort_lexeme, VariablePhrase, sort_part_lexemes, variable_lexemes, VariablePhrases, more_variables_lexemes, UnitPhrase, negated, bound, in_brackets, atomic, UnitPhrases, no_units, unit_then, Phrase, alone, all_of, some_of, joined_by, unit_lexemes, units_lexemes, phrase_lexemes}
use Rattle.tptp_tree.proofs.AboutUniqueness.UniqueAtoms.{tail-same, head-same, first_is, Joint, nothing, ands, ors, two_by, first_joint, EndsUnit, EndsPhrase, word-same, Start, other_start, dollar_start, atom_start, atom-same}

-- ---- sorts

pub sort-same : (s t : SortPhrase) → sort_lexeme s ≡ sort_lexeme t → s ≡ t
sort-same dollar_sort dollar_sort e = refl
sort-same dollar_sort (word_sort (bare w)) e = absurd (let k : Dollar ≡ Lower = ap (λ (l : Lexeme). l.kind) e in cc)
sort-same dollar_sort (word_sort (quoted w)) e = absurd (let k : Dollar ≡ Quoted = ap (λ (l : Lexeme). l.kind) e in cc)
sort-same (word_sort (bare w)) dollar_sort e = absurd (let k : Lower ≡ Dollar = ap (λ (l : Lexeme). l.kind) e in cc)
sort-same (word_sort (quoted w)) dollar_sort e = absurd (let k : Quoted ≡ Dollar = ap (λ (l : Lexeme). l.kind) e in cc)
sort-same (word_sort w) (word_sort v) e = ap word_sort (word-same w v e)

-- ---- variables

-- what stands after a variable with its sort
record EndsVariable (ls : List Lexeme) : Type 0 where
  pub no_colon : first_is (codes ":") ls ≡ false

sort_part-same :
    (s t : Option SortPhrase) (ls ms : List Lexeme) → EndsVariable ls → EndsVariable ms → sort_part_lexemes s ls ≡ sort_part_lexemes t ms
    → (s ≡ t) × (ls ≡ ms)
sort_part-same None None ls ms h k e = (refl, e)
sort_part-same None (Some t) ls ms h k e = absurd (let f : false ≡ true = sym h.no_colon ∙ ap (first_is (codes ":")) e in cc)
sort_part-same (Some s) None ls ms h k e = absurd (let f : true ≡ false = ap (first_is (codes ":")) e ∙ k.no_colon in cc)
sort_part-same (Some s) (Some t) ls ms h k e =
    let inner = tail-same (lexeme Mark (codes ":")) (lexeme Mark (codes ":")) (sort_lexeme s ∷ ls) (sort_lexeme t ∷ ms) e in
    (ap Some (sort-same s t (head-same (sort_lexeme s) (sort_lexeme t) ls ms inner)), tail-same (sort_lexeme s) (sort_lexeme t) ls ms inner)

variable_with : List ℕ → Option SortPhrase → VariablePhrase
variable_with name sort = record { name = name; sort = sort }

variable-same :
    (x y : VariablePhrase) (ls ms : List Lexeme) → EndsVariable ls → EndsVariable ms → variable_lexemes x ls ≡ variable_lexemes y ms
    → (x ≡ y) × (ls ≡ ms)
unfolding variable_with
variable-same x y ls ms h k e =
    let first = head-same (lexeme Variable x.name) (lexeme Variable y.name) (sort_part_lexemes x.sort ls) (sort_part_lexemes y.sort ms) e in
    let more =
    sort_part-same x.sort y.sort ls ms h k
    (tail-same (lexeme Variable x.name) (lexeme Variable y.name) (sort_part_lexemes x.sort ls) (sort_part_lexemes y.sort ms) e) in
    (ap₂ variable_with (ap (λ (l : Lexeme). l.bytes) first) more.0, more.1)

variables-end : (xs : List VariablePhrase) (ls : List Lexeme) → EndsVariable (more_variables_lexemes xs (lexeme Mark (codes "]") ∷ ls))
variables-end [] ls = record { no_colon = refl }
variables-end (x ∷ xs) ls = record { no_colon = refl }

more_variables-same :
    (xs ys : List VariablePhrase) (ls ms : List Lexeme)
    → more_variables_lexemes xs (lexeme Mark (codes "]") ∷ ls) ≡ more_variables_lexemes ys (lexeme Mark (codes "]") ∷ ms)
    → (xs ≡ ys) × (ls ≡ ms)
more_variables-same [] [] ls ms e = (refl, tail-same (lexeme Mark (codes "]")) (lexeme Mark (codes "]")) ls ms e)
more_variables-same [] (y ∷ ys) ls ms e = absurd (let t : false ≡ true = ap (first_is (codes ",")) e in cc)
more_variables-same (x ∷ xs) [] ls ms e = absurd (let t : true ≡ false = ap (first_is (codes ",")) e in cc)
more_variables-same (x ∷ xs) (y ∷ ys) ls ms e =
    let after_x = more_variables_lexemes xs (lexeme Mark (codes "]") ∷ ls) in
    let after_y = more_variables_lexemes ys (lexeme Mark (codes "]") ∷ ms) in
    let first =
    variable-same x y after_x after_y (variables-end xs ls) (variables-end ys ms)
    (tail-same (lexeme Mark (codes ",")) (lexeme Mark (codes ",")) (variable_lexemes x after_x) (variable_lexemes y after_y) e) in
    let more = more_variables-same xs ys ls ms first.1 in
    (ap₂ (λ z zs. z ∷ zs) first.0 more.0, more.1)

variables_with : VariablePhrase → List VariablePhrase → VariablePhrases
variables_with first others = record { first = first; others = others }

variables-same :
    (xs ys : VariablePhrases) (ls ms : List Lexeme)
    → variable_lexemes xs.first (more_variables_lexemes xs.others (lexeme Mark (codes "]") ∷ ls))
    ≡ variable_lexemes ys.first (more_variables_lexemes ys.others (lexeme Mark (codes "]") ∷ ms))
    → (xs ≡ ys) × (ls ≡ ms)
unfolding variables_with
variables-same xs ys ls ms e =
    let first =
    variable-same xs.first ys.first (more_variables_lexemes xs.others (lexeme Mark (codes "]") ∷ ls))
    (more_variables_lexemes ys.others (lexeme Mark (codes "]") ∷ ms)) (variables-end xs.others ls) (variables-end ys.others ms) e in
    let more = more_variables-same xs.others ys.others ls ms first.1 in
    (ap₂ variables_with first.0 more.0, more.1)

-- ---- units

pub data UnitStart : Type 0 where
  tilde : UnitStart
  quantifier : Quantifier → UnitStart
  bracket : UnitStart
  atom_of : Start → UnitStart

abbrev pub sign_start : List ℕ → UnitStart
sign_start bytes =
    if bytes_eq bytes (codes "~") then tilde else (if bytes_eq bytes (codes "!") then quantifier for_all else quantifier exists_some)

abbrev pub lexeme_start : Kind → List ℕ → UnitStart
lexeme_start Lower bytes = atom_of other_start
lexeme_start Variable bytes = atom_of other_start
lexeme_start Quoted bytes = atom_of other_start
lexeme_start Distinct bytes = atom_of other_start
lexeme_start Dollar bytes = atom_of (dollar_start bytes)
lexeme_start Number bytes = atom_of other_start
lexeme_start Connective bytes = sign_start bytes
lexeme_start Mark bytes = bracket
lexeme_start Other bytes = atom_of other_start

abbrev pub first_unit : List Lexeme → UnitStart
first_unit [] = bracket
first_unit (l ∷ ls) = lexeme_start l.kind l.bytes

abbrev pub unit_start : UnitPhrase → UnitStart
unit_start (negated u) = tilde
unit_start (bound q xs u) = quantifier q
unit_start (in_brackets p) = bracket
unit_start (atomic a) = atom_of (atom_start a)

word-unit : (w : Word) (ls : List Lexeme) → first_unit (word_lexeme w ∷ ls) ≡ atom_of other_start
word-unit (bare x) ls = refl
word-unit (quoted x) ls = refl

term-unit : (t : TermPhrase) (ls : List Lexeme) → first_unit (term_lexemes t ls) ≡ atom_of other_start
term-unit (variable_word x) ls = refl
term-unit (word_with w ts) ls = word-unit w (arguments_lexemes ts ls)

pub unit-start : (u : UnitPhrase) (ls : List Lexeme) → first_unit (unit_lexemes u ls) ≡ unit_start u
unit-start (negated u) ls = refl
unit-start (bound for_all xs u) ls = refl
unit-start (bound exists_some xs u) ls = refl
unit-start (in_brackets p) ls = refl
unit-start (atomic true_atom) ls = refl
unit-start (atomic false_atom) ls = refl
unit-start (atomic (predicate_atom w ts)) ls = word-unit w (arguments_lexemes ts ls)
unit-start (atomic (equation_atom positive s t)) ls = term-unit s (equals_lexeme positive ∷ term_lexemes t ls)

starts-same :
    (u v : UnitPhrase) (ls ms : List Lexeme) → unit_lexemes u ls ≡ unit_lexemes v ms → unit_start u ≡ unit_start v
starts-same u v ls ms e = sym (unit-start u ls) ∙ ap first_unit e ∙ unit-start v ms

-- ---- what stands behind an operand

abbrev joint_lexeme : Joint → Lexeme
joint_lexeme nothing = lexeme Mark []
joint_lexeme ands = lexeme Connective (codes "&")
joint_lexeme ors = lexeme Connective (codes "|")
joint_lexeme (two_by c) = connective_lexeme c

joint-first : (c : BinaryConnective) (ls : List Lexeme) → first_joint (connective_lexeme c ∷ ls) ≡ two_by c
joint-first implies ls = refl
joint-first implied ls = refl
joint-first equivalent ls = refl
joint-first different ls = refl
joint-first nor ls = refl
joint-first nand ls = refl

connective-ends : (c : BinaryConnective) (ls : List Lexeme) → EndsUnit (connective_lexeme c ∷ ls)
connective-ends implies ls = record { flat = refl; alone_here = refl }
connective-ends implied ls = record { flat = refl; alone_here = refl }
connective-ends equivalent ls = record { flat = refl; alone_here = refl }
connective-ends different ls = record { flat = refl; alone_here = refl }
connective-ends nor ls = record { flat = refl; alone_here = refl }
connective-ends nand ls = record { flat = refl; alone_here = refl }

and-ends : (ls : List Lexeme) → EndsUnit (lexeme Connective (codes "&") ∷ ls)
and-ends ls = record { flat = refl; alone_here = refl }

pub or-ends : (ls : List Lexeme) → EndsUnit (lexeme Connective (codes "|") ∷ ls)
or-ends ls = record { flat = refl; alone_here = refl }

pub closed-ends : (ls : List Lexeme) → EndsPhrase (lexeme Mark (codes ")") ∷ ls)
closed-ends ls = record { unit = record { flat = refl; alone_here = refl }; last = refl }

-- the operand before the rest of a phrase
abbrev first_operand : Phrase → UnitPhrase
first_operand (alone u) = u
first_operand (all_of u v us) = u
first_operand (some_of u v us) = u
first_operand (joined_by c u v) = u

abbrev joint_of : Phrase → Joint
joint_of (alone u) = nothing
joint_of (all_of u v us) = ands
joint_of (some_of u v us) = ors
joint_of (joined_by c u v) = two_by c

abbrev rest_lexemes : Phrase → List Lexeme → List Lexeme
rest_lexemes (alone u) ls = ls
rest_lexemes (all_of u v us) ls = units_lexemes (lexeme Connective (codes "&")) (unit_then v us) ls
rest_lexemes (some_of u v us) ls = units_lexemes (lexeme Connective (codes "|")) (unit_then v us) ls
rest_lexemes (joined_by c u v) ls = connective_lexeme c ∷ unit_lexemes v ls

split-phrase : (p : Phrase) (ls : List Lexeme) → phrase_lexemes p ls ≡ unit_lexemes (first_operand p) (rest_lexemes p ls)
split-phrase (alone u) ls = refl
split-phrase (all_of u v us) ls = refl
split-phrase (some_of u v us) ls = refl
split-phrase (joined_by c u v) ls = refl

rest-ends : (p : Phrase) (ls : List Lexeme) → EndsPhrase ls → EndsUnit (rest_lexemes p ls)
rest-ends (alone u) ls h = h.unit
rest-ends (all_of u v us) ls h = and-ends _
rest-ends (some_of u v us) ls h = or-ends _
rest-ends (joined_by c u v) ls h = connective-ends c _

rest-joint : (p : Phrase) (ls : List Lexeme) → EndsPhrase ls → first_joint (rest_lexemes p ls) ≡ joint_of p
rest-joint (alone u) ls h = h.last
rest-joint (all_of u v us) ls h = refl
rest-joint (some_of u v us) ls h = refl
rest-joint (joined_by c u v) ls h = joint-first c (unit_lexemes v ls)

-- operands each with one sign before it
units-ends :
    (one : Lexeme) (us : UnitPhrases) (ls : List Lexeme)
    → ((ms : List Lexeme) → EndsUnit (one ∷ ms)) → EndsUnit ls → EndsUnit (units_lexemes one us ls)
units-ends one no_units ls s h = h
units-ends one (unit_then u us) ls s h = s (unit_lexemes u (units_lexemes one us ls))

joints :
    (p q : Phrase) (ls ms : List Lexeme)
    → EndsPhrase ls → EndsPhrase ms → rest_lexemes p ls ≡ rest_lexemes q ms → joint_of p ≡ joint_of q
joints p q ls ms h k e = sym (rest-joint p ls h) ∙ ap first_joint e ∙ rest-joint q ms k

ands-some : ands ≡ nothing → ⊥
ands-some e = cc

ors-some : ors ≡ nothing → ⊥
ors-some e = cc

pair-same : (u v u2 v2 : UnitPhrase) → u ≡ v → u2 ≡ v2 → (let x : UnitPhrase × UnitPhrase = (u, u2) in x) ≡ (v, v2)
pair-same u v u2 v2 e f = ap₂ (λ x y. let z : UnitPhrase × UnitPhrase = (x, y) in z) e f

mutual
  unit-same :
      (u v : UnitPhrase) (ls ms : List Lexeme)
      → EndsUnit ls → EndsUnit ms → unit_start u ≡ unit_start v → unit_lexemes u ls ≡ unit_lexemes v ms → (u ≡ v) × (ls ≡ ms)
  unit-same (negated u) (negated v) ls ms h k s e =
      let inner = tail-same (lexeme Connective (codes "~")) (lexeme Connective (codes "~")) (unit_lexemes u ls) (unit_lexemes v ms) e in
      let same = unit-same u v ls ms h k (starts-same u v ls ms inner) inner in (ap negated same.0, same.1)
  unit-same (negated u) (bound r ys v) ls ms h k s e = absurd (cc)
  unit-same (negated u) (in_brackets q) ls ms h k s e = absurd (cc)
  unit-same (negated u) (atomic b) ls ms h k s e = absurd (cc)
  unit-same (bound q xs u) (negated v) ls ms h k s e = absurd (cc)
  unit-same (bound q xs u) (bound r ys v) ls ms h k s e =
      let quantifiers : q ≡ r = cc in
      let after_quantifier = tail-same (quantifier_lexeme q) (quantifier_lexeme r) _ _ e in
      let inside = tail-same (lexeme Mark (codes "[")) (lexeme Mark (codes "[")) _ _ after_quantifier in
      let variables =
      variables-same xs ys (lexeme Mark (codes ":") ∷ unit_lexemes u ls) (lexeme Mark (codes ":") ∷ unit_lexemes v ms) inside in
      let body = tail-same (lexeme Mark (codes ":")) (lexeme Mark (codes ":")) (unit_lexemes u ls) (unit_lexemes v ms) variables.1 in
      let same = unit-same u v ls ms h k (starts-same u v ls ms body) body in
      (ap (λ x. bound x xs u) quantifiers ∙ ap₂ (bound r) variables.0 same.0, same.1)
  unit-same (bound q xs u) (in_brackets p) ls ms h k s e = absurd (cc)
  unit-same (bound q xs u) (atomic b) ls ms h k s e = absurd (cc)
  unit-same (in_brackets p) (negated v) ls ms h k s e = absurd (cc)
  unit-same (in_brackets p) (bound r ys v) ls ms h k s e = absurd (cc)
  unit-same (in_brackets p) (in_brackets q) ls ms h k s e =
      let inner = tail-same (lexeme Mark (codes "(")) (lexeme Mark (codes "(")) _ _ e in
      let same =
      phrase-same p q (lexeme Mark (codes ")") ∷ ls) (lexeme Mark (codes ")") ∷ ms) (closed-ends ls) (closed-ends ms) inner in
      (ap in_brackets same.0, tail-same (lexeme Mark (codes ")")) (lexeme Mark (codes ")")) ls ms same.1)
  unit-same (in_brackets p) (atomic b) ls ms h k s e = absurd (cc)
  unit-same (atomic a) (negated v) ls ms h k s e = absurd (cc)
  unit-same (atomic a) (bound r ys v) ls ms h k s e = absurd (cc)
  unit-same (atomic a) (in_brackets q) ls ms h k s e = absurd (cc)
  unit-same (atomic a) (atomic b) ls ms h k s e =
      let starts : atom_start a ≡ atom_start b = cc in
      let same = atom-same a b ls ms h k starts e in (ap atomic same.0, same.1)

  units-same :
      (one : Lexeme) (joint : Joint) (us vs : UnitPhrases) (ls ms : List Lexeme)
      → ((ns : List Lexeme) → EndsUnit (one ∷ ns)) → ((ns : List Lexeme) → first_joint (one ∷ ns) ≡ joint) → (joint ≡ nothing → ⊥)
      → EndsPhrase ls → EndsPhrase ms → units_lexemes one us ls ≡ units_lexemes one vs ms → (us ≡ vs) × (ls ≡ ms)
  units-same one joint no_units no_units ls ms f j n h k e = (refl, e)
  units-same one joint no_units (unit_then v vs) ls ms f j n h k e =
      absurd (n (sym (j (unit_lexemes v (units_lexemes one vs ms))) ∙ ap first_joint (sym e) ∙ h.last))
  units-same one joint (unit_then u us) no_units ls ms f j n h k e =
      absurd (n (sym (j (unit_lexemes u (units_lexemes one us ls))) ∙ ap first_joint e ∙ k.last))
  units-same one joint (unit_then u us) (unit_then v vs) ls ms f j n h k e =
      let inner = tail-same one one (unit_lexemes u (units_lexemes one us ls)) (unit_lexemes v (units_lexemes one vs ms)) e in
      let first =
      unit-same u v (units_lexemes one us ls) (units_lexemes one vs ms) (units-ends one us ls f h.unit) (units-ends one vs ms f k.unit)
      (starts-same u v (units_lexemes one us ls) (units_lexemes one vs ms) inner) inner in
      let more = units-same one joint us vs ls ms f j n h k first.1 in (ap₂ unit_then first.0 more.0, more.1)

  pub phrase-same :
      (p q : Phrase) (ls ms : List Lexeme)
      → EndsPhrase ls → EndsPhrase ms → phrase_lexemes p ls ≡ phrase_lexemes q ms → (p ≡ q) × (ls ≡ ms)
  phrase-same (alone u) (alone v) ls ms h k e =
      let same = unit-same u v ls ms h.unit k.unit (starts-same u v ls ms e) e in (ap alone same.0, same.1)
  phrase-same (alone u) (all_of v v2 vs) ls ms h k e =
      let first =
      unit-same u v (rest_lexemes (alone u) ls) (rest_lexemes (all_of v v2 vs) ms) (rest-ends (alone u) ls h) (rest-ends (all_of v v2 vs) ms k)
      (starts-same u v (rest_lexemes (alone u) ls) (rest_lexemes (all_of v v2 vs) ms) e) e in
      let joint : nothing ≡ ands = joints (alone u) (all_of v v2 vs) ls ms h k first.1 in absurd (cc)
  phrase-same (alone u) (some_of v v2 vs) ls ms h k e =
      let first =
      unit-same u v (rest_lexemes (alone u) ls) (rest_lexemes (some_of v v2 vs) ms) (rest-ends (alone u) ls h) (rest-ends (some_of v v2 vs) ms k)
      (starts-same u v (rest_lexemes (alone u) ls) (rest_lexemes (some_of v v2 vs) ms) e) e in
      let joint : nothing ≡ ors = joints (alone u) (some_of v v2 vs) ls ms h k first.1 in absurd (cc)
  phrase-same (alone u) (joined_by d v v2) ls ms h k e =
      let first =
      unit-same u v (rest_lexemes (alone u) ls) (rest_lexemes (joined_by d v v2) ms) (rest-ends (alone u) ls h) (rest-ends (joined_by d v v2) ms k)
      (starts-same u v (rest_lexemes (alone u) ls) (rest_lexemes (joined_by d v v2) ms) e) e in
      let joint : nothing ≡ two_by d = joints (alone u) (joined_by d v v2) ls ms h k first.1 in absurd (cc)
  phrase-same (all_of u u2 us) (alone v) ls ms h k e =
      let first =
      unit-same u v (rest_lexemes (all_of u u2 us) ls) (rest_lexemes (alone v) ms) (rest-ends (all_of u u2 us) ls h) (rest-ends (alone v) ms k)
      (starts-same u v (rest_lexemes (all_of u u2 us) ls) (rest_lexemes (alone v) ms) e) e in
      let joint : ands ≡ nothing = joints (all_of u u2 us) (alone v) ls ms h k first.1 in absurd (cc)
  phrase-same (all_of u u2 us) (all_of v v2 vs) ls ms h k e =
      let first =
      unit-same u v (rest_lexemes (all_of u u2 us) ls) (rest_lexemes (all_of v v2 vs) ms) (rest-ends (all_of u u2 us) ls h) (rest-ends (all_of v v2 vs) ms k)
      (starts-same u v (rest_lexemes (all_of u u2 us) ls) (rest_lexemes (all_of v v2 vs) ms) e) e in
      let inner = tail-same (lexeme Connective (codes "&")) (lexeme Connective (codes "&")) _ _ first.1 in
      let second =
      unit-same u2 v2 (units_lexemes (lexeme Connective (codes "&")) us ls) (units_lexemes (lexeme Connective (codes "&")) vs ms) (units-ends (lexeme Connective (codes "&")) us ls and-ends h.unit)
      (units-ends (lexeme Connective (codes "&")) vs ms and-ends k.unit) (starts-same u2 v2 (units_lexemes (lexeme Connective (codes "&")) us ls) (units_lexemes (lexeme Connective (codes "&")) vs ms) inner) inner in
      let more = units-same (lexeme Connective (codes "&")) ands us vs ls ms and-ends (λ ns. refl) ands-some h k second.1 in
      (ap₂ (λ (x : UnitPhrase × UnitPhrase) xs. all_of x.0 x.1 xs) (pair-same u v u2 v2 first.0 second.0) more.0, more.1)
  phrase-same (all_of u u2 us) (some_of v v2 vs) ls ms h k e =
      let first =
      unit-same u v (rest_lexemes (all_of u u2 us) ls) (rest_lexemes (some_of v v2 vs) ms) (rest-ends (all_of u u2 us) ls h) (rest-ends (some_of v v2 vs) ms k)
      (starts-same u v (rest_lexemes (all_of u u2 us) ls) (rest_lexemes (some_of v v2 vs) ms) e) e in
      let joint : ands ≡ ors = joints (all_of u u2 us) (some_of v v2 vs) ls ms h k first.1 in absurd (cc)
  phrase-same (all_of u u2 us) (joined_by d v v2) ls ms h k e =
      let first =
      unit-same u v (rest_lexemes (all_of u u2 us) ls) (rest_lexemes (joined_by d v v2) ms) (rest-ends (all_of u u2 us) ls h) (rest-ends (joined_by d v v2) ms k)
      (starts-same u v (rest_lexemes (all_of u u2 us) ls) (rest_lexemes (joined_by d v v2) ms) e) e in
      let joint : ands ≡ two_by d = joints (all_of u u2 us) (joined_by d v v2) ls ms h k first.1 in absurd (cc)
  phrase-same (some_of u u2 us) (alone v) ls ms h k e =
      let first =
      unit-same u v (rest_lexemes (some_of u u2 us) ls) (rest_lexemes (alone v) ms) (rest-ends (some_of u u2 us) ls h) (rest-ends (alone v) ms k)
      (starts-same u v (rest_lexemes (some_of u u2 us) ls) (rest_lexemes (alone v) ms) e) e in
      let joint : ors ≡ nothing = joints (some_of u u2 us) (alone v) ls ms h k first.1 in absurd (cc)
  phrase-same (some_of u u2 us) (all_of v v2 vs) ls ms h k e =
      let first =
      unit-same u v (rest_lexemes (some_of u u2 us) ls) (rest_lexemes (all_of v v2 vs) ms) (rest-ends (some_of u u2 us) ls h) (rest-ends (all_of v v2 vs) ms k)
      (starts-same u v (rest_lexemes (some_of u u2 us) ls) (rest_lexemes (all_of v v2 vs) ms) e) e in
      let joint : ors ≡ ands = joints (some_of u u2 us) (all_of v v2 vs) ls ms h k first.1 in absurd (cc)
  phrase-same (some_of u u2 us) (some_of v v2 vs) ls ms h k e =
      let first =
      unit-same u v (rest_lexemes (some_of u u2 us) ls) (rest_lexemes (some_of v v2 vs) ms) (rest-ends (some_of u u2 us) ls h) (rest-ends (some_of v v2 vs) ms k)
      (starts-same u v (rest_lexemes (some_of u u2 us) ls) (rest_lexemes (some_of v v2 vs) ms) e) e in
      let inner = tail-same (lexeme Connective (codes "|")) (lexeme Connective (codes "|")) _ _ first.1 in
      let second =
      unit-same u2 v2 (units_lexemes (lexeme Connective (codes "|")) us ls) (units_lexemes (lexeme Connective (codes "|")) vs ms) (units-ends (lexeme Connective (codes "|")) us ls or-ends h.unit)
      (units-ends (lexeme Connective (codes "|")) vs ms or-ends k.unit) (starts-same u2 v2 (units_lexemes (lexeme Connective (codes "|")) us ls) (units_lexemes (lexeme Connective (codes "|")) vs ms) inner) inner in
      let more = units-same (lexeme Connective (codes "|")) ors us vs ls ms or-ends (λ ns. refl) ors-some h k second.1 in
      (ap₂ (λ (x : UnitPhrase × UnitPhrase) xs. some_of x.0 x.1 xs) (pair-same u v u2 v2 first.0 second.0) more.0, more.1)
  phrase-same (some_of u u2 us) (joined_by d v v2) ls ms h k e =
      let first =
      unit-same u v (rest_lexemes (some_of u u2 us) ls) (rest_lexemes (joined_by d v v2) ms) (rest-ends (some_of u u2 us) ls h) (rest-ends (joined_by d v v2) ms k)
      (starts-same u v (rest_lexemes (some_of u u2 us) ls) (rest_lexemes (joined_by d v v2) ms) e) e in
      let joint : ors ≡ two_by d = joints (some_of u u2 us) (joined_by d v v2) ls ms h k first.1 in absurd (cc)
  phrase-same (joined_by c u u2) (alone v) ls ms h k e =
      let first =
      unit-same u v (rest_lexemes (joined_by c u u2) ls) (rest_lexemes (alone v) ms) (rest-ends (joined_by c u u2) ls h) (rest-ends (alone v) ms k)
      (starts-same u v (rest_lexemes (joined_by c u u2) ls) (rest_lexemes (alone v) ms) e) e in
      let joint : two_by c ≡ nothing = joints (joined_by c u u2) (alone v) ls ms h k first.1 in absurd (cc)
  phrase-same (joined_by c u u2) (all_of v v2 vs) ls ms h k e =
      let first =
      unit-same u v (rest_lexemes (joined_by c u u2) ls) (rest_lexemes (all_of v v2 vs) ms) (rest-ends (joined_by c u u2) ls h) (rest-ends (all_of v v2 vs) ms k)
      (starts-same u v (rest_lexemes (joined_by c u u2) ls) (rest_lexemes (all_of v v2 vs) ms) e) e in
      let joint : two_by c ≡ ands = joints (joined_by c u u2) (all_of v v2 vs) ls ms h k first.1 in absurd (cc)
  phrase-same (joined_by c u u2) (some_of v v2 vs) ls ms h k e =
      let first =
      unit-same u v (rest_lexemes (joined_by c u u2) ls) (rest_lexemes (some_of v v2 vs) ms) (rest-ends (joined_by c u u2) ls h) (rest-ends (some_of v v2 vs) ms k)
      (starts-same u v (rest_lexemes (joined_by c u u2) ls) (rest_lexemes (some_of v v2 vs) ms) e) e in
      let joint : two_by c ≡ ors = joints (joined_by c u u2) (some_of v v2 vs) ls ms h k first.1 in absurd (cc)
  phrase-same (joined_by c u u2) (joined_by d v v2) ls ms h k e =
      let first =
      unit-same u v (rest_lexemes (joined_by c u u2) ls) (rest_lexemes (joined_by d v v2) ms) (rest-ends (joined_by c u u2) ls h) (rest-ends (joined_by d v v2) ms k)
      (starts-same u v (rest_lexemes (joined_by c u u2) ls) (rest_lexemes (joined_by d v v2) ms) e) e in
      let joint : two_by c ≡ two_by d = joints (joined_by c u u2) (joined_by d v v2) ls ms h k first.1 in
      let connectives : c ≡ d = cc in
      let inner = tail-same (connective_lexeme c) (connective_lexeme d) (unit_lexemes u2 ls) (unit_lexemes v2 ms) first.1 in
      let second = unit-same u2 v2 ls ms h.unit k.unit (starts-same u2 v2 ls ms inner) inner in
      (ap (λ x. joined_by x u u2) connectives ∙ ap₂ (joined_by d) first.0 second.0, second.1)
