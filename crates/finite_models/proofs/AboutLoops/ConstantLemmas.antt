-- The clauses of one more value of a constant, and of one more symbol.
use Rattle.std.proofs.Common.{◌≡◌, ℕ, zero, suc, ◌+◌, ◌*◌, ◌^◌, ◌<◌, ◌≤◌, ◌==◌, nat_lt, Bool, true, false, not, ◌&&◌, ◌||◌, List, [], ◌∷◌, ◌++◌, length, get_or, Some, if◌then◌else◌, refl, ap, ap₂, sym, ◌∙◌, subst, arith}
use mathlib.Core.Bool.{beq}
use Rattle.std.specs.Prelude.{slice_get, slice_index_or, unwrap_or, option_map}
use Rattle.std.specs.List.{list_all}
use Rattle.std.proofs.Math.Nat.{pow-zero, pow-succ'}
use Rattle.std.proofs.lemmas.Bool.{and_parts, lt-ltb, eqb-true}
use Rattle.std.proofs.lemmas.Option.{slice_get_read}
use Rattle.plain_types.specs.Names.{negative_of}
use Rattle.list_lemmas.proofs.Bools.{and-true, or-false}
use Rattle.list_lemmas.proofs.Numbers.{not-less}
use Rattle.fol_base.specs.Canonical.{numbers_from}
use Rattle.sat_core.specs.Clause.{PropClause, Valuation}
use Rattle.signature.specs.declared.symbol.Symbol.{Symbol}
use Rattle.signature.specs.Symbol.{is_predicate_kind}
use Rattle.signature.specs.Form.{is_constant}
use Rattle.finite_models.specs.declared.entry_names.EntryNames.{EntryNames}
use Rattle.finite_models.specs.Constants.{is_constant_in, constants_before, has_none_above, one_constant_true, constant_true}
use Rattle.finite_models.specs.EntryNames.{entry_count, AreEntryNames}
use Rattle.finite_models.specs.Translation.{Adds}
use Rattle.finite_models.proofs.AboutNumbers.ListLemmas.{all-more}
use Rattle.finite_models.proofs.AboutTables.NameLemmas.{block-of}
use Rattle.finite_models.proofs.AboutLoops.AddsLemmas.{adds-more, adds-as, adds-clause, adds-wider, negative-is}

-- ---- one more value

module _ (first most : ℕ) where
  abbrev bounded : ℕ → Valuation → Bool
  bounded v valuation = not (nat_lt most v) || not (valuation (first + v))

  pub value-refused :
      (bound value name : ℕ) (old mid new : List PropClause)
      → Adds bound old mid (has_none_above value first most) → new ≡ mid ++ (negative_of name ∷ []) ∷ [] → name ≡ first + value → name < bound
      → most < value → Adds bound old new (has_none_above (value + 1) first most)
  value-refused bound value name old mid new a e s h k =
      adds-more bound old mid new (has_none_above value first most) (bounded value) (has_none_above (value + 1) first most) a
      (adds-clause bound mid new (negative_of name ∷ []) (bounded value) e (and-true (nat_lt name bound) ∙ lt-ltb name bound h)
      (λ v.
      or-false (beq (v name) false)
      ∙ negative-is (v name)
      ∙ ap (λ (m : ℕ). not (v m)) s
      ∙ sym (ap (λ (b : Bool). not b || not (v (first + value))) (lt-ltb most value k))))
      (λ v. all-more (λ w. bounded w v) value)

  pub value-allowed :
      (bound value : ℕ) (old new : List PropClause)
      → Adds bound old new (has_none_above value first most) → value ≤ most → Adds bound old new (has_none_above (value + 1) first most)
  value-allowed bound value old new a h =
      adds-as bound old new (has_none_above value first most) (has_none_above (value + 1) first most) a
      (λ v.
      sym (all-more (λ w. bounded w v) value
      ∙ ap (λ (b : Bool). has_none_above value first most v && (not b || not (v (first + value)))) (not-less most value h)
      ∙ and-true (has_none_above value first most v)))

-- ---- one symbol

-- the parts of a constant
constant-parts : (s : Symbol) → is_constant s ≡ true → (is_predicate_kind s.kind ≡ false) × (s.arity ≡ 0)
constant-parts s h =
    let parts = and_parts (not (is_predicate_kind s.kind)) (s.arity == 0) h in (by (is_predicate_kind s.kind) parts.0, eqb-true s.arity 0 parts.1)
  where
    by : (b : Bool) → not b ≡ true → b ≡ false
    by true e = sym e
    by false e = refl

-- a constant has as many names as there are values
pub constant-count : (size : ℕ) (s : Symbol) → is_constant s ≡ true → entry_count size s ≡ size
constant-count size s h =
    let parts = constant-parts s h in
    ap₂ (λ (b : Bool) (k : ℕ). size ^ (if b then k else k + 1)) parts.0 parts.1
    ∙ ap (λ (k : ℕ). size ^ k) (let one : 0 + 1 ≡ suc 0 = omega arith in one)
    ∙ pow-succ' size 0
    ∙ ap (λ (k : ℕ). size * k) (pow-zero size)
    ∙ (let plain : size * 1 ≡ size = omega arith in plain)

pub other-symbol :
    (size first before : ℕ) (s : Symbol) (valuation : Valuation) → is_constant s ≡ false → one_constant_true size first before s valuation ≡ true
other-symbol size first before s valuation e = ap (λ (b : Bool). if b then has_none_above size first before valuation else true) e

pub constant-added :
    (size first before : ℕ) (s : Symbol) (old new : List PropClause) → is_constant s ≡ true
    → Adds (first + size) old new (has_none_above size first before)
    → Adds (first + entry_count size s) old new (one_constant_true size first before s)
constant-added size first before s old new e a =
    subst (λ (k : ℕ). Adds (first + k) old new (one_constant_true size first before s)) (sym (constant-count size s e))
    (adds-as (first + size) old new (has_none_above size first before) (one_constant_true size first before s) a
    (λ v. sym (ap (λ (b : Bool). if b then has_none_above size first before v else true) e)))

-- ---- one more symbol

constant-there : (symbols : List Symbol) (f : ℕ) (s : Symbol) → slice_get symbols f ≡ Some s → is_constant_in symbols f ≡ is_constant s
constant-there symbols f s h = ap (λ o. unwrap_or (option_map is_constant o) false) h

pub constant-next :
    (symbols : List Symbol) (n : EntryNames) (f : ℕ) (s : Symbol) (first before : ℕ) (old mid new : List PropClause)
    → AreEntryNames symbols n → f < length symbols → s ≡ get_or symbols f s → first ≡ slice_index_or n.firsts.items f 0
    → before ≡ constants_before symbols f
    → Adds n.count old mid (λ valuation. list_all (constant_true symbols n valuation) (numbers_from 0 f))
    → Adds (first + entry_count n.size s) mid new (one_constant_true n.size first before s)
    → Adds n.count old new (λ valuation. list_all (constant_true symbols n valuation) (numbers_from 0 (f + 1)))
constant-next symbols n f s first before old mid new are h r e k a b =
    let fits : first + entry_count n.size s ≤ n.count = omega (arith, block-of symbols n f s are h r, e) in
    adds-more n.count old mid new (λ valuation. list_all (constant_true symbols n valuation) (numbers_from 0 f))
    (λ valuation. constant_true symbols n valuation f) (λ valuation. list_all (constant_true symbols n valuation) (numbers_from 0 (f + 1)))
    a
    (adds-as n.count mid new (one_constant_true n.size first before s) (λ valuation. constant_true symbols n valuation f)
    (adds-wider (first + entry_count n.size s) n.count mid new (one_constant_true n.size first before s) fits b)
    (λ valuation. same valuation))
    (λ valuation. all-more (constant_true symbols n valuation) f)
  where
    same : (valuation : Valuation) → one_constant_true n.size first before s valuation ≡ constant_true symbols n valuation f
    same valuation =
        ap₂ (λ (j m : ℕ). if is_constant s then has_none_above n.size j m valuation else true) e k
        ∙ ap
        (λ (c : Bool).
        if c then has_none_above n.size (slice_index_or n.firsts.items f 0) (constants_before symbols f) valuation else true)
        (sym (constant-there symbols f s (slice_get_read symbols (length symbols) f s refl h r)))

pub before-next :
    (symbols : List Symbol) (f : ℕ) (s : Symbol) (before after : ℕ) → f < length symbols → s ≡ get_or symbols f s
    → before ≡ constants_before symbols f → after ≡ before + (if is_constant s then 1 else 0) → after ≡ constants_before symbols (f + 1)
before-next symbols f s before after h r k e =
    e
    ∙ ap₂ (λ (m : ℕ) (c : Bool). m + (if c then 1 else 0)) k (sym (constant-there symbols f s (slice_get_read symbols (length symbols) f s refl h r)))
    ∙ ap (constants_before symbols) (let next : suc f ≡ f + 1 = omega arith in next)
