-- Decimal numbers are read back.
use Rattle.std.proofs.Common.{◌≡◌, ℕ, ◌+◌, ◌-◌, ◌*◌, ◌^◌, ◌<◌, ◌≤◌, Bool, true, false, not, ◌==◌, List, [], ◌∷◌, ◌++◌, map, Some, None, refl, ap, ◌∙◌, arith, le-leb, lt-ltb, ne_eqb}
use Rattle.std.specs.Prelude.{◌/◌, ◌%◌, nat_le, if◌then◌else◌}
use Rattle.std.specs.Fmt.{decimal}
use Rattle.std.specs.List.{list_all, AllByRecursion}
use Rattle.std.proofs.lemmas.Bool.{and_parts, and_from}
use Rattle.std.proofs.lemmas.Fmt.{decimal_by_steps}
use Rattle.std.proofs.Math.Nat.{mod-lt}
use Rattle.fol_base.proofs.WorkedExamples.TestLemmas.{list_all-joined}
use Rattle.tptp_token.specs.Spelling.{is_digit}
use Rattle.tptp_source.specs.General.{GeneralTree, trees_of, list_of_trees}
use Rattle.tptp_source.specs.Items.{is_decimal, value_behind, below_word, decimal_in, number_before, all_numbers}
use Rattle.clausal_form.specs.DerivationItems.{numbers_in}
use Rattle.tstp_writer.specs.LineTrees.{number_item, numbers_item}
use Rattle.tstp_writer.specs.ReadableLines.{Fits}

-- the first digit isn't 0
abbrev is_led : List ℕ → Bool
is_led [] = false
is_led (d ∷ ds) = not (d == 48)

digit-is : (d : ℕ) → d < 10 → is_digit (48 + d) ≡ true
digit-is d h = and_from (nat_le 48 (48 + d)) (nat_le (48 + d) 57) (le-leb 48 (48 + d) (omega arith)) (le-leb (48 + d) 57 (omega (arith, h)))

decimal-by : (ds : List ℕ) → is_led ds ≡ true → list_all is_digit ds ≡ true → is_decimal ds ≡ true
decimal-by [] led all = absurd (let e : false ≡ true = led in cc)
decimal-by (d ∷ []) led all = (and_parts (is_digit d) true all).0
decimal-by (d ∷ e ∷ es) led all = and_from (not (d == 48)) (list_all is_digit (d ∷ e ∷ es)) led all

led-more : (ds : List ℕ) (d : ℕ) → is_led ds ≡ true → is_led (ds ++ d ∷ []) ≡ true
led-more [] d led = absurd (let e : false ≡ true = led in cc)
led-more (e ∷ es) d led = led

value-more : (v : ℕ) (ds : List ℕ) (d : ℕ) → value_behind v (ds ++ d ∷ []) ≡ value_behind v ds * 10 + (d - 48)
value-more v [] d = refl
value-more v (e ∷ es) d = value-more (v * 10 + (e - 48)) es d

-- what is known of the digits of a number
record AreDigits (n : ℕ) (ds : List ℕ) : Type 0 where
  is_one : is_decimal ds ≡ true
  digits : list_all is_digit ds ≡ true
  value : value_behind 0 ds ≡ n
  led : 0 < n → is_led ds ≡ true

one-digit : (n : ℕ) → n < 10 → AreDigits n ((48 + n) ∷ [])
one-digit n low = record {
  is_one = digit-is n low;
  digits = and_from (is_digit (48 + n)) true (digit-is n low) refl;
  value = (let e : 0 * 10 + (48 + n - 48) ≡ n = omega arith in e);
  led = λ some. ap not (ne_eqb (48 + n) 48 λ e. omega (arith, e, some));
}

more-digits : (n : ℕ) (ds : List ℕ) → 10 ≤ n → AreDigits (n / 10) ds → AreDigits n (ds ++ (48 + n % 10) ∷ [])
more-digits n ds big h =
    let some : 0 < n / 10 = omega (arith, big) in
    let led : is_led (ds ++ (48 + n % 10) ∷ []) ≡ true = led-more ds (48 + n % 10) (h.led some) in
    let low : n % 10 < 10 = mod-lt n (omega arith) in
    let last : list_all is_digit ((48 + n % 10) ∷ []) ≡ true = and_from (is_digit (48 + n % 10)) true (digit-is (n % 10) low) refl in
    let all : list_all is_digit (ds ++ (48 + n % 10) ∷ []) ≡ true = list_all-joined is_digit ds ((48 + n % 10) ∷ []) h.digits last in
    record {
      is_one = decimal-by (ds ++ (48 + n % 10) ∷ []) led all;
      digits = all;
      value =
          value-more 0 ds (48 + n % 10) ∙ ap (λ v. v * 10 + (48 + n % 10 - 48)) h.value
          ∙ (let e : n / 10 * 10 + (48 + n % 10 - 48) ≡ n = omega arith in e);
      led = λ some. led;
    }

decimal-digits : (n : ℕ) → Fits n → AreDigits n (decimal n)
decimal-digits n fits = decimal_by_steps AreDigits one-digit (λ m ds big h. more-digits m ds big h) n fits

pub decimal-back : (n : ℕ) → Fits n → decimal_in (decimal n) ≡ Some n
decimal-back n fits =
    let d = decimal-digits n fits in
    ap (λ b. if b then below_word (value_behind 0 (decimal n)) else None) d.is_one
    ∙ ap below_word d.value
    ∙ ap (λ b. if b then Some n else None) (lt-ltb n (2 ^ 64) fits)

numbers-back : (ns : List ℕ) → AllByRecursion Fits ns → all_numbers (map number_item ns) ≡ Some ns
numbers-back [] fit = refl
numbers-back (n ∷ ns) fit =
    ap (λ o. number_before o (all_numbers (map number_item ns))) (decimal-back n fit.0) ∙ ap (number_before (Some n)) (numbers-back ns fit.1)

pub list-trees : (ts : List GeneralTree) → list_of_trees (trees_of ts) ≡ ts
list-trees [] = refl
list-trees (t ∷ ts) = ap (λ us. t ∷ us) (list-trees ts)

pub listed-back : (ns : List ℕ) → AllByRecursion Fits ns → numbers_in (numbers_item ns) ≡ Some ns
listed-back ns fit = ap all_numbers (list-trees (map number_item ns)) ∙ numbers-back ns fit
