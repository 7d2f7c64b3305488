-- A problem whose entries are without fault: each word is declared as one thing, and its sorts and symbols are listed by their first declarations.
use Rattle.std.proofs.Common.{◌≡◌, ℕ, Bool, true, false, not, ◌&&◌, ◌||◌, List, [], ◌∷◌, ◌++◌, map, if◌then◌else◌, ◌⊎◌, inl, inr, ⊎_elim, refl, ap, ap₂, sym, ◌∙◌}
use Rattle.std.specs.Prelude.{Option, None, Some, bytes_eq}
use Rattle.std.specs.List.{AllByRecursion, list_any}
use Rattle.std.proofs.lemmas.Bool.{and_parts, and_from, or_left, or_right, or_cases, true≢false, false_from_ne_true}
use Rattle.std.proofs.lemmas.List.{map-append}
use Rattle.std.proofs.lemmas.List.Folds.{list_any-append}
use Rattle.list_lemmas.proofs.Bools.{and-true, and-false, or-false, neither-true}
use Rattle.list_lemmas.proofs.Lists.{bytes-self, bytes-same, bytes-turned}
use Rattle.list_lemmas.proofs.Members.{each-weaker}
use Rattle.tptp_token.specs.Spelling.{is_one_of}
use Rattle.typed_tree.specs.declared.cause.TypedCause.TheVariants.{TwoTypes}
use Rattle.typed_tree.specs.Sorts.{SortTree, individuals, named_sort, SymbolType, Declared, a_sort, a_symbol, same_declared, DeclarationTree}
use Rattle.typed_problem.proofs.TypeLemmas.{declared-same}
use Rattle.typed_problem.specs.Declarations.{declared_as, is_sort_word, sorts_from, declared_sorts, is_sort, firsts_from, symbol_declarations, sort_declaration}
use Rattle.typed_problem.specs.RightTyped.{are_different_words}
use Rattle.typed_problem.specs.SortFaults.{repeated_cause}
use Rattle.sort_checks.proofs.TableLemmas.{sort_made, sorts-made}
use Rattle.sort_checks.proofs.AgreeLemmas.{Agree}

-- ---- one declaration or another

abbrev first_some : Option Declared → Option Declared → Option Declared
first_some None later = later
first_some (Some d) later = Some d

declared-joined : (ds es : List DeclarationTree) (w : List ℕ) → declared_as (ds ++ es) w ≡ first_some (declared_as ds w) (declared_as es w)
declared-joined [] es w = refl
declared-joined (d ∷ ds) es w = by (bytes_eq d.word w) (declared-joined ds es w)
  where
    by :
        (b : Bool) → declared_as (ds ++ es) w ≡ first_some (declared_as ds w) (declared_as es w)
        → (if b then Some d.declared else declared_as (ds ++ es) w) ≡ first_some (if b then Some d.declared else declared_as ds w) (declared_as es w)
    by true r = refl
    by false r = r

some-joined : (a b c : Option Declared) → first_some (first_some a b) c ≡ first_some a (first_some b c)
some-joined None b c = refl
some-joined (Some d) b c = refl

-- ---- each word is declared as one thing

abbrev DeclaredIn : List DeclarationTree → DeclarationTree → Type 0
DeclaredIn all d = declared_as all d.word ≡ Some d.declared

abbrev pub IsConsistent : List DeclarationTree → Type 0
IsConsistent ds = AllByRecursion (DeclaredIn ds) ds

each-joined : {X : Type 0} (P : X → Type 0) (xs ys : List X) → AllByRecursion P xs → AllByRecursion P ys → AllByRecursion P (xs ++ ys)
each-joined P [] ys h k = k
each-joined P (x ∷ xs) ys h k = (h.0, each-joined P xs ys h.1 k)

pub consistent-more :
    (ds : List DeclarationTree) (d : DeclarationTree) → IsConsistent ds → repeated_cause (declared_as ds d.word) d.declared ≡ None → IsConsistent (ds ++ d ∷ [])
consistent-more ds d c h =
    each-joined (DeclaredIn (ds ++ d ∷ [])) ds (d ∷ [])
    (each-weaker (DeclaredIn ds) (DeclaredIn (ds ++ d ∷ []))
    (λ (e : DeclarationTree) k. declared-joined ds (d ∷ []) e.word ∙ ap (λ o. first_some o (declared_as (d ∷ []) e.word)) k) ds c)
    (declared-joined ds (d ∷ []) d.word ∙ by (declared_as ds d.word) h, tt)
  where
    same : (x : Declared) (b : Bool) → same_declared x d.declared ≡ b → (if b then None else Some TwoTypes) ≡ None → x ≡ d.declared
    same x true e g = declared-same x d.declared e
    same x false e g = cc

    by : (o : Option Declared) → repeated_cause o d.declared ≡ None → first_some o (declared_as (d ∷ []) d.word) ≡ Some d.declared
    by None g = ap (λ (b : Bool). if b then Some d.declared else None) (bytes-self d.word)
    by (Some x) g = ap (λ y. Some y) (same x (same_declared x d.declared) refl g)

-- ---- sorts

sort-is : (d : Declared) → is_sort_word (Some d) ≡ true → d ≡ a_sort
sort-is a_sort h = refl
sort-is (a_symbol t) h = absurd (true≢false (sym h))

made-declared : (all ds : List DeclarationTree) (w : List ℕ) → AllByRecursion (DeclaredIn all) ds → sort_made ds w ≡ true → declared_as all w ≡ Some a_sort
made-declared all [] w c h = absurd (true≢false (sym h))
made-declared all (d ∷ ds) w c h =
    ⊎_elim
    (λ here.
    let parts = and_parts (bytes_eq d.word w) (is_sort_word (Some d.declared)) here in
    ap (declared_as all) (sym (bytes-same d.word w parts.0)) ∙ c.0 ∙ ap (λ x. Some x) (sort-is d.declared parts.1))
    (λ later. made-declared all ds w c.1 later)
    (or_cases (bytes_eq d.word w && is_sort_word (Some d.declared)) (sort_made ds w) h)

declared-made : (ds : List DeclarationTree) (w : List ℕ) → declared_as ds w ≡ Some a_sort → sort_made ds w ≡ true
declared-made [] w h = cc
declared-made (d ∷ ds) w h = by (bytes_eq d.word w) h (declared-made ds w)
  where
    same : Some d.declared ≡ Some a_sort → d.declared ≡ a_sort
    same e = cc

    by :
        (b : Bool) → (if b then Some d.declared else declared_as ds w) ≡ Some a_sort → (declared_as ds w ≡ Some a_sort → sort_made ds w ≡ true)
        → ((b && is_sort_word (Some d.declared)) || sort_made ds w) ≡ true
    by true e r = or_left (is_sort_word (Some d.declared)) (sort_made ds w) (ap (λ x. is_sort_word (Some x)) (same e))
    by false e r = r e

made-sort : (ds : List DeclarationTree) (w : List ℕ) → is_one_of (declared_sorts ds) w ≡ sort_made ds w
made-sort ds w = sorts-made [] ds w

-- ---- symbols

-- the first declaration of a word as a symbol
abbrev symbol_as : List DeclarationTree → List ℕ → Option Declared
symbol_as [] w = None
symbol_as (d ∷ ds) w = if is_sort_word (Some d.declared) then symbol_as ds w else (if bytes_eq d.word w then Some d.declared else symbol_as ds w)

listed-there : (known : List DeclarationTree) (w : List ℕ) → list_any (λ (e : DeclarationTree). bytes_eq e.word w) known ≡ true → (x : Declared) × (declared_as known w ≡ Some x)
listed-there [] w h = absurd (true≢false (sym h))
listed-there (e ∷ known) w h = by (bytes_eq e.word w) h (listed-there known w)
  where
    by :
        (b : Bool) → (b || list_any (λ (g : DeclarationTree). bytes_eq g.word w) known) ≡ true
        → (list_any (λ (g : DeclarationTree). bytes_eq g.word w) known ≡ true → (x : Declared) × (declared_as known w ≡ Some x))
        → (x : Declared) × ((if b then Some e.declared else declared_as known w) ≡ Some x)
    by true g r = (e.declared, refl)
    by false g r = r g

firsts-declared :
    (known ds : List DeclarationTree) (w : List ℕ) → declared_as (firsts_from known ds) w ≡ first_some (declared_as known w) (symbol_as ds w)
firsts-declared known [] w = sym (nothing (declared_as known w))
  where
    nothing : (o : Option Declared) → first_some o None ≡ o
    nothing None = refl
    nothing (Some x) = refl
firsts-declared known (d ∷ ds) w =
    by (is_sort_word (Some d.declared)) (list_any (λ (e : DeclarationTree). bytes_eq e.word d.word) known) refl (λ more. firsts-declared more ds w)
  where
    Told : Option Declared → Type 0
    Told o = o ≡ first_some (declared_as known w) (if bytes_eq d.word w then Some d.declared else symbol_as ds w)

    -- a word that is listed already
    again :
        (b : Bool) → bytes_eq d.word w ≡ b → list_any (λ (e : DeclarationTree). bytes_eq e.word d.word) known ≡ true
        → first_some (declared_as known w) (symbol_as ds w) ≡ first_some (declared_as known w) (if b then Some d.declared else symbol_as ds w)
    again true e l =
        let there = listed-there known d.word l in
        let known_as : declared_as known w ≡ Some there.0 = ap (declared_as known) (sym (bytes-same d.word w e)) ∙ there.1 in
        ap (λ o. first_some o (symbol_as ds w)) known_as ∙ sym (ap (λ o. first_some o (Some d.declared)) known_as)
    again false e l = refl

    -- a word that is new
    new : (b : Bool) → first_some (first_some (declared_as known w) (if b then Some d.declared else None)) (symbol_as ds w) ≡ first_some (declared_as known w) (if b then Some d.declared else symbol_as ds w)
    new true = some-joined (declared_as known w) (Some d.declared) (symbol_as ds w)
    new false = some-joined (declared_as known w) None (symbol_as ds w)

    by :
        (s m : Bool) → list_any (λ (e : DeclarationTree). bytes_eq e.word d.word) known ≡ m
        → ((more : List DeclarationTree) → declared_as (firsts_from more ds) w ≡ first_some (declared_as more w) (symbol_as ds w))
        → declared_as (firsts_from (if s || m then known else known ++ d ∷ []) ds) w
        ≡ first_some (declared_as known w) (if s then symbol_as ds w else (if bytes_eq d.word w then Some d.declared else symbol_as ds w))
    by true m e r = r known
    by false true e r = r known ∙ again (bytes_eq d.word w) refl e
    by false false e r =
        r (known ++ d ∷ []) ∙ ap (λ o. first_some o (symbol_as ds w)) (declared-joined known (d ∷ []) w) ∙ new (bytes_eq d.word w)

symbol-declared : (ds : List DeclarationTree) (w : List ℕ) (t : SymbolType) → declared_as ds w ≡ Some (a_symbol t) → symbol_as ds w ≡ Some (a_symbol t)
symbol-declared [] w t h = cc
symbol-declared (d ∷ ds) w t h = by d.declared (bytes_eq d.word w) h (symbol-declared ds w t)
  where
    by :
        (e : Declared) (b : Bool) → (if b then Some e else declared_as ds w) ≡ Some (a_symbol t)
        → (declared_as ds w ≡ Some (a_symbol t) → symbol_as ds w ≡ Some (a_symbol t))
        → (if is_sort_word (Some e) then symbol_as ds w else (if b then Some e else symbol_as ds w)) ≡ Some (a_symbol t)
    by a_sort true g r = cc
    by a_sort false g r = r g
    by (a_symbol u) true g r = g
    by (a_symbol u) false g r = r g

none-symbol : (ds : List DeclarationTree) (w : List ℕ) → declared_as ds w ≡ None → symbol_as ds w ≡ None
none-symbol [] w h = refl
none-symbol (d ∷ ds) w h = by (is_sort_word (Some d.declared)) (bytes_eq d.word w) h (none-symbol ds w)
  where
    by :
        (s b : Bool) → (if b then Some d.declared else declared_as ds w) ≡ None → (declared_as ds w ≡ None → symbol_as ds w ≡ None)
        → (if s then symbol_as ds w else (if b then Some d.declared else symbol_as ds w)) ≡ None
    by s true g r = cc
    by true false g r = r g
    by false false g r = r g

-- ---- all declarations of the problem

with-sorts :
    (ws : List (List ℕ)) (ds : List DeclarationTree) (w : List ℕ)
    → declared_as (map sort_declaration ws ++ ds) w ≡ (if is_one_of ws w then Some a_sort else declared_as ds w)
with-sorts [] ds w = refl
with-sorts (v ∷ ws) ds w = ap (λ (b : Bool). if b then Some a_sort else declared_as (map sort_declaration ws ++ ds) w) (bytes-turned v w) ∙ by (bytes_eq w v) (with-sorts ws ds w)
  where
    by :
        (b : Bool) → declared_as (map sort_declaration ws ++ ds) w ≡ (if is_one_of ws w then Some a_sort else declared_as ds w)
        → (if b then Some a_sort else declared_as (map sort_declaration ws ++ ds) w) ≡ (if b || is_one_of ws w then Some a_sort else declared_as ds w)
    by true r = refl
    by false r = r

abbrev pub all_of : List DeclarationTree → List DeclarationTree
all_of ds = map sort_declaration (declared_sorts ds) ++ symbol_declarations ds

module _ (ds : List DeclarationTree) (c : IsConsistent ds) where
  made-or-not : (w : List ℕ) → declared_as ds w ≡ Some a_sort ⊎ (sort_made ds w ≡ false)
  made-or-not w = by (sort_made ds w) refl
    where
      by : (b : Bool) → sort_made ds w ≡ b → declared_as ds w ≡ Some a_sort ⊎ (sort_made ds w ≡ false)
      by true e = inl (made-declared ds ds w c e)
      by false e = inr e

  -- the listed declarations say the same
  words-agree : (w : List ℕ) → declared_as (all_of ds) w ≡ declared_as ds w
  words-agree w =
      with-sorts (declared_sorts ds) (symbol_declarations ds) w
      ∙ ap (λ (b : Bool). if b then Some a_sort else declared_as (symbol_declarations ds) w) (made-sort ds w)
      ∙ by (declared_as ds w) refl (made-or-not w)
    where
      listed : declared_as (symbol_declarations ds) w ≡ symbol_as ds w
      listed = firsts-declared [] ds w

      otherwise : sort_made ds w ≡ false → (if sort_made ds w then Some a_sort else declared_as (symbol_declarations ds) w) ≡ symbol_as ds w
      otherwise e = ap (λ (b : Bool). if b then Some a_sort else declared_as (symbol_declarations ds) w) e ∙ listed

      by :
          (o : Option Declared) → declared_as ds w ≡ o → declared_as ds w ≡ Some a_sort ⊎ (sort_made ds w ≡ false)
          → (if sort_made ds w then Some a_sort else declared_as (symbol_declarations ds) w) ≡ o
      by None e (inl m) = let both : None ≡ Some a_sort = sym e ∙ m in cc
      by None e (inr m) = otherwise m ∙ none-symbol ds w e
      by (Some a_sort) e m = ap (λ (b : Bool). if b then Some a_sort else declared_as (symbol_declarations ds) w) (declared-made ds w e)
      by (Some (a_symbol t)) e (inl m) = let both : Some (a_symbol t) ≡ Some a_sort = sym e ∙ m in cc
      by (Some (a_symbol t)) e (inr m) = otherwise m ∙ symbol-declared ds w t e

-- ---- symbols alone

abbrev pub IsSymbol : DeclarationTree → Type 0
IsSymbol d = is_sort_word (Some d.declared) ≡ false

-- what holds of the declarations holds of the first ones of symbols
pub firsts-each :
    (P : DeclarationTree → Type 0) (known ds : List DeclarationTree) → AllByRecursion P known → AllByRecursion (λ d. IsSymbol d → P d) ds
    → AllByRecursion P (firsts_from known ds)
firsts-each P known [] h k = h
firsts-each P known (d ∷ ds) h k =
    by (is_sort_word (Some d.declared)) (list_any (λ (e : DeclarationTree). bytes_eq e.word d.word) known) refl (λ more g. firsts-each P more ds g k.1)
  where
    by :
        (s m : Bool) → is_sort_word (Some d.declared) ≡ s → ((more : List DeclarationTree) → AllByRecursion P more → AllByRecursion P (firsts_from more ds))
        → AllByRecursion P (firsts_from (if s || m then known else known ++ d ∷ []) ds)
    by true m e r = r known h
    by false true e r = r known h
    by false false e r = r (known ++ d ∷ []) (each-joined P known (d ∷ []) h (k.0 e, tt))

pub symbols-alone : (ds : List DeclarationTree) → AllByRecursion IsSymbol (symbol_declarations ds)
symbols-alone ds = firsts-each IsSymbol [] ds tt (each ds)
  where
    each : (es : List DeclarationTree) → AllByRecursion (λ d. IsSymbol d → IsSymbol d) es
    each [] = tt
    each (e ∷ es) = (λ h. h, each es)

-- symbols make no sort
none-made : (ds : List DeclarationTree) (w : List ℕ) → AllByRecursion IsSymbol ds → sort_made ds w ≡ false
none-made [] w h = refl
none-made (d ∷ ds) w h =
    ap₂ ◌||◌ (ap (λ b. bytes_eq d.word w && b) h.0 ∙ and-false (bytes_eq d.word w)) (none-made ds w h.1)

made-joined : (ws : List (List ℕ)) (ds : List DeclarationTree) (w : List ℕ) → sort_made (map sort_declaration ws ++ ds) w ≡ (is_one_of ws w || sort_made ds w)
made-joined [] ds w = refl
made-joined (v ∷ ws) ds w =
    ap₂ ◌||◌ (and-true (bytes_eq v w) ∙ bytes-turned v w) (made-joined ws ds w) ∙ sym (or-joined (bytes_eq w v) (is_one_of ws w) (sort_made ds w))
  where
    or-joined : (a b d : Bool) → ((a || b) || d) ≡ (a || (b || d))
    or-joined true b d = refl
    or-joined false b d = refl

sorts-agree : (ds : List DeclarationTree) (s : SortTree) → is_sort (all_of ds) s ≡ is_sort ds s
sorts-agree ds individuals = refl
sorts-agree ds (named_sort w) =
    made-sort (all_of ds) w ∙ made-joined (declared_sorts ds) (symbol_declarations ds) w
    ∙ ap (λ b. is_one_of (declared_sorts ds) w || b) (none-made (symbol_declarations ds) w (symbols-alone ds)) ∙ or-false (is_one_of (declared_sorts ds) w)

pub all-agree : (ds : List DeclarationTree) → IsConsistent ds → Agree (all_of ds) ds
all-agree ds c = record { words = words-agree ds c; sorts = sorts-agree ds }

-- ---- different words

abbrev words_in : List DeclarationTree → List (List ℕ)
words_in ds = map (λ (d : DeclarationTree). d.word) ds

one-behind : (ws : List (List ℕ)) (w x : List ℕ) → is_one_of (ws ++ w ∷ []) x ≡ (is_one_of ws x || bytes_eq x w)
one-behind [] w x = or-false (bytes_eq x w)
one-behind (v ∷ ws) w x = ap (λ b. bytes_eq x v || b) (one-behind ws w x) ∙ sym (or-joined (bytes_eq x v) (is_one_of ws x) (bytes_eq x w))
  where
    or-joined : (a b d : Bool) → ((a || b) || d) ≡ (a || (b || d))
    or-joined true b d = refl
    or-joined false b d = refl

different-more : (ws : List (List ℕ)) (w : List ℕ) → are_different_words ws ≡ true → is_one_of ws w ≡ false → are_different_words (ws ++ w ∷ []) ≡ true
different-more [] w h n = refl
different-more (v ∷ ws) w h n =
    let parts = and_parts (not (is_one_of ws v)) (are_different_words ws) h in
    let neither = neither-true (bytes_eq w v) (is_one_of ws w) n in
    ap₂ (λ a b. not a && b) (one-behind ws w v ∙ ap₂ ◌||◌ (unlisted (is_one_of ws v) parts.0) (bytes-turned v w ∙ neither.0)) (different-more ws w parts.1 neither.1)
  where
    unlisted : (b : Bool) → not b ≡ true → b ≡ false
    unlisted true e = absurd (true≢false (sym e))
    unlisted false e = refl

sorts-different : (known : List (List ℕ)) (ds : List DeclarationTree) → are_different_words known ≡ true → are_different_words (sorts_from known ds) ≡ true
sorts-different known [] h = h
sorts-different known (d ∷ ds) h = by (is_sort_word (Some d.declared)) (is_one_of known d.word) refl (λ more. sorts-different more ds)
  where
    by :
        (s m : Bool) → is_one_of known d.word ≡ m
        → ((more : List (List ℕ)) → are_different_words more ≡ true → are_different_words (sorts_from more ds) ≡ true)
        → are_different_words (sorts_from (if s && not m then known ++ d.word ∷ [] else known) ds) ≡ true
    by true true e r = r known h
    by true false e r = r (known ++ d.word ∷ []) (different-more known d.word h e)
    by false m e r = r known h

listed-word : (known : List DeclarationTree) (w : List ℕ) → list_any (λ (e : DeclarationTree). bytes_eq e.word w) known ≡ is_one_of (words_in known) w
listed-word [] w = refl
listed-word (e ∷ known) w = ap₂ ◌||◌ (bytes-turned e.word w) (listed-word known w)

firsts-different : (known ds : List DeclarationTree) → are_different_words (words_in known) ≡ true → are_different_words (words_in (firsts_from known ds)) ≡ true
firsts-different known [] h = h
firsts-different known (d ∷ ds) h =
    by (is_sort_word (Some d.declared)) (list_any (λ (e : DeclarationTree). bytes_eq e.word d.word) known) refl (λ more. firsts-different more ds)
  where
    by :
        (s m : Bool) → list_any (λ (e : DeclarationTree). bytes_eq e.word d.word) known ≡ m
        → ((more : List DeclarationTree) → are_different_words (words_in more) ≡ true → are_different_words (words_in (firsts_from more ds)) ≡ true)
        → are_different_words (words_in (firsts_from (if s || m then known else known ++ d ∷ []) ds)) ≡ true
    by true m e r = r known h
    by false true e r = r known h
    by false false e r =
        r (known ++ d ∷ [])
        (ap are_different_words (map-append (λ (g : DeclarationTree). g.word) known (d ∷ []))
        ∙ different-more (words_in known) d.word h (sym (listed-word known d.word) ∙ e))

different-joined :
    (ws vs : List (List ℕ)) → are_different_words ws ≡ true → are_different_words vs ≡ true → AllByRecursion (λ w. is_one_of vs w ≡ false) ws
    → are_different_words (ws ++ vs) ≡ true
different-joined [] vs h k n = k
different-joined (w ∷ ws) vs h k n =
    let parts = and_parts (not (is_one_of ws w)) (are_different_words ws) h in
    and_from (not (is_one_of (ws ++ vs) w)) (are_different_words (ws ++ vs))
    (ap not (list_any-append (bytes_eq w) ws vs ∙ ap (λ b. is_one_of ws w || b) n.0 ∙ or-false (is_one_of ws w)) ∙ parts.0)
    (different-joined ws vs parts.1 k n.1)

-- a listed word of a symbol is declared as one
word-there : (ds : List DeclarationTree) (w : List ℕ) → is_one_of (words_in ds) w ≡ true → AllByRecursion IsSymbol ds → (t : SymbolType) × (declared_as ds w ≡ Some (a_symbol t))
word-there [] w h k = absurd (true≢false (sym h))
word-there (d ∷ ds) w h k = by (bytes_eq w d.word) refl h (λ e. word-there ds w e k.1)
  where
    symbol : (e : Declared) → is_sort_word (Some e) ≡ false → (t : SymbolType) × (e ≡ a_symbol t)
    symbol a_sort e = absurd (true≢false e)
    symbol (a_symbol t) e = (t, refl)

    by :
        (b : Bool) → bytes_eq w d.word ≡ b → (b || is_one_of (words_in ds) w) ≡ true
        → (is_one_of (words_in ds) w ≡ true → (t : SymbolType) × (declared_as ds w ≡ Some (a_symbol t)))
        → (t : SymbolType) × ((if bytes_eq d.word w then Some d.declared else declared_as ds w) ≡ Some (a_symbol t))
    by true e g r =
        let is = symbol d.declared k.0 in
        (is.0, ap (λ (b : Bool). if b then Some d.declared else declared_as ds w) (bytes-turned d.word w ∙ e) ∙ ap (λ x. Some x) is.1)
    by false e g r =
        let rest = r g in (rest.0, ap (λ (b : Bool). if b then Some d.declared else declared_as ds w) (bytes-turned d.word w ∙ e) ∙ rest.1)

pub all-different : (ds : List DeclarationTree) → IsConsistent ds → are_different_words (words_in (all_of ds)) ≡ true
all-different ds c =
    ap are_different_words
    (map-append (λ (d : DeclarationTree). d.word) (map sort_declaration (declared_sorts ds)) (symbol_declarations ds)
    ∙ ap (λ ws. ws ++ words_in (symbol_declarations ds)) (same (declared_sorts ds)))
    ∙ different-joined (declared_sorts ds) (words_in (symbol_declarations ds)) (sorts-different [] ds refl) (firsts-different [] ds refl)
    (apart (declared_sorts ds) (themselves (declared_sorts ds)))
  where
    same : (ws : List (List ℕ)) → words_in (map sort_declaration ws) ≡ ws
    same [] = refl
    same (w ∷ ws) = ap (λ vs. w ∷ vs) (same ws)

    themselves : (ws : List (List ℕ)) → AllByRecursion (λ w. is_one_of ws w ≡ true) ws
    themselves [] = tt
    themselves (w ∷ ws) = (
      or_left (bytes_eq w w) (is_one_of ws w) (bytes-self w),
      each-weaker (λ v. is_one_of ws v ≡ true) (λ v. is_one_of (w ∷ ws) v ≡ true) (λ v h. or_right (bytes_eq v w) (is_one_of ws v) h) ws (themselves ws),
    )

    -- a sort is no symbol
    never : (w : List ℕ) → is_one_of (declared_sorts ds) w ≡ true → is_one_of (words_in (symbol_declarations ds)) w ≡ true → ⊥
    never w h k =
        let there = word-there (symbol_declarations ds) w k (symbols-alone ds) in
        let sort : declared_as (all_of ds) w ≡ Some a_sort =
        with-sorts (declared_sorts ds) (symbol_declarations ds) w ∙ ap (λ (b : Bool). if b then Some a_sort else declared_as (symbol_declarations ds) w) h in
        let symbol : symbol_as ds w ≡ Some (a_symbol there.0) = sym (firsts-declared [] ds w) ∙ there.1 in
        found ds there.0 c symbol (sym (words-agree ds c w) ∙ sort)
      where
        found :
            (es : List DeclarationTree) (t : SymbolType) → AllByRecursion (DeclaredIn ds) es → symbol_as es w ≡ Some (a_symbol t) → declared_as ds w ≡ Some a_sort → ⊥
        found [] t k e g = cc
        found (d ∷ es) t k e g = by (is_sort_word (Some d.declared)) (bytes_eq d.word w) refl e (λ z. found es t k.1 z g)
          where
            same-word : Some d.declared ≡ Some (a_symbol t) → d.declared ≡ a_symbol t
            same-word z = cc

            by :
                (s b : Bool) → bytes_eq d.word w ≡ b → (if s then symbol_as es w else (if b then Some d.declared else symbol_as es w)) ≡ Some (a_symbol t)
                → (symbol_as es w ≡ Some (a_symbol t) → ⊥) → ⊥
            by true b q z r = r z
            by false true q z r =
                let both : Some (a_symbol t) ≡ Some a_sort = ap (λ x. Some x) (sym (same-word z)) ∙ sym k.0 ∙ ap (declared_as ds) (bytes-same d.word w q) ∙ g in cc
            by false false q z r = r z

    apart : (ws : List (List ℕ)) → AllByRecursion (λ w. is_one_of (declared_sorts ds) w ≡ true) ws → AllByRecursion (λ w. is_one_of (words_in (symbol_declarations ds)) w ≡ false) ws
    apart [] h = tt
    apart (w ∷ ws) h = (false_from_ne_true (is_one_of (words_in (symbol_declarations ds)) w) (never w h.0), apart ws h.1)
