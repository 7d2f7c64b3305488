-- Parts between `:`, and terms in brackets.
use Rattle.std.proofs.Common.{◌≡◌, ◌<◌, ◌≤◌, ◌+◌, ℕ, false, List, [], ◌∷◌, ◌++◌, length, drop, None, Some, codes, refl, sym, ap, ◌∙◌, subst, arith}
use Rattle.tptp_token.specs.Lexemes.{Lexeme, lexeme, is_mark}
use Rattle.tptp_token.specs.declared.token.Kind.TheVariants.{Mark}
use Rattle.tptp_source.specs.General.{GeneralTree, joined, trees_of, whole}
use Rattle.tptp_source.specs.Machine.{Opener, word_opens, dollar_opens, list_opens, bracketed, closing, level, wants, may_open, in_list, has, ends, Level, step, begins_with}
use Rattle.tptp_source.specs.Telling.{lexemes, IsNext, Leads, Halts, behind, ReadsPart, ReadsTerm, term_place, ended, parts_place, parts_behind, items_place, ReadsItems, HaltsItems, ReadsArguments, HaltsArguments}
use Rattle.tptp_source.specs.declared.reader.Reader.{Reader}
use Rattle.tptp_source.specs.declared.reader.Halt.{Halt}
use Rattle.tptp_source.specs.declared.reader.Halt.TheVariants.{NoTerm}
use Rattle.tptp_source.proofs.AboutWholes.RunLemmas.{next-leads, unmarked-leads, unmarked-halts, leads-then, halts-after}

-- ---- one part

-- a part of the innermost term, read with these before it
part-as :
    (r : Reader) (at next : ℕ) (t : GeneralTree) (parts : List GeneralTree)
    → ReadsPart r wants at next t → Leads r (parts_place parts) at (parts_behind (parts ++ t ∷ [])) next
part-as r at next t parts h = record { by = λ before levels. h.by parts levels }

part-halts-as :
    (r : Reader) (at : ℕ) (parts : List GeneralTree) (halt : Halt)
    → Halts r wants at halt → Halts r (parts_place parts) at halt
part-halts-as r at parts halt h = record { by = λ before levels. h.by parts levels }

colon-leads :
    (r : Reader) (at : ℕ) (parts : List GeneralTree)
    → IsNext r at (lexeme Mark (codes ":")) → Leads r (parts_behind parts) at (parts_place parts) (at + 1)
colon-leads r at parts n = next-leads r at (parts_behind parts) (parts_place parts) (lexeme Mark (codes ":")) n (λ before levels. refl)

no_colon-leads :
    (r : Reader) (at : ℕ) (parts : List GeneralTree)
    → begins_with (codes ":") (drop at (lexemes r)) ≡ false → Leads r (parts_behind parts) at (ended (whole parts)) at
no_colon-leads r at parts h =
    unmarked-leads r at (codes ":") (parts_behind parts) (ended (whole parts)) h (λ before levels t e. rw e refl) (λ before levels. refl)

-- a term of one part
pub alone-read :
    (r : Reader) (at next : ℕ) (t : GeneralTree)
    → ReadsPart r wants at next t → begins_with (codes ":") (drop next (lexemes r)) ≡ false → ReadsTerm r at next t
alone-read r at next t h e =
    leads-then r term_place (parts_behind (t ∷ [])) (ended t) at next next (part-as r at next t [] h) (no_colon-leads r next (t ∷ []) e)

pub alone-halts : (r : Reader) (at : ℕ) (halt : Halt) → Halts r wants at halt → Halts r term_place at halt
alone-halts r at halt h = part-halts-as r at [] halt h

-- a term of more parts
pub joined-read :
    (r : Reader) (at next after : ℕ) (first t : GeneralTree)
    → ReadsPart r wants at next first → IsNext r next (lexeme Mark (codes ":"))
    → Leads r (parts_place (first ∷ [])) (next + 1) (ended t) after → ReadsTerm r at after t
joined-read r at next after first t h n g =
    leads-then r term_place (parts_behind (first ∷ [])) (ended t) at next after (part-as r at next first [] h)
    (leads-then r (parts_behind (first ∷ [])) (parts_place (first ∷ [])) (ended t) next (next + 1) after (colon-leads r next (first ∷ []) n) g)

pub joined-halts :
    (r : Reader) (at next : ℕ) (first : GeneralTree) (halt : Halt)
    → ReadsPart r wants at next first → IsNext r next (lexeme Mark (codes ":"))
    → Halts r (parts_place (first ∷ [])) (next + 1) halt → Halts r term_place at halt
joined-halts r at next first halt h n g =
    halts-after r term_place (parts_behind (first ∷ [])) at next halt (part-as r at next first [] h)
    (halts-after r (parts_behind (first ∷ [])) (parts_place (first ∷ [])) next (next + 1) halt (colon-leads r next (first ∷ []) n) g)

-- ---- further parts

-- what was read behind the first part, up to an index
pub record PartsSoFar (r : Reader) (first : GeneralTree) (at next : ℕ) (parts : List GeneralTree) : Type 0 where
  pub leads : Leads r (parts_place (first ∷ [])) at (parts_behind parts) next
  pub two : 2 ≤ length parts
  pub onward : at < next

pub parts-first :
    (r : Reader) (first second : GeneralTree) (at next : ℕ) (none one parts : List GeneralTree)
    → none ≡ [] → one ≡ none ++ first ∷ [] → parts ≡ one ++ second ∷ [] → ReadsPart r wants at next second → at < next
    → PartsSoFar r first at next parts
parts-first r first second at next none one parts e f g h low =
    let same : first ∷ second ∷ [] ≡ parts = sym (g ∙ ap (λ us. us ++ second ∷ []) (f ∙ ap (λ us. us ++ first ∷ []) e)) in
    subst (PartsSoFar r first at next) same
    (record { leads = part-as r at next second (first ∷ []) h; two = omega arith; onward = low })

length-more : (ts : List GeneralTree) (t : GeneralTree) → length ts ≤ length (ts ++ t ∷ [])
length-more [] t = omega arith
length-more (u ∷ us) t = omega (arith, length-more us t)

pub parts-more :
    (r : Reader) (first t : GeneralTree) (at next after : ℕ) (parts more : List GeneralTree)
    → PartsSoFar r first at next parts → IsNext r next (lexeme Mark (codes ":")) → ReadsPart r wants (next + 1) after t
    → more ≡ parts ++ t ∷ [] → next + 1 < after → PartsSoFar r first at after more
parts-more r first t at next after parts more s n h e low =
    subst (PartsSoFar r first at after) (sym e)
    (record {
      leads =
          leads-then r (parts_place (first ∷ [])) (parts_behind parts) (parts_behind (parts ++ t ∷ [])) at next after s.leads
          (leads-then r (parts_behind parts) (parts_place parts) (parts_behind (parts ++ t ∷ [])) next (next + 1) after (colon-leads r next parts n)
          (part-as r (next + 1) after t parts h));
      two = omega (arith, s.two, length-more parts t);
      onward = omega (arith, s.onward, low);
    })

whole-two : (ts : List GeneralTree) → 2 ≤ length ts → whole ts ≡ joined (trees_of ts)
whole-two [] h = refl
whole-two (t ∷ []) h = absurd (omega (arith, h))
whole-two (t ∷ u ∷ us) h = refl

pub parts-read :
    (r : Reader) (first : GeneralTree) (at next : ℕ) (parts : List GeneralTree)
    → PartsSoFar r first at next parts → begins_with (codes ":") (drop next (lexemes r)) ≡ false
    → Leads r (parts_place (first ∷ [])) at (ended (joined (trees_of parts))) next
parts-read r first at next parts s h =
    leads-then r (parts_place (first ∷ [])) (parts_behind parts) (ended (joined (trees_of parts))) at next next s.leads
    (subst (λ (t : GeneralTree). Leads r (parts_behind parts) next (ended t) next) (whole-two parts s.two) (no_colon-leads r next parts h))

pub second-halts :
    (r : Reader) (first : GeneralTree) (at : ℕ) (halt : Halt) → Halts r wants at halt → Halts r (parts_place (first ∷ [])) at halt
second-halts r first at halt h = part-halts-as r at (first ∷ []) halt h

pub further-halts :
    (r : Reader) (first : GeneralTree) (at next : ℕ) (parts : List GeneralTree) (halt : Halt)
    → PartsSoFar r first at next parts → IsNext r next (lexeme Mark (codes ":")) → Halts r wants (next + 1) halt
    → Halts r (parts_place (first ∷ [])) at halt
further-halts r first at next parts halt s n h =
    halts-after r (parts_place (first ∷ [])) (parts_behind parts) at next halt s.leads
    (halts-after r (parts_behind parts) (parts_place parts) next (next + 1) halt (colon-leads r next parts n)
    (part-halts-as r (next + 1) parts halt h))

-- ---- terms in brackets

pub record ItemsSoFar (close : List ℕ) (r : Reader) (at next : ℕ) (items : List GeneralTree) : Type 0 where
  pub others : List GeneralTree
  pub last : GeneralTree
  pub are : items ≡ others ++ last ∷ []
  pub leads : (o : Opener) → closing o ≡ close → Leads r (items_place o []) at (λ before levels. ends last (level o before others ∷ levels)) next
  pub onward : at < next

-- the first term
first-item :
    (r : Reader) (o : Opener) (at next : ℕ) (t : GeneralTree) (items : List GeneralTree)
    → ReadsTerm r at next t → Leads r (items_place o items) at (λ before levels. ends t (level o before items ∷ levels)) next
first-item r o at next t items h = record { by = λ before levels. h.by [] (level o before items ∷ levels) }

pub items-first :
    (close : List ℕ) (r : Reader) (at next : ℕ) (t : GeneralTree) (none items : List GeneralTree)
    → none ≡ [] → items ≡ none ++ t ∷ [] → ReadsTerm r at next t → at < next → ItemsSoFar close r at next items
items-first close r at next t none items e f h low =
    record {
      others = [];
      last = t;
      are = f ∙ ap (λ us. us ++ t ∷ []) e;
      leads = λ o g. first-item r o at next t [] h;
      onward = low;
    }

comma-leads :
    (r : Reader) (o : Opener) (at : ℕ) (t : GeneralTree) (items : List GeneralTree)
    → IsNext r at (lexeme Mark (codes ","))
    → Leads r (λ before levels. ends t (level o before items ∷ levels)) at (items_place o (items ++ t ∷ [])) (at + 1)
comma-leads r o at t items n =
    next-leads r at (λ before levels. ends t (level o before items ∷ levels)) (items_place o (items ++ t ∷ [])) (lexeme Mark (codes ",")) n
    (λ before levels. refl)

pub items-more :
    (close : List ℕ) (r : Reader) (at next after : ℕ) (t : GeneralTree) (items more : List GeneralTree)
    → ItemsSoFar close r at next items → IsNext r next (lexeme Mark (codes ",")) → ReadsTerm r (next + 1) after t
    → more ≡ items ++ t ∷ [] → next + 1 < after → ItemsSoFar close r at after more
items-more close r at next after t items more s n h e low =
    record {
      others = items;
      last = t;
      are = e;
      leads = λ o g.
          leads-then r (items_place o []) (λ before levels. ends s.last (level o before s.others ∷ levels))
          (λ before levels. ends t (level o before items ∷ levels)) at next after (s.leads o g)
          (leads-then r (λ before levels. ends s.last (level o before s.others ∷ levels)) (items_place o items)
          (λ before levels. ends t (level o before items ∷ levels)) next (next + 1) after
          (subst (λ us. Leads r (λ before levels. ends s.last (level o before s.others ∷ levels)) next (items_place o us) (next + 1)) (sym s.are)
          (comma-leads r o next s.last s.others n)) (first-item r o (next + 1) after t items h));
      onward = omega (arith, s.onward, low);
    }

pub item-halts :
    (close : List ℕ) (r : Reader) (at next : ℕ) (items : List GeneralTree) (halt : Halt)
    → ItemsSoFar close r at next items → IsNext r next (lexeme Mark (codes ",")) → Halts r term_place (next + 1) halt
    → HaltsItems close r at halt
item-halts close r at next items halt s n h = record {
  by = λ o g.
      halts-after r (items_place o []) (λ before levels. ends s.last (level o before s.others ∷ levels)) at next halt (s.leads o g)
      (halts-after r (λ before levels. ends s.last (level o before s.others ∷ levels)) (items_place o (s.others ++ s.last ∷ [])) next (next + 1) halt
      (comma-leads r o next s.last s.others n)
      (record { by = λ before levels. h.by [] (level o before (s.others ++ s.last ∷ []) ∷ levels) }));
}

pub first-halts :
    (close : List ℕ) (r : Reader) (at : ℕ) (halt : Halt) → Halts r term_place at halt → HaltsItems close r at halt
first-halts close r at halt h = record { by = λ o g. record { by = λ before levels. h.by [] (level o before [] ∷ levels) } }

pub close-step :
    (o : Opener) (t : GeneralTree) (before items : List GeneralTree) (levels : List Level)
    → step (ends t (level o before items ∷ levels)) (lexeme Mark (closing o)) ≡ Some (has (before ++ bracketed o (items ++ t ∷ []) ∷ []) levels)
close-step (word_opens f) t before items levels = refl
close-step (dollar_opens d) t before items levels = refl
close-step list_opens t before items levels = refl

close-leads :
    (close : List ℕ) (r : Reader) (o : Opener) (at : ℕ) (t : GeneralTree) (items all : List GeneralTree)
    → closing o ≡ close → IsNext r at (lexeme Mark close) → all ≡ items ++ t ∷ []
    → Leads r (λ before levels. ends t (level o before items ∷ levels)) at (behind (bracketed o all)) (at + 1)
close-leads close r o at t items all g n e =
    next-leads r at (λ before levels. ends t (level o before items ∷ levels)) (behind (bracketed o all)) (lexeme Mark close) n
    (λ before levels. subst (λ m. step (ends t (level o before items ∷ levels)) (lexeme Mark m) ≡ Some (has (before ++ bracketed o all ∷ []) levels)) g
    (close-step o t before items levels ∙ ap (λ us. Some (has (before ++ bracketed o us ∷ []) levels)) (sym e)))

pub items-read :
    (close : List ℕ) (r : Reader) (at next : ℕ) (items : List GeneralTree)
    → ItemsSoFar close r at next items → IsNext r next (lexeme Mark close) → ReadsItems close r at (next + 1) items
items-read close r at next items s n = record {
  by = λ o g.
      leads-then r (items_place o []) (λ before levels. ends s.last (level o before s.others ∷ levels)) (behind (bracketed o items)) at next (next + 1)
      (s.leads o g) (close-leads close r o next s.last s.others items g n s.are);
}

unclosed-step :
    (close : List ℕ) (o : Opener) (t : GeneralTree) (before items : List GeneralTree) (levels : List Level) (l : Lexeme)
    → closing o ≡ close → is_mark (codes ",") l ≡ false → is_mark close l ≡ false
    → step (ends t (level o before items ∷ levels)) l ≡ None
unclosed-step close o t before items levels l g h k =
    let k' : is_mark (closing o) l ≡ false = ap (λ m. is_mark m l) g ∙ k in rw (h, k') refl

pub unclosed-halts :
    (close : List ℕ) (r : Reader) (at next : ℕ) (items : List GeneralTree) (halt : Halt)
    → ItemsSoFar close r at next items → begins_with (codes ",") (drop next (lexemes r)) ≡ false
    → begins_with close (drop next (lexemes r)) ≡ false → halt ≡ NoTerm → HaltsItems close r at halt
unclosed-halts close r at next items halt s h k e = record {
  by = λ o g.
      halts-after r (items_place o []) (λ before levels. ends s.last (level o before s.others ∷ levels)) at next halt (s.leads o g)
      (unmarked-halts r next (codes ",") close (λ before levels. ends s.last (level o before s.others ∷ levels)) halt h k
      (λ before levels l a b. unclosed-step close o s.last before s.others levels l g a b) (λ before levels. refl) e);
}

-- ---- arguments and lists

pub open-leads :
    (r : Reader) (o : Opener) (at : ℕ) → IsNext r at (lexeme Mark (codes "(")) → Leads r (may_open o) at (items_place o []) (at + 1)
open-leads r o at n = next-leads r at (may_open o) (items_place o []) (lexeme Mark (codes "(")) n (λ before levels. refl)

pub arguments-read :
    (r : Reader) (at next : ℕ) (ts : List GeneralTree)
    → IsNext r at (lexeme Mark (codes "(")) → ReadsItems (codes ")") r (at + 1) next ts
    → ReadsArguments r at next ts
arguments-read r at next ts n h = record {
  by = λ o g.
      leads-then r (may_open o) (items_place o []) (behind (bracketed o ts)) at (at + 1) next (open-leads r o at n) (h.by o g);
}

pub arguments-halt :
    (r : Reader) (at : ℕ) (halt : Halt)
    → IsNext r at (lexeme Mark (codes "(")) → HaltsItems (codes ")") r (at + 1) halt
    → HaltsArguments r at halt
arguments-halt r at halt n h = record { by = λ o g. halts-after r (may_open o) (items_place o []) at (at + 1) halt (open-leads r o at n) (h.by o g) }

pub no_arguments-read :
    (r : Reader) (at : ℕ) (ts : List GeneralTree)
    → begins_with (codes "(") (drop at (lexemes r)) ≡ false → ts ≡ []
    → ReadsArguments r at at ts
no_arguments-read r at ts h e = record {
  by = λ o g.
      unmarked-leads r at (codes "(") (may_open o) (behind (bracketed o ts)) h
      (λ before levels t k. rw (k, e) refl) (λ before levels. rw e refl);
}

pub empty_list-read :
    (r : Reader) (at : ℕ) (ts : List GeneralTree)
    → IsNext r at (lexeme Mark (codes "]")) → ts ≡ [] → ReadsPart r in_list at (at + 1) (bracketed list_opens ts)
empty_list-read r at ts n e =
    next-leads r at in_list (behind (bracketed list_opens ts)) (lexeme Mark (codes "]")) n (λ before levels. rw e refl)

list-leads :
    (r : Reader) (at : ℕ) → begins_with (codes "]") (drop at (lexemes r)) ≡ false → Leads r in_list at (items_place list_opens []) at
list-leads r at h =
    unmarked-leads r at (codes "]") in_list (items_place list_opens []) h (λ before levels t e. rw e refl) (λ before levels. refl)

pub list-read :
    (r : Reader) (at next : ℕ) (ts : List GeneralTree)
    → begins_with (codes "]") (drop at (lexemes r)) ≡ false → ReadsItems (codes "]") r at next ts
    → ReadsPart r in_list at next (bracketed list_opens ts)
list-read r at next ts h g =
    leads-then r in_list (items_place list_opens []) (behind (bracketed list_opens ts)) at at next (list-leads r at h) (g.by list_opens refl)

pub list-halts :
    (r : Reader) (at : ℕ) (halt : Halt)
    → begins_with (codes "]") (drop at (lexemes r)) ≡ false → HaltsItems (codes "]") r at halt → Halts r in_list at halt
list-halts r at halt h g = halts-after r in_list (items_place list_opens []) at at halt (list-leads r at h) (g.by list_opens refl)
