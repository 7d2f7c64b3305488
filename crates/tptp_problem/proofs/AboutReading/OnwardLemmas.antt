-- An annotated formula that is read has a token.
use Rattle.std.proofs.Common.{◌≡◌, ℕ, suc, ◌≤◌, ◌<◌, Bool, true, false, None, Some, List, [], ◌∷◌, codes, drop, length, refl, subst, arith, bytes_eq}
use Rattle.std.specs.Prelude.{⊤, if◌then◌else◌}
use Rattle.std.proofs.lemmas.List.{length-map}
use Rattle.tptp_token.specs.Lexemes.{Lexeme, lexeme_at, lexemes_of}
use Rattle.tptp_token.specs.declared.token.Token.{Token}
use Rattle.tptp_token.specs.declared.token.Kind.{Kind}
use Rattle.tptp_token.specs.declared.token.Kind.TheVariants.{Lower, Variable, Quoted, Distinct, Dollar, Number, Connective, Mark, Other}
use Rattle.tptp_reader.specs.Machine.{Symbol, an_annotated, Step, takes, passes, stops, step, annotated_step, Run, going, over, refused, stepped, after_token, verdict, read_up_to}
use Rattle.tptp_reader.specs.Annotating.{IsReading}
use Rattle.tptp_reader.specs.declared.entry.Read.{Read}
use Rattle.tptp_reader.proofs.AboutTexts.PlacedLemmas.{read-verdict}

abbrev EndsBehind : ℕ → Run → Type 0
EndsBehind bound (over end) = bound ≤ end
EndsBehind bound (going symbols) = ⊤
EndsBehind bound (refused index refusal) = ⊤

stepped-behind :
    (bound place : ℕ) (below : List Symbol) (s : Step) (left : Run) → EndsBehind bound left → EndsBehind bound (stepped place below s left)
stepped-behind bound place below (takes new None) left h = tt
stepped-behind bound place below (takes new (Some refusal)) left h = tt
stepped-behind bound place below passes left h = h
stepped-behind bound place below (stops refusal) left h = tt

after-behind : (bound place : ℕ) (symbols : List Symbol) (t : Lexeme) → bound ≤ place → EndsBehind bound (after_token place symbols t)
after-behind bound place [] t h = h
after-behind bound place (s ∷ ss) t h =
    stepped-behind bound place ss (step s t) (after_token place ss t) (after-behind bound place ss t h)

same-end : (m n : ℕ) → read_up_to m ≡ read_up_to n → m ≡ n
same-end m n e = cc

read-behind :
    (bound place : ℕ) (run : Run) (ts : List Lexeme) (next : ℕ) → bound ≤ place → EndsBehind bound run
    → verdict place run ts ≡ read_up_to next → bound ≤ next
read-behind bound place (over end) [] next h k e = subst (λ n. bound ≤ n) (same-end end next e) k
read-behind bound place (over end) (t ∷ ts) next h k e = subst (λ n. bound ≤ n) (same-end end next e) k
read-behind bound place (refused index refusal) [] next h k e = absurd (cc)
read-behind bound place (refused index refusal) (t ∷ ts) next h k e = absurd (cc)
read-behind bound place (going []) [] next h k e = subst (λ n. bound ≤ n) (same-end place next e) h
read-behind bound place (going []) (t ∷ ts) next h k e = subst (λ n. bound ≤ n) (same-end place next e) h
read-behind bound place (going (s ∷ ss)) [] next h k e = absurd (cc)
read-behind bound place (going (s ∷ ss)) (t ∷ ts) next h k e =
    read-behind bound (suc place) (after_token place (s ∷ ss) t) ts next (omega (arith, h)) (after-behind bound place (s ∷ ss) t h) e

-- the first token of an entry is taken or stops

either-word : (a b : Bool) (x y z : Step) → (x ≡ passes → ⊥) → (y ≡ passes → ⊥) → (z ≡ passes → ⊥) → (if a then x else (if b then y else z)) ≡ passes → ⊥
either-word true b x y z h k l = h
either-word false true x y z h k l = k
either-word false false x y z h k l = l

first-taken : (limit : ℕ) (kind : Kind) (bytes : List ℕ) → annotated_step limit kind bytes ≡ passes → ⊥
first-taken limit Lower bytes = either-word (bytes_eq bytes (codes "fof")) (bytes_eq bytes (codes "cnf")) _ _ _ (λ e. cc) (λ e. cc) (λ e. cc)
first-taken limit Variable bytes = λ e. cc
first-taken limit Quoted bytes = λ e. cc
first-taken limit Distinct bytes = λ e. cc
first-taken limit Dollar bytes = λ e. cc
first-taken limit Number bytes = λ e. cc
first-taken limit Connective bytes = λ e. cc
first-taken limit Mark bytes = λ e. cc
first-taken limit Other bytes = λ e. cc

stepped-on :
    (place : ℕ) (below : List Symbol) (s : Step) → (s ≡ passes → ⊥) → EndsBehind (suc place) (stepped place below s (over place))
stepped-on place below (takes new None) h = tt
stepped-on place below (takes new (Some refusal)) h = tt
stepped-on place below passes h = absurd (h refl)
stepped-on place below (stops refusal) h = tt

verdict-onward :
    (limit first : ℕ) (ts : List Lexeme) (next : ℕ) → verdict first (going (an_annotated limit ∷ [])) ts ≡ read_up_to next → suc first ≤ next
verdict-onward limit first [] next e = absurd (cc)
verdict-onward limit first (t ∷ ts) next e =
    read-behind (suc first) (suc first) (after_token first (an_annotated limit ∷ []) t) ts next (omega arith)
    (stepped-on first [] (annotated_step limit t.kind t.bytes) (first-taken limit t.kind t.bytes)) e

pub reading-onward :
    (limit : ℕ) (bytes : List ℕ) (tokens : List Token) (first : ℕ) (read : Read) → IsReading limit bytes tokens first read → first < read.next
reading-onward limit bytes tokens first read h =
    let small : read.next ≤ length (lexemes_of bytes tokens) = (let w = h.within in omega (arith, w, length-map tokens (lexeme_at bytes))) in
    let on = verdict-onward limit first (drop first (lexemes_of bytes tokens)) read.next
    (read-verdict limit (lexemes_of bytes tokens) first read.next h.phrase h.spelled small) in
    omega (arith, on)
