use Rattle.std.proofs.Common.{refl, [], ◌∷◌, codes, inr}
use Rattle.tptp_token.specs.declared.token.Kind.TheVariants.{Mark}
use Rattle.tptp_token.specs.Lexemes.{lexeme}
use Rattle.tptp_token.specs.Words.{bare}
use Rattle.tptp_tree.specs.Entries.{word_name}
use Rattle.typed_tree.specs.TypedSpelling.{dollar_sort, word_sort, kind_of_sorts, constant_of, declares, TypePhrase}
use Rattle.typed_tree.specs.TypedEntries.{declaration_body, TypedPhrase}
use Rattle.typed_tree.proofs.laws.typed_answer_examples.Goals as goal

-- `tff(a,type,c: TYPE).`
constant : TypePhrase → TypedPhrase
constant t = record { name = word_name (bare (codes "a")); body = declaration_body (declares (bare (codes "c")) t); notes = [] }

pub returns : goal.returns
unfolding constant
returns c =
    let end = lexeme Mark (codes ")") ∷ lexeme Mark (codes ".") ∷ [] in
    record {
      mixed = (refl, refl, refl);
      left_out = (refl, refl, refl);
      polymorphic = record {
        type_may_stand = (constant kind_of_sorts, end, record { right = refl; continued = refl });
        bang = refl;
        others = lexeme Mark (codes "[") ∷ [];
        arrow = refl;
      };
      left_out_sort =
          inr (
            (
              (constant (constant_of dollar_sort), end, record { right = refl; continued = refl }),
              (constant (constant_of (word_sort (bare (codes "a")))), end, record { right = refl; continued = refl }),
            ),
            refl,
          );
    }
