use Rattle.std.proofs.Common.{◌≤◌, inl, inr, ℕ, zero, suc, ◌+◌, ◌*◌, true, false, Some, List, [], ◌∷◌, ◌++◌, codes, length, refl, ap, arith}
use Rattle.std.proofs.Math.Nat.{le-min}
use Rattle.tptp_token.specs.declared.token.Kind.TheVariants.{Mark}
use Rattle.tptp_token.specs.declared.token.LexFault.TheVariants.{Unclosed as UnclosedAt}
use Rattle.tptp_token.specs.Longest.{longest}
use Rattle.tptp_token.specs.Kinds.{is_token, kind_of}
use Rattle.tptp_token.specs.Lexemes.{lexeme}
use Rattle.tptp_token.specs.Lexing.{lexed_from, lexed_of}
use Rattle.tptp_token.specs.Pieces.{line_length, block_end, fills, piece_of}
use Rattle.tptp_token.specs.Words.{bare}
use Rattle.tptp_tree.specs.declared.role.Role.TheVariants.{Conjecture}
use Rattle.tptp_tree.specs.declared.formula.Formula.TheVariants.{Pred}
use Rattle.tptp_tree.specs.Term.{no_terms}
use Rattle.tptp_tree.specs.Formula.{predicate}
use Rattle.tptp_tree.specs.Spelling.{no_phrases, predicate_atom, atomic, alone}
use Rattle.tptp_tree.specs.Entries.{word_name, formula_body, AnnotatedPhrase, AnnotatedTree}
use Rattle.tptp_reader.specs.declared.cause.ReadCause.TheVariants.{Unclosed, Syntax, IncludeDepth, TooLong}
use Rattle.tptp_reader.specs.declared.entry.Read.{Read}
use Rattle.outside.specs.Library.{Holdings}
use Rattle.tptp_problem.specs.Includes.{HasNoInclude}
use Rattle.tptp_problem.specs.Files.{room_after}
use Rattle.tptp_problem.specs.Formulas.{annotated_formulas}
use Rattle.tptp_problem.specs.Problem.{LoadedFile, lexemes, Step, IsFormulaStep, FaultsNamed}
use Rattle.tptp_problem.specs.SpelledExamples.{holding}
use Rattle.tptp_problem.proofs.laws.fault_examples.Goals as goal

-- ---- two conjectures

two_conjectures : LoadedFile
two_conjectures = record { name = codes "a"; bytes = codes "fof(b,conjecture,p).fof(c,conjecture,q)."; around = [] }

conjecture : AnnotatedPhrase
conjecture = record {
  name = word_name (bare (codes "b"));
  role = codes "conjecture";
  body = formula_body (alone (atomic (predicate_atom (bare (codes "p")) no_phrases)));
  notes = [];
}

tree : AnnotatedTree
tree = record { name = codes "b"; role = Conjecture; is_clause = false; formula = predicate (codes "p") no_terms }

reading : Read
reading = record {
  annotated = record { name = codes "b"; role = Conjecture; clause = false; formula = Pred (codes "p") []; file = []; place = 0 };
  notes_start = 7;
  notes_end = 7;
  next = 9;
}

first : Step annotated_formulas
first = record {
  formulas = record { tree = tree; file = codes "a"; place = 0 } ∷ [];
  progress = record { loaded = 40; met = true };
  next = 9;
}

first-step : IsFormulaStep annotated_formulas two_conjectures 0 (record { loaded = 40; met = false }) first
unfolding two_conjectures conjecture tree reading first longest is_token kind_of line_length block_end fills piece_of lexed_from lexed_of
first-step = record {
  single = refl;
  formula = record { tree = tree; file = codes "a"; place = 0 };
  read =
      record {
        read = reading;
        reading =
            record {
              phrase = conjecture;
              spelled = record { right = refl; spelled = refl; faultless = (refl, (refl, (refl, (refl, (refl, (refl, (refl, (refl, (refl, tt))))))))) };
              meant = record { name = refl; role = refl; is_clause = refl; formula = refl };
              within = omega arith;
              notes = refl;
              close = refl;
              place = refl;
              file = refl;
            };
        formula_is = refl;
        next_is = refl;
      };
  formulas_are = refl;
  progress_is = refl;
}

-- ---- a file that includes itself

abbrev itself : Holdings
itself = holding (codes "a") (codes "include(a).") [] []

-- so few bytes are loaded, that one more such file may be
room : (loaded : ℕ) → loaded ≤ 1000 → 11 ≤ room_after loaded
room loaded small = le-min (omega arith) (omega (arith, small))

deep :
    (depth : ℕ) (around : List (List (List ℕ))) (loaded : ℕ) → loaded + 11 * depth ≤ 1000
    → FaultsNamed annotated_formulas (Some itself) [] 0 (suc depth) (codes "a") around (record { loaded = loaded; met = false }) IncludeDepth (codes "a") 0
unfolding longest is_token kind_of line_length block_end fills piece_of lexed_from lexed_of
deep zero around loaded small =
    inr (record {
      bytes = codes "include(a).";
      given = record { within = room loaded (omega (arith, small)); held = refl };
      fault = record { steps = []; are = tt; why = inl (omega arith, (refl, refl, refl)) };
    })
deep (suc depth) around loaded small =
    inr (record {
      bytes = codes "include(a).";
      given = record { within = room loaded (omega (arith, small)); held = refl };
      fault =
          record {
            steps = [];
            are = tt;
            why =
                inl (
                  omega arith,
                  inr (record {
                    word = bare (codes "a");
                    names = [];
                    next = 5;
                    spelled = record { right = refl; spelled = refl; within = omega arith };
                    why = inl (deep depth (around ++ [] ∷ []) (loaded + 11) (omega (arith, small)));
                  }),
                );
          };
    })

-- ---- an include without an end

cut : LoadedFile
cut = record { name = codes "a"; bytes = codes "include(f"; around = [] }

none : HasNoInclude (lexemes cut) 0
unfolding cut longest is_token kind_of line_length block_end fills piece_of lexed_from lexed_of
none file [] next h = omega (arith, ap length h.spelled)
none file (n ∷ ns) next h = omega (arith, ap length h.spelled)

pub returns : goal.returns
unfolding two_conjectures first cut longest is_token kind_of line_length block_end fills piece_of lexed_from lexed_of
returns c = record {
  two_conjectures =
      inr (record {
        bytes = codes "fof(b,conjecture,p).fof(c,conjecture,q).";
        given = record { within = omega arith; held = refl };
        fault =
            record {
              steps = first ∷ [];
              are = ((omega arith, first-step), tt);
              why = inl (omega arith, (refl, refl, refl));
            };
      });
  includes_itself = deep 16 [] 0 (omega arith);
  too_many_bytes = inl (TooLong, refl, (refl, refl, inl (refl, omega arith)));
  include_cut_off =
      inr (record {
        bytes = codes "include(f";
        given = record { within = omega arith; held = refl };
        fault =
            record {
              steps = [];
              are = tt;
              why =
                  inl (
                    omega arith,
                    inl (
                      Syntax,
                      refl,
                      (
                        refl,
                        inr (
                          record {
                            before =
                                record {
                                  file = bare (codes "f");
                                  names = [];
                                  more = lexeme Mark (codes ")") ∷ lexeme Mark (codes ".") ∷ [];
                                  right = refl;
                                  continued = refl;
                                };
                            none = none;
                          },
                          (refl, refl),
                        ),
                      ),
                    ),
                  );
            };
      });
  quote_left_open =
      inr (record {
        bytes = codes " 'b";
        given = record { within = omega arith; held = refl };
        fault =
            record {
              steps = [];
              are = tt;
              why = inr (Unclosed, refl, record { ended = omega arith; fault = UnclosedAt 1; found = refl; told = (refl, refl); file_is = refl });
            };
      });
}
