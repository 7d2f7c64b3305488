use Rattle.std.proofs.Common.{◌≡◌, ◌≤◌, inl, inr, ℕ, ◌+◌, true, false, None, Some, List, [], ◌∷◌, codes, drop, length, refl, arith}
use Rattle.std.specs.Prelude.{IfSome, slice_get}
use Rattle.tptp_token.specs.Longest.{longest}
use Rattle.tptp_token.specs.Kinds.{is_token, kind_of}
use Rattle.tptp_token.specs.Pieces.{line_length, block_end, fills, piece_of}
use Rattle.tptp_token.specs.Lexing.{lexed_from, lexed_of}
use Rattle.tptp_token.specs.Words.{bare, quoted}
use Rattle.tptp_tree.specs.declared.role.Role.TheVariants.{Plain}
use Rattle.tptp_tree.specs.declared.formula.Formula.TheVariants.{Pred}
use Rattle.tptp_tree.specs.Spelling.{no_phrases, predicate_atom}
use Rattle.tptp_tree.specs.Entries.{word_name, positive_literal, literals, clause_body, AnnotatedPhrase, annotated_entry, whole_include, selected_include, annotated_tree, include_tree, IsAnnotatedOf, annotated_lexemes, SpellsEntries}
use Rattle.tptp_reader.specs.declared.entry.Read.{Read}
use Rattle.tptp_problem.specs.Spelled.{FromFile}
use Rattle.tptp_problem.specs.Formulas.{annotated_formulas}
use Rattle.tptp_problem.specs.Problem.{LoadedFile, tokens_of, lexemes, Step, Reads, IsFormulaStep, ReadsText}
use Rattle.tptp_problem.specs.SpelledExamples.{clause_named, two_clauses, placed_clause}
use Rattle.tptp_problem.proofs.laws.problem_examples.Goals as goal

abbrev phrase : List ℕ → List ℕ → AnnotatedPhrase
phrase name symbol = record {
  name = word_name (bare name);
  role = codes "plain";
  body = clause_body (literals (positive_literal (predicate_atom (bare symbol) no_phrases)) []);
  notes = [];
}

says : (name symbol : List ℕ) → IsAnnotatedOf (phrase name symbol) (clause_named name symbol)
says name symbol = record { name = refl; role = refl; is_clause = refl; formula = refl }

two : SpellsEntries (codes "cnf(b,plain,q).cnf(c,plain,r).") (annotated_tree (clause_named (codes "b") (codes "q")) ∷ annotated_tree (clause_named (codes "c") (codes "r")) ∷ [])
unfolding longest is_token kind_of line_length block_end fills piece_of lexed_from lexed_of
two = (
  annotated_entry (phrase (codes "b") (codes "q")) ∷ annotated_entry (phrase (codes "c") (codes "r")) ∷ [],
  refl,
  record { whole = refl; tokens = refl },
  ((clause_named (codes "b") (codes "q"), says (codes "b") (codes "q"), refl), ((clause_named (codes "c") (codes "r"), says (codes "c") (codes "r"), refl), tt)),
)

first : SpellsEntries (codes "include(f,[c]).cnf(a,plain,p).") (include_tree (codes "f") (Some (codes "c" ∷ [])) ∷ annotated_tree (clause_named (codes "a") (codes "p")) ∷ [])
unfolding longest is_token kind_of line_length block_end fills piece_of lexed_from lexed_of
first = (
  selected_include (bare (codes "f")) (record { first = word_name (bare (codes "c")); others = [] }) ∷ annotated_entry (phrase (codes "a") (codes "p")) ∷ [],
  refl,
  record { whole = refl; tokens = refl },
  (refl, ((clause_named (codes "a") (codes "p"), says (codes "a") (codes "p"), refl), tt)),
)

whole : SpellsEntries (codes "include(f).") (include_tree (codes "f") None ∷ [])
unfolding longest is_token kind_of line_length block_end fills piece_of lexed_from lexed_of
whole = (whole_include (bare (codes "f")) ∷ [], refl, record { whole = refl; tokens = refl }, (refl, tt))

outer : SpellsEntries (codes "include('e/f').") (include_tree (codes "e/f") None ∷ [])
unfolding longest is_token kind_of line_length block_end fills piece_of lexed_from lexed_of
outer = (whole_include (quoted (codes "'e/f'")) ∷ [], refl, record { whole = refl; tokens = refl }, (refl, tt))

inner : SpellsEntries (codes "include(g,[b]).cnf(a,plain,p).") (include_tree (codes "g") (Some (codes "b" ∷ [])) ∷ annotated_tree (clause_named (codes "a") (codes "p")) ∷ [])
unfolding longest is_token kind_of line_length block_end fills piece_of lexed_from lexed_of
inner = (
  selected_include (bare (codes "g")) (record { first = word_name (bare (codes "b")); others = [] }) ∷ annotated_entry (phrase (codes "a") (codes "p")) ∷ [],
  refl,
  record { whole = refl; tokens = refl },
  (refl, ((clause_named (codes "a") (codes "p"), says (codes "a") (codes "p"), refl), tt)),
)

abbrev at : List ℕ → List ℕ → List ℕ → FromFile
at file name symbol = record { tree = clause_named name symbol; file = file }

abbrev both : List ℕ → List FromFile
both file = at file (codes "b") (codes "q") ∷ at file (codes "c") (codes "r") ∷ []

-- ---- reading

abbrev read_at : List ℕ → List ℕ → ℕ → ℕ → Read
read_at name symbol first place = record {
  annotated = record { name = name; role = Plain; clause = true; formula = Pred symbol []; file = []; place = place };
  notes_start = first + 7;
  notes_end = first + 7;
  next = first + 9;
}

-- behind it nothing but the place has changed
abbrev step_at : List ℕ → List ℕ → LoadedFile → ℕ → ℕ → ℕ → Step annotated_formulas
step_at name symbol file first place loaded = record {
  formulas = placed_clause name symbol file.name place ∷ [];
  progress = record { loaded = loaded; met = false };
  next = first + 9;
}

clause-step :
    (name symbol : List ℕ) (file : LoadedFile) (first place loaded : ℕ)
    → drop first (lexemes file) ≡ annotated_lexemes (phrase name symbol) (drop (first + 9) (lexemes file)) → first + 9 ≤ length (tokens_of file)
    → IfSome (slice_get (tokens_of file) first) (λ t. place ≡ t.start)
    → IsFormulaStep annotated_formulas file first (record { loaded = loaded; met = false }) (step_at name symbol file first place loaded)
clause-step name symbol file first place loaded e l p = record {
  single = refl;
  formula = placed_clause name symbol file.name place;
  read =
      record {
        read = read_at name symbol first place;
        reading =
            record {
              phrase = phrase name symbol;
              spelled = record { right = refl; spelled = e; faultless = (refl, (refl, (refl, (refl, (refl, (refl, (refl, (refl, (refl, tt))))))))) };
              meant = says name symbol;
              within = l;
              notes = refl;
              close = omega arith;
              place = p;
              file = refl;
            };
        formula_is = refl;
        next_is = refl;
      };
  formulas_are = refl;
  progress_is = refl;
}

-- the file of two clauses
two-read :
    (base : List ℕ) (reads : Reads annotated_formulas) (name : List ℕ) (around : List (List (List ℕ))) (loaded : ℕ)
    → ReadsText annotated_formulas base reads (record { name = name; bytes = two_clauses; around = around }) (record { loaded = loaded; met = false })
    (placed_clause (codes "b") (codes "q") name 0 ∷ placed_clause (codes "c") (codes "r") name 15 ∷ []) (record { loaded = loaded; met = false })
unfolding longest is_token kind_of line_length block_end fills piece_of lexed_from lexed_of
two-read base reads name around loaded =
    let file : LoadedFile = record { name = name; bytes = two_clauses; around = around } in
    record {
      steps = step_at (codes "b") (codes "q") file 0 0 loaded ∷ step_at (codes "c") (codes "r") file 9 15 loaded ∷ [];
      are = (
        (omega arith, clause-step (codes "b") (codes "q") file 0 0 loaded refl (omega arith) refl),
        ((omega arith, clause-step (codes "c") (codes "r") file 9 15 loaded refl (omega arith) refl), tt),
      );
      ended = omega arith;
      clean = refl;
      formulas_are = refl;
      progress_is = refl;
    }

pub returns : goal.returns
unfolding longest is_token kind_of line_length block_end fills piece_of lexed_from lexed_of
returns c = record {
  selected_formula =
      record {
        bytes = codes "include(f,[c]).cnf(a,plain,p).";
        held = refl;
        entries = include_tree (codes "f") (Some (codes "c" ∷ [])) ∷ annotated_tree (clause_named (codes "a") (codes "p")) ∷ [];
        spelled = first;
        given = (
          at (codes "d/f") (codes "c") (codes "r") ∷ [],
          at (codes "d/a") (codes "a") (codes "p") ∷ [],
          (
            both (codes "d/f"),
            record {
              bytes = codes "cnf(b,plain,q).cnf(c,plain,r).";
              held = refl;
              entries = annotated_tree (clause_named (codes "b") (codes "q")) ∷ annotated_tree (clause_named (codes "c") (codes "r")) ∷ [];
              spelled = two;
              given = (at (codes "d/f") (codes "b") (codes "q") ∷ [], at (codes "d/f") (codes "c") (codes "r") ∷ [], refl, (at (codes "d/f") (codes "c") (codes "r") ∷ [], [], refl, refl, refl), refl);
            },
            refl,
          ),
          (at (codes "d/a") (codes "a") (codes "p") ∷ [], [], refl, refl, refl),
          refl,
        );
      };
  whole_file =
      record {
        bytes = codes "include(f).";
        held = refl;
        entries = include_tree (codes "f") None ∷ [];
        spelled = whole;
        given = (
          both (codes "r/f"),
          [],
          (
            both (codes "r/f"),
            record {
              bytes = codes "cnf(b,plain,q).cnf(c,plain,r).";
              held = refl;
              entries = annotated_tree (clause_named (codes "b") (codes "q")) ∷ annotated_tree (clause_named (codes "c") (codes "r")) ∷ [];
              spelled = two;
              given = (at (codes "r/f") (codes "b") (codes "q") ∷ [], at (codes "r/f") (codes "c") (codes "r") ∷ [], refl, (at (codes "r/f") (codes "c") (codes "r") ∷ [], [], refl, refl, refl), refl);
            },
            refl,
          ),
          refl,
          refl,
        );
      };
  nested_include =
      let taken : List FromFile = at (codes "d/g") (codes "b") (codes "q") ∷ at (codes "d/e/f") (codes "a") (codes "p") ∷ [] in
      record {
        bytes = codes "include('e/f').";
        held = refl;
        entries = include_tree (codes "e/f") None ∷ [];
        spelled = outer;
        given = (
          taken,
          [],
          (
            taken,
            record {
              bytes = codes "include(g,[b]).cnf(a,plain,p).";
              held = refl;
              entries = include_tree (codes "g") (Some (codes "b" ∷ [])) ∷ annotated_tree (clause_named (codes "a") (codes "p")) ∷ [];
              spelled = inner;
              given = (
                at (codes "d/g") (codes "b") (codes "q") ∷ [],
                at (codes "d/e/f") (codes "a") (codes "p") ∷ [],
                (
                  both (codes "d/g"),
                  record {
                    bytes = codes "cnf(b,plain,q).cnf(c,plain,r).";
                    held = refl;
                    entries = annotated_tree (clause_named (codes "b") (codes "q")) ∷ annotated_tree (clause_named (codes "c") (codes "r")) ∷ [];
                    spelled = two;
                    given = (at (codes "d/g") (codes "b") (codes "q") ∷ [], at (codes "d/g") (codes "c") (codes "r") ∷ [], refl, (at (codes "d/g") (codes "c") (codes "r") ∷ [], [], refl, refl, refl), refl);
                  },
                  refl,
                ),
                (at (codes "d/e/f") (codes "a") (codes "p") ∷ [], [], refl, refl, refl),
                refl,
              );
            },
            refl,
          ),
          refl,
          refl,
        );
      };
  one_clause = (
    record { loaded = 16; met = false },
    record {
      bytes = codes " cnf(a,plain,p).";
      given = record { within = omega arith; held = refl };
      text =
          let file : LoadedFile = record { name = codes "a"; bytes = codes " cnf(a,plain,p)."; around = [] } in
          record {
            steps = step_at (codes "a") (codes "p") file 0 1 16 ∷ [];
            are = ((omega arith, clause-step (codes "a") (codes "p") file 0 1 16 refl (omega arith) refl), tt);
            ended = omega arith;
            clean = refl;
            formulas_are = refl;
            progress_is = refl;
          };
    },
  );
  selected_problem = (
    record { loaded = 60; met = false },
    record {
      bytes = codes "include(f,[c]).cnf(a,plain,p).";
      given = record { within = omega arith; held = refl };
      text =
          let file : LoadedFile = record { name = codes "d/a"; bytes = codes "include(f,[c]).cnf(a,plain,p)."; around = [] } in
          record {
            steps =
                record { formulas = placed_clause (codes "c") (codes "r") (codes "d/f") 15 ∷ []; progress = record { loaded = 60; met = false }; next = 9 }
                ∷ step_at (codes "a") (codes "p") file 9 15 60 ∷ [];
            are = (
              (
                omega arith,
                record {
                  file = bare (codes "f");
                  names = word_name (bare (codes "c")) ∷ [];
                  spelled = record { right = refl; spelled = refl; within = omega arith };
                  formulas = placed_clause (codes "b") (codes "q") (codes "d/f") 0 ∷ placed_clause (codes "c") (codes "r") (codes "d/f") 15 ∷ [];
                  read =
                      record {
                        bytes = two_clauses;
                        given = record { within = omega arith; held = refl };
                        text = two-read _ _ (codes "d/f") ((codes "c" ∷ []) ∷ []) 60;
                      };
                  present = refl;
                  taken = refl;
                },
              ),
              ((omega arith, clause-step (codes "a") (codes "p") file 9 15 60 refl (omega arith) refl), tt),
            );
            ended = omega arith;
            clean = refl;
            formulas_are = refl;
            progress_is = refl;
          };
    },
  );
  missing_name =
      inr (record {
        bytes = codes "include(f,[d]).";
        given = record { within = omega arith; held = refl };
        fault =
            record {
              steps = [];
              are = tt;
              why =
                  inl (
                    omega arith,
                    inr (record {
                      word = bare (codes "f");
                      names = word_name (bare (codes "d")) ∷ [];
                      next = 9;
                      spelled = record { right = refl; spelled = refl; within = omega arith };
                      why =
                          inr (record {
                            formulas = placed_clause (codes "b") (codes "q") (codes "f") 0 ∷ placed_clause (codes "c") (codes "r") (codes "f") 15 ∷ [];
                            behind = record { loaded = 45; met = false };
                            read =
                                record {
                                  bytes = two_clauses;
                                  given = record { within = omega arith; held = refl };
                                  text = two-read _ _ (codes "f") ((codes "d" ∷ []) ∷ []) 45;
                                };
                            index = 0;
                            missing_is = refl;
                            cause_is = refl;
                            file_is = refl;
                            place_is = refl;
                          });
                    }),
                  );
            };
      });
}
