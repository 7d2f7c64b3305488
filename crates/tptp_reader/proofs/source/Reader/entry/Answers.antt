use Rattle.std.proofs.Common.{refl}
use Rattle.tptp_reader.proofs.AboutRuns.LoopLemmas.{passed}
use Rattle.tptp_reader.proofs.AboutReads.EntryWhole.{open-halted, name-halted, comma-halted, role-halted, second_comma-halted, body-halted, ending-halted, entry-read}
use Rattle.tptp_reader.proofs.source.Reader.entry.Goals as goal

pub returns-in_err-open-clause-halted : goal.returns-in_err-open-clause-halted
returns-in_err-open-clause-halted c =
    passed _ _ _ c.from_residual-in_err-open.ensures.1
    (open-halted _ _ _ _ c.in_ok-clause.ensures.read c.in_err-open.ensures.ends)

pub returns-in_err-name-clause-halted : goal.returns-in_err-name-clause-halted
returns-in_err-name-clause-halted c =
    passed _ _ _ c.from_residual-in_err-name.ensures.1
    (name-halted _ _ _ _ _
    (record { language = c.in_ok-clause.ensures.read; bracket = c.in_ok-open.ensures.found.1; leads = c.in_ok-open.ensures.leads; open_is = c.in_ok-open.ensures.found.0 })
    c.in_err-name.ensures.halted)

pub returns-in_err-comma-clause-halted : goal.returns-in_err-comma-clause-halted
returns-in_err-comma-clause-halted c =
    passed _ _ _ c.from_residual-in_err-comma.ensures.1
    (comma-halted _ _ _ _ _ _
    (record { language = c.in_ok-clause.ensures.read; bracket = c.in_ok-open.ensures.found.1; leads = c.in_ok-open.ensures.leads; open_is = c.in_ok-open.ensures.found.0 })
    c.in_ok-name.ensures.read c.in_err-comma.ensures.ends)

pub returns-in_err-role-clause-halted : goal.returns-in_err-role-clause-halted
returns-in_err-role-clause-halted c =
    passed _ _ _ c.from_residual-in_err-role.ensures.1
    (role-halted _ _ _ _ _ _ _
    (record {
      opened = record { language = c.in_ok-clause.ensures.read; bracket = c.in_ok-open.ensures.found.1; leads = c.in_ok-open.ensures.leads; open_is = c.in_ok-open.ensures.found.0 };
      name_is = c.in_ok-name.ensures.read;
      comma_at = c.in_ok-comma.ensures.found.1;
      leads = c.in_ok-comma.ensures.leads;
      comma_is = c.in_ok-comma.ensures.found.0;
    })
    c.in_err-role.ensures.halted)

pub returns-in_err-body-clause-halted : goal.returns-in_err-body-clause-halted
returns-in_err-body-clause-halted c =
    passed _ _ _ c.from_residual-in_err-body.ensures.1
    (second_comma-halted _ _ _ _ _ _ _ _
    (record {
      opened = record { language = c.in_ok-clause.ensures.read; bracket = c.in_ok-open.ensures.found.1; leads = c.in_ok-open.ensures.leads; open_is = c.in_ok-open.ensures.found.0 };
      name_is = c.in_ok-name.ensures.read;
      comma_at = c.in_ok-comma.ensures.found.1;
      leads = c.in_ok-comma.ensures.leads;
      comma_is = c.in_ok-comma.ensures.found.0;
    })
    c.in_ok-role.ensures.read c.in_err-body.ensures.ends)

pub returns-in_err-formula-clause-halted : goal.returns-in_err-formula-clause-halted
returns-in_err-formula-clause-halted c =
    passed _ _ _ c.from_residual-in_err-formula.ensures.1
    (body-halted _ _ _ _ _ _ _ _ _
    (record {
      named = record {
        opened = record { language = c.in_ok-clause.ensures.read; bracket = c.in_ok-open.ensures.found.1; leads = c.in_ok-open.ensures.leads; open_is = c.in_ok-open.ensures.found.0 };
        name_is = c.in_ok-name.ensures.read;
        comma_at = c.in_ok-comma.ensures.found.1;
        leads = c.in_ok-comma.ensures.leads;
        comma_is = c.in_ok-comma.ensures.found.0;
      };
      role_is = c.in_ok-role.ensures.read;
      comma_at = c.in_ok-body.ensures.found.1;
      leads = c.in_ok-body.ensures.leads;
      body_is = c.in_ok-body.ensures.found.0;
    })
    c.in_err-formula.ensures.halted)

pub returns-in_err-ending-clause-halted : goal.returns-in_err-ending-clause-halted
returns-in_err-ending-clause-halted c =
    passed _ _ _ c.from_residual-in_err-ending.ensures.1
    (ending-halted _ _ _ _ _ _ _ _ _ _ _
    (record {
      named = record {
        opened = record { language = c.in_ok-clause.ensures.read; bracket = c.in_ok-open.ensures.found.1; leads = c.in_ok-open.ensures.leads; open_is = c.in_ok-open.ensures.found.0 };
        name_is = c.in_ok-name.ensures.read;
        comma_at = c.in_ok-comma.ensures.found.1;
        leads = c.in_ok-comma.ensures.leads;
        comma_is = c.in_ok-comma.ensures.found.0;
      };
      role_is = c.in_ok-role.ensures.read;
      comma_at = c.in_ok-body.ensures.found.1;
      leads = c.in_ok-body.ensures.leads;
      body_is = c.in_ok-body.ensures.found.0;
    })
    c.in_ok-formula.ensures.read c.in_err-ending.ensures.halted)

pub returns-clause-read : goal.returns-clause-read
returns-clause-read c =
    entry-read _ _ _ _ _ _ _ _ _ _ _
    (record {
      named = record {
        opened = record { language = c.in_ok-clause.ensures.read; bracket = c.in_ok-open.ensures.found.1; leads = c.in_ok-open.ensures.leads; open_is = c.in_ok-open.ensures.found.0 };
        name_is = c.in_ok-name.ensures.read;
        comma_at = c.in_ok-comma.ensures.found.1;
        leads = c.in_ok-comma.ensures.leads;
        comma_is = c.in_ok-comma.ensures.found.0;
      };
      role_is = c.in_ok-role.ensures.read;
      comma_at = c.in_ok-body.ensures.found.1;
      leads = c.in_ok-body.ensures.leads;
      body_is = c.in_ok-body.ensures.found.0;
    })
    c.in_ok-formula.ensures.read c.in_ok-ending.ensures.read refl refl refl refl
