use Rattle.std.proofs.Common.{◌≡◌, ◌∙◌, sym}
use Rattle.fault_history.specs.Notes.{ending_data}
use Rattle.play_report.proofs.Starting.{on_ok}
use Rattle.play_report.proofs.ending.write_ending.Goals as goal

pub returns-clause-fed : goal.returns-clause-fed
returns-clause-fed g c =
    on_ok c.write_end.result (
      record {
        a = ending_data c.in-Some.a;
        b = ending_data c.in-Some-ending.b;
        c = ending_data c.in-Some-ending-2.c;
      },
      record {
        a = sym c.in-Some.ensures;
        b = sym c.in-Some-ending.ensures;
        c = sym c.in-Some-ending-2.ensures;
      },
    )
