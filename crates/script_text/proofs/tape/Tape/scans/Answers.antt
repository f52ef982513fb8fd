use Rattle.std.proofs.Common.{◌∙◌, sym, ap, length}
use Rattle.script_text.specs.LegScans.{TapeValue}
use Rattle.script_text.proofs.Tapes.{kept_length}
use Rattle.script_text.proofs.tape.Tape.scans.Goals as goal

pub returns : goal.returns
returns c = sym (kept_length c.self.inside.scans c.self.inside.start c.self.inside.rows.items c.self.inside.lines.items) ∙ ap (λ (t : TapeValue). length t.scans) c.self.view_is
