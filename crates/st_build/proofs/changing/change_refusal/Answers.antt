use Rattle.std.proofs.Common.{Some, None, ap, ◌∙◌}
use Rattle.engine_face.specs.Meaning.{first_refusal}
use Rattle.st_build.proofs.Refusing.{fault_first, changed_first}
use Rattle.st_build.proofs.changing.change_refusal.Goals as goal

pub returns-in-Some : goal.returns-in-Some
returns-in-Some c = ap Some c.rename_refusal.ensures ∙ fault_first c.in-Some.fault _ _ _ c.in-Some.ensures

pub returns-in-None : goal.returns-in-None
returns-in-None c = changed_first _ _ _ c.kind_refusal.result c.in-None.ensures (c.kind_refusal.ensures ∙ ap (first_refusal None None None) c.matches.ensures)
