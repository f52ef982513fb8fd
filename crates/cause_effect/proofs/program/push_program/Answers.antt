use Rattle.std.proofs.Common.{◌≡◌, List, ℕ, OnOk, subst, codes}
use Rattle.std.specs.List.{flat_map}
use Rattle.cause_effect.specs.Matrices.{declared_names}
use Rattle.cause_effect.specs.Programs.{declaration_line, effect_text}
use Rattle.cause_effect.proofs.Joins.{joined5}
use Rattle.cause_effect.proofs.program.push_program.Goals as goal

pub returns : goal.returns
returns c =
    let m = c.args.matrix.now in
    let old : List ℕ = c.args.text.now.list in
    let whole = joined5 old (codes "PROGRAM MATRIX\nVAR_EXTERNAL\n") (flat_map declaration_line (declared_names m)) (codes "END_VAR\n") (flat_map (effect_text m) m.effects) (codes "END_PROGRAM\n") c.push_bytes.new.text.list c.push_declarations.new.text.list c.push_bytes-2.new.text.list c.push_effects.new.text.list
    c.in_ok-push_bytes.ensures.list c.in_ok-push_declarations.ensures c.in_ok-push_bytes-2.ensures.list c.in_ok-push_effects.ensures in
    subst (λ (w : List ℕ). OnOk c.push_bytes-3.result (c.push_bytes-3.new.text.list ≡ w)) whole c.push_bytes-3.ensures.list
