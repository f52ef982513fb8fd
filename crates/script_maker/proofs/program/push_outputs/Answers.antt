use Rattle.std.proofs.Common.{◌≡◌, List, ℕ, OnOk, subst, codes}
use Rattle.script_maker.specs.Programs.{declaration}
use Rattle.script_maker.proofs.Rows.{three}
use Rattle.script_maker.proofs.program.push_outputs.Goals as goal

pub returns : goal.returns
returns c =
    let q = declaration (codes "Q") 127 (codes " : BOOL;\n") in
    let v = declaration (codes "V") 127 (codes " : INT;\nEND_VAR\nVAR\n") in
    let t = declaration (codes "T") 715 (codes " : TON;\nN0, N1, N2, N3 : INT;\nEND_VAR\n") in
    subst (λ (text : List ℕ). OnOk c.push_declaration-3.result (c.push_declaration-3.new.text.list ≡ text))
    (three c.args.text.now.list c.push_declaration.new.text.list c.push_declaration-2.new.text.list q v t c.in_ok-push_declaration.ensures c.in_ok-push_declaration-2.ensures)
    c.push_declaration-3.ensures
