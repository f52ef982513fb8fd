use Rattle.std.proofs.Common.{sym, ap, ◌∙◌, subst}
use Rattle.std.proofs.lemmas.Bool.{false≢true}
use Rattle.scan_machine.specs.Codes.{CodeValue}
use Rattle.scan_machine.specs.Rules.{IsVerified}
use Rattle.st_core.specs.Codes.{size_of}
use Rattle.st_core.specs.Compiled.{IsCodeOf}
use Rattle.st_meaning.specs.Statements.{acts_of}
use Rattle.st_sound.specs.Shapes.{shape_in}
use Rattle.scan_code.proofs.Lookups.{total_same}
use Rattle.scan_code.proofs.Assembled.{put_is, code_of_body}
use Rattle.scan_code.proofs.compiling.assemble.Goals as goal

pub unreachable-requires : goal.unreachable-requires
unreachable-requires c =
    let a = acts_of c.args.layout.now c.args.statements.now in
    let made = code_of_body (shape_in c.args.layout.now) a c.new-code.result.items c.emit_block.new.code.items c.in_ok-finish.finish c.requires.fits c.new-code.ensures.items (c.in_ok-finish.ensures (size_of a) (c.size_of_block.ensures c.args.layout.now)) c.in_ok-emit_block.ensures in
    false≢true (c.in-Err.ensures.exactly.1 (subst (IsVerified c.emit_block.new.code.items) (total_same c.args.layout.now ∙ sym c.words.ensures.value) made.verified))

pub returns-clause-is : goal.returns-clause-is
returns-clause-is c =
    let a = acts_of c.args.layout.now c.args.statements.now in
    ap (λ (v : CodeValue). v.list) c.in-Ok.ensures.value
    ∙ put_is (shape_in c.args.layout.now) a c.new-code.result.items c.emit_block.new.code.items c.in_ok-finish.finish c.new-code.ensures.items (c.in_ok-finish.ensures (size_of a) (c.size_of_block.ensures c.args.layout.now)) c.in_ok-emit_block.ensures

pub returns-clause-does : goal.returns-clause-does
returns-clause-does c =
    let a = acts_of c.args.layout.now c.args.statements.now in
    let made = code_of_body (shape_in c.args.layout.now) a c.new-code.result.items c.emit_block.new.code.items c.in_ok-finish.finish c.requires.fits c.new-code.ensures.items (c.in_ok-finish.ensures (size_of a) (c.size_of_block.ensures c.args.layout.now)) c.in_ok-emit_block.ensures in
    subst (IsCodeOf (shape_in c.args.layout.now) a) (sym (ap (λ (v : CodeValue). v.list) c.in-Ok.ensures.value)) made

pub returns-clause-words : goal.returns-clause-words
returns-clause-words c = ap (λ (v : CodeValue). v.words) c.in-Ok.ensures.value ∙ c.words.ensures.value
