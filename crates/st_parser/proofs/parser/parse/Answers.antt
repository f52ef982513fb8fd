use Rattle.std.proofs.Common.{◌≡◌, ◌+◌, Err, length, ap, sym, ◌∙◌, subst}
use Rattle.st_tree.specs.Programs.{IsFirstImpossible}
use Rattle.st_parser.specs.declared.refusal.Refusal.{Refusal}
use Rattle.st_parser.specs.Inner.Parsers.{left_of}
use Rattle.st_parser.specs.Inner.ReadPrograms.{whole}
use Rattle.st_parser.proofs.ProgramLaws.{read_is_spelled, refused_is_first, one_tree}
use Rattle.st_parser.proofs.parser.parse.Goals as goal

pub returns-in-Ok-clause-answer : goal.returns-in-Ok-clause-answer
returns-in-Ok-clause-answer c = read_is_spelled c.args.tokens.now c.in-Ok.tree c.in-Ok.ensures.0 c.in-Ok.ensures.1

pub returns-in-Ok-clause-only : goal.returns-in-Ok-clause-only
returns-in-Ok-clause-only c = λ tree h.
    one_tree c.args.tokens.now c.in-Ok.tree tree (read_is_spelled c.args.tokens.now c.in-Ok.tree c.in-Ok.ensures.0 c.in-Ok.ensures.1) h

pub returns-in-Err-Left-clause-answer : goal.returns-in-Err-Left-clause-answer
returns-in-Err-Left-clause-answer c =
    let m : whole (length c.args.tokens.now + 1) c.args.tokens.now ≡ Err c.in-Err-Left.left =
    c.in-Err-Left.ensures (λ k. cc) ∙ ap (λ (x : Refusal). Err (left_of x)) c.in-Err-Left.field-0-is in
    subst (IsFirstImpossible c.args.tokens.now) (sym c.saturating_sub-token.ensures) (refused_is_first c.args.tokens.now c.in-Err-Left.left m)

pub returns-in-Err-Left-clause-only : goal.returns-in-Err-Left-clause-only
returns-in-Err-Left-clause-only c = λ tree h.
    let m : whole (length c.args.tokens.now + 1) c.args.tokens.now ≡ Err c.in-Err-Left.left =
    c.in-Err-Left.ensures (λ k. cc) ∙ ap (λ (x : Refusal). Err (left_of x)) c.in-Err-Left.field-0-is in
    let f = refused_is_first c.args.tokens.now c.in-Err-Left.left m in absurd (f.no_program tree h)
