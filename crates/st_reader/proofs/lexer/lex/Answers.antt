use Rattle.std.proofs.Common.{◌+◌, ◌≤◌, Some, None, Ok, length, drop, ap, sym, ◌∙◌, subst, append-nil, arith, rules, length-drop}
use Rattle.std.proofs.lemmas.Grind.{common_steps}
use Rattle.std.proofs.lemmas.List.{take_rest}
use Rattle.st_tree.specs.Lexes.{item, Lexes, IsLexicalFault}
use Rattle.st_reader.proofs.Lexing.{SoFar, begins, goes_on, refuses, ends}
use Rattle.st_reader.proofs.lexer.lex.Goals as goal
use Rattle.st_reader.proofs.lexer.lex.Goals.{in-Some+in_ok-map_err-in-Ok, in_default}

pub loop-place-init : goal.loop-place-init
loop-place-init c = record { so_far = begins c.bytes-bytes.result.now c.new-tokens.result c.new-tokens.ensures; within = omega arith }

pub loop-place-preserved : goal.loop-place-preserved
loop-place-preserved c =
    let bytes = c.bytes-bytes.result.now in
    let place = c.loop-place.place in
    let rest = take_rest bytes place in
    let is = ap item (sym rest) ∙ (sym c.in-Ok.ensures.value) in
    let some : 1 ≤ c.in-Ok.length = c.in-Ok.ensures.within.0 in
    let within : c.in-Ok.length ≤ length (drop place bytes) = rw rest at c.in-Ok.ensures.within.1 in
    let inside : place + c.in-Ok.length ≤ length bytes = omega (arith, within, length-drop place bytes, c.loop-place-test.true) in
    let so = c.loop-place.invariant.so_far in
    elim c.match-kind.branch [
      | in-Some+in_ok-map_err-in-Ok w ↦ record {
        so_far = subst (SoFar bytes (place + c.in-Ok.length)) (sym (w.tokens-is ∙ first_of (search rules, grind (arith, common_steps))))
            (goes_on bytes place c.loop-place.tokens (Some w.in-Some.kind) c.in-Ok.length so (is ∙ ap (λ k. Ok (k, c.in-Ok.length)) w.in-Some.is) some within);
        within = inside;
      }
      | in_default w ↦ record {
        so_far = subst (SoFar bytes (place + c.in-Ok.length)) (append-nil c.loop-place.tokens ∙ sym w.tokens-is)
            (goes_on bytes place c.loop-place.tokens None c.in-Ok.length so (is ∙ ap (λ k. Ok (k, c.in-Ok.length)) w.in_default.is) some within);
        within = inside;
      }
    ]

pub returns-in-Err : goal.returns-in-Err
returns-in-Err c =
    let bytes = c.bytes-bytes.result.now in
    let place = c.loop-place.place in
    let rest = take_rest bytes place in
    subst (λ text. IsLexicalFault text place c.in-Err.cause) c.bytes-bytes.ensures
    (refuses bytes place c.loop-place.tokens c.in-Err.cause c.loop-place.invariant.so_far (omega (arith, length-drop place bytes, c.loop-place-test.true)) (ap item (sym rest) ∙ sym c.in-Err.ensures.value))

pub returns : goal.returns
returns c =
    let bytes = c.bytes-bytes.result.now in
    let place = c.loop-place.place in
    subst (λ text. Lexes text c.loop-place.tokens) c.bytes-bytes.ensures
    (ends bytes place c.loop-place.tokens c.loop-place.invariant.so_far (omega (arith, length-drop place bytes, c.loop-place-test.false)))
