use Rattle.std.proofs.Common.{◌∙◌, ap, sym, take}
use Rattle.std.specs.List.{list_all}
use Rattle.tri_base.specs.Names.{is_word_byte}
use Rattle.st_reader.proofs.Fronts.{front_is_such, no_digit_first}
use Rattle.st_reader.proofs.item.item.Goals as goal

pub word-requires-clause-word_bytes : goal.word-requires-clause-word_bytes
word-requires-clause-word_bytes c =
    ap (λ n. list_all is_word_byte (take n c.args.text.now)) c.word_length.ensures.value ∙ front_is_such is_word_byte c.args.text.now

pub word-requires-clause-no_digit : goal.word-requires-clause-no_digit
word-requires-clause-no_digit c = no_digit_first c.args.text.now c.word_length.result (sym c.is_ascii_digit.ensures.value ∙ c.if-is_ascii_digit.false)
