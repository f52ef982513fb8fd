-- The program of the generator: its pieces, its length, and that it can stand in a block.
use Rattle.std.proofs.Common.{◌≡◌, ℕ, zero, suc, ◌+◌, Bool, true, false, not, List, [], ◌∷◌, ◌++◌, flat_map, replicate, append_assoc, append-nil, length, nat_lt, codes, refl, sym, ap, ◌∙◌, arith, ◌&&◌}
use Rattle.std.specs.List.{list_all, range_with_len}
use Rattle.std.specs.Str.{bytes_eq}
use Rattle.std.specs.Fmt.{digits}
use Rattle.std.proofs.lemmas.List.Folds.{flat_map-map}
use Rattle.script_lines.specs.Lines.{ended}
use Rattle.script_text.specs.IsScript.{AreBlockLines, IsBlock, is_byte}
use Rattle.script_text.proofs.LineFacts.{both, no_feed}
use Rattle.script_writer.proofs.RoundLines.{all_weaker, no_end, no_return}
use Rattle.script_maker.specs.Plants.{row_length, numbered}
use Rattle.script_maker.specs.Programs.{names_to, body_line, body_lines, comment_line, program_lines, generated_text}
use Rattle.script_maker.specs.Inner.Pieces.{inputs_piece, outputs_piece, body_piece, repeated, end_piece}

pub pieces : generated_text ≡ inputs_piece ++ (outputs_piece ++ (body_piece ++ end_piece))
unfolding digits names_to body_lines comment_line generated_text repeated
pieces = refl

pub text_length : length generated_text ≡ 16384
unfolding digits names_to body_lines comment_line generated_text
text_length = refl

abbrev is_inline : ℕ → Bool
is_inline b = nat_lt 31 b

abbrev is_block_line : List ℕ → Bool
is_block_line line = list_all is_inline line && not (bytes_eq line (codes "ENDTEXT"))

block_lines : (lines : List (List ℕ)) → list_all is_block_line lines ≡ true → AreBlockLines lines
block_lines [] h = tt
block_lines (line ∷ lines) h =
    let parts = both (is_block_line line) (list_all is_block_line lines) h in
    let first = both (list_all is_inline line) (not (bytes_eq line (codes "ENDTEXT"))) parts.0 in (
      all_weaker is_inline no_feed (λ b k. grind (arith, k)) line first.0,
      no_end line (all_weaker is_inline no_return (λ b k. grind (arith, k)) line first.0),
      negated (bytes_eq line (codes "ENDTEXT")) first.1,
      block_lines lines parts.1,
    )
  where
    negated : (t : Bool) → not t ≡ true → t ≡ false
    negated false h = refl
    negated true h = absurd (cc)

lines_pass : list_all is_block_line program_lines ≡ true
unfolding digits names_to body_lines comment_line
lines_pass = refl

bytes_pass : list_all is_byte generated_text ≡ true
unfolding digits names_to body_lines comment_line generated_text
bytes_pass = refl

pub block : IsBlock generated_text
unfolding generated_text
block = (program_lines, refl, block_lines program_lines lines_pass, bytes_pass)

-- ---- what loops add

pub names_whole : (letter : List ℕ) (last n : ℕ) (start text : List ℕ) → n ≡ last → text ≡ (start ++ numbered letter 0) ++ flat_map (λ i. codes ", " ++ numbered letter i) (range_with_len 1 n) → text ≡ start ++ names_to letter last
unfolding names_to
names_whole letter last n start text e h =
    h ∙ (ap (λ m. (start ++ numbered letter 0) ++ flat_map (λ i. codes ", " ++ numbered letter i) (range_with_len 1 m)) e
    ∙ append_assoc start (numbered letter 0) (flat_map (λ i. codes ", " ++ numbered letter i) (range_with_len 1 last)))

pub lines_whole : (before between behind : List ℕ) (n : ℕ) (start text : List ℕ) → n ≡ row_length → text ≡ start ++ flat_map (λ i. ended (body_line before between behind i)) (range_with_len 0 n) → text ≡ start ++ flat_map ended (body_lines before between behind)
unfolding body_lines
lines_whole before between behind n start text e h =
    h ∙ (ap (λ m. start ++ flat_map (λ i. ended (body_line before between behind i)) (range_with_len 0 m)) e
    ∙ ap (λ t. start ++ t) (sym (flat_map-map ended (body_line before between behind) (range_with_len 0 row_length))))

letter_more : (letter n : ℕ) → replicate (suc n) letter ≡ replicate n letter ++ letter ∷ []
letter_more letter zero = refl
letter_more letter (suc n) = ap (λ t. letter ∷ t) (letter_more letter n)

pub no_letters : (letter : ℕ) (text : List ℕ) → text ≡ text ++ repeated letter 0
unfolding repeated
no_letters letter text = sym (append-nil text)

pub letters_more : (letter n : ℕ) (start text new : List ℕ) → text ≡ start ++ repeated letter n → new ≡ text ++ letter ∷ [] → new ≡ start ++ repeated letter (n + 1)
unfolding repeated
letters_more letter n start text new h k =
    let e : suc n ≡ n + 1 = omega arith in
    k ∙ (ap (λ t. t ++ letter ∷ []) h
    ∙ (append_assoc start (replicate n letter) (letter ∷ [])
    ∙ ap (λ t. start ++ t) (sym (letter_more letter n) ∙ ap (λ m. replicate m letter) e)))
