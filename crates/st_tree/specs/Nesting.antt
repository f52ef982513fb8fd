-- Nesting, counted from the left over the tokens as they stand.
-- Own rule: at most 64 levels.
use Rattle.std.specs.Prelude.{ℕ, ◌+◌, ◌-◌, ◌==◌, Bool, true, false, if◌then◌else◌, List, [], ◌∷◌, Option, Some, None}
use Rattle.std.specs.Option.{option_map}
use Rattle.st_tree.specs.declared.token.Fixed.{Fixed}
use Rattle.st_tree.specs.declared.token.Fixed.TheVariants as w
use Rattle.st_tree.specs.declared.token.TokenKind.{TokenKind}
use Rattle.st_tree.specs.declared.token.TokenKind.TheVariants as kind
use Rattle.st_tree.specs.declared.token.Token.{Token}

-- "(", "[", IF, CASE and FOR
abbrev pub opens : Fixed → Bool
opens w.OpenParen = true
opens w.OpenBracket = true
opens w.If = true
opens w.Case = true
opens w.For = true
opens _ = false

-- ")", "]", END_IF, END_CASE and END_FOR
abbrev pub closes : Fixed → Bool
closes w.CloseParen = true
closes w.CloseBracket = true
closes w.EndIf = true
closes w.EndCase = true
closes w.EndFor = true
closes _ = false

-- The nesting with one token more. It never falls below 0.
abbrev pub nesting_with : ℕ → TokenKind → ℕ
nesting_with depth (kind.Fixed word) = if opens word then depth + 1 else (if closes word then depth - 1 else depth)
nesting_with depth _ = depth

-- how deep tokens may nest
abbrev pub nesting_limit : ℕ
nesting_limit = 64

-- the first of these tokens, behind others that nest so deep, at which the nesting passes the limit
abbrev pub too_deep_from : ℕ → List Token → Option ℕ
too_deep_from depth [] = None
too_deep_from depth (token ∷ tokens) =
    if nesting_with depth token.kind == nesting_limit + 1 then Some 0
    else option_map (λ at. at + 1) (too_deep_from (nesting_with depth token.kind) tokens)

-- the first token at which the nesting passes the limit
unfoldable pub first_too_deep : List Token → Option ℕ
first_too_deep = too_deep_from 0
