-- Bytes of texts, by name (ASCII).
use Rattle.std.specs.Prelude.{ℕ}

-- `\t`
abbrev pub tab : ℕ
tab = 9

-- `\n`
abbrev pub line_feed : ℕ
line_feed = 10

-- `\r`
abbrev pub carriage_return : ℕ
carriage_return = 13

-- ` `
abbrev pub space : ℕ
space = 32

-- `#`
abbrev pub number_sign : ℕ
number_sign = 35

-- `-`
abbrev pub minus_sign : ℕ
minus_sign = 45

-- `_`
abbrev pub underscore : ℕ
underscore = 95
