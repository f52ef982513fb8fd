-- How large programs may be, how long scripts and scans, and how wide a count. Own rule.
use Rattle.std.specs.Prelude.{ℕ, ℤ, pos, negsuc}

-- The most bytes that the text of a program has.
abbrev pub text_limit : ℕ
text_limit = 16384

-- The most words that the memory of a program has.
abbrev pub word_limit : ℕ
word_limit = 4096

-- The most scans that a script has.
abbrev pub scan_limit : ℕ
scan_limit = 2000

-- The longest scan time, in milliseconds.
abbrev pub scan_time_limit : ℤ
scan_time_limit = pos 10000

-- The least count, which has 16 bits.
abbrev pub least_count : ℤ
least_count = negsuc 32767

-- The greatest count.
abbrev pub greatest_count : ℤ
greatest_count = pos 32767
