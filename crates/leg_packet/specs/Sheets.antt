-- A packet with a running result: 2, epoch, turn, the lengths of text and words, a window of the two, the number of
-- changes, each change as an address and its new number, and then the outputs. Own format.
use Rattle.std.specs.Prelude.{◌≡◌, ℕ, zero, suc, ℤ, pos, nat_abs, ◌+◌, ◌-◌, ◌*◌, ◌/◌, ◌^◌, ◌<◌, ◌≤◌, ◌≤ℤ◌, min, Bool, ◌&&◌, nat_lt, int_le, List, [], ◌∷◌, ◌++◌, length, take, drop, map, Option, Some, None, if◌then◌else◌}
use Rattle.std.specs.List.{All, list_all}
use Rattle.std.specs.Ordering.{int_eq}
use Rattle.leg_packet.specs.declared.sheet.OutSheet.{OutSheet}
use Rattle.tri_base.specs.Limits.{text_limit, word_limit}

-- What a running result says: how often a download was accepted, which window is shown, how many bytes the program's
-- text has and how many words its memory, the window's words, the changes and the outputs' counts.
pub record Sheet : Type 0 where
  pub epoch : ℕ
  pub turn : ℕ
  pub text_length : ℕ
  pub word_length : ℕ
  pub window : List ℤ
  pub pairs : List (ℕ × ℤ)
  pub outputs : List ℤ

-- Each pair as two words.
abbrev pub flat : List (ℕ × ℤ) → List ℤ
flat [] = []
flat (pair ∷ pairs) = pos pair.0 ∷ pair.1 ∷ flat pairs

-- A running result as words.
abbrev pub spelled : Sheet → List ℤ
spelled s = pos 2 ∷ pos s.epoch ∷ pos s.turn ∷ pos s.text_length ∷ pos s.word_length ∷
    (s.window ++ (pos (length s.pairs) ∷ (flat s.pairs ++ s.outputs)))

-- How many words a packet has at most that a leg makes: 5 in front, a window, the number of changes, two for each of
-- them, and the outputs.
abbrev pub packet_limit : ℕ
packet_limit = 8518

-- How many downloads are counted.
abbrev pub epoch_limit : ℕ
epoch_limit = 10 ^ 18

-- How many windows of 64 a text and words have, of so many numbers in all.
abbrev pub windows_of : ℕ → ℕ
windows_of size = (size + 63) / 64

-- How many words a window has: 64, or those that are left.
abbrev pub window_length : (size turn : ℕ) → ℕ
window_length size turn = min 64 (size - 64 * turn)

-- A word that is a byte.
abbrev pub IsByte : ℤ → Type 0
IsByte word = (pos 0 ≤ℤ word) × (word ≤ℤ pos 255)

-- Addresses that rise strictly, from one on and below another.
abbrev pub Rise : (from below : ℕ) → List (ℕ × ℤ) → Type 0
Rise from below [] = Unit {0}
Rise from below (pair ∷ pairs) = (from ≤ pair.0) × (pair.0 < below) × Rise (pair.0 + 1) below pairs

-- A window of its full length.
abbrev pub IsSized : Sheet → Type 0
IsSized s = length s.window ≡ window_length (s.text_length + s.word_length) s.turn

-- Each number in its range, a window that is there and whole, and addresses that rise below the number of words.
pub record IsCanonical (s : Sheet) : Type 0 where
  pub epoch : s.epoch ≤ epoch_limit
  pub text_length : s.text_length ≤ text_limit
  pub word_length : s.word_length ≤ word_limit
  pub turn : 64 * s.turn < s.text_length + s.word_length
  pub window : IsSized s
  -- the places of the window that are text
  pub bytes : All IsByte (take (s.text_length - 64 * s.turn) s.window)
  pub pairs : Rise 0 s.word_length s.pairs

-- Out-sheets, which hold their numbers as lists with room.

-- Each address followed by its number.
abbrev pub paired : List ℤ → List ℤ → List ℤ
paired [] values = []
paired (address ∷ addresses) [] = []
paired (address ∷ addresses) (value ∷ values) = address ∷ value ∷ paired addresses values

-- The fields of an out-sheet as words.
abbrev pub spelled_out : OutSheet → List ℤ
spelled_out o = pos 2 ∷ o.epoch ∷ o.turn ∷ o.text_length ∷ o.word_length ∷
    (o.window.list ++ (pos (length o.addresses.list) ∷ (paired o.addresses.list o.values.list ++ o.outputs.list)))

-- An out-sheet that has the fields of a sheet.
pub record Has (o : OutSheet) (s : Sheet) : Type 0 where
  pub epoch : o.epoch ≡ pos s.epoch
  pub turn : o.turn ≡ pos s.turn
  pub text_length : o.text_length ≡ pos s.text_length
  pub word_length : o.word_length ≡ pos s.word_length
  pub window : o.window.list ≡ s.window
  pub addresses : o.addresses.list ≡ map (λ (pair : ℕ × ℤ). pos pair.0) s.pairs
  pub values : o.values.list ≡ map (λ (pair : ℕ × ℤ). pair.1) s.pairs
  pub outputs : o.outputs.list ≡ s.outputs

-- The rest reads packets. The laws reads_what_is_spelled and spells_what_is_read say that sheet_of gives just the
-- canonical sheet that a packet spells, so nobody has to believe how.

-- The same as IsByte, as a test.
abbrev pub is_byte : ℤ → Bool
is_byte word = int_le (pos 0) word && int_le word (pos 255)

-- One more pair in front.
abbrev pub with_pair : ℕ → ℤ → Option (List (ℕ × ℤ) × List ℤ) → Option (List (ℕ × ℤ) × List ℤ)
with_pair address value None = None
with_pair address value (Some found) = Some ((address, value) ∷ found.0, found.1)

-- So many pairs, which rise from an address and stay below another, and what stands behind them.
unfoldable pub pairs_of : (count from below : ℕ) → List ℤ → Option (List (ℕ × ℤ) × List ℤ)
pairs_of zero from below words = Some ([], words)
pairs_of (suc count) from below (address ∷ value ∷ words) =
    if int_le (pos from) address && nat_lt (nat_abs address) below
    then with_pair (nat_abs address) value (pairs_of count (nat_abs address + 1) below words) else None
pairs_of (suc count) from below _ = None

-- The sheet of these numbers, this window, these pairs and the outputs behind them.
abbrev pub sheet_with_pairs : (epoch turn text_length word_length : ℕ) (window : List ℤ)
    → Option (List (ℕ × ℤ) × List ℤ) → Option Sheet
sheet_with_pairs epoch turn text_length word_length window None = None
sheet_with_pairs epoch turn text_length word_length window (Some found) = Some (record {
  epoch = epoch;
  turn = turn;
  text_length = text_length;
  word_length = word_length;
  window = window;
  pairs = found.0;
  outputs = found.1;
})

-- The words behind the window: the number of pairs, the pairs, and then the outputs.
abbrev pub sheet_with_tail : (epoch turn text_length word_length : ℕ) (window : List ℤ) → List ℤ → Option Sheet
sheet_with_tail epoch turn text_length word_length window [] = None
sheet_with_tail epoch turn text_length word_length window (count ∷ words) =
    if int_le (pos 0) count && list_all is_byte (take (text_length - 64 * turn) window)
    then sheet_with_pairs epoch turn text_length word_length window (pairs_of (nat_abs count) 0 word_length words)
    else None

-- The words behind the lengths: the window, and then its tail.
abbrev pub sheet_behind : (epoch turn text_length word_length : ℕ) → List ℤ → Option Sheet
sheet_behind epoch turn text_length word_length words =
    let width = window_length (text_length + word_length) turn in
    if nat_lt (64 * turn) (text_length + word_length)
    then sheet_with_tail epoch turn text_length word_length (take width words) (drop width words) else None

-- A number from 0 to another.
abbrev pub is_from_to : ℤ → ℕ → Bool
is_from_to word most = int_le (pos 0) word && int_le word (pos most)

-- The canonical sheet that a packet spells, or none where it spells none.
abbrev pub sheet_of : List ℤ → Option Sheet
sheet_of (kind ∷ epoch ∷ turn ∷ text_length ∷ word_length ∷ words) =
    if int_eq kind (pos 2) && is_from_to epoch epoch_limit && is_from_to text_length text_limit
    && is_from_to word_length word_limit && int_le (pos 0) turn
    then sheet_behind (nat_abs epoch) (nat_abs turn) (nat_abs text_length) (nat_abs word_length) words else None
sheet_of _ = None
