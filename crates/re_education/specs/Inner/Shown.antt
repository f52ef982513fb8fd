-- Nobody has to believe what stands here: it serves private functions alone.
use Rattle.std.specs.Prelude.{◌≡◌, ◌<◌, ◌≤ℤ◌, ℕ, ℤ, pos, nat_abs, List, [], ◌∷◌, Option, Some, None}
use Rattle.leg_packet.specs.Sheets.{Sheet, IsCanonical, flat}
use Rattle.re_education.specs.declared.shown.Shown.{Shown}

-- Words as pairs.
abbrev pub pairs_in : List ℤ → List (ℕ × ℤ)
pairs_in (address ∷ value ∷ words) = (nat_abs address, value) ∷ pairs_in words
pairs_in _ = []

-- Words that are pairs with addresses below another.
abbrev pub ArePairs : ℕ → List ℤ → Type 0
ArePairs below (address ∷ value ∷ words) = (pos 0 ≤ℤ address) × (nat_abs address < below) × ArePairs below words
ArePairs below _ = Unit {0}

-- What is shown, as a sheet without outputs.
abbrev pub sheet_in : Shown → Sheet
sheet_in v = record {
  epoch = v.epoch;
  turn = v.turn;
  text_length = v.text_length;
  word_length = v.word_length;
  window = v.window.now;
  pairs = pairs_in v.pairs.now;
  outputs = [];
}

-- What is shown is a canonical sheet, and its words are whole pairs.
pub record IsSound (v : Shown) : Type 0 where
  pub canonical : IsCanonical (sheet_in v)
  pub pairs : v.pairs.now ≡ flat (pairs_in v.pairs.now)

-- What is shown is that sheet.
pub record Tells (s : Sheet) (v : Shown) : Type 0 where
  pub sound : IsSound v
  pub same : sheet_in v ≡ record s { outputs = [] }

-- Something is shown exactly where there is a sheet, and it is that sheet's.
abbrev pub TellsOf : Option Sheet → Option Shown → Type 0
TellsOf None None = Unit {0}
TellsOf (Some s) (Some v) = Tells s v
TellsOf _ _ = ⊥
