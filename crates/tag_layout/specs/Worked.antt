-- Layouts worked by hand.
use Rattle.std.specs.Prelude.{◌≡◌, ℕ, pos, true, false, List, [], ◌∷◌, ◌++◌, map, codes, Option, Some, None}
use Rattle.function_blocks.specs.declared.kinds.Kind.{Kind}
use Rattle.function_blocks.specs.declared.kinds.Kind.TheVariants as kind
use Rattle.function_blocks.specs.declared.blocks.BlockKind.TheVariants as block
use Rattle.st_tree.specs.declared.declaration.Sign.TheVariants as sign
use Rattle.st_tree.specs.declared.declaration.Integer.{Integer}
use Rattle.st_tree.specs.declared.declaration.Constant.{Constant}
use Rattle.st_tree.specs.declared.declaration.Constant.TheVariants as constant
use Rattle.st_tree.specs.declared.declaration.DeclaredType.{DeclaredType}
use Rattle.st_tree.specs.declared.declaration.DeclaredType.TheVariants as declared
use Rattle.st_tree.specs.declared.tag.Tag.{Tag}
use Rattle.tag_layout.specs.declared.placed.PlacedTag.{PlacedTag}
use Rattle.tag_layout.specs.Layout.{total_words, placed_tags, address_of, first_words}

-- An integer without a sign.
abbrev pub integer : ℕ → Integer
integer n = record { sign = None; number = n; place = 0 }

-- An integer behind a minus sign.
abbrev pub minus : ℕ → Integer
minus n = record { sign = Some (sign.Minus, 0); number = n; place = 0 }

-- A tag of VAR, with a first value or none.
abbrev pub variable : List ℕ → DeclaredType → Option Constant → Tag
variable name declared constant =
    record { name = name; place = 0; declared = declared; constant = constant; external = false }

-- A tag of VAR_EXTERNAL.
abbrev pub point_tag : Kind → List ℕ → Tag
point_tag k name =
    record { name = name; place = 0; declared = declared.Simple k; constant = None; external = true }

-- `VAR A : ARRAY [1..3] OF INT := 2; X : INT; END_VAR`
abbrev pub array_and_int : List Tag
array_and_int =
    variable (codes "A") (declared.Array (integer 1) (integer 3) kind.Int) (Some (constant.Integer (integer 2)))
    ∷ variable (codes "X") (declared.Simple kind.Int) None
    ∷ []

-- VAR_EXTERNAL START, PUMP : BOOL; END_VAR
-- `VAR A : ARRAY [-1..1] OF INT := 2; EDGE : F_TRIG; READY : BOOL := TRUE; N : DINT; END_VAR`
abbrev pub ten_words : List Tag
ten_words =
    point_tag kind.Bool (codes "START")
    ∷ point_tag kind.Bool (codes "PUMP")
    ∷ variable (codes "A") (declared.Array (minus 1) (integer 1) kind.Int) (Some (constant.Integer (integer 2)))
    ∷ variable (codes "EDGE") (declared.Block block.FTrig) None
    ∷ variable (codes "READY") (declared.Simple kind.Bool) (Some (constant.Truth true 0))
    ∷ variable (codes "N") (declared.Simple kind.Dint) None
    ∷ []

-- `VAR A : ARRAY [0..4096] OF BOOL; END_VAR`
abbrev pub large_array : List Tag
large_array = variable (codes "A") (declared.Array (integer 0) (integer 4096) kind.Bool) None ∷ []

-- Three analogue inputs, eight discrete inputs and four outputs; two BOOLs, a TON and an INT.
abbrev pub trip : List Tag
trip =
    map (point_tag kind.Int) (codes "P1" ∷ codes "P2" ∷ codes "P3" ∷ [])
    ++ map (point_tag kind.Bool) (codes "RESET" ∷ codes "STOP" ∷ codes "D3" ∷ codes "D4" ∷ codes "D5" ∷ [])
    ++ map (point_tag kind.Bool) (codes "D6" ∷ codes "D7" ∷ codes "D8" ∷ [])
    ++ map (point_tag kind.Bool) (codes "VALVE" ∷ codes "PUMP" ∷ codes "HORN" ∷ codes "LAMP" ∷ [])
    ++ variable (codes "HIGH") (declared.Simple kind.Bool) None
    ∷ variable (codes "TRIPPED") (declared.Simple kind.Bool) None
    ∷ variable (codes "DELAY") (declared.Block block.Ton) None
    ∷ variable (codes "N") (declared.Simple kind.Int) None
    ∷ []

-- The addresses of these tags.
abbrev pub addresses : List Tag → List ℕ
addresses tags = map (λ (p : PlacedTag). p.address) (placed_tags tags)

-- What they are.
pub record Worked : Type 0 where
  pub array_words : total_words array_and_int ≡ 4
  pub array_addresses : addresses array_and_int ≡ 0 ∷ 3 ∷ []
  pub last_element : address_of array_and_int (codes "A") 2 ≡ Some 2
  pub no_element : address_of array_and_int (codes "A") 3 ≡ None
  pub only_word : address_of array_and_int (codes "X") 0 ≡ Some 3
  pub no_second_word : address_of array_and_int (codes "X") 1 ≡ None
  pub no_tag : address_of array_and_int (codes "Y") 0 ≡ None
  pub array_first : first_words array_and_int ≡ pos 2 ∷ pos 2 ∷ pos 2 ∷ pos 0 ∷ []
  pub ten_addresses : addresses ten_words ≡ 0 ∷ 1 ∷ 2 ∷ 5 ∷ 8 ∷ 9 ∷ []
  pub third_element : address_of ten_words (codes "A") 2 ≡ Some 4
  pub fourth_element : address_of ten_words (codes "A") 3 ≡ None
  pub hidden_field : address_of ten_words (codes "EDGE") 2 ≡ Some 7
  pub last_word : address_of ten_words (codes "N") 0 ≡ Some 9
  pub ten : total_words ten_words ≡ 10
  pub ten_first :
      first_words ten_words ≡ map pos (0 ∷ 0 ∷ 2 ∷ 2 ∷ 2 ∷ 0 ∷ 0 ∷ 1 ∷ 1 ∷ 0 ∷ [])
  pub one_too_many : total_words large_array ≡ 4097
  pub trip_words : total_words trip ≡ 23
  pub delay_at_17 : address_of trip (codes "DELAY") 0 ≡ Some 17
  pub elapsed_at_20 : address_of trip (codes "DELAY") 3 ≡ Some 20
  pub n_at_22 : address_of trip (codes "N") 0 ≡ Some 22
