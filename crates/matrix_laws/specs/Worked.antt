-- A matrix worked by hand: the program that it becomes, and what its effects are in four scans.
use Rattle.std.specs.Prelude.{◌≡◌, ℕ, Bool, true, false, List, [], ◌∷◌, ◌++◌, Some, unwrap_or, codes}
use Rattle.std.specs.Map.{lookup}
use Rattle.std.specs.Str.{bytes_eq}
use Rattle.cause_effect.specs.declared.matrix.Level.TheVariants.{High, Low}
use Rattle.cause_effect.specs.declared.matrix.Mode.TheVariants.{Latch, Follow}
use Rattle.cause_effect.specs.Matrices.{MatrixValue, matrix_step}
use Rattle.cause_effect.specs.Programs.{program_of}

-- CAUSE LOWP LOW, CAUSE STOP HIGH, EFFECT VALVE LATCH, EFFECT HORN FOLLOW, RESET ACK, LINK LOWP VALVE, LINK STOP VALVE,
-- LINK LOWP HORN
abbrev pub worked : MatrixValue
worked = record {
  causes = (codes "LOWP", Low) ∷ (codes "STOP", High) ∷ [];
  effects = (codes "VALVE", Latch) ∷ (codes "HORN", Follow) ∷ [];
  reset = Some (codes "ACK");
  links =
      record { cause = codes "LOWP"; effect = codes "VALVE" }
      ∷ record { cause = codes "STOP"; effect = codes "VALVE" }
      ∷ record { cause = codes "LOWP"; effect = codes "HORN" }
      ∷ [];
}

-- Values by name.
abbrev pub by_name : List (List ℕ × Bool) → List ℕ → Bool
by_name values name = unwrap_or (lookup (bytes_eq name) values) false

-- VALVE and HORN after a scan, by what they were before and by LOWP, STOP and ACK.
abbrev pub stepped : (valve horn lowp stop ack : Bool) → List Bool
stepped valve horn lowp stop ack =
    matrix_step worked (by_name ((codes "VALVE", valve) ∷ (codes "HORN", horn) ∷ []))
    (by_name ((codes "LOWP", lowp) ∷ (codes "STOP", stop) ∷ (codes "ACK", ack) ∷ []))

-- The program of the worked matrix, and its effects in four scans in a row.
pub record WorkedMatrix : Type 0 where
  pub program : program_of worked
      ≡ codes "PROGRAM MATRIX\nVAR_EXTERNAL\n"
      ++ (codes "LOWP : BOOL;\nSTOP : BOOL;\nVALVE : BOOL;\nHORN : BOOL;\nACK : BOOL;\n"
      ++ (codes "END_VAR\n"
      ++ (codes "VALVE := FALSE OR NOT LOWP OR STOP OR VALVE AND NOT ACK;\n"
      ++ (codes "HORN := FALSE OR NOT LOWP;\n"
      ++ codes "END_PROGRAM\n"))))
  -- LOWP, STOP and ACK are 1 0 0, 0 0 0, 1 0 0 and 1 0 1
  pub at_rest : stepped false false true false false ≡ false ∷ false ∷ []
  pub called : stepped false false false false false ≡ true ∷ true ∷ []
  pub latched : stepped true true true false false ≡ true ∷ false ∷ []
  pub reset : stepped true false true false true ≡ false ∷ false ∷ []
