-- The four functions that read, and what they see. Modbus application protocol, 'Public function code definition'.
use Rattle.std.specs.Prelude.{ℕ, ℤ, ◌==◌, Bool, true, false, List, [], map, filter, Option, Some, None, if◌then◌else◌}
use Rattle.std.specs.List.{zip}
use Rattle.tri_base.specs.declared.point.Point.{Point}
use Rattle.tri_base.specs.declared.point.PointKind.{PointKind}
use Rattle.tri_base.specs.declared.point.PointKind.TheVariants.{Di, Ai, Do, Ao}
use Rattle.chassis.specs.Points.{is_input_kind, inputs_of, outputs_of}
use Rattle.modbus_face.specs.Data.{bits_of, registers_of}

-- The kind of the points that a function code reads: 1 reads coils, 2 discrete inputs, 3 holding registers and 4 input
-- registers. All other functions read none: so every write does.
abbrev pub kind_read : ℕ → Option PointKind
kind_read function =
    if function == 1 then Some Do
    else if function == 2 then Some Di
    else if function == 3 then Some Ao
    else if function == 4 then Some Ai
    else None

-- Points of a kind are read as bits; all others as registers.
abbrev pub is_discrete : PointKind → Bool
is_discrete Di = true
is_discrete Do = true
is_discrete Ai = false
is_discrete Ao = false

-- How many points of a kind one request may read at most; where no kind is read, none.
abbrev pub limit_of : Option PointKind → ℕ
limit_of None = 0
limit_of (Some kind) = if is_discrete kind then 2000 else 125

-- Values of points of a kind as data: as bits or as registers.
abbrev pub data_of : Option PointKind → List ℤ → List ℕ
data_of None values = []
data_of (Some kind) values = if is_discrete kind then bits_of values else registers_of values

-- Two kinds are the same.
abbrev pub same_kind : PointKind → PointKind → Bool
same_kind Di Di = true
same_kind Ai Ai = true
same_kind Do Do = true
same_kind Ao Ao = true
same_kind Di Ai = false
same_kind Di Do = false
same_kind Di Ao = false
same_kind Ai Di = false
same_kind Ai Do = false
same_kind Ai Ao = false
same_kind Do Di = false
same_kind Do Ai = false
same_kind Do Ao = false
same_kind Ao Di = false
same_kind Ao Ai = false
same_kind Ao Do = false

-- Of points and their values the values at the points of a kind, in their order.
abbrev pub values_at : PointKind → List Point → List ℤ → List ℤ
values_at kind points values = map (λ at. at.1) (filter (λ at. same_kind kind at.0.kind) (zip points values))

-- What a request sees of the points of a kind, by address from 0: the values of the inputs, or of the outputs, that are
-- of the kind, in the order of the chassis; where no kind is read, none.
abbrev pub seen_of : Option PointKind → List Point → (inputs : List ℤ) → (outputs : List ℤ) → List ℤ
seen_of None points inputs outputs = []
seen_of (Some kind) points inputs outputs =
    if is_input_kind kind then values_at kind (inputs_of points) inputs else values_at kind (outputs_of points) outputs
