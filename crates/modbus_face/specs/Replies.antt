-- The replies. Modbus application protocol, 'MODBUS Transaction definition' and 'MODBUS Exception Responses'.
use Rattle.std.specs.Prelude.{◌≡◌, ℕ, ℤ, ◌+◌, ◌==◌, ◌||◌, not, is_none, nat_lt, Bool, true, false, List, [], ◌∷◌, ◌++◌, length, take, drop, Option, Some, None, if◌then◌else◌}
use Rattle.tri_base.specs.declared.point.Point.{Point}
use Rattle.tri_base.specs.declared.point.PointKind.{PointKind}
use Rattle.modbus_face.specs.Frames.{number_at, transaction_of, unit_of, function_of, parameters_of, is_framed, framed}
use Rattle.modbus_face.specs.Reads.{kind_read, limit_of, data_of, seen_of}

-- The exception code of a function code that isn't answered.
abbrev pub illegal_function : ℕ
illegal_function = 1

-- The exception code of an address behind the last point.
abbrev pub illegal_data_address : ℕ
illegal_data_address = 2

-- The exception code of a count that isn't allowed, and of a request of another form.
abbrev pub illegal_data_value : ℕ
illegal_data_value = 3

-- The starting address: the first two of the bytes after the function code.
abbrev pub address_of : List ℕ → ℕ
address_of parameters = number_at parameters 0

-- How many points are asked for: the next two bytes.
abbrev pub count_of : List ℕ → ℕ
count_of parameters = number_at parameters 2

-- What speaks against a request, each with its exception code, in order, where so many points are seen: the function
-- reads none; the bytes after the function code aren't four; the count is 0, or more than may be read; the points that
-- are asked for don't all exist.
abbrev pub objections : Option PointKind → (parameters : List ℕ) → (seen : ℕ) → List (Bool × ℕ)
objections kind parameters seen =
    (is_none kind, illegal_function)
    ∷ (not (length parameters == 4), illegal_data_value)
    ∷ (count_of parameters == 0 || nat_lt (limit_of kind) (count_of parameters), illegal_data_value)
    ∷ (nat_lt seen (address_of parameters + count_of parameters), illegal_data_address)
    ∷ []

-- The code of the first objection that holds.
abbrev pub first_that_holds : List (Bool × ℕ) → Option ℕ
first_that_holds [] = None
first_that_holds (objection ∷ more) = if objection.0 then Some objection.1 else first_that_holds more

-- A function code with its top bit set. One that has it set already keeps it.
abbrev pub with_top_bit : ℕ → ℕ
with_top_bit function = if nat_lt function 128 then function + 128 else function

-- The PDU of an exception response.
abbrev pub exception : (function : ℕ) → (code : ℕ) → List ℕ
exception function code = with_top_bit function ∷ code ∷ []

-- The PDU of a response with data.
abbrev pub response : (function : ℕ) → (bytes : List ℕ) → List ℕ
response function bytes = function ∷ length bytes ∷ bytes

-- The PDU that answers where this exception is found, or none: the exception response, or else the response with the
-- data of so many of the values that are seen as are asked for, from the address on.
abbrev pub pdu_unless : Option ℕ → (function : ℕ) → Option PointKind → (parameters : List ℕ) → (seen : List ℤ) → List ℕ
pdu_unless (Some code) function kind parameters seen = exception function code
pdu_unless None function kind parameters seen =
    response function (data_of kind (take (count_of parameters) (drop (address_of parameters) seen)))

-- The PDU that answers a function, which reads points of a kind or none, over some points and the values of their
-- inputs and outputs.
abbrev pub pdu_of : Option PointKind → (function : ℕ) → (parameters : List ℕ)
    → List Point → (inputs : List ℤ) → (outputs : List ℤ) → List ℕ
pdu_of kind function parameters points inputs outputs =
    let seen = seen_of kind points inputs outputs in
    pdu_unless (first_that_holds (objections kind parameters (length seen))) function kind parameters seen

-- The reply to a request over the points of a chassis, with the voted values of its inputs and the field outputs; None
-- where the request isn't framed.
abbrev pub reply_of : (request : List ℕ) → List Point → (inputs : List ℤ) → (outputs : List ℤ) → Option (List ℕ)
reply_of request points inputs outputs =
    if is_framed request then
    Some (framed (transaction_of request) (unit_of request)
    (pdu_of (kind_read (function_of request)) (function_of request) (parameters_of request) points inputs outputs))
    else None

-- What an answer, and the text before and behind it, are where this is the reply: with a reply TRUE, and the reply is
-- added; without one FALSE, and nothing is.
abbrev pub Answers : Option (List ℕ) → (answer : Bool) → (old : List ℕ) → (new : List ℕ) → Type 0
Answers None answer old new = (answer ≡ false) × (new ≡ old)
Answers (Some reply) answer old new = (answer ≡ true) × (new ≡ old ++ reply)
